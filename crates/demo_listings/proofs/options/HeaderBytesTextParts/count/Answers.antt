use Rattle.std.proofs.Common.{sym, ap, ◌∙◌, length}
use Rattle.std.proofs.lemmas.List.{length-map}
use Rattle.std.proofs.lemmas.List.FromFn.{length-range_with_len}
use Rattle.std.specs.List.{range_with_len}
use Rattle.demo_listings.specs.Listing.{byte_text}
use Rattle.demo_listings.proofs.options.HeaderBytesTextParts.count.Goals as goal

pub returns : goal.returns
returns c =
    let header = c.args.self.now.demo.now.header in
    ap length c.header.ensures
    ∙ sym (length-map (range_with_len 0 (length header)) (byte_text c.args.self.now.demo.now.layout header) ∙ length-range_with_len 0 (length header))
