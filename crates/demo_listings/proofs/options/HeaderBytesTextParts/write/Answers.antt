use Rattle.std.proofs.Common.{◌<◌, [], length, arith, zero-add}
use Rattle.std.proofs.lemmas.List.FromFn.{get_or-map-range_with_len, length-map-range_with_len}
use Rattle.demo_listings.specs.Listing.{byte_text}
use Rattle.demo_listings.proofs.options.HeaderBytesTextParts.write.Goals as goal

pub returns : goal.returns
returns g c =
    let demo = c.args.self.now.demo.now in
    let text = byte_text demo.layout demo.header in
    let below : c.args.number < length demo.header = omega (arith, length-map-range_with_len text 0 (length demo.header), c.requires.there) in
    rw (get_or-map-range_with_len text 0 (length demo.header) c.args.number c.args.number [] below (zero-add c.args.number)) c.write_byte.ensures
