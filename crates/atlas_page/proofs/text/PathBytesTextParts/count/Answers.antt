use Rattle.std.proofs.Common.{length, sym}
use Rattle.std.proofs.lemmas.List.FromFn.{length-map-range_with_len}
use Rattle.atlas_page.specs.Text.{path_byte}
use Rattle.atlas_page.proofs.text.PathBytesTextParts.count.Goals as goal

pub returns : goal.returns
returns c =
    let path = c.args.self.now.path.now in
    sym (length-map-range_with_len (path_byte path) 0 (length path))
