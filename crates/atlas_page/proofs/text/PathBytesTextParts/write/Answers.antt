use Rattle.std.proofs.Common.{◌<◌, [], length, arith}
use Rattle.std.proofs.lemmas.List.FromFn.{get_or-map-range_with_len, length-map-range_with_len}
use Rattle.atlas_page.specs.Text.{path_byte}
use Rattle.atlas_page.proofs.text.PathBytesTextParts.write.Goals as goal

pub write_path_byte-requires-clause-there : goal.write_path_byte-requires-clause-there
write_path_byte-requires-clause-there g c =
    let path = c.args.self.now.path.now in
    rw (length-map-range_with_len (path_byte path) 0 (length path)) at c.requires.there

pub returns : goal.returns
returns g c =
    let path = c.args.self.now.path.now in
    let number = c.args.number in
    let within : number < length path = rw (length-map-range_with_len (path_byte path) 0 (length path)) at c.requires.there in
    rw (get_or-map-range_with_len (path_byte path) 0 (length path) number number [] within (omega arith)) c.write_path_byte.ensures
