use Rattle.std.proofs.Common.{map, string_bytes}
use Rattle.wadlook.proofs.FileLemmas.{paths_refused}
use Rattle.wadlook.proofs.files.read_paths.Goals as goal

pub returns-in-Err-clause-refused : goal.returns-in-Err-clause-refused
returns-in-Err-clause-refused g c =
    rw c.refusal_of.ensures (paths_refused (g.S.Storage.held c.args.storage.now) (map string_bytes c.args.paths.now) c.in-Err.first c.in-Err.ensures.refused)
