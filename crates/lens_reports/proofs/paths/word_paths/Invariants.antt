use Rattle.std.proofs.Common.{◌≡◌, map, take}
use Rattle.lens_reports.proofs.paths.word_paths.Given as goal

abbrev pub invariant-loop-file : goal.invariant-loop-file
invariant-loop-file l = map (λ path. path.now) l.paths.items ≡ map (λ file. file.now) (take l.file-index l.files)
