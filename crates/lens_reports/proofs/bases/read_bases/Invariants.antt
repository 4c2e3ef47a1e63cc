use Rattle.std.proofs.Common.{map}
use Rattle.lens_reports.specs.Files.{bytes_in}
use Rattle.lens_reports.proofs.BaseLemmas.{AreHeldTo}
use Rattle.lens_reports.proofs.bases.read_bases.Given as goal

abbrev pub invariant-loop-place : goal.invariant-loop-place
invariant-loop-place g l = AreHeldTo (g.S.RunFiles.known l.files) (map (λ path. path.now) l.paths) l.place (map bytes_in l.all.items)
