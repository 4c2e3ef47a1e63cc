use Rattle.std.proofs.Common.{◌≡◌, ◌≤◌, false}
use Rattle.line_io.proofs.WriteProgressLemmas.{SoFar}
use Rattle.lens_texts.specs.ShownPath.{shown_path}
use Rattle.lens_texts.proofs.PathLemmas.{unwritten}
use Rattle.lens_texts.proofs.path.write_path.Given as goal

abbrev pub invariant-bytes : goal.invariant-bytes
invariant-bytes g l = record {
  sound : (g.W.Sink.state l.out).failed ≡ false;
  ordered : l.from ≤ l.at;
  so_far : SoFar (shown_path l.path) (g.W.Sink.state l.fn.out) (g.W.Sink.state l.out) (unwritten l.path l.from l.at);
}
