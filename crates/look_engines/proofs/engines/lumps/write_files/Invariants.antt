use Rattle.std.proofs.Common.{◌≡◌, ◌+◌, ◌*◌, ◌≤◌, false, drop}
use Rattle.line_io.proofs.WriteProgressLemmas.{SoFar}
use Rattle.look_engines.specs.Engines.Lumps.{files_text, lumps_text}
use Rattle.look_engines.proofs.engines.lumps.write_files.Given as goal

abbrev pub invariant-files : goal.invariant-files
invariant-files g l = record {
  sound : (g.W.Sink.state l.out).failed ≡ false;
  few : l.first ≤ l.i * 2147483647;
  so_far : SoFar (lumps_text l.set) (g.W.Sink.state l.fn.out) (g.W.Sink.state l.out) (files_text (l.i + 1) l.first (drop l.i l.set));
}
