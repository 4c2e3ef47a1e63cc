use Rattle.std.proofs.Common.{◌≡◌, ◌+◌, false, drop}
use Rattle.line_io.proofs.WriteProgressLemmas.{SoFar}
use Rattle.look_engines.specs.Engines.Lumps.{entries_text, file_text}
use Rattle.look_engines.proofs.engines.lumps.write_file.Given as goal

abbrev pub invariant-entries : goal.invariant-entries
invariant-entries g l = record {
  sound : (g.W.Sink.state l.out).failed ≡ false;
  so_far : SoFar (file_text l.n l.first l.wad) (g.W.Sink.state l.fn.out) (g.W.Sink.state l.out) (entries_text (l.first + l.i) (drop l.i l.wad.entries));
}
