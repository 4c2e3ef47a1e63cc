use Rattle.std.proofs.Common.{◌≡◌, false, drop}
use Rattle.std.specs.List.{flat_map}
use Rattle.line_io.proofs.WriteProgressLemmas.{SoFar}
use Rattle.look_engines.specs.Engines.Show.{lump_texts, show_text}
use Rattle.look_engines.proofs.engines.show.write_level.Given as goal

abbrev pub invariant-lumps : goal.invariant-lumps
invariant-lumps g l = record {
  sound : (g.W.Sink.state l.out).failed ≡ false;
  so_far : SoFar (show_text l.level) (g.W.Sink.state l.fn.out) (g.W.Sink.state l.out) (flat_map (λ text. text) (drop l.i (lump_texts l.level)));
}
