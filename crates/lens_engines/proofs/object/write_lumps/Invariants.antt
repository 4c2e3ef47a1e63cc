use Rattle.std.proofs.Common.{◌≡◌, false, drop}
use Rattle.std.specs.List.{flat_map}
use Rattle.line_io.proofs.WriteProgressLemmas.{SoFar}
use Rattle.lens_engines.specs.Objects.{lump_members}
use Rattle.lens_engines.proofs.object.write_lumps.Given as goal

abbrev pub invariant-lumps : goal.invariant-lumps
invariant-lumps g l = record {
  sound : (g.W.Sink.state l.out).failed ≡ false;
  so_far : SoFar (flat_map (λ text. text) (lump_members l.tables)) (g.W.Sink.state l.fn.out) (g.W.Sink.state l.out) (flat_map (λ text. text) (drop l.i (lump_members l.tables)));
}
