use Rattle.std.proofs.Common.{◌≡◌, false, drop}
use Rattle.std.specs.List.{flat_map}
use Rattle.line_io.proofs.WriteProgressLemmas.{SoFar}
use Rattle.lens_texts.specs.declared.remark.Remark.TheVariants as remark
use Rattle.lens_engines.proofs.warned.write_first.Given as goal

abbrev pub invariant-first : goal.invariant-first
invariant-first g l = record {
  sound : (g.W.Sink.state l.out).failed ≡ false;
  so_far : SoFar (flat_map (λ w. g.F.WriteRemarks.text l.form l.level (remark.Warning w)) l.first) (g.W.Sink.state l.fn.out) (g.W.Sink.state l.out)
      (flat_map (λ w. g.F.WriteRemarks.text l.form l.level (remark.Warning w)) (drop l.i l.first));
}
