use Rattle.std.proofs.Common.{◌≡◌, false, drop}
use Rattle.std.specs.List.{flat_map}
use Rattle.line_io.proofs.WriteProgressLemmas.{SoFar}
use Rattle.lens_engines.specs.WarnedText.{warned_part}
use Rattle.lens_engines.proofs.warned.write_warned.Given as goal

abbrev pub invariant-codes : goal.invariant-codes
invariant-codes g l = record {
  sound : (g.W.Sink.state l.out).failed ≡ false;
  so_far : SoFar (flat_map (warned_part (g.F.WriteRemarks.text l.form l.level) (g.F.WriteRemarks.left l.form)) l.all) (g.W.Sink.state l.fn.out) (g.W.Sink.state l.out)
      (flat_map (warned_part (g.F.WriteRemarks.text l.form l.level) (g.F.WriteRemarks.left l.form)) (drop l.i l.all));
}
