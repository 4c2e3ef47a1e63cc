use Rattle.std.proofs.Common.{◌≤◌}
use Rattle.lens_engines.proofs.CutLemmas.{Gathered}
use Rattle.lens_engines.proofs.cut.gather.Given as goal

abbrev pub invariant-lumps : goal.invariant-lumps
invariant-lumps g l = record {
  upto : l.m ≤ l.many;
  gathered : Gathered l.set l.g l.label.name l.m l.packer;
}
