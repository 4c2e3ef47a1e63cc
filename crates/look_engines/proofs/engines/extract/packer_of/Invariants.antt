use Rattle.std.proofs.Common.{◌≡◌, ℕ, ◌≤◌, List, take}
use Rattle.map_level.specs.Opening.{AreLumps}
use Rattle.look_engines.specs.Engines.Extract.{extracted}
use Rattle.look_engines.proofs.engines.extract.packer_of.Given as goal

abbrev pub invariant-lumps : goal.invariant-lumps
invariant-lumps g l = record {
  from : 1 ≤ l.k;
  to : l.k ≤ 11;
  packed : (lumps : List (List ℕ)) → AreLumps l.set l.level.label lumps → l.packer ≡ take l.k (extracted l.level.names lumps);
}
