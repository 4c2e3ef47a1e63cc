use Rattle.std.proofs.Common.{◌+◌, ◌≤◌, length}
use Rattle.map_warnings.specs.Listed.{IsNameAt}
use Rattle.map_warnings.specs.NameNumber.{AddsNames}
use Rattle.map_warnings.proofs.NumberLemmas.{Below}
use Rattle.map_warnings.proofs.listed.push_textures.Given as goal

abbrev pub invariant-loop-k : goal.invariant-loop-k
invariant-loop-k g l = record {
  adds : AddsNames (Below (IsNameAt l.lump) l.k) l.initial.numbers.items l.numbers.items;
  few : length l.numbers.items ≤ length l.initial.numbers.items + l.k;
}
