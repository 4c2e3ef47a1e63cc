use Rattle.std.proofs.Common.{◌≡◌, ℕ, length, None}
use Rattle.std.specs.Prelude.{slice_index_or}
use Rattle.lens_texts.specs.Place.{owner_from}
use Rattle.lens_texts.proofs.owners.put_owners.Given as goal

abbrev pub invariant-linedefs : goal.invariant-linedefs
invariant-linedefs l = record {
  told : (i : ℕ) → slice_index_or l.owners i None ≡ owner_from l.level i l.l;
  long : length l.owners ≡ length l.level.sidedefs.records;
}
