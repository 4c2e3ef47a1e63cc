-- Above which numbers no record of a table is found.
use Rattle.std.proofs.Common.{ℕ, ◌<◌, ◌⊎◌, inl, inr, List, length}
use Rattle.std.specs.Prelude.{IsSomeAnd}
use Rattle.std.specs.List.{slice_get}
use Rattle.std.proofs.lemmas.Bool.{cases_lt}
use Rattle.std.proofs.lemmas.List.{length-map}
use Rattle.std.proofs.lemmas.Option.{slice_get_past}
use Rattle.map_level.specs.Level.{Level}
use Rattle.map_level.specs.Links.{linedefs_of, segs_of, ssectors_of}
use Rattle.map_level.specs.Reading.{linedef_under, seg_under, ssector_under}
use Rattle.map_level.specs.LinkBounds.{LinedefFound, SegFound, SsectorFound}

pub some_within : {X : Type 0} (xs : List X) (i : ℕ) (P : X → Type 0) → IsSomeAnd (slice_get xs i) P → i < length xs
some_within xs i P h = elim (cases_lt i (length xs)) [
  | inl within ↦ within
  | inr past ↦ absurd (rw (slice_get_past xs i past) at h)
]

-- a number is above all that are found, where what is below a count and not below the number isn't
pub bounded : {P Q : ℕ → Type 0} {count bound : ℕ} → ((i : ℕ) → P i → i < count)
    → ((i : ℕ) → i < count → (i < bound) ⊎ Q i) → ((i : ℕ) → Q i → ¬ P i) → (i : ℕ) → P i → i < bound
bounded within told none i found = elim (told i (within i found)) [
  | inl below ↦ below
  | inr other ↦ absurd (none i other found)
]

module _ (level : Level) (i : ℕ) where
  linedef_in : (P : _ → Type 0) → IsSomeAnd (slice_get (linedefs_of level) i) P → i < length level.linedefs.records
  linedef_in P h = rw (length-map level.linedefs.records (linedef_under level.reading)) at (some_within (linedefs_of level) i P h)

  seg_in : (P : _ → Type 0) → IsSomeAnd (slice_get (segs_of level) i) P → i < length level.segs.records
  seg_in P h = rw (length-map level.segs.records (seg_under level.reading)) at (some_within (segs_of level) i P h)

  ssector_in : (P : _ → Type 0) → IsSomeAnd (slice_get (ssectors_of level) i) P → i < length level.ssectors.records
  ssector_in P h = rw (length-map level.ssectors.records (ssector_under level.reading)) at (some_within (ssectors_of level) i P h)

  pub linedef_there : LinedefFound level i → i < length level.linedefs.records
  linedef_there (inl h) = linedef_in _ h
  linedef_there (inr (inl h)) = linedef_in _ h
  linedef_there (inr (inr (inl h))) = linedef_in _ h
  linedef_there (inr (inr (inr (inl h)))) = linedef_in _ h
  linedef_there (inr (inr (inr (inr h)))) = linedef_in _ h

  pub seg_there : SegFound level i → i < length level.segs.records
  seg_there (inl h) = seg_in _ h
  seg_there (inr (inl h)) = seg_in _ h
  seg_there (inr (inr (inl h))) = seg_in _ h
  seg_there (inr (inr (inr h))) = seg_in _ h

  pub ssector_there : SsectorFound level i → i < length level.ssectors.records
  ssector_there (inl h) = ssector_in _ h
  ssector_there (inr h) = ssector_in _ h
