-- How the list of the sidedefs' linedefs comes to be, from the last linedef to the first.
use Rattle.std.proofs.Common.{◌≡◌, ◌≢◌, ℕ, ◌+◌, ◌<◌, ℤ, pos, Bool, true, false, not, ◌&&◌, ◌||◌, cond, inl, inr, List, drop, length, get_or, set, Option, Some, None, refl, sym, ap, ◌∙◌, arith}
use Rattle.std.proofs.Math.Bool.{and-false}
use Rattle.std.proofs.lemmas.Bool.{cases_eq, lt-ltb, false_from_ne_true}
use Rattle.std.proofs.lemmas.Bool.Decides.{Decides-int_eq}
use Rattle.std.proofs.lemmas.Grind.{get_or-set_at}
use Rattle.std.proofs.lemmas.List.{get_or-set_other}
use Rattle.std.specs.Bool.{Decides}
use Rattle.std.specs.List.{slice_get}
use Rattle.std.specs.Ordering.{int_eq}
use Rattle.std.specs.Prelude.{nat_lt}
use Rattle.le_rec.specs.declared.records.LineDef.{LineDef}
use Rattle.map_level.specs.Level.{Level}
use Rattle.lens_texts.specs.Owners.{PutsOwner}
use Rattle.lens_texts.specs.Place.{names_sidedef, first_naming, owner_from}
use Rattle.line_io.proofs.RestLemmas.{drop-at}

-- a number put at the sidedef that an index names
pub put_at : (count n i linedef : ℕ) (owners : List (Option ℕ)) (index none : ℤ) → length owners ≡ count → index ≡ pos n → index ≢ none → n < count
    → get_or (set owners n (Some linedef)) i None ≡ cond (nat_lt i count && (not (int_eq index none) && int_eq index (pos i))) (Some linedef) (get_or owners i None)
put_at count n i linedef owners index none long is other below =
    let d : Decides (int_eq index none) (index ≡ none) = Decides-int_eq index none in
    let apart : int_eq index none ≡ false = false_from_ne_true (int_eq index none) (λ t. other (d.0 t)) in
    let e : Decides (int_eq index (pos i)) (index ≡ pos i) = Decides-int_eq index (pos i) in
    elim (cases_eq i n) [
      | inl same ↦
          let equal : int_eq index (pos i) ≡ true = e.1 (is ∙ ap pos (sym same)) in
          let inside : nat_lt i count ≡ true = lt-ltb i count (omega arith) in
          rw (inside, apart, equal) (get_or-set_at owners n i (Some linedef) None same (omega arith))
      | inr different ↦
          let unequal : int_eq index (pos i) ≡ false = false_from_ne_true (int_eq index (pos i)) (λ t. let q : pos n ≡ pos i = sym is ∙ e.0 t in different (cc)) in
          rw (unequal, apart, and-false) (get_or-set_other owners n i (Some linedef) None different)
    ]

-- both sides of a linedef, and those behind it
both : (within first second : Bool) {X : Type 0} (here later none : X)
    → cond (within && second) here (cond (within && first) here (cond within later none)) ≡ cond within (cond (first || second) here later) none
both false first second here later none = refl
both true false false here later none = refl
both true false true here later none = refl
both true true false here later none = refl
both true true true here later none = refl

pub owner-more : (level : Level) (i n : ℕ) (linedef : LineDef) (before between after : List (Option ℕ)) → slice_get level.linedefs.records n ≡ Some linedef
    → get_or before i None ≡ owner_from level i (n + 1) → PutsOwner level linedef.side0 n before between → PutsOwner level linedef.side1 n between after
    → get_or after i None ≡ owner_from level i n
owner-more level i n linedef before between after at told first second =
    let rest = drop-at level.linedefs.records n linedef at in
    rw (second i, first i, told, rest)
    (both (nat_lt i (length level.sidedefs.records)) (names_sidedef level i linedef.side0) (names_sidedef level i linedef.side1) (Some n) (first_naming level i (n + 1) (drop (n + 1) level.linedefs.records)) None)
