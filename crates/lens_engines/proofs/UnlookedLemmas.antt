-- Which warnings weren't looked for, and how their names are written.
use Rattle.std.proofs.Common.{◌≡◌, ◌↔◌, ℕ, zero, suc, ◌+◌, ◌<◌, ◌≤◌, Bool, true, false, List, [], ◌∷◌, Option, Some, length, drop, get_or, refl, sym, ap, ◌∙◌, arith}
use Rattle.std.specs.Prelude.{IsSomeAnd, IsTrue, ◌&&◌, filter, nat_eq, not, if◌then◌else◌}
use Rattle.std.specs.List.{slice_get}
use Rattle.std.proofs.lemmas.Bool.{and_from, and_parts, eqb-true, true≢false}
use Rattle.std.proofs.lemmas.List.{drop_all}
use Rattle.std.proofs.lemmas.Option.{same_Some, slice_get-get_or}
use Rattle.game_warnings.specs.Misplaced.{HasFlatEnds}
use Rattle.level_codes.proofs.CodeLemmas.{code_at-rank, code_rank-below}
use Rattle.level_codes.proofs.SetLemmas.{has-set_of}
use Rattle.level_codes.specs.Codes.{code_at, code_rank, code_table, no_row, report_order, wants_of}
use Rattle.level_codes.specs.Kind.{are_met}
use Rattle.level_codes.specs.Sets.{has, in_first_alone, is_unmet, unmet_codes, without_codes}
use Rattle.level_codes.specs.declared.code.ReportCode.{ReportCode}
use Rattle.level_codes.specs.declared.code.ReportCode.TheVariants as report
use Rattle.level_codes.specs.declared.kind.Offer.{Offer}
use Rattle.level_codes.specs.declared.kind.Wants.{Wants}
use Rattle.level_codes.specs.declared.kind.Wants.TheVariants.{Lumps, References, Soundness, Textures, Flats, FlatEnds}
use Rattle.level_codes.specs.declared.set.CodeSet.{CodeSet}
use Rattle.map_level.specs.Level.{Level}
use Rattle.map_level.specs.declared.finding.Code.{Code}
use Rattle.map_level.specs.declared.finding.Code.TheVariants.{F1}
use Rattle.map_tree.specs.Sound.{IsSound}
use Rattle.map_warnings.specs.Holds.{Has}
use Rattle.map_warnings.specs.Listed.{HasFlats, HasTextures}
use Rattle.map_warnings.specs.References.{HasReferences}
use Rattle.wad_dir.specs.Wad.{Wad}
use Rattle.lens_engines.specs.Unlooked.{AreUnlooked, codes_in, has_any, name_texts}
use Rattle.lens_engines.proofs.OrderLemmas.{code-order, order-whole}

-- what a level has, as it is told
pub record IsOffer (files : Option (List Wad)) (level : Level) (offer : Offer) : Type 0 where
  pub references : IsTrue offer.references ↔ HasReferences level
  pub soundness : IsTrue offer.soundness ↔ IsSound level
  pub textures : IsTrue offer.textures ↔ IsSomeAnd files HasTextures
  pub flats : IsTrue offer.flats ↔ IsSomeAnd files HasFlats
  pub flat_ends : IsTrue offer.flat_ends ↔ IsSomeAnd files HasFlatEnds

met_is_had : (files : Option (List Wad)) (level : Level) (offer : Offer) (wants : Wants) → IsOffer files level offer
    → (are_met offer wants ≡ true) ↔ Has files level wants
met_is_had files level offer Lumps is = (λ met. tt, λ had. refl)
met_is_had files level offer References is = is.references
met_is_had files level offer Soundness is = is.soundness
met_is_had files level offer Textures is = (
  (λ met. let both = and_parts offer.references offer.textures met in (is.references.0 both.0, is.textures.0 both.1)),
  (λ had. and_from offer.references offer.textures (is.references.1 had.0) (is.textures.1 had.1)),
)
met_is_had files level offer Flats is = (
  (λ met. let both = and_parts offer.references offer.flats met in (is.references.0 both.0, is.flats.0 both.1)),
  (λ had. and_from offer.references offer.flats (is.references.1 had.0) (is.flats.1 had.1)),
)
met_is_had files level offer FlatEnds is = (
  (λ met. let both = and_parts offer.references offer.flat_ends met in (is.references.0 both.0, is.flat_ends.0 both.1)),
  (λ had. and_from offer.references offer.flat_ends (is.references.1 had.0) (is.flat_ends.1 had.1)),
)

-- a finding wants no more than the ten lumps
finding_wants : (code : Code) → wants_of (report.Finding code) ≡ Lumps
unfolding code_table
finding_wants F1 = refl
finding_wants _ = refl

not_true : (b : Bool) → not b ≡ true → b ≡ true → ⊥
not_true b fails holds = true≢false (sym fails ∙ ap not holds)

from_not : (b : Bool) → (b ≡ true → ⊥) → not b ≡ true
from_not true never = absurd (never refl)
from_not false never = refl

not_from_false : (b : Bool) → b ≡ false → not b ≡ true
not_from_false b is = ap not is

false_from_not : (b : Bool) → not b ≡ true → b ≡ false
false_from_not true fails = absurd (cc)
false_from_not false fails = refl

-- the codes whose wants aren't met, without the ignored ones, weren't looked for
pub unmet_unlooked : (ignored : CodeSet) (files : Option (List Wad)) (level : Level) (offer : Offer) → IsOffer files level offer
    → AreUnlooked ignored files level (without_codes (unmet_codes offer) ignored)
unmet_unlooked ignored files level offer is = record {
  findings = λ code.
      let code' = report.Finding code in
      has-set_of (in_first_alone (unmet_codes offer) ignored) code'
      ∙ ap (λ b. b && not (has ignored code')) (has-set_of (is_unmet offer) code' ∙ ap (λ w. not (are_met offer w)) (finding_wants code));
  warnings = λ code.
      let code' = report.Warning code in
      let at = has-set_of (in_first_alone (unmet_codes offer) ignored) code' in
      let unmet = has-set_of (is_unmet offer) code' in
      let had = met_is_had files level offer (wants_of code') is in (
        (λ there.
            let both = and_parts (has (unmet_codes offer) code') (not (has ignored code')) (sym at ∙ there) in
            record {
              kept = false_from_not (has ignored code') both.1;
              lacks = λ looked. not_true (are_met offer (wants_of code')) (sym unmet ∙ both.0) (had.1 looked);
            }),
        (λ unlooked. at ∙ and_from (has (unmet_codes offer) code') (not (has ignored code'))
            (unmet ∙ from_not (are_met offer (wants_of code')) (λ met. unlooked.lacks (had.0 met)))
            (not_from_false (has ignored code') unlooked.kept)),
      );
}

-- ---- the codes of a set

none_filtered : (set : CodeSet) (codes : List ReportCode) → ((code : ReportCode) → has set code ≡ false) → filter (has set) codes ≡ []
none_filtered set [] none = refl
none_filtered set (code ∷ codes) none = let out : has set code ≡ false = none code in rw out (none_filtered set codes none)

more_filtered : (set : CodeSet) (code : ReportCode) (codes : List ReportCode) (b : Bool) → has set code ≡ b → 0 < length (filter (has set) codes)
    → 0 < length (filter (has set) (code ∷ codes))
more_filtered set code codes true is some = rw is (omega arith)
more_filtered set code codes false is some = rw is some

some_filtered : (set : CodeSet) (codes : List ReportCode) (k : ℕ) (d : ReportCode) → k < length codes → has set (get_or codes k d) ≡ true → 0 < length (filter (has set) codes)
some_filtered set [] k d within there = absurd (omega (arith, within))
some_filtered set (code ∷ codes) zero d within there = let is : has set code ≡ true = there in rw is (omega arith)
some_filtered set (code ∷ codes) (suc k) d within there =
    more_filtered set code codes (has set code) refl (some_filtered set codes k d (omega (arith, within)) there)

-- where none is told, each code isn't in the set
none_there : (set : CodeSet) (code : ReportCode) (b : Bool) → has set code ≡ b → nat_eq (length (codes_in set)) 0 ≡ true → has set code ≡ false
none_there set code false at none = at
none_there set code true at none =
    let there : get_or report_order (code_rank code) no_row.code ≡ code = code-order (code_rank code) (code_rank-below code) ∙ code_at-rank code in
    let some = some_filtered set report_order (code_rank code) no_row.code (rw order-whole (code_rank-below code)) (ap (has set) there ∙ at) in
    absurd (omega (arith, some, eqb-true (length (codes_in set)) 0 none))

any_by : (set : CodeSet) (b : Bool) → nat_eq (length (codes_in set)) 0 ≡ b → (((code : ReportCode) → has set code ≡ false) → false ≡ true) → true ≡ not b
any_by set true none never = absurd (true≢false (sym (never (λ code. none_there set code (has set code) refl none))))
any_by set false some never = refl

-- a set has a code exactly where it isn't empty
pub any_of_empty : (set : CodeSet) (empty : Bool) → (IsTrue empty ↔ ((code : ReportCode) → has set code ≡ false)) → not empty ≡ has_any set
any_of_empty set true is = sym (ap (λ (codes : List ReportCode). not (nat_eq (length codes) 0)) (none_filtered set report_order (is.0 refl)))
any_of_empty set false is = any_by set (nat_eq (length (codes_in set)) 0) refl is.1

-- ---- the names of its codes

-- the names of the codes from a place on, where the first of them is in the set
pub names-some : (front back : List ℕ) (set : CodeSet) (codes : List ReportCode) (i : ℕ) (code : ReportCode) → slice_get codes i ≡ Some code → has set code ≡ true
    → name_texts front back (filter (has set) (drop i codes)) ≡ name_texts front back (code ∷ filter (has set) (drop (i + 1) codes))
names-some front back set [] i code at there = absurd (let f : ⊥ = cc in f)
names-some front back set (x ∷ codes) zero code at there =
    let same : x ≡ code = same_Some x code at in
    rw (same, there) refl
names-some front back set (x ∷ codes) (suc i) code at there = let next : suc i + 1 ≡ suc (i + 1) = omega arith in rw next (names-some front back set codes i code at there)

-- and where it isn't
pub names-none : (front back : List ℕ) (set : CodeSet) (codes : List ReportCode) (i : ℕ) (code : ReportCode) → slice_get codes i ≡ Some code → has set code ≡ false
    → name_texts front back (filter (has set) (drop i codes)) ≡ name_texts front back (filter (has set) (drop (i + 1) codes))
names-none front back set [] i code at lacks = absurd (let f : ⊥ = cc in f)
names-none front back set (x ∷ codes) zero code at lacks =
    let same : x ≡ code = same_Some x code at in
    rw (same, lacks) refl
names-none front back set (x ∷ codes) (suc i) code at lacks = let next : suc i + 1 ≡ suc (i + 1) = omega arith in rw next (names-none front back set codes i code at lacks)

-- there are none past the last
pub names-past : (front back : List ℕ) (set : CodeSet) (i : ℕ) → length report_order ≤ i → name_texts front back (filter (has set) (drop i report_order)) ≡ []
names-past front back set i past = ap (λ codes. name_texts front back (filter (has set) codes)) (drop_all i report_order past)

-- the code at a place
pub order-here : (i : ℕ) (code : ReportCode) → i < length report_order → code ≡ code_at i → slice_get report_order i ≡ Some code
order-here i code below is =
    slice_get-get_or report_order i no_row.code below ∙ ap (λ c. Some c) (code-order i (rw (← order-whole) below) ∙ sym is)

-- ---- what is told of them

-- the first of two texts where both of its tests are true, and the second where the first test fails and its own is true
pub first_told : (a b c : Bool) (x y : List ℕ) → a ≡ true → b ≡ true → (if a then (if b then x else []) else (if c then y else [])) ≡ x
first_told true true c x y first both = refl
first_told true false c x y first both = absurd (cc)
first_told false b c x y first both = absurd (cc)

pub second_told : (a b c : Bool) (x y : List ℕ) → a ≡ false → c ≡ true → (if a then (if b then x else []) else (if c then y else [])) ≡ y
second_told true b c x y first own = absurd (cc)
second_told false b true x y first own = refl
second_told false b false x y first own = absurd (cc)
