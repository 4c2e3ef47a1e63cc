-- How the counts of sectors that answer a tag come to be.
use Rattle.std.proofs.Common.{◌≡◌, ℕ, ◌+◌, ◌<◌, ◌≤◌, ℤ, Bool, true, false, inl, inr, List, length, get_or, set, take, Some, refl, sym, ap, ◌∙◌, arith}
use Rattle.std.specs.Prelude.{◌&&◌, count_by, FitsSigned}
use Rattle.std.specs.Int.{cast_unsigned, w16}
use Rattle.std.specs.Ordering.{int_eq}
use Rattle.std.specs.List.{slice_get}
use Rattle.std.proofs.lemmas.Bool.{cases_eq}
use Rattle.std.proofs.lemmas.Bool.Decides.{Decides-int_eq}
use Rattle.std.proofs.lemmas.List.{get_or-set_other, get_or-set_same}
use Rattle.le_rec.specs.declared.records.Sector.{Sector}
use Rattle.map_level.specs.Level.{Level}
use Rattle.map_level.specs.Links.{sectors_of}
use Rattle.game_numbers.specs.Number.{is_one_of}
use Rattle.game_numbers.specs.SectorSpecials.{timed_door}
use Rattle.game_warnings.specs.Effect.{answers, AddsAnswer, AreAnswers}
use Rattle.game_warnings.proofs.CountLemmas.{count_all, count_more}
use Rattle.game_warnings.proofs.TagLemmas.{same_word, word-below}

-- how many of the first so many sectors answer each tag
pub record AreAnswersBelow (level : Level) (n : ℕ) (counts : List ℕ) : Type 0 where
  pub long : length counts ≡ 65536
  pub told : (tag : ℤ) → FitsSigned w16 tag → get_or counts (cast_unsigned w16 tag) 0 ≡ count_by (answers tag) (take n (sectors_of level))

pub no_answers : (level : Level) (counts : List ℕ) → length counts ≡ 65536 → ((n : ℕ) → get_or counts n 0 ≡ 0) → AreAnswersBelow level 0 counts
no_answers level counts long none = record {
  long = long;
  told = λ tag f. none (cast_unsigned w16 tag) ∙ grind arith;
}

pub answers_more : (level : Level) (n : ℕ) (sector : Sector) (before after : List ℕ) → slice_get (sectors_of level) n ≡ Some sector
    → length after ≡ length before → AddsAnswer sector before after → AreAnswersBelow level n before → AreAnswersBelow level (n + 1) after
answers_more level n sector before after at same adds are = record {
  long = same ∙ are.long;
  told = λ tag f.
      count_more (answers tag) (sectors_of level) n sector (answers tag sector) (get_or before (cast_unsigned w16 tag) 0)
      (get_or after (cast_unsigned w16 tag) 0) at refl (are.told tag f) (adds.told tag f);
}

pub answers_all : (level : Level) (n : ℕ) (counts : List ℕ) → length (sectors_of level) ≤ n → AreAnswersBelow level n counts → AreAnswers level counts
answers_all level n counts past are = record {
  long = are.long;
  told = λ tag f. count_all (answers tag) (sectors_of level) n (get_or counts (cast_unsigned w16 tag) 0) past (are.told tag f);
}

int_eq_other : (b : Bool) → (¬ (b ≡ true)) → b ≡ false
int_eq_other true other = absurd (other refl)
int_eq_other false other = refl

and_false : (b : Bool) → (b && false) ≡ false
and_false true = refl
and_false false = refl

-- a sector with a door from the start answers none
pub adds_door : (sector : Sector) (counts : List ℕ) → is_one_of timed_door sector.special ≡ true → AddsAnswer sector counts counts
adds_door sector counts is = record {
  told = λ tag f.
      let none : answers tag sector ≡ false = rw is (and_false (int_eq sector.tag tag)) in
      rw none (omega arith);
}

-- another one its tag
pub adds_answer : (sector : Sector) (counts : List ℕ) → length counts ≡ 65536 → FitsSigned w16 sector.tag → is_one_of timed_door sector.special ≡ false
    → AddsAnswer sector counts (set counts (cast_unsigned w16 sector.tag) (get_or counts (cast_unsigned w16 sector.tag) 0 + 1))
adds_answer sector counts long fits other =
    let key = cast_unsigned w16 sector.tag in
    let value = get_or counts key 0 + 1 in
    let inside : key < length counts = omega (arith, long, word-below sector.tag fits) in
    record {
      told = λ tag f. elim (cases_eq (cast_unsigned w16 tag) key) [
        | inl same ↦
            let is : tag ≡ sector.tag = same_word tag sector.tag f fits same in
            let equal : int_eq sector.tag tag ≡ true = (Decides-int_eq sector.tag tag).1 (sym is) in
            let yes_it : answers tag sector ≡ true = rw (other, equal) refl in
            rw (yes_it, same, get_or-set_same counts key value 0 inside) refl
        | inr differs ↦
            let unequal : int_eq sector.tag tag ≡ false =
            int_eq_other (int_eq sector.tag tag) (λ e. differs (ap (cast_unsigned w16) (sym ((Decides-int_eq sector.tag tag).0 e)))) in
            let no_it : answers tag sector ≡ false = rw unequal refl in
            rw (no_it, get_or-set_other) (omega arith)
      ];
    }

-- and no count grows by more than one
pub few_more : (counts : List ℕ) (key s : ℕ) → key < length counts → ((n : ℕ) → get_or counts n 0 ≤ s)
    → (n : ℕ) → get_or (set counts key (get_or counts key 0 + 1)) n 0 ≤ s + 1
few_more counts key s inside few n = elim (cases_eq n key) [
  | inl same ↦ let here = few key in rw (same, get_or-set_same counts key (get_or counts key 0 + 1) 0 inside) (omega (arith, here))
  | inr other ↦ let here = few n in rw get_or-set_other (omega (arith, here))
]
