-- How the tags of platforms that go up and down for ever come to be marked.
use Rattle.std.proofs.Common.{◌≡◌, ℕ, ◌≤◌, ℤ, Bool, true, false, List, length, Some, None, refl, sym, ap, ◌∙◌, arith}
use Rattle.std.specs.Prelude.{IsSomeAnd, Option}
use Rattle.std.specs.Ordering.{int_eq}
use Rattle.std.specs.List.{list_any, slice_get}
use Rattle.std.proofs.lemmas.Bool.{and_parts}
use Rattle.std.proofs.lemmas.Bool.Decides.{Decides-int_eq}
use Rattle.std.proofs.lemmas.List.Folds.{Any-from_list_any}
use Rattle.std.proofs.lemmas.Option.{slice_get-get_or}
use Rattle.le_rec.specs.declared.records.LineDef.{LineDef}
use Rattle.map_level.specs.Level.{Level}
use Rattle.map_level.specs.Links.{linedefs_of}
use Rattle.map_level.proofs.BoundLemmas.{some_within}
use Rattle.game_numbers.specs.Number.{is_one_of}
use Rattle.game_numbers.specs.Specials.{perpetual}
use Rattle.game_warnings.specs.Limit.{is_perpetual_at, IsPerpetual}
use Rattle.game_warnings.specs.Tags.{AddsTags, AreTags}
use Rattle.game_warnings.proofs.CountLemmas.{any_here}
use Rattle.game_warnings.proofs.TagLemmas.{adds_as, adds_none, all_marked, Below}

-- linedef i has such platforms and a tag
abbrev pub PerpetualAt : Level → ℕ → ℤ → Type 0
PerpetualAt level i tag = IsSomeAnd (slice_get (linedefs_of level) i) (λ linedef. is_perpetual_at linedef tag ≡ true)

-- a linedef that has such platforms adds its tag, and another none
pub adds_perpetual : (linedef : LineDef) (before after : List Bool) → is_one_of perpetual linedef.special ≡ true → AddsTags (λ other. other ≡ linedef.tag) before after
    → AddsTags (λ tag. is_perpetual_at linedef tag ≡ true) before after
adds_perpetual linedef before after is adds =
    adds_as (λ other. other ≡ linedef.tag) (λ tag. is_perpetual_at linedef tag ≡ true) before after adds (λ tag. (
      λ h. rw is ((Decides-int_eq linedef.tag tag).1 (sym h)),
      λ h. sym ((Decides-int_eq linedef.tag tag).0 (and_parts (is_one_of perpetual linedef.special) (int_eq linedef.tag tag) h).1),
    ))

pub adds_other : (linedef : LineDef) (marks : List Bool) → is_one_of perpetual linedef.special ≡ false → AddsTags (λ tag. is_perpetual_at linedef tag ≡ true) marks marks
adds_other linedef marks none =
    adds_none (λ tag. is_perpetual_at linedef tag ≡ true) marks (λ tag h.
    let other = (and_parts (is_one_of perpetual linedef.special) (int_eq linedef.tag tag) h).0 in
    cc)

-- an element of which a test holds
some_here : {X : Type 0} (p : X → Bool) (xs : List X) (i : ℕ) (found : Option X) → slice_get xs i ≡ found → IsSomeAnd found (λ x. p x ≡ true) → list_any p xs ≡ true
some_here p xs i (Some x) at is = any_here p xs i x at is
some_here p xs i None at is = absurd is

any_some : {X : Type 0} (p : X → Bool) (xs : List X) → list_any p xs ≡ true → (i : ℕ) × IsSomeAnd (slice_get xs i) (λ x. p x ≡ true)
any_some p xs any =
    let there = Any-from_list_any p xs any in
    let at : slice_get xs there.0 ≡ Some there.1 = slice_get-get_or xs there.0 there.1 there.2 ∙ ap Some there.3 in
    (there.0, rw at there.4)

pub all_perpetual : (level : Level) (n : ℕ) (marks : List Bool) → length (linedefs_of level) ≤ n → AreTags (Below (PerpetualAt level) n) marks
    → AreTags (IsPerpetual level) marks
all_perpetual level n marks past are =
    let all =
    all_marked (PerpetualAt level) n marks (λ i tag h. omega (arith, past, some_within (linedefs_of level) i _ h)) are in
    record {
      long = all.long;
      told = λ tag f. (
        λ t. let there = (all.told tag f).0 t in some_here (λ linedef. is_perpetual_at linedef tag) (linedefs_of level) there.0 _ refl there.1,
        λ h. (all.told tag f).1 (any_some (λ linedef. is_perpetual_at linedef tag) (linedefs_of level) h),
      );
    }
