-- The sides of a linedef by its number, and the sectors of which it is one.
use Rattle.std.proofs.Common.{◌≡◌, ◌≢◌, ℕ, ◌<◌, ◌≤◌, Bool, true, false, inl, inr, List, length, Option, Some, None, refl, sym, ap, subst, ◌∙◌, arith}
use Rattle.std.specs.Prelude.{◌⊎◌, ◌==◌, ◌||◌, IfSome, IsSomeAnd, IsTrue, if◌then◌else◌}
use Rattle.std.specs.List.{slice_get}
use Rattle.std.specs.Option.{option_map}
use Rattle.std.proofs.lemmas.Bool.{cases_eq}
use Rattle.std.proofs.lemmas.Bool.Decides.{nat_tests}
use Rattle.std.proofs.lemmas.List.{length-map}
use Rattle.std.proofs.lemmas.Option.{slice_get-map}
use Rattle.le_rec.specs.declared.records.LineDef.{LineDef}
use Rattle.map_level.specs.Level.{Level}
use Rattle.map_level.specs.Links.{linedefs_of}
use Rattle.map_level.specs.Reading.{linedef_under}
use Rattle.map_level.proofs.BoundLemmas.{some_within}
use Rattle.game_warnings.specs.Sides.{across, back_alone, is_of, is_sector, sides_in, sides_of, IsLineAt}
use Rattle.game_warnings.specs.declared.sides.Sides.{Sides}
use Rattle.game_warnings.proofs.CountLemmas.{linedef_here}

pub sides_here : (level : Level) (i : ℕ) (linedef : LineDef) → slice_get level.linedefs.records i ≡ Some linedef
    → slice_get (sides_in level) i ≡ Some (sides_of level (linedef_under level.reading linedef))
sides_here level i linedef at = slice_get-map (sides_of level) (linedefs_of level) i ∙ ap (option_map (sides_of level)) (linedef_here level i linedef at)

pub sides_length : (level : Level) → length (sides_in level) ≡ length level.linedefs.records
sides_length level = length-map (linedefs_of level) (sides_of level) ∙ length-map level.linedefs.records (linedef_under level.reading)

pub side_within : (level : Level) (k : ℕ) (P : Sides → Type 0) → IsSomeAnd (slice_get (sides_in level) k) P → k < length level.linedefs.records
side_within level k P h = omega (arith, some_within (sides_in level) k P h, sides_length level)

-- a sector that is there is one sector
pub sector_is : (o : Option ℕ) (s : ℕ) → is_sector o s ≡ true → o ≡ Some s
sector_is (Some n) s is = let same : n ≡ s = grind (arith, nat_tests, is) in ap Some same
sector_is None s is = absurd (let other = is in cc)

pub is_sector-same : (s : ℕ) → is_sector (Some s) s ≡ true
is_sector-same s = grind (arith, nat_tests)

sector_or_not : (o : Option ℕ) (s : ℕ) → (is_sector o s ≡ true) ⊎ (is_sector o s ≡ false)
sector_or_not o s = go (is_sector o s)
  where
    go : (b : Bool) → (b ≡ true) ⊎ (b ≡ false)
    go true = inl refl
    go false = inr refl

-- a linedef is one of the sector in front, and of the one at the back
pub of_front : (sides : Sides) (s : ℕ) → sides.front ≡ Some s → is_of s sides ≡ true
of_front sides s is = let yes_it : is_sector sides.front s ≡ true = rw is (is_sector-same s) in rw yes_it refl

pub of_back : (sides : Sides) (s : ℕ) → back_alone sides ≡ Some s → (sides.back ≡ Some s) × (is_sector sides.front s ≡ false)
of_back sides s is = go sides.back refl
  where
    other : (t : ℕ) (b : Bool) → is_sector sides.front t ≡ b → sides.back ≡ Some t → (sides.back ≡ Some s) × (is_sector sides.front s ≡ false)
    other t true yes_it at =
        let none : back_alone sides ≡ None = rw (at, yes_it) refl in
        let no : None ≡ Some s = sym none ∙ is in
        absurd (let gone = no in cc)
    other t false no_it at =
        let told : back_alone sides ≡ Some t = rw (at, no_it) refl in
        let both : Some t ≡ Some s = sym told ∙ is in
        let same : t ≡ s = cc in
        (at ∙ both, ap (is_sector sides.front) (sym same) ∙ no_it)

    go : (o : Option ℕ) → sides.back ≡ o → (sides.back ≡ Some s) × (is_sector sides.front s ≡ false)
    go None at =
        let none : back_alone sides ≡ None = rw at refl in
        let no : None ≡ Some s = sym none ∙ is in
        absurd (let gone = no in cc)
    go (Some t) at = other t (is_sector sides.front t) refl at

pub of_back_side : (sides : Sides) (s : ℕ) → back_alone sides ≡ Some s → is_of s sides ≡ true
of_back_side sides s is =
    let back = of_back sides s is in
    let yes_it : is_sector sides.back s ≡ true = rw back.0 (is_sector-same s) in
    rw (back.1, yes_it) refl

-- a linedef is one of no other sector
pub of_none : (sides : Sides) (s : ℕ) → is_sector sides.front s ≡ false → is_sector (back_alone sides) s ≡ false → is_of s sides ≡ false
of_none sides s front back = elim (sector_or_not sides.back s) [
  | inl yes_it ↦
      let at = sector_is sides.back s yes_it in
      let told : back_alone sides ≡ Some s = rw (at, front) refl in
      let there : is_sector (back_alone sides) s ≡ true = rw told (is_sector-same s) in
      absurd (let no : false ≡ true = sym back ∙ there in cc)
  | inr no_it ↦ rw (front, no_it) refl
]

-- what is known of each sector, after its entry was changed for the sector in front and for the one at the back
pub both_sides : {A : Type 0} (sides : Sides) (s : ℕ) (P : A → Type 0) (old mid new : A) → (sides.front ≡ Some s → P mid) → ((¬ (sides.front ≡ Some s)) → mid ≡ old)
    → (back_alone sides ≡ Some s → P new) → ((¬ (back_alone sides ≡ Some s)) → new ≡ mid) → (is_of s sides ≡ false → P old) → P new
both_sides {A} sides s P old mid new front unfront back unback none = elim (sector_or_not sides.front s) [
  | inl yes_it ↦
      let here = sector_is sides.front s yes_it in
      let other : ¬ (back_alone sides ≡ Some s) = λ is. (let no : false ≡ true = sym (of_back sides s is).1 ∙ yes_it in absurd (let gone = no in cc)) in
      subst P (sym (unback other)) (front here)
  | inr no_it ↦
      let other : ¬ (sides.front ≡ Some s) = λ is. (let there : is_sector sides.front s ≡ true = rw is (is_sector-same s) in let no : false ≡ true = sym no_it ∙ there in absurd (let gone = no in cc)) in
      elim (sector_or_not (back_alone sides) s) [
        | inl at_back ↦ back (sector_is (back_alone sides) s at_back)
        | inr nowhere ↦
            let far : ¬ (back_alone sides ≡ Some s) = λ is. (let there : is_sector (back_alone sides) s ≡ true = rw is (is_sector-same s) in let no : false ≡ true = sym nowhere ∙ there in absurd (let gone = no in cc)) in
            subst P (sym (unback far ∙ unfront other)) (none (of_none sides s no_it nowhere))
      ]
]

-- the one at the back alone isn't in front
pub not_in_front : (sides : Sides) (s : ℕ) → back_alone sides ≡ Some s → ¬ (sides.front ≡ Some s)
not_in_front sides s is front =
    let there : is_sector sides.front s ≡ true = rw front (is_sector-same s) in
    let no : false ≡ true = sym (of_back sides s is).1 ∙ there in
    absurd (let gone = no in cc)

-- a sector that is there is within what is said of it
pub within_some : (o : Option ℕ) (s n : ℕ) → o ≡ Some s → IfSome o (λ t. t < n) → s < n
within_some o s n is h = subst (λ (x : Option ℕ). IfSome x (λ t. t < n)) is h

pub back_within : (sides : Sides) (s n : ℕ) → back_alone sides ≡ Some s → IfSome sides.back (λ t. t < n) → s < n
back_within sides s n is h = within_some sides.back s n (of_back sides s is).0 h

pub across_within : (sides : Sides) (s o n : ℕ) → across s sides ≡ Some o → IfSome sides.front (λ t. t < n) → IfSome sides.back (λ t. t < n) → o < n
across_within sides s o n is front back = go (is_sector sides.front s) is
  where
    go : (b : Bool) → (if b then sides.back else sides.front) ≡ Some o → o < n
    go true at = within_some sides.back o n at back
    go false at = within_some sides.front o n at front
