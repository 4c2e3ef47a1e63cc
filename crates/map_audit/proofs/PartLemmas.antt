-- Each code is of one part.
use Rattle.std.proofs.Common.{◌≡◌, ◌↔◌, ℕ, ◌≤◌, ◌⊎◌, inl, inr, subst, sym}
use Rattle.std.specs.Prelude.{IfSome, IfNone, Option, Some, None}
use Rattle.map_level.specs.Level.{Level}
use Rattle.map_level.specs.Findings.{IsFirst}
use Rattle.map_level.specs.declared.finding.Code.{Code}
use Rattle.map_level.specs.declared.finding.Code.TheVariants.{F11, F12, F13, F14, F15, F16, N7, N8, N9, N10}
use Rattle.map_audit.specs.Findings.{AuditHolds, part_of, PartHolds}
use Rattle.map_audit.specs.declared.auditing.LevelPart.{LevelPart}

-- one of three that can hold
first_alone : {A B C : Type 0} → ¬ B → ¬ C → A ⊎ (B ⊎ C) ↔ A
first_alone b c = ((λ h. elim h [ inl a ↦ a | inr other ↦ elim other [ inl y ↦ absurd (b y) | inr z ↦ absurd (c z) ] ]), (λ a. inl a))

second_alone : {A B C : Type 0} → ¬ A → ¬ C → A ⊎ (B ⊎ C) ↔ B
second_alone a c = ((λ h. elim h [ inl x ↦ absurd (a x) | inr other ↦ elim other [ inl y ↦ y | inr z ↦ absurd (c z) ] ]), (λ b. inr (inl b)))

third_alone : {A B C : Type 0} → ¬ A → ¬ B → A ⊎ (B ⊎ C) ↔ C
third_alone a b = ((λ h. elim h [ inl x ↦ absurd (a x) | inr other ↦ elim other [ inl y ↦ absurd (b y) | inr z ↦ z ] ]), (λ c. inr (inr c)))

-- a code holds of a level exactly where it does by its part
pub by_part : (level : Level) (code : Code) (i : ℕ) → AuditHolds level code i ↔ PartHolds (part_of code) level code i
by_part level F11 i = second_alone (λ h. h) (λ h. h)
by_part level F12 i = second_alone (λ h. h) (λ h. h)
by_part level F13 i = second_alone (λ h. h) (λ h. h)
by_part level F14 i = second_alone (λ h. h) (λ h. h)
by_part level F15 i = second_alone (λ h. h) (λ h. h)
by_part level F16 i = second_alone (λ h. h) (λ h. h)
by_part level N7 i = second_alone (λ h. h) (λ h. h)
by_part level N8 i = third_alone (λ h. h) (λ h. h)
by_part level N9 i = third_alone (λ h. h) (λ h. h)
by_part level N10 i = third_alone (λ h. h) (λ h. h)
by_part level _ i = first_alone (λ h. h) (λ h. h)

-- what a part finds first is what is found first
module _ (level : Level) (code : Code) (part : LevelPart) (is : part ≡ part_of code) where
  both : (i : ℕ) → AuditHolds level code i ↔ PartHolds part level code i
  both i = subst (λ (p : LevelPart). AuditHolds level code i ↔ PartHolds p level code i) (sym is) (by_part level code i)

  pub first_by_part : (from : ℕ) (found : Option ℕ) → IfSome found (IsFirst (PartHolds part level code) from)
      → IfSome found (IsFirst (AuditHolds level code) from)
  first_by_part from None h = h
  first_by_part from (Some at) h = record {
    within = h.within;
    here = (both at).1 h.here;
    before = λ i le below holds. h.before i le below ((both i).0 holds);
  }

  pub none_by_part : (from : ℕ) (found : Option ℕ) → IfNone found ((i : ℕ) → from ≤ i → ¬ PartHolds part level code i)
      → IfNone found ((i : ℕ) → from ≤ i → ¬ AuditHolds level code i)
  none_by_part from None h = λ i le holds. h i le ((both i).0 holds)
  none_by_part from (Some at) h = h
