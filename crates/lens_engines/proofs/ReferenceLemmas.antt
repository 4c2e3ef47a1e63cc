-- Whether the references of a level hold, by the counts of its findings.
use Rattle.std.proofs.Common.{◌≡◌, ℕ, ◌<◌, ◌≤◌, ◌⊎◌, List, get_or, arith, inl, inr, subst}
use Rattle.map_audit.specs.Findings.{AuditHolds}
use Rattle.map_level.proofs.FindingLemmas.{rank_at}
use Rattle.map_level.specs.Findings.{rank}
use Rattle.map_level.specs.Level.{Level}
use Rattle.map_level.specs.declared.finding.Code.{Code}
use Rattle.map_level.specs.declared.finding.Code.TheVariants.{F1, F3, F4, F5, F6, F7, F8, F9}
use Rattle.map_warnings.specs.References.{HasReferences, HoldsNowhere}
use Rattle.lens_engines.specs.Counts.{AreCounts, finding_order}
use Rattle.lens_engines.proofs.LawLemmas.{nothing_holds}

-- what holds is the links' where neither nodes nor tables have the code
alone : {A : Type 0} → A ⊎ (⊥ ⊎ ⊥) → A
alone h = elim h [ inl a ↦ a | inr other ↦ elim other [ inl y ↦ absurd y | inr z ↦ absurd z ] ]

module _ (level : Level) (counts : List ℕ) (are : AreCounts (AuditHolds level) counts) where
  -- a code of references that isn't counted holds nowhere
  nowhere : (code : Code) → get_or counts (rank code) 0 ≡ 0 → HoldsNowhere level code
  nowhere code none i holds =
      let count = are.each code in
      let there = (count.exact i).1 (inl holds) in
      omega (arith, count.counted, there.1, none)

  -- where none of F3 to F9 is counted, the references hold
  pub uncounted : ((k : ℕ) → 2 ≤ k → k < 9 → get_or counts k 0 ≡ 0) → HasReferences level
  uncounted none = record {
    linedef_vertexes = nowhere F3 (none 2 (omega arith) (omega arith));
    linedef_sides = nowhere F4 (none 3 (omega arith) (omega arith));
    sidedef_sectors = nowhere F5 (none 4 (omega arith) (omega arith));
    seg_vertexes = nowhere F6 (none 5 (omega arith) (omega arith));
    seg_linedefs = nowhere F7 (none 6 (omega arith) (omega arith));
    seg_sides = nowhere F8 (none 7 (omega arith) (omega arith));
    seg_sidedefs = nowhere F9 (none 8 (omega arith) (omega arith));
  }

  -- where they hold, none of these codes holds
  unbroken : (code : Code) → 2 ≤ rank code → rank code < 9 → HasReferences level → (i : ℕ) → ¬ AuditHolds level code i
  unbroken F3 from to all i holds = all.linedef_vertexes i (alone holds)
  unbroken F4 from to all i holds = all.linedef_sides i (alone holds)
  unbroken F5 from to all i holds = all.sidedef_sectors i (alone holds)
  unbroken F6 from to all i holds = all.seg_vertexes i (alone holds)
  unbroken F7 from to all i holds = all.seg_linedefs i (alone holds)
  unbroken F8 from to all i holds = all.seg_sides i (alone holds)
  unbroken F9 from to all i holds = all.seg_sidedefs i (alone holds)
  unbroken _ from to all i holds = absurd (omega (arith, from, to))

  pub counted : (k : ℕ) → 2 ≤ k → k < 9 → 0 < get_or counts k 0 → ¬ HasReferences level
  counted k from to some all =
      let code = get_or finding_order k F1 in
      let is : rank code ≡ k = rank_at k F1 (omega (arith, to)) in
      let none : get_or counts (rank code) 0 ≡ 0 =
      nothing_holds (AuditHolds level code) (get_or counts (rank code) 0) (are.each code) (unbroken code (omega (arith, is, from)) (omega (arith, is, to)) all) in
      let here : get_or counts k 0 ≡ 0 = subst (λ (r : ℕ). get_or counts r 0 ≡ 0) is none in
      omega (arith, some, here)
