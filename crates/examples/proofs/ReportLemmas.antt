-- The first finding of a report.
use Rattle.std.proofs.Common.{◌≡◌, ◌↔◌, List, Option, Some, None, IfSome, IfNone, IsNone, refl, IsTrue}
use Rattle.std.specs.List.{slice_get}
use Rattle.map_level.specs.Level.{Level}
use Rattle.map_level.specs.Findings.{AreFindings, is_fault}
use Rattle.map_level.specs.declared.finding.Finding.{Finding}
use Rattle.map_tree.specs.Sound.{IsSound}
use Rattle.map_audit.specs.Findings.{AuditHolds}
use Rattle.map_audit.specs.Laws.{FaultsStandFirst, FirstStandsBefore, SoundIsNoFault}
use Rattle.examples.specs.FaultSearch.{IsFirstFault}

-- what is told of the first finding is told of the level
module _ (level : Level) (found : List Finding) (are : AreFindings (AuditHolds level) found) (law : FirstStandsBefore) where
  is_first : (first : Finding) → slice_get found 0 ≡ Some first → IsTrue (is_fault first.code) → IsFirstFault level first
  is_first first e fault =
      let stands = law level found first are e in
      record { fault = fault; holds = stands.0; before = λ other is holds apart. stands.1 other holds apart }

  pub leading-some : (result : Option Finding) → IfSome result (λ first. (slice_get found 0 ≡ Some first) × IsTrue (is_fault first.code)) → IfSome result (IsFirstFault level)
  leading-some None h = tt
  leading-some (Some first) h = is_first first h.0 h.1

  pub leading-none : FaultsStandFirst → SoundIsNoFault → (result : Option Finding) → IfSome result (λ first. (slice_get found 0 ≡ Some first) × IsTrue (is_fault first.code))
      → IfNone result ((first : Finding) → slice_get found 0 ≡ Some first → ¬ IsTrue (is_fault first.code))
      → IsNone result ↔ IsSound level
  leading-none none_behind sound None some none = (λ here. (sound level).1 (none_behind level found are none), λ is. refl)
  leading-none none_behind sound (Some first) some none = (
    λ here. absurd cc,
    λ is. absurd ((sound level).0 is first.code first.index some.1 (is_first first some.0 some.1).holds),
  )
