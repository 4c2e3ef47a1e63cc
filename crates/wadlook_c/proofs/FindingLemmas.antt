-- How many findings there are.
use Rattle.std.proofs.Common.{◌≡◌, ◌+◌, Bool, true, false, List, [], ◌∷◌, length, refl, arith}
use Rattle.std.proofs.Math.Bool.{not}
use Rattle.std.proofs.lemmas.List.Sums.{sum_by-cons}
use Rattle.std.specs.List.{count_by}
use Rattle.std.specs.Prelude.{if◌then◌else◌}
use Rattle.map_level.specs.declared.finding.Finding.{Finding}
use Rattle.look_engines.specs.Engines.Audit.{fault_count, note_count}

one_of_two : (b : Bool) → (if b then 1 else 0) + (if not b then 1 else 0) ≡ 1
one_of_two true = refl
one_of_two false = refl

counted : {X : Type 0} (p : X → Bool) (xs : List X) → count_by p xs + count_by (λ x. not (p x)) xs ≡ length xs
counted p [] = refl
counted p (x ∷ xs) = omega (
  arith,
  counted p xs,
  one_of_two (p x),
  sum_by-cons (λ y. if p y then 1 else 0) x xs,
  sum_by-cons (λ y. if not (p y) then 1 else 0) x xs,
)

-- each is a fault or a note
pub all_counted : (findings : List Finding) → fault_count findings + note_count findings ≡ length findings
all_counted findings = counted _ findings
