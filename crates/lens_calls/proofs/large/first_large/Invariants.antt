use Rattle.std.proofs.Common.{ℕ, ◌<◌, ◌≤◌, [], get_or, length}
use Rattle.std.specs.Prelude.{map}
use Rattle.line_io.specs.declared.input.TheConstants.{MAX_READ}
use Rattle.lens_calls.proofs.large.first_large.Given as goal

abbrev pub invariant-loop-i : goal.invariant-loop-i
invariant-loop-i l = (k : ℕ) → k < l.i → length (get_or (map (λ file. file.now) l.files) k []) ≤ MAX_READ
