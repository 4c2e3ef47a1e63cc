-- The value of digits, one by one.
use Rattle.std.proofs.Common.{◌≡◌, ℕ, ◌+◌, ◌-◌, ◌*◌, ◌^◌, ◌<◌, List, [], ◌∷◌, ◌++◌, length, take, get_or, ap, ◌∙◌, arith, add-one}
use Rattle.std.proofs.lemmas.List.{length_push, take_more}
use Rattle.std.proofs.Math.Nat.{pow-suc}
use Rattle.line_io.specs.Numbers.{value_of}

value_of-push : (digits : List ℕ) (digit : ℕ)
    → value_of (digits ++ digit ∷ []) ≡ 10 * value_of digits + (digit - 48)
value_of-push [] digit = omega arith
value_of-push (d ∷ ds) digit =
    let longer : 10 ^ length (ds ++ digit ∷ []) ≡ 10 * 10 ^ length ds =
    ap (λ (n : ℕ). 10 ^ n) (length_push ds digit ∙ add-one (length ds))
    ∙ omega (arith, pow-suc 10 (length ds)) in
    rw longer (omega (arith, value_of-push ds digit))

-- the value of one byte more
pub value_of-take_more : (bytes : List ℕ) (count : ℕ) → count < length bytes
    → value_of (take (count + 1) bytes)
    ≡ 10 * value_of (take count bytes) + (get_or bytes count 0 - 48)
value_of-take_more bytes count below =
    ap value_of (take_more bytes count 0 below)
    ∙ value_of-push (take count bytes) (get_or bytes count 0)
