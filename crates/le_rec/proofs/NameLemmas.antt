-- Facts about names.
use Rattle.std.proofs.Common.{◌≡◌, ℕ, zero, suc, ◌-◌, ◌+◌, ◌≤◌, ◌==◌, not, min, inl, inr, Bool, true, false, cond, eqb, List, [], ◌∷◌, ◌++◌, length, map, replicate, take, refl, sym, ap, ◌∙◌, arith}
use Rattle.std.proofs.lemmas.Bool.Decides.{nat_tests}
use Rattle.std.proofs.lemmas.Bool.{cases_lt, le-ltb, lt-ltb}
use Rattle.std.proofs.lemmas.List.{map-append, length-map, take_all}
use Rattle.std.proofs.Math.Numerals.{one-add}
use Rattle.std.specs.List.{position_or_len}
use Rattle.std.specs.Option.{unwrap_or}
use Rattle.std.specs.Prelude.{nat_lt, if◌then◌else◌, Some, None}
use Rattle.std.specs.Char.{to_ascii_uppercase}
use Rattle.le_rec.specs.Name.{name_of, padded}

-- a name goes on with a byte that is no NUL
pub name_of-cons : (b : ℕ) (bytes : List ℕ)
    → name_of (b ∷ bytes) ≡ cond (eqb b 0) [] (b ∷ name_of bytes)
name_of-cons b bytes =
    let end = position_or_len (λ b. b == 0) bytes in
    elim (eqb b 0)
    as (λ nul. take (cond (not nul) (1 + end) 0) (b ∷ bytes) ≡ cond nul [] (b ∷ take end bytes)) [
      | true ↦ refl
      | false ↦ rw (one-add end) refl
    ]

-- NULs after a name change nothing
name_of-nuls : (bytes : List ℕ) (n : ℕ) → name_of (bytes ++ replicate n 0) ≡ name_of bytes
name_of-nuls [] zero = refl
name_of-nuls [] (suc n) = refl
name_of-nuls (b ∷ bytes) n =
    name_of-cons b (bytes ++ replicate n 0)
    ∙ ap (λ rest. cond (eqb b 0) [] (b ∷ rest)) (name_of-nuls bytes n)
    ∙ sym (name_of-cons b bytes)

-- a name is its own
unless_nul : (nul : Bool) (b : ℕ) (name : List ℕ) → name_of (b ∷ name) ≡ cond nul [] (b ∷ name)
    → name_of (cond nul [] (b ∷ name)) ≡ cond nul [] (b ∷ name)
unless_nul true b name e = refl
unless_nul false b name e = e

pub name_of-name_of : (bytes : List ℕ) → name_of (name_of bytes) ≡ name_of bytes
name_of-name_of [] = refl
name_of-name_of (b ∷ bytes) =
    let again =
    name_of-cons b (name_of bytes)
    ∙ ap (λ rest. cond (eqb b 0) [] (b ∷ rest)) (name_of-name_of bytes) in
    rw (name_of-cons b bytes) (unless_nul (eqb b 0) b (name_of bytes) again)

pub name_of-padded : (bytes : List ℕ) → name_of (padded (name_of bytes)) ≡ name_of bytes
name_of-padded bytes =
    name_of-nuls (name_of bytes) (8 - length (name_of bytes)) ∙ name_of-name_of bytes

pub padded-name_of-padded : (bytes : List ℕ)
    → padded (name_of bytes) ≡ padded (name_of (padded (name_of bytes)))
padded-name_of-padded bytes = ap padded (sym (name_of-padded bytes))

-- capital letters keep the NULs in their places
uppercase-zero : (b : ℕ) → eqb (to_ascii_uppercase b) 0 ≡ eqb b 0
uppercase-zero b = grind (arith, nat_tests)

map-cond : (f : ℕ → ℕ) (nul : Bool) (b : ℕ) (name : List ℕ)
    → cond nul [] (f b ∷ map f name) ≡ map f (cond nul [] (b ∷ name))
map-cond f true b name = refl
map-cond f false b name = refl

name_of-uppercase : (bytes : List ℕ)
    → name_of (map to_ascii_uppercase bytes) ≡ map to_ascii_uppercase (name_of bytes)
name_of-uppercase [] = refl
name_of-uppercase (b ∷ bytes) =
    name_of-cons (to_ascii_uppercase b) (map to_ascii_uppercase bytes)
    ∙ rw (uppercase-zero b, name_of-uppercase bytes, name_of-cons b bytes)
    (map-cond to_ascii_uppercase (eqb b 0) b (name_of bytes))

map-nuls : (n : ℕ) → map to_ascii_uppercase (replicate n 0) ≡ replicate n 0
map-nuls zero = refl
map-nuls (suc n) = ap (λ rest. 0 ∷ rest) (map-nuls n)

padded-uppercase : (name : List ℕ)
    → map to_ascii_uppercase (padded name) ≡ padded (map to_ascii_uppercase name)
padded-uppercase name = simp (map-append, map-nuls, length-map)

-- the name of capital letters, and that it fills its eight bytes
pub name_of-uppercase-padded : (bytes : List ℕ)
    → name_of (map to_ascii_uppercase (padded (name_of bytes)))
    ≡ map to_ascii_uppercase (name_of bytes)
name_of-uppercase-padded bytes =
    name_of-uppercase (padded (name_of bytes)) ∙ ap (map to_ascii_uppercase) (name_of-padded bytes)

pub padded-uppercase-padded : (bytes : List ℕ)
    → map to_ascii_uppercase (padded (name_of bytes))
    ≡ padded (name_of (map to_ascii_uppercase (padded (name_of bytes))))
padded-uppercase-padded bytes =
    padded-uppercase (name_of bytes) ∙ ap padded (sym (name_of-uppercase-padded bytes))

-- no more than the length is taken
pub take-min-length : (n : ℕ) (bytes : List ℕ) → take (min (length bytes) n) bytes ≡ take n bytes
take-min-length n bytes =
    elim (cases_lt n (length bytes)) [
      | inl longer ↦ ap (λ k. take k bytes) (omega arith)
      | inr shorter ↦
          let all : min (length bytes) n ≡ length bytes = omega arith in
          rw all (take_all (length bytes) bytes (omega arith) ∙ sym (take_all n bytes shorter))
    ]

-- a place that was found, or the bound where there is none
pub found_or : (place bound : ℕ) → place ≤ bound
    → unwrap_or (if nat_lt place bound then Some place else None) bound ≡ place
found_or place bound h =
    elim (cases_lt place bound) [
      | inl below ↦ rw (lt-ltb place bound below) refl
      | inr past ↦
          let same : bound ≡ place = omega arith in
          rw (le-ltb place bound past) same
    ]
