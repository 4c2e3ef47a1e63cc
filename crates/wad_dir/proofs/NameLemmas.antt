-- Which stored names are a name: those that begin with its bytes and, where there
-- are fewer than eight, a NUL.
use Rattle.std.proofs.Common.{◌≡◌, ◌↔◌, ◌⊎◌, inl, inr, ℕ, suc, ◌+◌, ◌<◌, ◌≤◌, ◌==◌, Bool, true, false, cond, eqb, List, [], ◌∷◌, ◌++◌, length, get_or, take, drop, refl, sym, ap, ◌∙◌, arith, subst}
use Rattle.std.proofs.lemmas.List.{append-nil, append_assoc, length-append, nil_from_length, take-append-drop, drop_more, take_more, get_or-take, length-take-le}
use Rattle.std.proofs.Common.{eqb-true}
use Rattle.std.specs.Prelude.{nat_eq}
use Rattle.std.specs.List.{starts_with}
use Rattle.std.proofs.lemmas.Slice.Eq.{starts_is}
use Rattle.std.proofs.lemmas.Bool.Decides.{Decides-eqb}
use Rattle.le_rec.specs.Name.{name_of}
use Rattle.le_rec.proofs.NameLemmas.{name_of-cons}

-- none of the bytes is NUL
abbrev pub HasNoNul : List ℕ → Type 0
HasNoNul bytes = (k : ℕ) → k < length bytes → (get_or bytes k 0 == 0) ≡ false

-- a name ends at the first NUL
pub name_of-stop : (name rest : List ℕ) → HasNoNul name → name_of (name ++ 0 ∷ rest) ≡ name
name_of-stop [] rest h = name_of-cons 0 rest
name_of-stop (b ∷ name) rest h =
    name_of-cons b (name ++ 0 ∷ rest)
    ∙ ap (λ nul. cond nul [] (b ∷ name_of (name ++ 0 ∷ rest))) (h 0 (omega arith))
    ∙ ap (λ xs. b ∷ xs) (name_of-stop name rest (λ k below. h (suc k) (omega arith)))

pub name_of-whole : (name : List ℕ) → HasNoNul name → name_of name ≡ name
name_of-whole [] h = refl
name_of-whole (b ∷ name) h =
    name_of-cons b name
    ∙ ap (λ nul. cond nul [] (b ∷ name_of name)) (h 0 (omega arith))
    ∙ ap (λ xs. b ∷ xs) (name_of-whole name (λ k below. h (suc k) (omega arith)))

-- bytes are their name alone, or their name and a NUL and others
abbrev Ends : List ℕ → List ℕ → Type 0
Ends name bytes = (name ≡ bytes) ⊎ ((rest : List ℕ) × (bytes ≡ name ++ 0 ∷ rest))

ends-cons : (b : ℕ) (bytes : List ℕ) (nul : Bool) → eqb b 0 ≡ nul → Ends (name_of bytes) bytes
    → Ends (cond nul [] (b ∷ name_of bytes)) (b ∷ bytes)
ends-cons b bytes true is h = inr (bytes, ap (λ x. x ∷ bytes) (eqb-true b 0 is))
ends-cons b bytes false is (inl whole) = inl (ap (λ xs. b ∷ xs) whole)
ends-cons b bytes false is (inr stop) = inr (stop.0, ap (λ xs. b ∷ xs) stop.1)

name_of-ends : (bytes : List ℕ) → Ends (name_of bytes) bytes
name_of-ends [] = inl refl
name_of-ends (b ∷ bytes) =
    subst (λ (name : List ℕ). Ends name (b ∷ bytes)) (sym (name_of-cons b bytes))
    (ends-cons b bytes (eqb b 0) refl (name_of-ends bytes))

-- a name that a NUL ends
pub named_by_stop : (name raw : List ℕ) → HasNoNul name → length name < length raw
    → ((rest : List ℕ) × (raw ≡ (name ++ 0 ∷ []) ++ rest)) ↔ (name_of raw ≡ name)
named_by_stop name raw h short = (
  λ begins. ap name_of (begins.1
      ∙ append_assoc name (0 ∷ []) begins.0) ∙ name_of-stop name begins.0 h,
  λ named. elim (name_of-ends raw) [
    | inl whole ↦
        absurd (let long : length name ≡ length raw = ap length (sym named ∙ whole) in omega arith)
    | inr stop ↦ (
      stop.0,
      stop.1 ∙ ap (λ xs. xs ++ 0 ∷ stop.0) named ∙ sym (append_assoc name (0 ∷ []) stop.0),
    )
  ],
)

-- a name that takes all the bytes
pub named_by_all : (name raw : List ℕ) → HasNoNul name → length name ≡ length raw
    → ((rest : List ℕ) × (raw ≡ name ++ rest)) ↔ (name_of raw ≡ name)
named_by_all name raw h long = (
  λ begins.
      let none : begins.0 ≡ [] =
      nil_from_length begins.0
      (omega (arith, ap length begins.1, length-append name begins.0)) in
      let same : raw ≡ name = begins.1 ∙ ap (λ xs. name ++ xs) none ∙ append-nil name in
      ap name_of same ∙ name_of-whole name h,
  λ named. elim (name_of-ends raw) [
    | inl whole ↦ ([], sym whole ∙ named ∙ sym (append-nil name))
    | inr stop ↦
        absurd
        (omega (arith, ap length stop.1, ap length named, length-append (name_of raw) (0 ∷ stop.0)))
  ],
)

-- the bytes of a name up to and with its first NUL, or all of them, tell
-- which stored names are that name
no_nul-take : (bytes : List ℕ) (i : ℕ) → i ≤ length bytes
    → ((k : ℕ) → k < i → (get_or bytes k 0 == 0) ≡ false) → HasNoNul (take i bytes)
no_nul-take bytes i within h k below =
    let first : k < i = omega (arith, length-take-le i bytes within) in
    rw (get_or-take i bytes k 0 first) (h k first)

pub named_by_front : (bytes raw : List ℕ) (i : ℕ) → i < length bytes → get_or bytes i 0 ≡ 0
    → ((k : ℕ) → k < i → (get_or bytes k 0 == 0) ≡ false)
    → length raw ≡ length bytes
    → ((rest : List ℕ) × (raw ≡ take (i + 1) bytes ++ rest)) ↔ (name_of raw ≡ name_of bytes)
named_by_front bytes raw i within nul h long =
    let none = no_nul-take bytes i (omega arith) h in
    let front : take (i + 1) bytes ≡ take i bytes ++ 0 ∷ [] =
    take_more bytes i 0 within ∙ ap (λ b. take i bytes ++ b ∷ []) nul in
    let whole : bytes ≡ take i bytes ++ 0 ∷ drop (i + 1) bytes =
    sym (take-append-drop i bytes)
    ∙ ap (λ xs. take i bytes ++ xs)
    (drop_more bytes i 0 within ∙ ap (λ b. b ∷ drop (i + 1) bytes) nul) in
    let name : name_of bytes ≡ take i bytes =
    ap name_of whole ∙ name_of-stop (take i bytes) (drop (i + 1) bytes) none in
    let short : length (take i bytes) < length raw =
    omega (arith, length-take-le i bytes (omega arith)) in
    subst
    (λ (n : List ℕ). ((rest : List ℕ) × (raw ≡ take (i + 1) bytes ++ rest)) ↔ (name_of raw ≡ n))
    (sym name)
    (subst (λ (f : List ℕ). ((rest : List ℕ) × (raw ≡ f ++ rest)) ↔ (name_of raw ≡ take i bytes))
    (sym front) (named_by_stop (take i bytes) raw none short))

pub named_by_whole : (bytes raw : List ℕ)
    → ((k : ℕ) → k < length bytes → (get_or bytes k 0 == 0) ≡ false)
    → length raw ≡ length bytes
    → ((rest : List ℕ) × (raw ≡ bytes ++ rest)) ↔ (name_of raw ≡ name_of bytes)
named_by_whole bytes raw h long =
    subst (λ (n : List ℕ). ((rest : List ℕ) × (raw ≡ bytes ++ rest)) ↔ (name_of raw ≡ n))
    (sym (name_of-whole bytes h)) (named_by_all bytes raw h (sym long))

-- the test by the first bytes is that of the name
pub starts_named : (wanted bytes raw name : List ℕ) (r : Bool)
    → ((stored : List ℕ) → length stored ≡ 8
    → ((rest : List ℕ) × (stored ≡ wanted ++ rest)) ↔ (name_of stored ≡ name_of bytes))
    → name_of bytes ≡ name → length raw ≡ 8 → r ≡ starts_with nat_eq raw wanted
    → (r ≡ true → name_of raw ≡ name) × (name_of raw ≡ name → r ≡ true)
starts_named wanted bytes raw name r through is long test =
    let tells = starts_is Decides-eqb raw wanted r test in
    let key = through raw long in (
      λ yes. key.0 (drop (length wanted) raw, tells.0 yes) ∙ is,
      λ named. let begins = key.1 (named ∙ sym is) in tells.1 begins.0 begins.1,
    )
