-- What is written for bytes is read as these bytes.
use Rattle.std.proofs.Common.{◌≡◌, ℕ, List, [], ◌∷◌, ◌++◌, refl, sym, ap, ◌∙◌, subst, append_assoc}
use Rattle.std.specs.Prelude.{◌==◌, codes, if◌then◌else◌}
use Rattle.std.proofs.lemmas.Bool.{cond_both, eqb-false, eqb-true}
use Rattle.lens_texts.specs.Escape.{StandsFor, escaped, escaped_byte, nothing, byte, ampersand, less_than, greater_than, quotation_mark}

-- one more byte
byte_stands : (b : ℕ) (text bytes : List ℕ) → StandsFor text bytes → StandsFor (escaped_byte b ++ text) (b ∷ bytes)
byte_stands b text bytes so =
    let Stands : List ℕ → Type 0 = λ t. StandsFor (t ++ text) (b ∷ bytes) in
    let last : List ℕ = if b == 34 then codes "&quot;" else b ∷ [] in
    let third : List ℕ = if b == 62 then codes "&gt;" else last in
    let second : List ℕ = if b == 60 then codes "&lt;" else third in
    cond_both (b == 38) (codes "&amp;") second Stands
    (λ is. subst (λ (c : ℕ). StandsFor (codes "&amp;" ++ text) (c ∷ bytes)) (sym (eqb-true b 38 is)) (ampersand text bytes so))
    (λ amp. cond_both (b == 60) (codes "&lt;") third Stands
    (λ is. subst (λ (c : ℕ). StandsFor (codes "&lt;" ++ text) (c ∷ bytes)) (sym (eqb-true b 60 is)) (less_than text bytes so))
    (λ lt. cond_both (b == 62) (codes "&gt;") last Stands
    (λ is. subst (λ (c : ℕ). StandsFor (codes "&gt;" ++ text) (c ∷ bytes)) (sym (eqb-true b 62 is)) (greater_than text bytes so))
    (λ gt. cond_both (b == 34) (codes "&quot;") (b ∷ []) Stands
    (λ is. subst (λ (c : ℕ). StandsFor (codes "&quot;" ++ text) (c ∷ bytes)) (sym (eqb-true b 34 is)) (quotation_mark text bytes so))
    (λ quot. byte b text bytes (eqb-false b 38 amp) (eqb-false b 60 lt) (eqb-false b 62 gt) (eqb-false b 34 quot) so))))

pub stands_for : (bytes : List ℕ) → StandsFor (escaped bytes) bytes
stands_for [] = nothing
stands_for (b ∷ bytes) = byte_stands b (escaped bytes) bytes (stands_for bytes)

-- bytes behind others are written behind them
pub escaped-both : (a b : List ℕ) → escaped (a ++ b) ≡ escaped a ++ escaped b
escaped-both [] b = refl
escaped-both (x ∷ a) b = ap (λ t. escaped_byte x ++ t) (escaped-both a b) ∙ sym (append_assoc (escaped_byte x) (escaped a) (escaped b))
