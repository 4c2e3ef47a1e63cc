-- How a block's line goes on.
use Rattle.std.proofs.Common.{◌≡◌, ℕ, zero, suc, ◌+◌, ◌-◌, ◌<◌, ◌≤◌, ℤ, pos, negsuc, decimal, List, ◌∷◌, ◌++◌, length, take, drop, Some, refl, sym, ap, ◌∙◌, append_assoc, arith, FitsSigned, w32}
use Rattle.std.proofs.lemmas.Fmt.{length-decimal-le}
use Rattle.std.proofs.lemmas.Int.{ints}
use Rattle.std.proofs.lemmas.Grind.{flat_map-append}
use Rattle.std.proofs.lemmas.List.{take-append-drop, drop-drop}
use Rattle.std.specs.Fmt.{signed_decimal}
use Rattle.std.specs.List.{slice_get}
use Rattle.look_engines.specs.Engines.Blocks.{block_text}
use Rattle.look_engines.specs.Engines.Show.{number_text, numbers_text}
use Rattle.line_io.proofs.RestLemmas.{drop-at}

pub block_text-more : (x y : ℤ) (bx by : ℕ) (text more : List ℕ) → block_text x y bx by (text ++ more) ≡ block_text x y bx by text ++ more
block_text-more x y bx by text more = simp append_assoc

-- the words from a place on are those up to another, and those from there on
words-cut : (words : List ℤ) (from to : ℕ) → from ≤ to → drop from words ≡ take (to - from) (drop from words) ++ drop to words
words-cut words from to le =
    let reach : from + (to - from) ≡ to = omega arith in
    sym (take-append-drop (to - from) (drop from words))
    ∙ ap (λ back. take (to - from) (drop from words) ++ back) (drop-drop (to - from) from words ∙ ap (λ n. drop n words) reach)

-- the text of the words from a place on, and what follows, cut at another place
pub words-part : (words : List ℤ) (from to : ℕ) (more : List ℕ) → from ≤ to
    → numbers_text (drop from words) ++ more ≡ numbers_text (take (to - from) (drop from words)) ++ (numbers_text (drop to words) ++ more)
words-part words from to more le =
    ap (λ ws. numbers_text ws ++ more) (words-cut words from to le)
    ∙ ap (λ text. text ++ more) (flat_map-append number_text (take (to - from) (drop from words)) (drop to words))
    ∙ append_assoc (numbers_text (take (to - from) (drop from words))) (numbers_text (drop to words)) more

-- the text of the words from a place on begins with the word there
pub words-before : (words : List ℤ) (i to : ℕ) (word : ℤ) (more : List ℕ) → 0 < i → i ≤ to → slice_get words (i - 1) ≡ Some word
    → numbers_text (take (to - (i - 1)) (drop (i - 1) words)) ++ more ≡ number_text word ++ (numbers_text (take (to - i) (drop i words)) ++ more)
words-before words zero to word more some le at = absurd (omega arith)
words-before words (suc k) to word more some le at =
    let one : to - k ≡ suc (to - suc k) = omega arith in
    let next : k + 1 ≡ suc k = omega arith in
    let back : suc k - 1 ≡ k = omega arith in
    let rest : take (to - k) (drop k words) ≡ word ∷ take (to - suc k) (drop (suc k) words) = rw (one, drop-at words k word (rw back at at), next) refl in
    rw back (ap (λ ws. numbers_text ws ++ more) rest ∙ append_assoc (number_text word) (numbers_text (take (to - suc k) (drop (suc k) words))) more)

-- the text of a word has at most eleven bytes
pub word-short : (z : ℤ) → FitsSigned w32 z → length (signed_decimal z) ≤ 11
word-short (pos n) fits = let digits : length (decimal n) ≤ 10 = length-decimal-le 10 n (omega (arith, ints)) (omega (arith, ints)) (omega (arith, ints)) in omega arith
word-short (negsuc n) fits = let digits : length (decimal (suc n)) ≤ 10 = length-decimal-le 10 (suc n) (omega (arith, ints)) (omega (arith, ints)) (omega (arith, ints)) in omega arith
