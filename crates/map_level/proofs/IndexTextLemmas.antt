-- How many bytes the text of an index takes.
use Rattle.std.proofs.Common.{◌≡◌, ◌≤◌, ◌≤ℤ◌, ℤ, pos, negsuc, neg_ℤ, decimal, suc, ◌<ℤ◌, ◌+ℤ◌, Bool, true, false, cond, length, refl, arith, FitsSigned, w16}
use Rattle.std.proofs.lemmas.Fmt.{length-decimal-le}
use Rattle.std.proofs.lemmas.Int.{ints}
use Rattle.std.specs.Fmt.{signed_decimal}
use Rattle.std.specs.Prelude.{int_lt}
use Rattle.map_level.specs.Reading.{number_of}
use Rattle.map_level.specs.declared.reading.Reading.{Reading}
use Rattle.map_level.specs.declared.reading.Reading.TheVariants.{Signed, Wide}

-- a number of at most five digits has a text of at most six bytes
pub signed_decimal-short : (z : ℤ) → neg_ℤ (pos 99999) ≤ℤ z → z ≤ℤ pos 99999 → length (signed_decimal z) ≤ 6
signed_decimal-short (pos n) low high = let digits : length (decimal n) ≤ 5 = length-decimal-le 5 n (omega (arith, ints)) (omega (arith, ints)) (omega (arith, ints)) in omega arith
signed_decimal-short (negsuc n) low high = let digits : length (decimal (suc n)) ≤ 5 = length-decimal-le 5 (suc n) (omega (arith, ints)) (omega (arith, ints)) (omega (arith, ints)) in omega arith

-- an index under a reading has at most five digits
index_low : (reading : Reading) (word : ℤ) → FitsSigned w16 word → neg_ℤ (pos 99999) ≤ℤ number_of reading word
index_low Signed word fits = omega (arith, ints)
index_low Wide word fits = go (int_lt word (pos 0)) refl
  where
    go : (b : Bool) → int_lt word (pos 0) ≡ b → neg_ℤ (pos 99999) ≤ℤ cond b (word +ℤ pos 65536) word
    go true low = omega (arith, ints)
    go false low = omega (arith, ints)

pub index-short : (reading : Reading) (word index : ℤ) → FitsSigned w16 word → index ≡ number_of reading word → index <ℤ pos 65536 → length (signed_decimal index) ≤ 6
index-short reading word index fits is below = let low = index_low reading word fits in signed_decimal-short index (rw is low) (omega (arith, ints))
