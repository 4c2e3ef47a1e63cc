-- Parts of bytes, and the bytes of a number.
use Rattle.std.proofs.Common.{◌≡◌, ℕ, ◌<◌, List, [], ◌∷◌, ◌++◌, arith}
use Rattle.le_rec.proofs.BytesLemmas.{AreBytes-cons, AreBytes-nil, AreBytes-tail}
use Rattle.le_rec.specs.Bytes.{AreBytes}
use Rattle.le_rec.specs.Number.{unsigned16}

-- parts of bytes are bytes
pub front_bytes : (a b : List ℕ) → AreBytes (a ++ b) → AreBytes a
front_bytes [] b are = AreBytes-nil
front_bytes (x ∷ a) b are = AreBytes-cons x a (are.each 0) (front_bytes a b (AreBytes-tail x (a ++ b) are))

pub back_bytes : (a b : List ℕ) → AreBytes (a ++ b) → AreBytes b
back_bytes [] b are = are
back_bytes (x ∷ a) b are = back_bytes a b (AreBytes-tail x (a ++ b) are)

-- numbers of two bytes that are the same have the same bytes
pub low_one : (a b c d : ℕ) → a < 256 → b < 256 → c < 256 → d < 256 → unsigned16 a b ≡ unsigned16 c d → a ≡ c
unfolding unsigned16
low_one a b c d ha hb hc hd same = omega (arith, ha, hb, hc, hd, same)

pub high_one : (a b c d : ℕ) → a < 256 → b < 256 → c < 256 → d < 256 → unsigned16 a b ≡ unsigned16 c d → b ≡ d
unfolding unsigned16
high_one a b c d ha hb hc hd same = omega (arith, ha, hb, hc, hd, same)
