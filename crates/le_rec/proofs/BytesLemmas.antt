-- Facts about lists of bytes.
use Rattle.std.proofs.Common.{ℕ, zero, suc, ◌<◌, ◌/◌, ◌%◌, List, [], ◌∷◌, ◌++◌, take, drop, slice_index, arith}
use Rattle.le_rec.specs.Bytes.{AreBytes}
use Rattle.le_rec.specs.Number.{bytes16, bytes32}

-- joined bytes are bytes, and parts of bytes are
below-cons : (b : ℕ) (bytes : List ℕ) → b < 256 → AreBytes bytes → (k : ℕ)
    → slice_index (b ∷ bytes) k < 256
below-cons b bytes h bs zero = h
below-cons b bytes h bs (suc k) = bs.each k

pub AreBytes-cons : (b : ℕ) (bytes : List ℕ) → b < 256 → AreBytes bytes → AreBytes (b ∷ bytes)
AreBytes-cons b bytes h bs = record { each = below-cons b bytes h bs }

pub AreBytes-nil : AreBytes []
AreBytes-nil = record { each = λ k. omega arith }

pub AreBytes-tail : (b : ℕ) (bytes : List ℕ) → AreBytes (b ∷ bytes) → AreBytes bytes
AreBytes-tail b bytes bs = record { each = λ k. bs.each (suc k) }

pub AreBytes-append : (front rest : List ℕ) → AreBytes front → AreBytes rest
    → AreBytes (front ++ rest)
AreBytes-append [] rest fs bs = bs
AreBytes-append (b ∷ front) rest fs bs =
    AreBytes-cons b (front ++ rest) (fs.each 0)
    (AreBytes-append front rest (AreBytes-tail b front fs) bs)

pub AreBytes-take : (n : ℕ) (bytes : List ℕ) → AreBytes bytes → AreBytes (take n bytes)
AreBytes-take zero bytes bs = AreBytes-nil
AreBytes-take (suc n) [] bs = AreBytes-nil
AreBytes-take (suc n) (b ∷ bytes) bs =
    AreBytes-cons b (take n bytes) (bs.each 0) (AreBytes-take n bytes (AreBytes-tail b bytes bs))

pub AreBytes-drop : (n : ℕ) (bytes : List ℕ) → AreBytes bytes → AreBytes (drop n bytes)
AreBytes-drop zero bytes bs = bs
AreBytes-drop (suc n) [] bs = AreBytes-nil
AreBytes-drop (suc n) (b ∷ bytes) bs = AreBytes-drop n bytes (AreBytes-tail b bytes bs)

-- the bytes of numbers are bytes
pub AreBytes-bytes16 : (n : ℕ) → AreBytes (bytes16 n)
AreBytes-bytes16 n =
    AreBytes-cons (n % 256) (n / 256 % 256 ∷ []) (omega arith)
    (AreBytes-cons (n / 256 % 256) [] (omega arith) AreBytes-nil)

pub AreBytes-bytes32 : (n : ℕ) → AreBytes (bytes32 n)
AreBytes-bytes32 n =
    AreBytes-append (bytes16 n) (n / 65536 % 256 ∷ n / 16777216 % 256 ∷ []) (AreBytes-bytes16 n)
    (AreBytes-cons (n / 65536 % 256) (n / 16777216 % 256 ∷ []) (omega arith)
    (AreBytes-cons (n / 16777216 % 256) [] (omega arith) AreBytes-nil))
