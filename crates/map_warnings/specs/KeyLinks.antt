-- Numbers of the same key one after another: links from each to the next one (ours).
use Rattle.std.specs.Prelude.{◌≡◌, ℕ, ◌+◌, ◌<◌, ◌≤◌, ◌==◌, List, length, drop, filter, slice_index_or}

-- the numbers of a key, in the order in which they stand
abbrev pub of_key : (ℕ → ℕ) → ℕ → List ℕ → List ℕ
of_key key k numbers = filter (λ n. key n == k) numbers

-- the first place from one on that has a number of a key, or how many numbers there are
pub record IsLink (key : ℕ → ℕ) (numbers : List ℕ) (k from at : ℕ) : Type 0 where
  pub after : from ≤ at
  pub within : at ≤ length numbers
  pub here : at < length numbers → key (slice_index_or numbers at 0) ≡ k
  pub same : of_key key k (drop at numbers) ≡ of_key key k (drop from numbers)

-- from a place on, of each of so many keys the first number, and of each number the next one of its key
pub record AreLinks (key : ℕ → ℕ) (numbers : List ℕ) (keys from : ℕ) (firsts next : List ℕ) : Type 0 where
  pub all : length firsts ≡ keys
  pub long : length next ≡ length numbers
  pub first : (k : ℕ) → k < keys → IsLink key numbers k from (slice_index_or firsts k 0)
  pub behind : (i : ℕ) → from ≤ i → i < length numbers
      → IsLink key numbers (key (slice_index_or numbers i 0)) (i + 1) (slice_index_or next i 0)
