use Rattle.std.proofs.Common.{◌≡◌, ◌≢◌, ◌+◌, ◌<◌, ◌≤◌, drop, get_or, length}
use Rattle.std.specs.Prelude.{All}
use Rattle.map_warnings.specs.Buckets.{bucket_in}
use Rattle.map_warnings.specs.KeyLinks.{of_key}
use Rattle.map_warnings.proofs.apart.is_new.Given as goal

abbrev pub invariant-loop-turn : goal.invariant-loop-turn
invariant-loop-turn l = record {
  after : l.i + 1 ≤ l.at;
  within : l.at ≤ length l.numbers;
  here : l.at < length l.numbers → bucket_in (get_or l.numbers l.at 0) ≡ l.bucket;
  left : All (λ n. get_or l.numbers l.i 0 ≢ n) (of_key bucket_in l.bucket (drop l.at l.numbers))
      → All (λ n. get_or l.numbers l.i 0 ≢ n) (of_key bucket_in l.bucket (drop (l.i + 1) l.numbers));
}
