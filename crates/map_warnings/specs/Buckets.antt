-- The buckets into which numbers are put to see whether all of them differ (ours).
use Rattle.std.specs.Prelude.{ℕ, ◌*◌, ◌/◌, ◌%◌, ◌^◌}

-- the bucket of a number, below 4096: the top bits of its product with an odd number, so that all bits of the number matter
abbrev pub bucket_in : ℕ → ℕ
bucket_in n = n * 11400714819323198485 % 2 ^ 64 / 2 ^ 52
