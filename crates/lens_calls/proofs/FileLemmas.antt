-- Files among those that are handed in.
use Rattle.std.proofs.Common.{◌≡◌, ℕ, zero, suc, ◌-◌, ◌<◌, ◌≤◌, List, [], ◌∷◌, Bor, get_or, length, refl, ap, arith}
use Rattle.std.specs.Prelude.{map}
use Rattle.std.proofs.lemmas.List.{length-append}
use Rattle.line_io.specs.declared.input.TheConstants.{MAX_READ}
use Rattle.wad_dir.specs.Refusal.{IsFirstRefused}
use Rattle.wad_dir.specs.declared.wad.WadFault.{WadFault}

-- the first file without a directory is one of them
pub first_among : (files : List (List ℕ)) (n : ℕ) (why : WadFault) → IsFirstRefused files n why → (1 ≤ n) × (n - 1 < length files)
first_among files n why first =
    let joined = ap length first.joined in
    let parts = length-append first.earlier (first.bytes ∷ first.later) in
    (omega (arith, first.number), omega (arith, first.number, joined, parts))

-- the bytes of a slice among some
pub now_at : (slices : List (Bor (List ℕ))) (i : ℕ) (d : Bor (List ℕ)) → i < length slices → get_or (map (λ slice. slice.now) slices) i [] ≡ (get_or slices i d).now
now_at [] i d within = absurd (omega arith)
now_at (slice ∷ slices) zero d within = refl
now_at (slice ∷ slices) (suc i) d within = now_at slices i d (omega arith)

-- it isn't too large
pub small_at : (slices : List (Bor (List ℕ))) (i : ℕ) (d : Bor (List ℕ)) → i < length slices → length (get_or slices i d).now ≤ MAX_READ
    → length (get_or (map (λ slice. slice.now) slices) i []) ≤ MAX_READ
small_at slices i d within few = rw (now_at slices i d within) few
