-- Of how many files a word is asked (ours).
use Rattle.std.specs.Prelude.{◌≡◌, ℕ, ◌<◌, ◌≤◌}
use Rattle.lens_calls.specs.declared.asked.LensWord.{LensWord}
use Rattle.lens_calls.specs.declared.asked.LensWord.TheVariants as lens
use Rattle.wad_dir.specs.declared.set.TheConstants.{MAX_FILES}

-- whether it can be asked of `count` files, of which the first `bases` are base files
abbrev pub Takes : LensWord → ℕ → ℕ → Type 0
Takes (lens.Tell word) bases count = (bases < count) × (bases < MAX_FILES)
Takes (lens.Cut level) bases count = (bases ≡ 0) × (count ≡ 1)
Takes lens.List bases count = (bases ≡ 0) × (count ≡ 1)
Takes (lens.Draw question) bases count = (bases ≡ 0) × (0 < count) × (count ≤ MAX_FILES)
Takes (lens.Compare what) bases count = (bases ≡ 0) × (count ≡ 2)
Takes (lens.Explain code) bases count = (bases ≡ 0) × (count ≡ 0)
