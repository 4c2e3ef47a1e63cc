-- Bytes that are handed in as one run, with the size of each part (ours).
use Rattle.std.specs.Prelude.{◌≡◌, ℕ, List, [], ◌∷◌, All, take, drop, length, nat_le, Option, Some, None, if◌then◌else◌}
use Rattle.std.specs.Option.{option_map}
use Rattle.std.specs.Str.{IsUtf8}
use Rattle.look_engines.specs.declared.fault.RunFault.TheVariants.{Memory}
use Rattle.wad_page.specs.declared.parts.SizedBytes.{SizedBytes}
use Rattle.wad_page.specs.declared.refusal.PageRefusal.{PageRefusal}
use Rattle.wad_page.specs.declared.refusal.PageRefusal.TheVariants.{Usage, Run}

-- the parts of these sizes, if they add up to the number of bytes
abbrev pub cut : List ℕ → List ℕ → Option (List (List ℕ))
cut [] [] = Some []
cut [] (b ∷ bytes) = None
cut (n ∷ sizes) bytes =
    if nat_le n (length bytes) then option_map (λ parts. take n bytes ∷ parts) (cut sizes (drop n bytes)) else None

-- these are the bytes and the sizes
pub record AreGiven (parts : SizedBytes) (bytes sizes : List ℕ) : Type 0 where
  pub bytes_are : parts.bytes.now ≡ bytes
  pub sizes_are : parts.sizes.now ≡ sizes

-- the parts are words, in UTF-8
pub record AreWords (parts : SizedBytes) (words : List (List ℕ)) : Type 0 where
  pub spelled : cut parts.sizes.now parts.bytes.now ≡ Some words
  pub utf8 : All IsUtf8 words

-- why there are no words: the parts are none, or there is no memory
abbrev pub RefusesWords : SizedBytes → PageRefusal → Type 0
RefusesWords parts Usage = (words : List (List ℕ)) → ¬ AreWords parts words
RefusesWords parts (Run fault) = fault ≡ Memory
