-- The file of an opened level.
use Rattle.std.proofs.Common.{◌≡◌, ℕ, ◌<◌, ◌≤◌, List, length, refl}
use Rattle.le_rec.specs.Name.{query_of}
use Rattle.level_starts.specs.LevelFile.{HoldsLumps}
use Rattle.map_level.specs.Level.{Level}
use Rattle.map_level.specs.Opening.{AreLumps, IsLevel}
use Rattle.map_level.specs.declared.reading.Reading.TheVariants.{Signed}
use Rattle.wad_dir.specs.Packing.{packed}
use Rattle.wad_dir.specs.Wad.{Wad}
use Rattle.wad_dir.specs.declared.packer.PackFault.{PackFault}
use Rattle.wad_dir.specs.declared.packer.TheConstants.{MAX_BYTES}
use Rattle.wad_dir.specs.declared.packer.PackFault.TheVariants.{TooLarge, Memory}
use Rattle.look_engines.specs.Engines.Extract.{HasLumps, IsPacked, RefusesExtract, extracted}
use Rattle.look_engines.specs.Opening.{AreRead}
use Rattle.look_engines.specs.declared.fault.RunFault.TheVariants as fault

module _ (bytes : List (List ℕ)) (asked : List ℕ) (files : List Wad) (level : Level) (read : AreRead bytes files) (opened : IsLevel files (query_of asked) Signed level) where
  has_lumps : HasLumps bytes asked (extracted level.names opened.there.lumps)
  has_lumps = record { files = files; level = level; lumps = opened.there.lumps; read = read; opened = opened; stand = opened.there.stand; are = refl }

  pub level_packed : (file : List ℕ) → ((lumps : List (List ℕ)) → AreLumps files level.label lumps → file ≡ packed (extracted level.names lumps))
      → length file ≤ MAX_BYTES → ((lumps : List (List ℕ)) → AreLumps files level.label lumps → HoldsLumps file (extracted level.names lumps)) → IsPacked bytes asked file
  level_packed file is fits holds = record {
    named = extracted level.names opened.there.lumps;
    has = has_lumps;
    is = is opened.there.lumps opened.there.stand;
    fits = fits;
    holds = holds opened.there.lumps opened.there.stand;
  }

  pub level_refused : (why : PackFault) → ((lumps : List (List ℕ)) → AreLumps files level.label lumps → why ≡ TooLarge → MAX_BYTES < length (packed (extracted level.names lumps)))
      → RefusesExtract bytes asked (fault.Pack why)
  level_refused TooLarge large = (extracted level.names opened.there.lumps, has_lumps, large opened.there.lumps opened.there.stand refl)
  level_refused Memory large = tt
