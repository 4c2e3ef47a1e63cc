-- What isn't gone over (ours): a level that there is no memory to judge, and a file.
use Rattle.std.specs.Prelude.{◌≡◌, ℕ, List, Result, Err}
use Rattle.level_starts.specs.Format.{IsFormat}
use Rattle.level_starts.specs.declared.format.Format.TheVariants.{Doom}
use Rattle.wad_dir.specs.Directory.{HasDirectory}
use Rattle.wad_dir.specs.Refusal.{RefusesWad}
use Rattle.wad_dir.specs.Wad.{Wad}
use Rattle.lens_engines.specs.declared.verdict.LevelsFault.{LevelsFault}
use Rattle.lens_engines.specs.declared.verdict.LevelsFault.TheVariants.{NoWad, Write, Memory}

-- nothing was written for want of memory
pub record WantsMemory {W T : Type 0} (out out' : W) (result : Result T LevelsFault) : Type 0 where
  pub ended : result ≡ Err Memory
  pub untouched : out' ≡ out

-- there was no memory to judge the level at an entry; it is of Doom's format, as no other takes memory
pub record LeavesLevel {W T : Type 0} (files : List Wad) (g : ℕ) (out out' : W) (result : Result T LevelsFault) : Type 0 where
  pub doom : IsFormat files g Doom
  pub wants : WantsMemory out out' result

-- why a file isn't gone over: its bytes have no directory; or they have one, and a growth was refused
abbrev pub RefusesBytes : List ℕ → LevelsFault → Type 0
RefusesBytes bytes (NoWad why) = RefusesWad bytes why
RefusesBytes bytes Memory = HasDirectory bytes
RefusesBytes bytes (Write found) = ⊥

-- and nothing was written
pub record LeavesFile {W T : Type 0} (bytes : List ℕ) (out out' : W) (result : Result T LevelsFault) : Type 0 where
  pub fault : LevelsFault
  pub ended : result ≡ Err fault
  pub holds : RefusesBytes bytes fault
  pub untouched : out' ≡ out
