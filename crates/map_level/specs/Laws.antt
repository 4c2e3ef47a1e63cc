-- Laws of levels and of findings (ours).
use Rattle.std.specs.Prelude.{◌≡◌, ℕ, List}
use Rattle.wad_dir.specs.Wad.{Wad}
use Rattle.map_level.specs.Level.{Level}
use Rattle.map_level.specs.Opening.{IsLevel, RefusesLevel}
use Rattle.map_level.specs.Findings.{AreFindings}
use Rattle.map_level.specs.declared.level.LevelFault.{LevelFault}
use Rattle.map_level.specs.declared.reading.Reading.{Reading}
use Rattle.map_level.specs.declared.finding.Code.{Code}
use Rattle.map_level.specs.declared.finding.Finding.{Finding}

-- files and a name have at most one level under a reading
abbrev pub OneLevel : Type 0
OneLevel =
    (files : List Wad) (name : List ℕ) (reading : Reading) (level other : Level) →
    IsLevel files name reading level → IsLevel files name reading other → level ≡ other

-- files that are refused under a name have no level of it
abbrev pub RefusedHaveNoLevel : Type 0
RefusedHaveNoLevel =
    (files : List Wad) (name : List ℕ) (reading : Reading) (fault : LevelFault) (level : Level) →
    RefusesLevel files name fault → IsLevel files name reading level → ⊥

-- at most one fault refuses files under a name
abbrev pub OneLevelFault : Type 0
OneLevelFault =
    (files : List Wad) (name : List ℕ) (fault other : LevelFault) →
    RefusesLevel files name fault → RefusesLevel files name other → fault ≡ other

-- at most one list is that of the findings
abbrev pub OneList : (Code → ℕ → Type 0) → Type 0
OneList holds =
    (found other : List Finding) → AreFindings holds found → AreFindings holds other → found ≡ other
