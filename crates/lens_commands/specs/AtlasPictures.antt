-- The pictures of a page's rows (ours): one for each level that the page shows with a picture, under the name that the page links to.
use Rattle.std.specs.Prelude.{◌≡◌, ℕ, List, [], ◌∷◌, ◌++◌, Option, MatchBool, take}
use Rattle.map_level.specs.Level.{Level}
use Rattle.map_level.specs.Opening.{IsLevelAt}
use Rattle.map_level.specs.declared.reading.Reading.{Reading}
use Rattle.map_picture.specs.Drawing.{IsPicture}
use Rattle.map_picture.specs.declared.draw.DrawFault.{DrawFault}
use Rattle.map_picture.specs.declared.draw.DrawFault.TheVariants as draw
use Rattle.atlas_page.specs.PictureName.{picture_name}
use Rattle.atlas_page.specs.declared.row.Row.{Row}
use Rattle.wad_dir.specs.Wad.{Wad}
use Rattle.lens_engines.specs.Surveyed.{is_drawn}
use Rattle.lens_commands.specs.Folder.{Kept, with_files}
use Rattle.lens_commands.specs.declared.atlas.fault.KeepFault.{KeepFault}
use Rattle.lens_commands.specs.declared.atlas.fault.KeepFault.TheVariants as fault
use Rattle.map_picture.specs.declared.draw.View.{View}

-- the picture of a level under a name, as it is asked for
pub record IsFileOf (drawn : View) (level : Level) (name : List ℕ) (file : Kept) : Type 0 where
  pub named : file.name ≡ name
  pub exact : IsPicture level drawn file.text

-- the picture of a row's level
pub record IsPictureOf (drawn : View) (reading : Reading) (files : List Wad) (row : Row) (file : Kept) : Type 0 where
  pub level : Level
  pub there : IsLevelAt files row.entry reading level
  pub is : IsFileOf drawn level (picture_name row.file row.entry) file

-- that alone
pub record ShowsOne (drawn : View) (reading : Reading) (files : List Wad) (row : Row) (shown : List Kept) : Type 0 where
  pub file : Kept
  pub of_row : IsPictureOf drawn reading files row file
  pub is : shown ≡ file ∷ []

-- the picture of a row, where it has one
abbrev pub ShowsRow : View → Reading → List Wad → Row → List Kept → Type 0
ShowsRow drawn reading files row shown = MatchBool (is_drawn row.found) (ShowsOne drawn reading files row shown) (shown ≡ [])

-- those of some rows, in their order
pub data ShowsRows (drawn : View) (reading : Reading) (files : List Wad) : List Row → List Kept → Type 0 where
  of_none : ShowsRows drawn reading files [] []
  with_row : (rows : List Row) (shown : List Kept) (row : Row) (one : List Kept)
      → ShowsRows drawn reading files rows shown → ShowsRow drawn reading files row one
      → ShowsRows drawn reading files (rows ++ row ∷ []) (shown ++ one)

-- why a picture isn't whole where its drawing ended
abbrev pub fault_of : DrawFault → KeepFault
fault_of draw.Memory = fault.Memory
fault_of (draw.Write faulty) = fault.Write
fault_of draw.NothingToDraw = fault.Write

-- a level's picture was added to a folder
pub record DrawsFile (drawn : View) (level : Level) (name : List ℕ) (old new : Option (List Kept)) : Type 0 where
  pub file : Kept
  pub is : IsFileOf drawn level name file
  pub adds : new ≡ with_files old (file ∷ [])

-- the picture of a row was, where it has one
pub record DrawsRow (drawn : View) (reading : Reading) (files : List Wad) (row : Row) (old new : Option (List Kept)) : Type 0 where
  pub shown : List Kept
  pub exact : ShowsRow drawn reading files row shown
  pub adds : new ≡ with_files old shown

-- those of some rows were
pub record DrawsRows (drawn : View) (reading : Reading) (files : List Wad) (rows : List Row) (old new : Option (List Kept)) : Type 0 where
  pub shown : List Kept
  pub exact : ShowsRows drawn reading files rows shown
  pub adds : new ≡ with_files old shown

-- and none of the others
pub record DrawsSome (drawn : View) (reading : Reading) (files : List Wad) (rows : List Row) (old new : Option (List Kept)) : Type 0 where
  pub count : ℕ
  pub draws : DrawsRows drawn reading files (take count rows) old new
