-- The files of a picture (ours): the first that is refused.
use Rattle.std.specs.Prelude.{◌≡◌, ℕ, List, Option, Some, take}
use Rattle.std.specs.List.{slice_get}
use Rattle.line_io.specs.Storage.{AreHeld}
use Rattle.lens_reports.specs.Files.{RefusesRead}
use Rattle.lens_reports.specs.declared.files.ReadFault.TheVariants.{Refused}
use Rattle.lens_engines.specs.declared.object.FileRefusal.{FileRefusal}

-- the files before the one of an index are read, and that one isn't
pub record IsFirstUnread (held : List ℕ → Option (List ℕ)) (paths : List (List ℕ)) (index : ℕ) (refusal : FileRefusal) : Type 0 where
  pub path : List ℕ
  pub there : slice_get paths index ≡ Some path
  pub files : List (List ℕ)
  pub read : AreHeld held (take index paths) files
  pub why : RefusesRead (held path) (Refused refusal)
