-- Messages about a picture on standard error (ours).
use Rattle.std.specs.Prelude.{◌≡◌, ℕ, List, ◌++◌, Some, codes}
use Rattle.std.specs.List.{slice_get}
use Rattle.le_rec.specs.Sink.{SinkState}
use Rattle.lens_reports.specs.Run.{IsTold, refusal_line}
use Rattle.lens_texts.specs.ShownPath.{shown_path}
use Rattle.lens_engines.specs.declared.object.FileRefusal.{FileRefusal}

-- `wadlens: NAME: `
abbrev pub name_head : List ℕ → List ℕ
name_head name = codes "wadlens: " ++ (shown_path name ++ codes ": ")

-- a message about a level, by the name that was asked for: `wadlens: NAME: TEXT`
abbrev pub named_line : List ℕ → List ℕ → List ℕ
named_line name text = name_head name ++ text

-- it was reported that the file of an index is refused
pub record TellsRefused (paths : List (List ℕ)) (index : ℕ) (refusal : FileRefusal) (errors errors' : SinkState) : Type 0 where
  pub path : List ℕ
  pub there : slice_get paths index ≡ Some path
  pub told : IsTold errors errors' (refusal_line path refusal)
