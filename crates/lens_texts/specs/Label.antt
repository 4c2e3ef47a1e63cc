-- A level's label, and names, as lines show them (ours).
use Rattle.std.specs.Prelude.{◌≡◌, ◌↔◌, ℕ, List, ◌++◌, codes, length, nat_eq, IsTrue, Some, if◌then◌else◌}
use Rattle.std.specs.Fmt.{decimal}
use Rattle.std.specs.List.{slice_get}
use Rattle.le_rec.specs.Name.{name_of, query_of, shown_name}
use Rattle.wad_dir.specs.Entries.{names}
use Rattle.wad_dir.specs.Wad.{Wad}
use Rattle.wad_dir.specs.Winner.{Wins}
use Rattle.lens_texts.specs.declared.label.LevelLabel.{LevelLabel}

-- the label of the level that starts at an entry: hidden where its name, looked up as a query, gives another entry or none
pub record IsLabelOf (files : List Wad) (g : ℕ) (label : LevelLabel) : Type 0 where
  pub named : slice_get (names files) g ≡ Some label.name
  pub entry : label.entry ≡ g
  pub hidden : IsTrue label.hidden ↔ ¬ Wins (names files) (query_of label.name) g

-- ` (entry G)`, where it is hidden
abbrev pub entry_text : LevelLabel → List ℕ → List ℕ
entry_text label rest = if label.hidden then codes " (entry " ++ (decimal label.entry ++ (codes ")" ++ rest)) else rest

-- its name as it is shown, and its entry, where it is hidden
abbrev pub label_text : LevelLabel → List ℕ → List ℕ
label_text label rest = shown_name label.name ++ entry_text label rest

-- the name of eight bytes as it is shown, or that it is empty
abbrev pub named_text : List ℕ → List ℕ → List ℕ
named_text bytes rest = if nat_eq (length (name_of bytes)) 0 then codes "(empty)" ++ rest else shown_name (name_of bytes) ++ rest
