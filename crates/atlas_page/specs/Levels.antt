-- The levels of a file as rows of the page (ours). Each row is exact.
use Rattle.std.specs.Prelude.{◌≡◌, ℕ, List, [], ◌∷◌, ◌++◌, All, Some, map}
use Rattle.std.specs.List.{slice_get}
use Rattle.level_starts.specs.Starts.{IsNextStart}
use Rattle.atlas_page.specs.declared.levels.Origin.{Origin}
use Rattle.atlas_page.specs.declared.row.Row.{Row}
use Rattle.wad_dir.specs.Entries.{names}
use Rattle.wad_dir.specs.Wad.{Wad}
use Rattle.lens_engines.specs.Found.{IsFoundIn}
use Rattle.lens_engines.specs.Survey.{AreStartsBelow}
use Rattle.lens_engines.specs.Surveyed.{SurveyedAt}
use Rattle.lens_engines.specs.declared.surveyed.Surveyed.{Surveyed}
use Rattle.lens_engines.specs.declared.surveyed.Surveyed.TheVariants.{Judged, Unjudged}
use Rattle.atlas_page.specs.Messages.{left_item, message_item}
use Rattle.atlas_page.specs.declared.messages.MessageItems.{MessageItems}

-- the items of a level's first messages: those of a check of the level that starts at an entry, linked to that level's picture if it has one; none of a level that
-- isn't judged
abbrev pub AreMessages : Origin → List Wad → ℕ → Surveyed → List ℕ → Type 0
AreMessages origin files g (Judged counted) items =
    let form : MessageItems = record { file = origin.file; entry = g; drawn = counted.drawn } in
    IsFoundIn (message_item form) left_item origin.most origin.judging files g items
AreMessages origin files g (Unjudged unjudged) items = items ≡ []

-- the row of the level that starts at an entry
pub record IsRow (origin : Origin) (files : List Wad) (g : ℕ) (row : Row) : Type 0 where
  pub file : row.file ≡ origin.file
  pub path : row.path.now ≡ origin.path.now
  pub entry : row.entry ≡ g
  pub named : slice_get (names files) g ≡ Some row.name
  pub found : SurveyedAt files origin.judging g row.found
  pub messages : AreMessages origin files g row.found row.messages.items.items

-- the rows of all levels that start below an entry, in the order of their labels
pub record AreRowsBelow (origin : Origin) (files : List Wad) (end : ℕ) (rows : List Row) : Type 0 where
  pub starts : AreStartsBelow (names files) end (map (λ row. row.entry) rows)
  pub each : All (λ row. IsRow origin files row.entry row) rows

-- these rows were added
pub record AddsRows (origin : Origin) (files : List Wad) (end : ℕ) (old new : List Row) : Type 0 where
  pub added : List Row
  pub is : new ≡ old ++ added
  pub are : AreRowsBelow origin files end added

-- the rows of the first levels were added, and another level follows
pub record AddsSome (origin : Origin) (files : List Wad) (old new : List Row) : Type 0 where
  pub end : ℕ
  pub added : AddsRows origin files end old new
  pub g : ℕ
  pub next : IsNextStart (names files) end g

-- one row was
pub record AddsRow (origin : Origin) (files : List Wad) (g : ℕ) (old new : List Row) : Type 0 where
  pub row : Row
  pub is : new ≡ old ++ row ∷ []
  pub exact : IsRow origin files g row
