-- What a survey says of a level, and its line (ours).
use Rattle.std.specs.Prelude.{ℕ, Bool, false, List, ◌++◌}
use Rattle.level_starts.specs.Format.{IsFormat}
use Rattle.level_starts.specs.declared.format.Format.{Format}
use Rattle.level_starts.specs.declared.format.Format.TheVariants.{Doom}
use Rattle.wad_dir.specs.Wad.{Wad}
use Rattle.lens_engines.specs.LevelCounts.{IsCounted}
use Rattle.lens_engines.specs.Objects.{doom_members}
use Rattle.lens_engines.specs.Unread.{IsUnread}
use Rattle.lens_texts.specs.LevelObject.{level_members, other_members}
use Rattle.lens_texts.specs.Unread.{unread_format}
use Rattle.lens_engines.specs.declared.judging.Judging.{Judging}
use Rattle.lens_engines.specs.declared.surveyed.Surveyed.{Surveyed}
use Rattle.lens_engines.specs.declared.surveyed.Surveyed.TheVariants.{Judged, Unjudged}

-- what is said of the level that starts at an entry: one of Doom's format is judged, and of another it is told why it isn't
abbrev pub SurveyedAt : List Wad → Judging → ℕ → Surveyed → Type 0
SurveyedAt files judging g (Judged counted) = IsFormat files g Doom × IsCounted files judging g counted
SurveyedAt files judging g (Unjudged unjudged) = IsUnread files g unjudged.unread

-- a level's format
abbrev pub format_of : Surveyed → Format
format_of (Judged counted) = Doom
format_of (Unjudged unjudged) = unread_format unjudged.unread

-- whether there is something to draw
abbrev pub is_drawn : Surveyed → Bool
is_drawn (Judged counted) = counted.drawn
is_drawn (Unjudged unjudged) = false

-- what a level's object ends with
abbrev pub end_members : Surveyed → List ℕ
end_members (Judged counted) = doom_members counted
end_members (Unjudged unjudged) = other_members unjudged.unread

-- a level's line: its object
abbrev pub survey_line : List ℕ → List ℕ → ℕ → Surveyed → List ℕ
survey_line path name g surveyed = level_members path name g (format_of surveyed) ++ end_members surveyed
