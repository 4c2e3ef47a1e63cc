-- How the pictures of rows come into a folder.
use Rattle.std.proofs.Common.{◌≡◌, ℕ, ◌+◌, ◌<◌, List, [], ◌∷◌, ◌++◌, length, take, get_or, Option, Result, Ok, Err, true, false, refl, sym, ap, ◌∙◌, subst}
use Rattle.std.specs.Prelude.{OnErr, OnOk}
use Rattle.std.proofs.lemmas.List.{take_more}
use Rattle.le_rec.specs.Sink.{SinkState}
use Rattle.level_starts.specs.Format.{IsFormat}
use Rattle.level_starts.specs.declared.format.Format.TheVariants.{Doom}
use Rattle.map_level.proofs.LevelLemmas.{IsLevelAt-one}
use Rattle.map_level.specs.Level.{Level}
use Rattle.map_level.specs.Opening.{IsLevelAt}
use Rattle.map_level.specs.declared.reading.Reading.{Reading}
use Rattle.map_picture.specs.Drawing.{HasNothing, IsPicture, TakesWhole}
use Rattle.atlas_page.specs.PictureName.{picture_name}
use Rattle.atlas_page.specs.declared.row.Row.{Row}
use Rattle.lens_engines.specs.LevelCounts.{HasLines}
use Rattle.lens_engines.specs.Surveyed.{SurveyedAt, is_drawn}
use Rattle.lens_engines.specs.declared.surveyed.Surveyed.{Surveyed}
use Rattle.lens_engines.specs.declared.surveyed.Surveyed.TheVariants as surveyed
use Rattle.wad_dir.specs.Wad.{Wad}
use Rattle.lens_engines.specs.declared.judging.Judging.{Judging}
use Rattle.lens_commands.specs.Folder.{IsBegun, Kept, KeepsFile, with_files}
use Rattle.lens_commands.specs.AtlasPictures.{DrawsFile, DrawsRow, DrawsRows, DrawsSome, ShowsRows, of_none, with_row}
use Rattle.lens_commands.specs.declared.atlas.fault.KeepFault.{KeepFault}
use Rattle.lens_commands.proofs.FolderLemmas.{kept_whole, with_files-more, with_files-none}
use Rattle.map_cells.specs.Frame.{Frame}
use Rattle.map_picture.specs.declared.draw.View.{View}

-- a row with a picture is that of a level of Doom's format, in which there is something to draw
pub drawn_level : (files : List Wad) (judging : Judging) (g : ℕ) (told : Surveyed) → SurveyedAt files judging g told → is_drawn told ≡ true
    → IsFormat files g Doom × ((level : Level) → IsLevelAt files g judging.reading level → HasLines level)
drawn_level files judging g (surveyed.Judged counted) is drawn = (
  is.0,
  λ level there. subst HasLines (IsLevelAt-one files g judging.reading is.1.level level is.1.there there) (is.1.drawn.0 drawn),
)
drawn_level files judging g (surveyed.Unjudged unjudged) is drawn = absurd (cc)

-- where something is to be drawn a frame isn't wanting
pub drawn_lines : (level : Level) (asked : Option Frame) → HasLines level → ¬ HasNothing level asked
drawn_lines level asked lines nothing = nothing.none lines.0 lines.1

-- a level's picture was put into a folder, or not
pub picture_kept : (drawn : View) (level : Level) (name : List ℕ) (old new : Option (List Kept)) (before after : SinkState) (result : Result (Unit {0}) KeepFault)
    → IsBegun old before → TakesWhole (IsPicture level drawn) before after → KeepsFile old new after name result
    → OnOk result (DrawsFile drawn level name old new) × OnErr result (new ≡ old)
picture_kept drawn level name old new before after (Ok x) begun took kept = (
  record {
    file = record { name = name; text = took.text };
    is = record { named = refl; exact = took.is };
    adds = kept_whole old new before after took.text name x begun took.whole kept;
  },
  tt,
)
picture_kept drawn level name old new before after (Err why) begun took kept = (tt, kept)

module _ (drawn : View) (reading : Reading) (files : List Wad) where
  -- the picture of a row with one
  pub row_drawn : (row : Row) (level : Level) (old new : Option (List Kept)) → is_drawn row.found ≡ true → IsLevelAt files row.entry reading level
      → DrawsFile drawn level (picture_name row.file row.entry) old new → DrawsRow drawn reading files row old new
  row_drawn row level old new drawn there draws = record {
    shown = draws.file ∷ [];
    exact = rw drawn (record { file = draws.file; of_row = record { level = level; there = there; is = draws.is }; is = refl });
    adds = draws.adds;
  }

  -- a row without one
  pub row_undrawn : (row : Row) (old : Option (List Kept)) → is_drawn row.found ≡ false → DrawsRow drawn reading files row old old
  row_undrawn row old none = record { shown = []; exact = rw none refl; adds = sym (with_files-none old) }

  -- no row yet
  pub rows_none : (old : Option (List Kept)) → DrawsRows drawn reading files [] old old
  rows_none old = record { shown = []; exact = of_none; adds = sym (with_files-none old) }

  -- one row more
  pub rows_more : (rows : List Row) (i : ℕ) (d : Row) (old between new : Option (List Kept)) → i < length rows
      → DrawsRows drawn reading files (take i rows) old between → DrawsRow drawn reading files (get_or rows i d) between new
      → DrawsRows drawn reading files (take (i + 1) rows) old new
  rows_more rows i d old between new within so_far one = record {
    shown = so_far.shown ++ one.shown;
    exact = subst (λ rs. ShowsRows drawn reading files rs (so_far.shown ++ one.shown)) (sym (take_more rows i d within))
        (with_row (take i rows) so_far.shown (get_or rows i d) one.shown so_far.exact one.exact);
    adds = one.adds ∙ ap (λ f. with_files f one.shown) so_far.adds ∙ with_files-more old so_far.shown one.shown;
  }

  -- and no more
  pub rows_some : (rows : List Row) (i : ℕ) (old between new : Option (List Kept)) → DrawsRows drawn reading files (take i rows) old between → new ≡ between
      → DrawsSome drawn reading files rows old new
  rows_some rows i old between new so_far same = record { count = i; draws = subst (DrawsRows drawn reading files (take i rows) old) (sym same) so_far }
