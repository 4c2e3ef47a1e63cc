-- How rows are added, level by level.
use Rattle.std.proofs.Common.{◌≡◌, ℕ, ◌+◌, List, [], ◌∷◌, ◌++◌, length, map, refl, sym, ap, ◌∙◌, subst}
use Rattle.std.proofs.lemmas.List.{append-nil, append_assoc}
use Rattle.std.proofs.lemmas.List.Elements.{All-nil, All-push}
use Rattle.level_starts.specs.Starts.{IsNextStart, NoneStartsFrom}
use Rattle.wad_dir.specs.Entries.{names}
use Rattle.wad_dir.specs.Wad.{Wad}
use Rattle.lens_engines.specs.Survey.{AreStartsBelow}
use Rattle.lens_engines.proofs.SurveyLemmas.{all_starts, no_starts, start_more}
use Rattle.atlas_page.specs.Levels.{AddsRow, AddsRows, IsRow}
use Rattle.atlas_page.specs.declared.levels.Origin.{Origin}
use Rattle.atlas_page.specs.declared.row.Row.{Row}

-- no row yet
pub AddsRows-none : (origin : Origin) (files : List Wad) (old : List Row) → AddsRows origin files 0 old old
AddsRows-none origin files old = record {
  added = [];
  is = sym (append-nil old);
  are = record { starts = no_starts (names files); each = All-nil (λ row. IsRow origin files row.entry row) };
}

entries-push : (rows : List Row) (row : Row) → map (λ r. r.entry) (rows ++ row ∷ []) ≡ map (λ r. r.entry) rows ++ row.entry ∷ []
entries-push [] row = refl
entries-push (r ∷ rows) row = ap (λ es. r.entry ∷ es) (entries-push rows row)

-- the row of the next level
pub AddsRows-more : (origin : Origin) (files : List Wad) (from g : ℕ) (old between new : List Row) → AddsRows origin files from old between
    → IsNextStart (names files) from g → AddsRow origin files g between new → AddsRows origin files (g + 1) old new
AddsRows-more origin files from g old between new so_far next adds = record {
  added = so_far.added ++ adds.row ∷ [];
  is = adds.is ∙ ap (λ rows. rows ++ adds.row ∷ []) so_far.is ∙ append_assoc old so_far.added (adds.row ∷ []);
  are = record {
    starts = subst (AreStartsBelow (names files) (g + 1)) (ap (λ e. map (λ (r : Row). r.entry) so_far.added ++ e ∷ []) (sym adds.exact.entry) ∙ sym (entries-push so_far.added adds.row))
        (start_more (names files) from g (map (λ (r : Row). r.entry) so_far.added) so_far.are.starts next);
    each = All-push (λ row. IsRow origin files row.entry row) so_far.added adds.row so_far.are.each
        (subst (λ (e : ℕ). IsRow origin files e adds.row) (sym adds.exact.entry) adds.exact);
  };
}

-- none is left
pub AddsRows-end : (origin : Origin) (files : List Wad) (from : ℕ) (old new : List Row) → AddsRows origin files from old new
    → NoneStartsFrom (names files) from → AddsRows origin files (length (names files)) old new
AddsRows-end origin files from old new so_far none = record {
  added = so_far.added;
  is = so_far.is;
  are = record { starts = all_starts (names files) from (map (λ (r : Row). r.entry) so_far.added) so_far.are.starts none; each = so_far.are.each };
}
