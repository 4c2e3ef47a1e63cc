-- What is drawn of a level.
use Rattle.std.proofs.Common.{◌≡◌, ◌↔◌, ◌∙◌, ℕ, zero, suc, ◌+◌, ◌*◌, ◌<◌, inl, inr, Bool, List, [], ◌∷◌, length, get_or, cond, count_by, ltb-true, lt-ltb, Option, Some, None, IfSome, refl, sym, subst, ap, arith}
use Rattle.std.specs.Prelude.{All, IsTrue, nat_lt, option_and_then}
use Rattle.std.specs.List.{slice_get}
use Rattle.std.proofs.lemmas.Bool.{cases_lt, eq-eqb}
use Rattle.std.proofs.lemmas.List.Elements.{All-from_get_or, All-get_or, All-nil}
use Rattle.std.proofs.lemmas.List.Sums.{get_or-le-sum_by}
use Rattle.std.proofs.lemmas.Option.{get_or_from_slice_get, slice_get_within}
use Rattle.le_rec.specs.Sink.{SinkState}
use Rattle.le_rec.specs.declared.records.Vertex.{Vertex}
use Rattle.map_audit.specs.Findings.{AuditHolds}
use Rattle.map_audit.proofs.ReportLemmas.{sound_by_report}
use Rattle.map_cells.specs.Cells.{AreCells, Cells, cell}
use Rattle.map_cells.specs.SectorCounts.{AreCounts, cells_of, shows}
use Rattle.map_cells.specs.Ends.{IsEnd}
use Rattle.map_cells.specs.Frame.{Encloses, Frame}
use Rattle.map_cells.specs.Grid.{Grid, IsSize, columns_of, grid_at}
use Rattle.map_cells.specs.Groups.{AreGroups, AreBlocksOf}
use Rattle.map_cells.specs.declared.block.Block.{Block}
use Rattle.map_cells.proofs.CellLemmas.{cell-beside, cell-inside, seen_at}
use Rattle.map_level.specs.Level.{Level}
use Rattle.map_tree.specs.Sound.{IsSound}
use Rattle.map_picture.specs.Counts.{CountsFindings}
use Rattle.map_picture.specs.Drawing.{AreSectorsOf, HasNothing, IsAuditedDrawn, IsAuditedText, IsDrawn, IsFrameOf, IsPicture, IsSectorOf, StopsText, TakesWhole}
use Rattle.map_picture.specs.Listing.{AreListed, IsListed}
use Rattle.map_picture.specs.Picture.{picture_text}
use Rattle.map_picture.specs.WarningMarks.{AreMarkedFor}
use Rattle.map_warnings.specs.declared.warning.Warning.{Warning}
use Rattle.map_picture.specs.declared.draw.TextFault.{TextFault}
use Rattle.map_picture.specs.declared.draw.View.{View}
use Rattle.map_picture.specs.declared.finding_counts.FindingCounts.{FindingCounts}
use Rattle.map_picture.specs.declared.draw.TextFault.TheVariants as fault
use Rattle.map_picture.specs.declared.sectors.SectorCells.{SectorCells}

-- the frame of a level of which none is asked for
pub frame_found : (level : Level) (asked result : Option Frame) → asked ≡ None
    → ((found : Frame) → (result ≡ Some found) ↔ Encloses (IsEnd level) found) → IfSome result (IsFrameOf level asked)
frame_found level asked None is told = tt
frame_found level asked (Some found) is told =
    subst (λ (o : Option Frame). IsFrameOf level o found) (sym is) ((told found).0 refl)

pub frame_none : (level : Level) (asked result : Option Frame) → asked ≡ None
    → ((result ≡ None) ↔ ((v : Vertex) → ¬ IsEnd level v)) → (result ≡ None) ↔ HasNothing level asked
frame_none level asked result is told =
    ((λ none. record { unasked = is; none = told.0 none }), (λ nothing. told.1 nothing.none))

-- a level is sound exactly where no fault is counted
pub sound_by_counts : (level : Level) (counts : FindingCounts) → CountsFindings (AuditHolds level) counts → IsSound level ↔ (counts.faults ≡ 0)
sound_by_counts level counts told =
    let decided = sound_by_report level told.found told.are in
    let faults = ap (λ (c : FindingCounts). c.faults) told.counted in
    ((λ sound. faults ∙ decided.0 sound), (λ none. decided.1 (sym faults ∙ none)))

-- a level has a fault where one is counted
pub faulty_told : (level counted : Level) (counts : FindingCounts) → counted ≡ level → CountsFindings (AuditHolds counted) counts
    → IsTrue (nat_lt 0 counts.faults) ↔ (¬ IsSound level)
faulty_told level counted counts same told =
    let decided = sound_by_counts level counts (subst (λ (l : Level). CountsFindings (AuditHolds l) counts) same told) in (
      (λ some sound. omega (arith, decided.0 sound, ltb-true 0 counts.faults some)),
      (λ broken. elim (cases_lt 0 counts.faults) [
        | inl some ↦ lt-ltb 0 counts.faults some
        | inr none ↦ absurd (broken (decided.1 (omega (arith, none))))
      ]),
    )

-- a text of one kind is one of another
pub takes_as : (P Q : List ℕ → Type 0) (before after : SinkState) → ((text : List ℕ) → P text → Q text) → TakesWhole P before after → TakesWhole Q before after
takes_as P Q before after turns took = record { text = took.text; is = turns took.text took.is; whole = took.whole; sound = took.sound }

pub stops_as : {W : Type 0} (state : W → SinkState) (P Q : List ℕ → Type 0) (out out' : W) (fault : TextFault)
    → ((text : List ℕ) → P text → Q text) → StopsText state P out out' fault → StopsText state Q out out' fault
stops_as state P Q out out' fault.Memory turns stops = stops
stops_as state P Q out out' fault.Write turns stops =
    record { text = stops.text; is = turns stops.text stops.is; front = stops.front; failed = stops.failed }

-- the picture by the sectors that the cells show
pub drawn_by : (level : Level) (cells : Cells) (grid : Grid) (shown seen : List SectorCells) (marked : List Warning)
    → IsSound level → AreCells level cells → grid ≡ cells.grid → seen ≡ shown → AreSectorsOf cells shown
    → (text : List ℕ) → IsAuditedText level grid seen marked text → IsAuditedDrawn level cells.grid marked text
drawn_by level cells grid shown seen marked sound are over same sectors text by = record {
  found = by.found;
  audited = by.audited;
  drawn = record {
    shown = shown;
    shows = inl (sound, record { cells = cells; over = refl; are = are; sectors = sectors });
    is =
        subst (λ (xs : List SectorCells). text ≡ picture_text level by.found cells.grid.frame cells.grid.size xs marked) same
        (subst (λ (g : Grid). text ≡ picture_text level by.found g.frame g.size seen marked) over by.is);
  };
}

-- the picture of a level that isn't sound
pub drawn_bare : (level : Level) (grid : Grid) (marked : List Warning) → ¬ IsSound level
    → (text : List ℕ) → IsAuditedText level grid [] marked text → IsAuditedDrawn level grid marked text
drawn_bare level grid marked broken text by = record {
  found = by.found;
  audited = by.audited;
  drawn = record { shown = []; shows = inr (broken, refl); is = by.is };
}

-- the picture in the frame that is asked for, by cells of the size that is
pub drawn_as_asked : (level counted : Level) (asked : View) (frame : Frame) (grid : Grid) (seen marked : List Warning) → counted ≡ level
    → IsFrameOf level asked.frame frame → grid.frame ≡ frame → IsSize frame asked.cells grid.size → seen ≡ marked → AreMarkedFor asked.warnings level marked
    → (text : List ℕ) → IsAuditedDrawn counted grid seen text → IsPicture level asked text
drawn_as_asked level counted asked frame grid seen marked same framed over sized is marks text drawn =
    let here = subst (λ (l : Level). IsAuditedDrawn l grid seen text) same drawn in
    record {
      found = here.found;
      audited = here.audited;
      frame = frame;
      framed = framed;
      size = grid.size;
      sized = sized;
      marked = seen;
      marks = subst (AreMarkedFor asked.warnings level) (sym is) marks;
      drawn = subst (λ f. IsDrawn level here.found (grid_at f grid.size) seen text) over here.drawn;
    }

-- what one thing that is seen adds to a count
abbrev weigh : Bool → ℕ
weigh b = cond b 1 0

abbrev weight : ℕ → Option ℕ → ℕ
weight s seen = weigh (shows s seen)

-- where a cell shows a sector it has cells
counted : (s : ℕ) (seen : List (Option ℕ)) (p : ℕ) → seen_at seen p ≡ Some s → 0 < count_by (shows s) seen
counted s seen p at = go (slice_get seen p) refl at
  where
    go : (o : Option (Option ℕ)) → slice_get seen p ≡ o → option_and_then (λ x. x) o ≡ Some s → 0 < count_by (shows s) seen
    go None is none = cc
    go (Some o) is some =
        let got : get_or seen p None ≡ Some s = get_or_from_slice_get seen p o None is ∙ some in
        let one = get_or-le-sum_by (weight s) seen p None (slice_get_within seen p o is) in
        let has : weight s (get_or seen p None) ≡ weight s (Some s) = ap (weight s) got in
        let full : weight s (Some s) ≡ suc zero = ap weigh (eq-eqb s s refl) in
        omega (arith, one, has, full)

cell_counted : (cells : Cells) (i j s : ℕ) → cell cells i j ≡ Some s → 0 < cells_of cells s
cell_counted cells i j s shown = elim (cases_lt i (columns_of cells.grid)) [
  | inl column ↦ counted s cells.shown (j * columns_of cells.grid + i) (sym (cell-inside cells i j column) ∙ shown)
  | inr past ↦ let both : None ≡ Some s = sym (cell-beside cells i j past) ∙ shown in cc
]

-- the sectors that are listed are those that the cells show
pub sectors_listed : (cells : Cells) (lists : List (List Block)) (counts : List ℕ) (list : List SectorCells)
    → AreGroups (cell cells) lists → AreCounts cells counts → AreListed lists counts (length lists) list → AreSectorsOf cells list
sectors_listed cells lists counts list groups counted listed = record {
  ascending = listed.ascending;
  each = all-sectors list listed.each;
  every = λ i j s shown.
      listed.every s (groups.every i j s shown) (subst (λ n. 0 < n) (sym (counted s)) (cell_counted cells i j s shown));
}
  where
    sector_of : (one : SectorCells) → IsListed lists counts (length lists) one → IsSectorOf cells one
    sector_of one is = record {
      some = is.some;
      count = is.count ∙ counted one.number;
      blocks = subst (AreBlocksOf (cell cells) one.number) (sym is.blocks) (groups.blocks one.number is.below);
    }

    all-sectors : (xs : List SectorCells) → All (IsListed lists counts (length lists)) xs → All (IsSectorOf cells) xs
    all-sectors [] were = All-nil (IsSectorOf cells)
    all-sectors (x ∷ xs) were =
        All-from_get_or (IsSectorOf cells) (x ∷ xs) x (λ i within.
        sector_of (get_or (x ∷ xs) i x) (All-get_or (IsListed lists counts (length lists)) (x ∷ xs) i x within were))
