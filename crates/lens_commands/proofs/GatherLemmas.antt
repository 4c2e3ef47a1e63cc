-- How files come onto the page and into the folder.
use Rattle.std.proofs.Common.{◌≡◌, ℕ, ◌+◌, ◌<◌, ◌≤◌, inl, inr, Bor, List, [], ◌∷◌, ◌++◌, length, take, drop, map, get_or, All, Option, Some, Result, Ok, Err, refl, sym, ap, ◌∙◌, subst, arith}
use Rattle.std.specs.Prelude.{◌-◌, IfOk, OnErr, OnOk, suc}
use Rattle.std.specs.Io.KnownBytes.{Keeps}
use Rattle.std.proofs.lemmas.List.{append-nil, drop_more, length-append, length-map, length-take-le, map-append, map_push, take-append-drop, take_all, take_more}
use Rattle.le_rec.specs.Sink.{SinkState}
use Rattle.lens_engines.specs.declared.object.FileRefusal.{FileRefusal}
use Rattle.lens_engines.specs.declared.object.FileRefusal.TheVariants as refusal
use Rattle.atlas_page.specs.Levels.{AddsRows}
use Rattle.atlas_page.specs.declared.levels.Origin.{Origin}
use Rattle.atlas_page.specs.declared.refused.RefusedFile.{RefusedFile}
use Rattle.atlas_page.specs.declared.row.Row.{Row}
use Rattle.wad_dir.specs.Entries.{names}
use Rattle.wad_dir.specs.Wad.{IsRead, Wad}
use Rattle.lens_reports.specs.Files.{RefusesRead, at_path}
use Rattle.lens_reports.specs.Run.{RefusesFile, TellsPath, TellsWord, WritesRefusal, no_tally, tally_with}
use Rattle.lens_reports.specs.declared.files.ReadFault.TheVariants as read
use Rattle.lens_reports.specs.declared.tell.Request.{Request}
use Rattle.lens_reports.specs.declared.tell.ReportSum.{ReportSum}
use Rattle.lens_reports.specs.declared.tell.ReportKind.TheVariants.{Survey}
use Rattle.line_io.specs.declared.input.TheConstants.{MAX_READ}
use Rattle.lens_commands.specs.Folder.{Kept, with_files}
use Rattle.lens_commands.specs.Gathered.{AddsFront, AddsLevels, AddsPath, AddsSome, Gathers, GathersAll, GathersSome, IsOrigin, of_none, with_path}
use Rattle.lens_commands.specs.AtlasPictures.{DrawsRows, DrawsSome, ShowsRows}
use Rattle.lens_commands.specs.declared.atlas.gather.Gathered.{Gathered}
use Rattle.lens_commands.specs.declared.atlas.job.AtlasRequest.{AtlasRequest}
use Rattle.lens_commands.proofs.FolderLemmas.{with_files-more, with_files-none}
use Rattle.map_picture.specs.declared.draw.View.{View}

pub on_ok : {T E P Q : Type 0} (result : Result T E) → (P → Q) → OnOk result P → OnOk result Q
on_ok (Ok x) f p = f p
on_ok (Err e) f p = tt

pub on_err : {T E P Q : Type 0} (result : Result T E) → (P → Q) → OnErr result P → OnErr result Q
on_err (Ok x) f p = tt
on_err (Err e) f p = f p

pub on_err_always : {T E P : Type 0} (result : Result T E) → P → OnErr result P
on_err_always (Ok x) p = tt
on_err_always (Err e) p = p

dropped : {A : Type 0} (xs ys : List A) → drop (length xs) (xs ++ ys) ≡ ys
dropped [] ys = refl
dropped (x ∷ xs) ys = dropped xs ys

-- the rows behind those that there were are those that were added
pub added_part : (origin : Origin) (files : List Wad) (end n : ℕ) (old new : List Row) (adds : AddsRows origin files end old new) → n ≡ length old
    → drop n new ≡ adds.added
added_part origin files end n old new adds same = rw (same, adds.is) (dropped old adds.added)

-- and so are as many of these as there are
pub part_added : (origin : Origin) (files : List Wad) (end n : ℕ) (rows old new : List Row) (adds : AddsRows origin files end old new) → rows ≡ new → n ≡ length old
    → take (length rows - n) (drop n rows) ≡ adds.added
part_added origin files end n rows old new adds same count =
    let behind : drop n rows ≡ adds.added = ap (drop n) same ∙ added_part origin files end n old new adds count in
    ap (take (length rows - n)) behind
    ∙ take_all (length rows - n) adds.added (omega (arith, ap length same, ap length adds.is, length-append old adds.added, count))

-- a refused file was told
pub path_told : {E : Type 0} (held : Option (List ℕ)) (asked : Request) (path : List ℕ) (refusal : FileRefusal) (out out' errors errors' : SinkState) (result : Result ReportSum E)
    → RefusesFile (at_path held) asked.word refusal → IfOk result (WritesRefusal asked.word path refusal out out' errors errors') → IfOk result (TellsPath (at_path held) asked path out out' errors errors')
path_told held asked path refusal out out' errors errors' (Ok tally) why writes = inr (record { refusal = refusal; why = why; writes = writes })
path_told held asked path refusal out out' errors errors' (Err fault) why writes = tt

-- it was, by ends that nothing was told of it before
pub written_from : {W E F : Type 0} (state : W → SinkState) (state' : E → SinkState) (out between : W) (errors told : E) (path : List ℕ) (refusal : FileRefusal)
    (after after_errors : SinkState) (result : Result ReportSum F) → between ≡ out → told ≡ errors
    → IfOk result (WritesRefusal Survey path refusal (state between) after (state' told) after_errors)
    → IfOk result (WritesRefusal Survey path refusal (state out) after (state' errors) after_errors)
written_from state state' out between errors told path refusal after after_errors result same same_errors writes =
    subst (λ e. IfOk result (WritesRefusal Survey path refusal (state out) after (state' e) after_errors)) same_errors
    (subst (λ o. IfOk result (WritesRefusal Survey path refusal (state o) after (state' told) after_errors)) same writes)

-- why a file isn't read is why it is refused
pub file_refused : (held : Option (List ℕ)) (refusal : FileRefusal) → RefusesRead held (read.Refused refusal) → RefusesFile (at_path held) Survey refusal
file_refused held refusal.Unopened why = why
file_refused held refusal.Unread why = why
file_refused held refusal.TooLarge why = why
file_refused held (refusal.NoWad fault) why = absurd why

module _ (drawn : View) (origin : Origin) (bytes : List ℕ) (old new : List Row) (k0 k1 : Option (List Kept)) where
  -- the levels of a file with their pictures
  pub levels_added : (files : List Wad) (part : List Row) → map (λ file. file.bytes) files ≡ bytes ∷ [] → All IsRead files
      → (adds : AddsRows origin files (length (names files)) old new) → part ≡ adds.added
      → DrawsRows drawn origin.judging.reading files part k0 k1 → AddsLevels drawn origin bytes old new k0 k1
  levels_added [] part of_bytes read adds same draws = absurd (cc)
  levels_added (file ∷ []) part of_bytes read adds same draws = record {
    file = file;
    more = adds.added;
    are = record { of_bytes = cc; read = read 0 file (omega arith); are = adds.are };
    pictures = draws.shown;
    shows = subst (λ rows. ShowsRows drawn origin.judging.reading (file ∷ []) rows draws.shown) same draws.exact;
    rows = adds.is;
    adds = draws.adds;
  }
  levels_added (file ∷ other ∷ files) part of_bytes read adds same draws = absurd (cc)

  -- and with some of them
  pub levels_stopped : (files : List Wad) (part : List Row) → map (λ file. file.bytes) files ≡ bytes ∷ [] → All IsRead files
      → (adds : AddsRows origin files (length (names files)) old new) → part ≡ adds.added
      → DrawsSome drawn origin.judging.reading files part k0 k1 → AddsSome drawn origin bytes k0 k1
  levels_stopped [] part of_bytes read adds same some = absurd (cc)
  levels_stopped (file ∷ []) part of_bytes read adds same some = inr (record {
    file = file;
    rows = adds.added;
    are = record { of_bytes = cc; read = read 0 file (omega arith); are = adds.are };
    count = some.count;
    shown = some.draws.shown;
    pictures = subst (λ rows. ShowsRows drawn origin.judging.reading (file ∷ []) (take some.count rows) some.draws.shown) same some.draws.exact;
    adds = some.draws.adds;
  })
  levels_stopped (file ∷ other ∷ files) part of_bytes read adds same some = absurd (cc)

module _ (held : Option (List ℕ)) (drawn : View) (origin : Origin) (k0 k1 : Option (List Kept)) where
  module _ (out out' errors errors' : SinkState) where
    -- a file with its levels was added
    pub path_levels : (bytes : List ℕ) (old new : Gathered) (tally : ReportSum) → Keeps held (Some bytes) → length bytes ≤ MAX_READ
        → TellsWord Survey origin.path.now bytes origin.judging out out' errors errors' tally
        → AddsLevels drawn origin bytes old.rows.items new.rows.items k0 k1
        → new.refused.items ≡ old.refused.items → new.tally ≡ old.tally → AddsPath held drawn origin old new k0 k1 out out' errors errors' tally
    path_levels bytes old new tally holds few told levels same kept = record {
      more = levels.more;
      others = [];
      pictures = levels.pictures;
      exact = inl (record {
        bytes = bytes;
        holds = holds;
        few = few;
        told = told;
        file = levels.file;
        are = levels.are;
        pictures = levels.shows;
        none = refl;
      });
      rows = levels.rows;
      refused = same ∙ sym (append-nil old.refused.items);
      found = kept;
      adds = levels.adds;
    }

    -- a refused one was
    pub path_refused : {E : Type 0} (old new : Gathered) (one : RefusedFile) (result : Result ReportSum E) → one.path.now ≡ origin.path.now → RefusesFile (at_path held) Survey one.why
        → new.rows.items ≡ old.rows.items → OnOk result (new.refused.items ≡ old.refused.items ++ one ∷ []) → new.tally ≡ old.tally → k1 ≡ k0
        → IfOk result (WritesRefusal Survey origin.path.now one.why out out' errors errors')
        → IfOk result (AddsPath held drawn origin old new k0 k1 out out' errors errors')
    path_refused old new one (Ok tally) of_path why same refused kept untouched told = record {
      more = [];
      others = one ∷ [];
      pictures = [];
      exact = inr (record { one = one; of_path = of_path; why = why; told = told; is = refl; rowless = refl; none = refl });
      rows = same ∙ sym (append-nil old.rows.items);
      refused = refused;
      found = kept;
      adds = untouched ∙ sym (with_files-none k0);
    }
    path_refused old new one (Err fault) of_path why same refused kept untouched told = tt

  -- none was
  pub front_none : k1 ≡ k0 → AddsFront held drawn origin k0 k1
  front_none untouched = record { shown = []; front = inl refl; adds = untouched ∙ sym (with_files-none k0) }

  -- some of a file's pictures were
  pub front_some : (bytes : List ℕ) → Keeps held (Some bytes) → AddsSome drawn origin bytes k0 k1 → AddsFront held drawn origin k0 k1
  front_some bytes holds (inl untouched) = front_none untouched
  front_some bytes holds (inr part) = record {
    shown = part.shown;
    front = inr (record { bytes = bytes; holds = holds; file = part.file; rows = part.rows; are = part.are; count = part.count; pictures = part.pictures });
    adds = part.adds;
  }

module _ (held : List ℕ → Option (List ℕ)) (asked : AtlasRequest) where
  -- no path yet
  pub all_none : (k0 : Option (List Kept)) (out errors : SinkState) → GathersAll held asked [] [] [] k0 k0 out out errors errors no_tally
  all_none k0 out errors = record { shown = []; gathered = of_none; adds = sym (with_files-none k0) }

  module _ (paths : List (Bor (List ℕ))) (i : ℕ) (d : Bor (List ℕ)) (within : i < length paths) (origin : Origin) (k0 k1 k2 : Option (List Kept))
      (out between after errors between_errors after_errors : SinkState) (sum : ReportSum) where
    -- one path more
    pub all_more : (old new : Gathered) (tally : ReportSum) → IsOrigin asked (i + 1) (get_or paths i d).now origin
        → GathersAll held asked (map (λ path. path.now) (take i paths)) old.rows.items old.refused.items k0 k1 out between errors between_errors sum
        → AddsPath (held (get_or paths i d).now) asked.drawn origin old new k1 k2 between after between_errors after_errors tally
        → GathersAll held asked (map (λ path. path.now) (take (i + 1) paths)) new.rows.items new.refused.items k0 k2 out after errors after_errors (tally_with sum tally)
    all_more old new tally is so_far adds =
        let first : map (λ (p : Bor (List ℕ)). p.now) (take i paths) ++ (get_or paths i d).now ∷ [] ≡ map (λ p. p.now) (take (i + 1) paths) =
        sym (map_push (λ p. p.now) (take i paths) (get_or paths i d)) ∙ ap (map (λ p. p.now)) (sym (take_more paths i d within)) in
        let count : i + 1 ≡ suc (length (map (λ (p : Bor (List ℕ)). p.now) (take i paths))) =
        omega (arith, length-map (take i paths) (λ (p : Bor (List ℕ)). p.now), length-take-le i paths (omega (arith, within))) in
        let gathered = with_path (map (λ p. p.now) (take i paths)) old.rows.items old.refused.items so_far.shown between between_errors sum
        (get_or paths i d).now origin adds.more adds.others adds.pictures after after_errors tally
        so_far.gathered (subst (λ n. IsOrigin asked n (get_or paths i d).now origin) count is) adds.exact in
        record {
          shown = so_far.shown ++ adds.pictures;
          gathered = rw (adds.rows, adds.refused) (subst (λ ps. Gathers held asked out errors ps (old.rows.items ++ adds.more) (old.refused.items ++ adds.others) (so_far.shown ++ adds.pictures)
              after after_errors (tally_with sum tally)) first gathered);
          adds = adds.adds ∙ ap (λ f. with_files f adds.pictures) so_far.adds ∙ with_files-more k0 so_far.shown adds.pictures;
        }

    -- the run stopped at a path
    pub some_stopped : (rows : List Row) (refused : List RefusedFile) → IsOrigin asked (i + 1) (get_or paths i d).now origin
        → GathersAll held asked (map (λ path. path.now) (take i paths)) rows refused k0 k1 out between errors between_errors sum → AddsFront (held (get_or paths i d).now) asked.drawn origin k1 k2
        → GathersSome held asked (map (λ path. path.now) paths) k0 k2 out errors
    some_stopped rows refused is so_far front =
        let count : i + 1 ≡ suc (length (map (λ (p : Bor (List ℕ)). p.now) (take i paths))) =
        omega (arith, length-map (take i paths) (λ (p : Bor (List ℕ)). p.now), length-take-le i paths (omega (arith, within))) in
        record {
          before = map (λ p. p.now) (take i paths);
          rest = map (λ p. p.now) (drop i paths);
          stands = ap (map (λ p. p.now)) (sym (take-append-drop i paths)) ∙ map-append (λ p. p.now) (take i paths) (drop i paths);
          rows = rows;
          refused = refused;
          between = k1;
          survey' = between;
          errors' = between_errors;
          tally = sum;
          gathers = so_far;
          shown = front.shown;
          next = inr (record {
            path = (get_or paths i d).now;
            rest = map (λ p. p.now) (drop (i + 1) paths);
            stands = ap (map (λ p. p.now)) (drop_more paths i d within);
            origin = origin;
            is = subst (λ n. IsOrigin asked n (get_or paths i d).now origin) count is;
            front = front.front;
          });
          adds = front.adds;
        }

module _ (held : List ℕ → Option (List ℕ)) (asked : AtlasRequest) (out errors : SinkState) where
  -- no more files are refused than there are
  few_refused : (paths : List (List ℕ)) (rows : List Row) (refused : List RefusedFile) (shown : List Kept) (out' errors' : SinkState) (tally : ReportSum)
      → Gathers held asked out errors paths rows refused shown out' errors' tally → length refused ≤ length paths
  few_refused paths rows refused shown out' errors' tally of_none = omega arith
  few_refused paths rows refused shown out' errors' tally (with_path before more_rows others_before shown_before o e sum path origin more others pictures o' e' one so_far is gathers) =
      let few = few_refused before more_rows others_before shown_before o e sum so_far in
      let longer = length-append before (path ∷ []) in
      let added = length-append others_before others in
      elim gathers [
        | inl file ↦ omega (arith, few, longer, added, ap (λ (xs : List RefusedFile). length xs) file.none)
        | inr lone ↦ omega (arith, few, longer, added, ap (λ (xs : List RefusedFile). length xs) lone.is)
      ]

  -- where all are there are no rows and no pictures
  pub all_refused : (paths : List (List ℕ)) (rows : List Row) (refused : List RefusedFile) (shown : List Kept) (out' errors' : SinkState) (tally : ReportSum)
      → Gathers held asked out errors paths rows refused shown out' errors' tally → length refused ≡ length paths → (rows ≡ []) × (shown ≡ [])
  all_refused paths rows refused shown out' errors' tally of_none every = (refl, refl)
  all_refused paths rows refused shown out' errors' tally (with_path before more_rows others_before shown_before o e sum path origin more others pictures o' e' one so_far is gathers) every =
      let few = few_refused before more_rows others_before shown_before o e sum so_far in
      let longer = length-append before (path ∷ []) in
      let added = length-append others_before others in
      elim gathers [
        | inl file ↦ absurd (omega (arith, few, longer, added, every, ap (λ (xs : List RefusedFile). length xs) file.none))
        | inr lone ↦
            let none = all_refused before more_rows others_before shown_before o e sum so_far
            (omega (arith, longer, added, every, ap (λ (xs : List RefusedFile). length xs) lone.is)) in
            (rw (none.0, lone.rowless) refl, rw (none.1, lone.none) refl)
      ]
