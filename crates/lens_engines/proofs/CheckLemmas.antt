-- How a check goes on from level to level.
use Rattle.std.proofs.Common.{◌≡◌, ◌↔◌, ℕ, zero, suc, ◌+◌, ◌<◌, ◌≤◌, inl, inr, Bool, false, List, [], ◌∷◌, ◌++◌, length, get_or, take, Option, Some, None, Result, Ok, Err, refl, sym, ap, ◌∙◌, subst, arith}
use Rattle.std.specs.Prelude.{IfOk, IfSome, IsTrue, map, sum, All}
use Rattle.std.specs.Io.KnownBytes.{Appends}
use Rattle.std.proofs.KnownBytes.{Appends-nil, Appends-trans}
use Rattle.std.proofs.lemmas.Bool.{cases_lt, ltb-true, lt-ltb}
use Rattle.std.proofs.lemmas.List.{get_or-take, length-take}
use Rattle.std.proofs.lemmas.List.Sums.{get_or-le-sum_by}
use Rattle.le_rec.specs.Sink.{SinkState}
use Rattle.level_starts.specs.Format.{IsFormat}
use Rattle.level_starts.specs.Starts.{IsNextStart, NoneStartsFrom}
use Rattle.level_starts.specs.declared.format.Format.TheVariants.{Doom}
use Rattle.line_io.specs.Writes.{Writes}
use Rattle.line_io.specs.declared.fault.IoFault.{IoFault}
use Rattle.map_audit.proofs.LawLemmas.{law_sound_is_no_fault}
use Rattle.map_audit.specs.Findings.{AuditHolds}
use Rattle.map_level.proofs.FindingLemmas.{rank_at}
use Rattle.map_level.proofs.LevelLemmas.{IsLevelAt-one}
use Rattle.map_level.specs.Findings.{is_fault, rank}
use Rattle.map_level.specs.Level.{Level}
use Rattle.map_level.specs.Opening.{IsLevelAt}
use Rattle.map_level.specs.declared.finding.Code.{Code}
use Rattle.map_level.specs.declared.finding.Code.TheVariants.{F1}
use Rattle.map_level.specs.declared.search.TheConstants.{CODE_COUNT}
use Rattle.map_level.specs.declared.reading.Reading.{Reading}
use Rattle.map_level.specs.declared.reading.Reading.TheVariants.{Signed, Wide}
use Rattle.map_tree.proofs.CountLemmas.{sum_zeros}
use Rattle.map_tree.specs.Sound.{IsSound}
use Rattle.wad_dir.specs.Entries.{names}
use Rattle.wad_dir.specs.Wad.{IsRead, Wad}
use Rattle.wad_dir.proofs.OneDirectoryLemmas.{one-has_directory}
use Rattle.lens_engines.specs.Check.{CheckAsked, Checks, ChecksAll, ChecksDoom, ChecksFile, ChecksLevel, ChecksOrWants, ChecksSome, IsLevelText, IsOrder, IsSoundWideAlone, RunsCheck, ToldTo, WritesText, at_start, head_in, ordered_text, with_level, text_end}
use Rattle.lens_engines.specs.Counts.{AreCounts, IsCount, fault_total, finding_order}
use Rattle.level_codes.specs.declared.code.ReportCode.TheVariants as report
use Rattle.lens_engines.specs.Failing.{HasFailing}
use Rattle.lens_engines.specs.Ignored.{HoldsUnlessIgnored, ignores}
use Rattle.level_codes.specs.Sets.{no_codes}
use Rattle.level_codes.specs.declared.set.CodeSet.{CodeSet}
use Rattle.lens_texts.specs.Label.{IsLabelOf}
use Rattle.lens_engines.specs.LevelLines.{AreCounted, AreShown, AreTold, judged_text}
use Rattle.lens_engines.specs.Judged.{JudgedLevel, Judges}
use Rattle.lens_engines.specs.ReportCounts.{AreReportCounts}
use Rattle.lens_engines.specs.Survey.{fault_after}
use Rattle.lens_engines.specs.Totals.{format_totals, judged_totals, no_totals, totals_with, verdict_of_totals}
use Rattle.lens_engines.specs.Unlisted.{AreUnlisted}
use Rattle.lens_engines.specs.Unread.{IsUnread}
use Rattle.lens_engines.specs.Warned.{Warned, known_files}
use Rattle.lens_texts.specs.declared.label.LevelLabel.{LevelLabel}
use Rattle.lens_texts.specs.declared.unread.Unread.{Unread}
use Rattle.lens_texts.specs.declared.unread.Unread.TheVariants.{Udmf, Incomplete, Hexen, Outside, Extended}
use Rattle.lens_engines.specs.declared.totals.Totals.{Totals}
use Rattle.lens_engines.specs.declared.unlisted.Unlisted.{Unlisted}
use Rattle.lens_engines.specs.declared.verdict.LevelsFault.{LevelsFault}
use Rattle.lens_engines.specs.declared.verdict.LevelsFault.TheVariants as fault
use Rattle.lens_engines.proofs.CountLemmas.{none_ignored_code, shown_kept}
use Rattle.lens_engines.proofs.LawLemmas.{nothing_holds}
use Rattle.line_io.proofs.WriteLemmas.{line_stopped}

-- an index is counted
some_counted : (holds : ℕ → Type 0) (count i : ℕ) → IsCount holds count → holds i → 0 < count
some_counted holds count i is here = omega (arith, is.counted, ((is.exact i).1 here).1)

-- a fault is never ignored
fault_kept : (ignored : CodeSet) (code : Code) → IsTrue (is_fault code) → ignores ignored (report.Finding code) ≡ false
fault_kept ignored code fault = rw fault refl

-- the numbers at the ranks of the codes of findings say how often these hold and aren't ignored
pub record CountKept (ignored : CodeSet) (level : Level) (counts : List ℕ) : Type 0 where
  pub long : CODE_COUNT ≤ length counts
  pub each : (code : Code) → IsCount (HoldsUnlessIgnored ignored level code) (get_or counts (rank code) 0)

-- a level is sound exactly where no fault is counted
pub kept_faultless : (ignored : CodeSet) (level : Level) (counts : List ℕ) → CountKept ignored level counts → fault_total counts ≡ 0 → IsSound level
kept_faultless ignored level counts kept none = (law_sound_is_no_fault level).1 (λ code i fault holds.
    let below : rank code < 18 = ltb-true (rank code) 18 fault in
    let some = some_counted (HoldsUnlessIgnored ignored level code) (get_or counts (rank code) 0) i (kept.each code) (fault_kept ignored code fault, holds) in
    let within_all : rank code < length (take 18 counts) = omega (arith, below, kept.long, length-take 18 counts) in
    let within = get_or-le-sum_by (λ n. n) (take 18 counts) (rank code) 0 within_all in
    let same = get_or-take 18 counts (rank code) 0 below in
    omega (arith, some, within, same, none))

pub sound_kept_faultless : (ignored : CodeSet) (level : Level) (counts : List ℕ) → CountKept ignored level counts → IsSound level → fault_total counts ≡ 0
sound_kept_faultless ignored level counts kept sound = sum_zeros (take 18 counts) (λ k. elim (cases_lt k 18) [
  | inl below ↦
      let code = get_or finding_order k F1 in
      let at : rank code ≡ k = rank_at k F1 (omega (arith, below)) in
      let fault : IsTrue (is_fault code) = lt-ltb (rank code) 18 (omega (arith, at, below)) in
      get_or-take 18 counts k 0 below ∙ ap (λ p. get_or counts p 0) (sym at)
      ∙ nothing_holds (HoldsUnlessIgnored ignored level code) (get_or counts (rank code) 0) (kept.each code) (λ i holds. (law_sound_is_no_fault level).0 sound code i fault holds.1)
  | inr past ↦ beyond (take 18 counts) k (omega (arith, past, length-take 18 counts))
])
  where
    beyond : (xs : List ℕ) (k : ℕ) → length xs ≤ k → get_or xs k 0 ≡ 0
    beyond [] zero past = refl
    beyond [] (suc k) past = refl
    beyond (x ∷ xs) zero past = absurd (omega (arith, past))
    beyond (x ∷ xs) (suc k) past = beyond xs k (omega (arith, past))

-- the counts of a level of which nothing is ignored
unignored : (level : Level) (counts : List ℕ) → AreCounts (AuditHolds level) counts → CountKept no_codes level counts
unignored level counts are = record {
  long = omega (arith, are.all);
  each = λ code.
      let count = are.each code in
      record {
        indexes = count.indexes;
        ascending = count.ascending;
        exact = λ i. (λ there. (none_ignored_code code, (count.exact i).0 there), λ holds. (count.exact i).1 holds.1);
        counted = count.counted;
      };
}

-- those of a report
pub report_kept : (ignored : CodeSet) (level : Level) (warned : List Warned) (counts : List ℕ) → AreReportCounts ignored level warned counts → CountKept ignored level counts
report_kept ignored level warned counts are = record { long = omega (arith, are.all); each = are.findings }

pub faultless : (level : Level) (counts : List ℕ) → AreCounts (AuditHolds level) counts → fault_total counts ≡ 0 → IsSound level
faultless level counts are none = kept_faultless no_codes level counts (unignored level counts are) none

pub sound_faultless : (level : Level) (counts : List ℕ) → AreCounts (AuditHolds level) counts → IsSound level → fault_total counts ≡ 0
sound_faultless level counts are sound = sound_kept_faultless no_codes level counts (unignored level counts are) sound

-- the wide reading alone finds the level sound where its level is
pub wide_alone : {E : Type 0} (files : List Wad) (g : ℕ) (reading : Reading) (level wide : Level) (result : Result Bool E) → reading ≡ Signed → ¬ IsSound level → IsLevelAt files g Wide wide
    → IfOk result (λ sound. IsTrue sound ↔ IsSound wide) → IfOk result (λ sound. IsTrue sound ↔ IsSoundWideAlone files g reading level)
wide_alone files g reading level wide (Ok sound) signed unsound there is = (
  (λ yes. record { signed = signed; unsound = unsound; wide = wide; there = there; sound = is.0 yes }),
  (λ alone. is.1 (subst IsSound (IsLevelAt-one files g Wide alone.wide wide alone.there there) alone.sound)),
)
wide_alone files g reading level wide (Err e) signed unsound there is = tt

-- the text of a judged level was written
pub judged_written : {W : Type 0} (state : W → SinkState) (asked : CheckAsked) (files : List Wad) (g : ℕ) (label : LevelLabel) (level : Level) (judged : JudgedLevel) (fails : Bool) (unlisted : Unlisted) (sound_wide : Bool) (out out' : W)
    (wrote : Result (Unit {0}) IoFault) (result : Result Totals LevelsFault)
    → IsLevelAt files g asked.judging.reading level → Judges asked.judging (known_files asked.judging files) level asked.most judged
    → (IsTrue fails ↔ HasFailing asked.judging judged.counts judged.warned) → AreUnlisted asked.judging.ignored (known_files asked.judging files) unlisted
    → (IsTrue sound_wide ↔ IsSoundWideAlone files g asked.judging.reading level)
    → ((told : Code → List ℕ) → AreShown (AuditHolds judged.level) told → AreCounted judged.counts told
    → Writes (state out) (state out') (judged_text (head_in asked label) asked.most judged told sound_wide) wrote)
    → result ≡ text_end (judged_totals judged.counts fails judged.unlooked unlisted) wrote → ChecksDoom state asked files g label out out' result
judged_written state asked files g label level judged fails unlisted sound_wide out out' wrote result there are failing are_unlisted wide writes ended =
    let findings = are.counts.findings in
    let told = λ (code : Code). (findings code).indexes in
    let are_told : AreTold (HoldsUnlessIgnored asked.judging.ignored level) told = λ code. record { ascending = (findings code).ascending; exact = (findings code).exact } in
    let counted : AreCounted judged.counts told = λ code. sym (findings code).counted in
    inr (record {
      text = judged_text (head_in asked label) asked.most judged told sound_wide;
      totals = judged_totals judged.counts fails judged.unlooked unlisted;
      is = record {
        level = level;
        there = there;
        told = told;
        are_told = are_told;
        warned = judged.warned;
        are_warned = are.asked;
        counts = judged.counts;
        are_counts = are.counts;
        counted = counted;
        fails = fails;
        failing = failing;
        unlooked = judged.unlooked;
        are_unlooked = are.unlooked;
        unlisted = unlisted;
        are_unlisted = are_unlisted;
        sound_wide = sound_wide;
        wide = wide;
        is = rw (← are.of_level) refl;
        adds = refl;
      };
      outcome = wrote;
      writes = writes told (rw are.of_level (λ code some. shown_kept asked.judging.ignored level code (told code) some (are_told code))) counted;
      ended = ended;
    })

-- the text of a level of Doom's format
pub doom_text : {W : Type 0} (state : W → SinkState) (asked : CheckAsked) (files : List Wad) (label : LevelLabel) (g : ℕ) (out out' : W) (result : Result Totals LevelsFault)
    → IsLabelOf files g label → IsFormat files g Doom → ChecksDoom state asked files g label out out' result
    → ChecksLevel state asked files g out out' result
doom_text state asked files label g out out' result labelled is (inl wants) = inl (record { doom = is; wants = wants })
doom_text state asked files label g out out' result labelled is (inr wrote) = inr (record {
  text = wrote.text;
  totals = wrote.totals;
  is = record { label = label; labelled = labelled; told = inl (is, wrote.is) };
  outcome = wrote.outcome;
  writes = wrote.writes;
  ended = wrote.ended;
})

-- the lump of an order is one of the ten
pub order_within : (names : List (List ℕ)) (g : ℕ) (unread : Unread) (order : Option ℕ) → IsOrder names g unread order → IfSome order (λ j. (1 ≤ j) × (j ≤ 10))
order_within names g unread None is = tt
order_within names g (Incomplete k) (Some j) is = (is.from, is.to)
order_within names g Udmf (Some j) is = absurd (let f : ⊥ = cc in f)
order_within names g Hexen (Some j) is = absurd (let f : ⊥ = cc in f)
order_within names g (Outside k) (Some j) is = absurd (let f : ⊥ = cc in f)
order_within names g (Extended tag why) (Some j) is = absurd (let f : ⊥ = cc in f)

-- the lines of a level that isn't judged
pub format_line : {W : Type 0} (state : W → SinkState) (asked : CheckAsked) (files : List Wad) (label : LevelLabel) (g : ℕ) (unread : Unread) (order : Option ℕ) (out out' : W)
    (wrote : Result (Unit {0}) IoFault) (result : Result Totals LevelsFault)
    → IsLabelOf files g label → IsUnread files g unread → IsOrder (names files) g unread order
    → Writes (state out) (state out') (ordered_text (head_in asked label) unread order) wrote → result ≡ text_end (format_totals unread) wrote
    → ChecksLevel state asked files g out out' result
format_line state asked files label g unread order out out' wrote result labelled is ordered writes ended = inr (record {
  text = ordered_text (head_in asked label) unread order;
  totals = format_totals unread;
  is = record {
    label = label;
    labelled = labelled;
    told = inr (record { unread = unread; of_level = is; order = order; ordered = ordered; is = refl; adds = refl });
  };
  outcome = wrote;
  writes = writes;
  ended = ended;
})

-- the text of a level was written
pub record ToldLevel (asked : CheckAsked) (files : List Wad) (g : ℕ) (before after : SinkState) (totals : Totals) : Type 0 where
  pub text : List ℕ
  pub is : IsLevelText asked files g text totals
  pub took : Appends before.taken after.taken text
  pub sound : after.failed ≡ false

-- one level more was told
pub level_told : {W : Type 0} (state : W → SinkState) (asked : CheckAsked) (files : List Wad) (g : ℕ) (out out' : W) (totals : Totals)
    → ChecksLevel state asked files g out out' (Ok totals) → ToldLevel asked files g (state out) (state out') totals
level_told state asked files g out out' totals (inl left) = absurd (ok_is_no_err totals left.wants.ended)
  where
    ok_is_no_err : (t : Totals) → ◌≡◌ {A = Result Totals LevelsFault} (Ok t) (Err fault.Memory) → ⊥
    ok_is_no_err t same = cc
level_told state asked files g out out' totals (inr wrote) = go wrote.outcome wrote.writes wrote.ended
  where
    go : (outcome : Result (Unit {0}) IoFault) → Writes (state out) (state out') wrote.text outcome → ◌≡◌ {A = Result Totals LevelsFault} (Ok totals) (text_end wrote.totals outcome)
        → ToldLevel asked files g (state out) (state out') totals
    go (Ok x) writes ended =
        let same : wrote.totals ≡ totals = cc in
        record {
          text = wrote.text;
          is = subst (λ (t : Totals). IsLevelText asked files g wrote.text t) same wrote.is;
          took = writes.takes.whole;
          sound = writes.ends.sound;
        }
    go (Err e) writes ended = absurd (cc)

-- the levels before an entry were told
pub record SoFar (asked : CheckAsked) (files : List Wad) (before after : SinkState) (from : ℕ) (sum : Totals) : Type 0 where
  pub text : List ℕ
  pub told : ToldTo asked files from text sum
  pub took : Appends before.taken after.taken text

pub SoFar-start : (asked : CheckAsked) (files : List Wad) (before : SinkState) → SoFar asked files before before 0 no_totals
SoFar-start asked files before = record { text = []; told = at_start; took = Appends-nil before.taken }

pub SoFar-level : (asked : CheckAsked) (files : List Wad) (before between after : SinkState) (from g : ℕ) (sum totals : Totals)
    → SoFar asked files before between from sum → IsNextStart (names files) from g → ToldLevel asked files g between after totals
    → SoFar asked files before after (g + 1) (totals_with sum totals)
SoFar-level asked files before between after from g sum totals so_far next level = record {
  text = so_far.text ++ level.text;
  told = with_level from so_far.text sum g level.text totals so_far.told next level.is;
  took = Appends-trans before.taken between.taken after.taken so_far.text level.text so_far.took level.took;
}

-- it stopped within the text of a level
stopped_in_text : (asked : CheckAsked) (files : List Wad) (before between after : SinkState) (from g : ℕ) (sum : Totals) (why : LevelsFault)
    → SoFar asked files before between from sum → IsNextStart (names files) from g → WritesText (IsLevelText asked files g) between after (Err why)
    → ChecksSome asked files before after (fault_after (verdict_of_totals sum) why)
stopped_in_text asked files before between after from g sum why so_far next wrote = go wrote.outcome wrote.writes wrote.ended
  where
    go : (outcome : Result (Unit {0}) IoFault) → Writes between after wrote.text outcome → ◌≡◌ {A = Result Totals LevelsFault} (Err why) (text_end wrote.totals outcome)
        → ChecksSome asked files before after (fault_after (verdict_of_totals sum) why)
    go (Ok x) writes ended = absurd (cc)
    go (Err e) writes ended =
        let same : fault.Write (verdict_of_totals wrote.totals) ≡ why = cc in
        subst (λ w. ChecksSome asked files before after (fault_after (verdict_of_totals sum) w)) same (record {
          from = from;
          text = so_far.text;
          sum = sum;
          told = so_far.told;
          between = between;
          took = so_far.took;
          g = g;
          next = next;
          line = wrote.text;
          totals = wrote.totals;
          is = wrote.is;
          front = writes.takes.front;
          failed = line_stopped between after wrote.text e writes;
          says = refl;
        })

-- it stopped at a level
pub level_stopped : {W : Type 0} (state : W → SinkState) (asked : CheckAsked) (files : List Wad) (before : SinkState) (from g : ℕ) (sum : Totals) (out out' : W) (why : LevelsFault)
    → SoFar asked files before (state out) from sum → (state out).failed ≡ false → IsNextStart (names files) from g
    → ChecksLevel state asked files g out out' (Err why) → ChecksSome asked files before (state out') (fault_after (verdict_of_totals sum) why)
level_stopped state asked files before from g sum out out' why so_far sound next (inl left) =
    let same : fault.Memory ≡ why = err_same why left.wants.ended in
    subst (λ w. ChecksSome asked files before (state out') (fault_after (verdict_of_totals sum) w)) same
    (subst (λ o. ChecksSome asked files before (state o) fault.Memory) (sym left.wants.untouched)
    (record { from = from; text = so_far.text; sum = sum; told = so_far.told; took = so_far.took; sound = sound; g = g; next = next; doom = left.doom }))
  where
    err_same : (w : LevelsFault) → ◌≡◌ {A = Result Totals LevelsFault} (Err w) (Err fault.Memory) → fault.Memory ≡ w
    err_same w same = cc
level_stopped state asked files before from g sum out out' why so_far sound next (inr wrote) = stopped_in_text asked files before (state out) (state out') from g sum why so_far next wrote

-- all levels were told
pub told_all : (asked : CheckAsked) (files : List Wad) (before after : SinkState) (from : ℕ) (sum : Totals)
    → SoFar asked files before after from sum → NoneStartsFrom (names files) from → after.failed ≡ false → ChecksAll asked files before after sum
told_all asked files before after from sum so_far beyond sound = record { from = from; text = so_far.text; told = so_far.told; all = beyond; took = so_far.took; sound = sound }

-- the check of the one file of these bytes
one_file : (asked : CheckAsked) (bytes : List ℕ) (files : List Wad) (before after : SinkState) (result : Result Totals LevelsFault)
    → map (λ file. file.bytes) files ≡ bytes ∷ [] → All IsRead files → Checks asked files before after result → ChecksFile asked bytes before after result
one_file asked bytes [] before after result of_bytes read does = absurd (cc)
one_file asked bytes (file ∷ []) before after result of_bytes read does = record { file = file; of_bytes = cc; read = read 0 file (omega arith); does = does }
one_file asked bytes (file ∷ other ∷ files) before after result of_bytes read does = absurd (cc)

-- that, or nothing for want of memory
pub file_checked : {W : Type 0} (state : W → SinkState) (asked : CheckAsked) (bytes : List ℕ) (files : List Wad) (out out' : W) (result : Result Totals LevelsFault)
    → map (λ file. file.bytes) files ≡ bytes ∷ [] → All IsRead files → ChecksOrWants state asked files out out' result → RunsCheck state asked bytes out out' result
file_checked state asked bytes files out out' result of_bytes read (inl wants) =
    inl (record { fault = fault.Memory; ended = wants.ended; holds = one-has_directory bytes files of_bytes read; untouched = wants.untouched })
file_checked state asked bytes files out out' result of_bytes read (inr does) = inr (one_file asked bytes files (state out) (state out') result of_bytes read does)
