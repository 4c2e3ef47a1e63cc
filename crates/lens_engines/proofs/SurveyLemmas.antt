-- How a survey goes on from level to level.
use Rattle.std.proofs.Common.{◌≡◌, ℕ, ◌+◌, ◌<◌, inl, inr, false, List, [], ◌∷◌, ◌++◌, length, get_or, Result, Ok, Err, refl, sym, ap, ◌∙◌, subst, arith}
use Rattle.std.specs.Prelude.{All, Contains, map}
use Rattle.std.specs.Io.KnownBytes.{Appends}
use Rattle.std.proofs.KnownBytes.{Appends-nil, Appends-trans}
use Rattle.std.proofs.lemmas.Bool.{cases_eq, cases_lt}
use Rattle.std.proofs.lemmas.List.{append-nil, length-map}
use Rattle.std.proofs.lemmas.List.Concat.{flat_map-append}
use Rattle.std.proofs.lemmas.List.Elements.{Contains-push, Contains-push_cases, Contains-append_left, Contains-get_or}
use Rattle.std.proofs.lemmas.List.Quantifiers.{all_pairs_push}
use Rattle.std.proofs.lemmas.List.Sums.{fold_push}
use Rattle.le_rec.specs.Sink.{SinkState}
use Rattle.level_starts.specs.Format.{IsFormat}
use Rattle.level_starts.specs.Starts.{IsNextStart, LevelStartsAt, NoneStartsFrom}
use Rattle.level_starts.specs.declared.format.Format.TheVariants.{Doom}
use Rattle.level_starts.proofs.StartLemmas.{start_within}
use Rattle.line_io.specs.Writes.{Writes}
use Rattle.line_io.specs.declared.fault.IoFault.{IoFault}
use Rattle.line_io.proofs.WriteLemmas.{line_stopped}
use Rattle.lens_engines.specs.declared.judging.Judging.{Judging}
use Rattle.wad_dir.specs.Entries.{names}
use Rattle.wad_dir.specs.Wad.{IsRead, Wad}
use Rattle.wad_dir.proofs.OneDirectoryLemmas.{one-has_directory}
use Rattle.lens_engines.specs.Survey.{AreStartsBelow, AreTold, AreToldBelow, IsTold, RunsSurvey, Surveys, SurveysAll, SurveysFile, SurveysLevel, SurveysOrWants, SurveysSome, ToldLevel, WritesLevel}
use Rattle.lens_engines.specs.Survey.{fault_after, gravest, graver, line_end, lines_of}
use Rattle.lens_engines.specs.declared.verdict.LevelsFault.{LevelsFault}
use Rattle.lens_engines.specs.declared.verdict.LevelsFault.TheVariants as fault
use Rattle.lens_engines.specs.declared.verdict.Verdict.{Verdict}
use Rattle.lens_engines.specs.declared.verdict.Verdict.TheVariants.{Clean}

pub no_starts : (all : List (List ℕ)) → AreStartsBelow all 0 []
no_starts all = record {
  ascending = λ i j d before below. absurd (omega (arith, below));
  exact = λ g. (λ there. absurd (omega (arith, there.1)), λ told. absurd (omega (arith, told.1)));
}

-- one start more
pub start_more : (all : List (List ℕ)) (from at : ℕ) (starts : List ℕ) → AreStartsBelow all from starts → IsNextStart all from at
    → AreStartsBelow all (at + 1) (starts ++ at ∷ [])
start_more all from at starts before next = record {
  ascending = all_pairs_push (λ a b. a < b) starts at before.ascending (λ k d below.
      let told = ((before.exact (get_or starts k d)).0 (Contains-get_or starts k d below)).1 in
      omega (arith, told, next.after));
  exact = λ g. (
    (λ there. elim (Contains-push_cases starts at g there) [
      | inl old ↦ let told = (before.exact g).0 old in (told.0, omega (arith, told.1, next.after))
      | inr is ↦ subst (λ j. LevelStartsAt all j × (j < at + 1)) is (next.starts, omega arith)
    ]),
    (λ told. elim (cases_lt g from) [
      | inl below ↦ Contains-append_left starts (at ∷ []) g ((before.exact g).1 (told.0, below))
      | inr past ↦ elim (cases_eq g at) [
        | inl same ↦ subst (λ j. Contains (starts ++ at ∷ []) j) (sym same) (Contains-push starts at)
        | inr other ↦ absurd (next.first g past (omega (arith, told.1, other)) told.0)
      ]
    ]),
  );
}

-- these are all starts
pub all_starts : (all : List (List ℕ)) (from : ℕ) (starts : List ℕ) → AreStartsBelow all from starts → NoneStartsFrom all from
    → AreStartsBelow all (length all) starts
all_starts all from starts before none = record {
  ascending = before.ascending;
  exact = λ g. (
    (λ there. let told = (before.exact g).0 there in (told.0, start_within all g told.0)),
    (λ told. elim (cases_lt g from) [
      | inl below ↦ (before.exact g).1 (told.0, below)
      | inr past ↦ absurd (none g past told.0)
    ]),
  );
}

told_more : (path : List ℕ) (files : List Wad) (judging : Judging) (starts : List ℕ) (told : List ToldLevel) (g : ℕ) (one : ToldLevel)
    → AreTold path files judging starts told → IsTold path files judging g one
    → AreTold path files judging (starts ++ g ∷ []) (told ++ one ∷ [])
told_more path files judging [] [] g one before is = (is, tt)
told_more path files judging [] (t ∷ told) g one before is = absurd before
told_more path files judging (s ∷ starts) [] g one before is = absurd before
told_more path files judging (s ∷ starts) (t ∷ told) g one before is = (before.0, told_more path files judging starts told g one before.1 is)

lines-push : (told : List ToldLevel) (one : ToldLevel) → lines_of (told ++ one ∷ []) ≡ lines_of told ++ one.line
lines-push told one = flat_map-append (λ (t : ToldLevel). t.line) told (one ∷ []) ∙ ap (λ line. lines_of told ++ line) (append-nil one.line)

-- the levels before an entry were told
pub record ToldSoFar (path : List ℕ) (files : List Wad) (judging : Judging) (before after : SinkState) (from : ℕ) (worst : Verdict) : Type 0 where
  pub told : List ToldLevel
  pub are : AreToldBelow path files judging from told
  pub took : Appends before.taken after.taken (lines_of told)
  pub says : worst ≡ gravest told

pub ToldSoFar-none : (path : List ℕ) (files : List Wad) (judging : Judging) (before : SinkState) → ToldSoFar path files judging before before 0 Clean
ToldSoFar-none path files judging before = record {
  told = [];
  are = record { starts = []; are = no_starts (names files); each = tt };
  took = Appends-nil before.taken;
  says = refl;
}

-- what is told with one level more
told_next : (path : List ℕ) (files : List Wad) (judging : Judging) (from g : ℕ) (told : List ToldLevel) (one : ToldLevel)
    → AreToldBelow path files judging from told → IsNextStart (names files) from g → IsTold path files judging g one
    → AreToldBelow path files judging (g + 1) (told ++ one ∷ [])
told_next path files judging from g told one before next is = record {
  starts = before.starts ++ g ∷ [];
  are = start_more (names files) from g before.starts before.are next;
  each = told_more path files judging before.starts told g one before.each is;
}

-- one level more was told
pub ToldSoFar-more : (path : List ℕ) (files : List Wad) (judging : Judging) (before between after : SinkState) (from g : ℕ) (worst verdict : Verdict)
    → ToldSoFar path files judging before between from worst → IsNextStart (names files) from g
    → WritesLevel path files judging g between after (Ok verdict)
    → ToldSoFar path files judging before after (g + 1) (graver worst verdict) × (after.failed ≡ false)
ToldSoFar-more path files judging before between after from g worst verdict so_far next wrote = go wrote.writes.outcome wrote.writes.writes wrote.writes.ended
  where
    go : (outcome : Result (Unit {0}) IoFault) → Writes between after wrote.told.line outcome → Ok verdict ≡ line_end wrote.told.verdict outcome
        → ToldSoFar path files judging before after (g + 1) (graver worst verdict) × (after.failed ≡ false)
    go (Ok x) writes ended =
        let one = wrote.told in
        let told = so_far.told in
        let same : verdict ≡ one.verdict = cc in (
          record {
            told = told ++ one ∷ [];
            are = told_next path files judging from g told one so_far.are next wrote.is;
            took = subst (Appends before.taken after.taken) (sym (lines-push told one))
                (Appends-trans before.taken between.taken after.taken (lines_of told) one.line so_far.took writes.takes.whole);
            says = ap (λ v. graver v verdict) so_far.says ∙ ap (graver (gravest told)) same
                ∙ sym (fold_push (λ v (t : ToldLevel). graver v t.verdict) Clean told one);
          },
          writes.ends.sound,
        )
    go (Err e) writes ended = absurd (cc)

-- the survey stopped within the line of a level
pub stopped_in_line : (path : List ℕ) (files : List Wad) (judging : Judging) (before between after : SinkState) (from g : ℕ) (worst : Verdict) (why : LevelsFault)
    → ToldSoFar path files judging before between from worst → IsNextStart (names files) from g
    → WritesLevel path files judging g between after (Err why) → SurveysSome path files judging before after (fault_after worst why)
stopped_in_line path files judging before between after from g worst why so_far next wrote = go wrote.writes.outcome wrote.writes.writes wrote.writes.ended
  where
    go : (outcome : Result (Unit {0}) IoFault) → Writes between after wrote.told.line outcome → Err why ≡ line_end wrote.told.verdict outcome
        → SurveysSome path files judging before after (fault_after worst why)
    go (Ok x) writes ended = absurd (cc)
    go (Err e) writes ended =
        let one = wrote.told in
        let told = so_far.told in
        let same : fault.Write one.verdict ≡ why = cc in
        subst (λ w. SurveysSome path files judging before after (fault_after worst w)) same (record {
          end = g + 1;
          told = told ++ one ∷ [];
          are = told_next path files judging from g told one so_far.are next wrote.is;
          stops = record {
            whole = told;
            last = one;
            are = refl;
            between = between;
            took = so_far.took;
            front = writes.takes.front;
            failed = line_stopped between after one.line e writes;
            says = ap (λ v. graver v one.verdict) so_far.says ∙ sym (fold_push (λ v (t : ToldLevel). graver v t.verdict) Clean told one);
          };
        })

-- it stopped before a level for want of memory
stopped_before_line : (path : List ℕ) (files : List Wad) (judging : Judging) (before after : SinkState) (from g : ℕ) (worst : Verdict)
    → ToldSoFar path files judging before after from worst → after.failed ≡ false → IsNextStart (names files) from g → IsFormat files g Doom
    → SurveysSome path files judging before after fault.Memory
stopped_before_line path files judging before after from g worst so_far sound next doom = record {
  end = from;
  told = so_far.told;
  are = so_far.are;
  stops = record { took = so_far.took; sound = sound; g = g; next = next; doom = doom };
}

-- all levels were told
pub told_all : (path : List ℕ) (files : List Wad) (judging : Judging) (before after : SinkState) (from : ℕ) (worst : Verdict)
    → ToldSoFar path files judging before after from worst → NoneStartsFrom (names files) from → after.failed ≡ false
    → SurveysAll path files judging before after worst
told_all path files judging before after from worst so_far none sound = record {
  told = so_far.told;
  are = record {
    starts = so_far.are.starts;
    are = all_starts (names files) from so_far.are.starts so_far.are.are none;
    each = so_far.are.each;
  };
  took = so_far.took;
  sound = sound;
  says = so_far.says;
}

-- a level that was told was written
pub level_told : {W : Type 0} (state : W → SinkState) (path : List ℕ) (files : List Wad) (judging : Judging) (g : ℕ) (out out' : W) (verdict : Verdict)
    → SurveysLevel state path files judging g out out' (Ok verdict) → WritesLevel path files judging g (state out) (state out') (Ok verdict)
level_told state path files judging g out out' verdict does = elim does [
  | inl left ↦ absurd (ok_is_no_err verdict left.wants.ended)
  | inr wrote ↦ wrote
]
  where
    ok_is_no_err : (v : Verdict) → Ok v ≡ Err fault.Memory → ⊥
    ok_is_no_err v same = cc

-- the survey stopped at a level
pub level_stopped : {W : Type 0} (state : W → SinkState) (path : List ℕ) (files : List Wad) (judging : Judging) (before : SinkState) (from g : ℕ) (worst : Verdict) (out out' : W) (why : LevelsFault)
    → ToldSoFar path files judging before (state out) from worst → (state out).failed ≡ false → IsNextStart (names files) from g
    → SurveysLevel state path files judging g out out' (Err why) → SurveysSome path files judging before (state out') (fault_after worst why)
level_stopped state path files judging before from g worst out out' why so_far sound next does = elim does [
  | inl left ↦
      let same : fault.Memory ≡ why = err_same why left.wants.ended in
      subst (λ w. SurveysSome path files judging before (state out') (fault_after worst w)) same
      (subst (λ (o : _). SurveysSome path files judging before (state o) fault.Memory) (sym left.wants.untouched)
      (stopped_before_line path files judging before (state out) from g worst so_far sound next left.doom))
  | inr wrote ↦ stopped_in_line path files judging before (state out) (state out') from g worst why so_far next wrote
]
  where
    err_same : (w : LevelsFault) → ◌≡◌ {A = Result Verdict LevelsFault} (Err w) (Err fault.Memory) → fault.Memory ≡ w
    err_same w same = cc

-- a set of one file's bytes has one file
pub one_alone : (bytes : List ℕ) (files : List Wad) → map (λ file. file.bytes) files ≡ bytes ∷ [] → length files ≡ 1
one_alone bytes files of_bytes = sym (length-map files (λ file. file.bytes)) ∙ ap length of_bytes

-- the survey of the one file of these bytes
pub one_file : (path bytes : List ℕ) (files : List Wad) (judging : Judging) (before after : SinkState) (result : Result Verdict LevelsFault)
    → map (λ file. file.bytes) files ≡ bytes ∷ [] → All IsRead files → Surveys path files judging before after result
    → SurveysFile path bytes judging before after result
one_file path bytes [] judging before after result of_bytes read does = absurd (cc)
one_file path bytes (file ∷ []) judging before after result of_bytes read does = record {
  file = file;
  of_bytes = cc;
  read = read 0 file (omega arith);
  does = does;
}
one_file path bytes (file ∷ other ∷ files) judging before after result of_bytes read does = absurd (cc)

-- that, or nothing for want of memory
pub file_surveyed : {W : Type 0} (state : W → SinkState) (path bytes : List ℕ) (files : List Wad) (judging : Judging) (out out' : W) (result : Result Verdict LevelsFault)
    → map (λ file. file.bytes) files ≡ bytes ∷ [] → All IsRead files → SurveysOrWants state path files judging out out' result
    → RunsSurvey state path bytes judging out out' result
file_surveyed state path bytes files judging out out' result of_bytes read (inl wants) =
    inl (record { fault = fault.Memory; ended = wants.ended; holds = one-has_directory bytes files of_bytes read; untouched = wants.untouched })
file_surveyed state path bytes files judging out out' result of_bytes read (inr does) =
    inr (one_file path bytes files judging (state out) (state out') result of_bytes read does)
