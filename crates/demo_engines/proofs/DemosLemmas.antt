-- How the demos of a file are told, entry by entry.
use Rattle.std.specs.Prelude.{IsErrOf, MatchBool, map, All, ◌⊎◌}
use Rattle.std.proofs.Common.{◌≡◌, ◌↔◌, ℕ, ◌+◌, ◌<◌, ◌≤◌, Bor, Bool, true, false, ◌&&◌, not, eqb, List, [], ◌∷◌, length, Option, Some, Result, Ok, Err, refl, sym, subst, arith, inl, inr, None}
use borrow.Author.Tests.{eqb-true}
use Rattle.std.specs.Io.KnownBytes.{Appends, Keeps}
use Rattle.std.specs.List.{slice_get}
use Rattle.std.proofs.KnownBytes.{Appends-nil, Appends-trans}
use Rattle.later_demos.specs.Demo.{Demo, IsDemo}
use Rattle.later_demos.specs.Footer.{Footer, IsFooter}
use Rattle.le_rec.specs.Sink.{SinkState}
use Rattle.lens_texts.proofs.HandingLemmas.{appends_kept, front_kept}
use Rattle.line_io.specs.Writes.{TakesFront}
use Rattle.wad_dir.specs.Entries.{joined, names}
use Rattle.wad_dir.specs.Slice.{IsLump}
use Rattle.wad_dir.specs.Wad.{IsRead, Wad}
use Rattle.wad_dir.specs.declared.lump.LumpFault.{LumpFault}
use Rattle.wad_dir.specs.declared.lump.LumpFault.TheVariants.{NoSuch, Outside}
use Rattle.demo_engines.specs.Demos.{Answers, DemosAsked, IsDemoTold, IsEntryTold, LeavesWad, OnErrors, RunsDemos, StopsDemo, StopsTelling, TakeAll, Tells, TellsAll, TellsDemo, TellsWad, Texts, ToldTo, WritesTold}
use Rattle.demo_engines.specs.Demos.{at_start, fault_after, inside, is_demo_name, is_wad_file, no_texts, read, read_text, read_texts, texts_with, with_entry}
use Rattle.demo_engines.specs.declared.demos.DemosFault.{DemosFault}
use Rattle.demo_engines.specs.declared.demos.DemosFault.TheVariants as fault

-- no text was taken, and nothing has failed
pub takes_none : (out errors : SinkState) → out.failed ≡ false → errors.failed ≡ false → TakeAll no_texts out out errors errors
takes_none out errors answers refusals = record { answered = Appends-nil out.taken; told = Appends-nil errors.taken; answers = answers; refusals = refusals }

-- some texts, and then others
takes_more : (a b : Texts) (out between out' errors errors_between errors' : SinkState) → TakeAll a out between errors errors_between
    → TakeAll b between out' errors_between errors' → TakeAll (texts_with a b) out out' errors errors'
takes_more a b out between out' errors errors_between errors' first next = record {
  answered = Appends-trans out.taken between.taken out'.taken a.answer b.answer first.answered next.answered;
  told = Appends-trans errors.taken errors_between.taken errors'.taken a.messages b.messages first.told next.told;
  answers = next.answers;
  refusals = next.refusals;
}

-- where nothing is told, nothing is written
pub told_nothing : (Is : Texts → Bool → Type 0) (out errors : SinkState) → out.failed ≡ false → errors.failed ≡ false → Is no_texts true → WritesTold Is out out errors errors (Ok true)
told_nothing Is out errors answers refusals is = record {
  texts = no_texts;
  is_read = true;
  is = is;
  tells = (refl, takes_none out errors answers refusals);
}

-- a demo that is read is told on the output alone
pub told_read : (asked : DemosAsked) (lump : Option (List ℕ)) (bytes : List ℕ) (demo : Demo) (footer : Footer) (out out' errors : SinkState) (result : Result Bool DemosFault)
    → IsDemo bytes demo → IsFooter demo.rest footer → errors.failed ≡ false
    → Answers (read_text asked.form asked.path lump demo footer) true out out' result
    → WritesTold (IsDemoTold asked lump bytes) out out' errors errors result
told_read asked lump bytes demo footer out out' errors result is tells refusals answered = record {
  texts = read_texts asked lump demo footer;
  is_read = true;
  is = read demo footer is tells;
  tells = go result answered;
}
  where
    go : (r : Result Bool DemosFault) → Answers (read_text asked.form asked.path lump demo footer) true out out' r → TellsDemo (read_texts asked lump demo footer) true out out' errors errors r
    go (Ok all_read) a = (a.0, record { answered = a.1; told = Appends-nil errors.taken; answers = a.2; refusals = refusals })
    go (Err (fault.Write all_read)) a = (a.0, inl (record { told = Appends-nil errors.taken; front = a.1; failed = a.2; refusals = refusals }))
    go (Err fault.Errors) a = absurd a
    go (Err (fault.NoWad why)) a = absurd a
    go (Err fault.Memory) a = absurd a

pub answered_handed : (text : List ℕ) (is_read : Bool) (before after : SinkState) (result : Result Bool DemosFault) (holds : Type 0) → Answers text is_read before after result → OnErrors result holds
answered_handed text is_read before after (Ok all_read) holds a = tt
answered_handed text is_read before after (Err (fault.Write all_read)) holds a = tt
answered_handed text is_read before after (Err fault.Errors) holds a = absurd a
answered_handed text is_read before after (Err (fault.NoWad why)) holds a = tt
answered_handed text is_read before after (Err fault.Memory) holds a = tt

pub not_true : (b : Bool) → not b ≡ true → b ≡ false
not_true true h = cc
not_true false h = refl

-- the lump of an entry that is there can be gone in one way alone
pub lump_gone : (files : List Wad) (g : ℕ) (why : LumpFault) → g < length (joined files)
    → (IsErrOf {T = Bor (List ℕ)} (Err why) NoSuch ↔ (length (joined files) ≤ g))
    → (IsErrOf {T = Bor (List ℕ)} (Err why) Outside ↔ ((g < length (joined files)) × ((lump : List ℕ) → ¬ IsLump files g lump)))
    → (lump : List ℕ) → ¬ IsLump files g lump
lump_gone files g NoSuch there no_such outside = absurd (omega (arith, no_such.0 refl))
lump_gone files g Outside there no_such outside = (outside.0 refl).1

-- an empty lump
pub empty_lump : (files : List Wad) (g : ℕ) (lump : List ℕ) → eqb (length lump) 0 ≡ true → IsLump files g lump → IsLump files g []
empty_lump files g [] empty is = is
empty_lump files g (b ∷ lump) empty is = absurd (omega (arith, eqb-true (length (b ∷ lump)) 0 empty))

pub some_lump : (lump : List ℕ) → eqb (length lump) 0 ≡ false → 0 < length lump
some_lump [] none = absurd (let f : ⊥ = cc in f)
some_lump (b ∷ lump) some = omega arith

-- a lump's demo was told
pub told_inside : (asked : DemosAsked) (files : List Wad) (g : ℕ) (name lump : List ℕ) (out out' errors errors' : SinkState) (result : Result Bool DemosFault)
    → slice_get (names files) g ≡ Some name → is_demo_name name ≡ true → IsLump files g lump → 0 < length lump
    → WritesTold (IsDemoTold asked (Some name) lump) out out' errors errors' result → WritesTold (IsEntryTold asked files g) out out' errors errors' result
told_inside asked files g name lump out out' errors errors' result named demo is some wrote = record {
  texts = wrote.texts;
  is_read = wrote.is_read;
  is = inside name lump wrote.texts wrote.is_read named demo is some wrote.is;
  tells = wrote.tells;
}

-- the entries below a number were told
pub record SoFar (asked : DemosAsked) (files : List Wad) (out out' errors errors' : SinkState) (g : ℕ) (all : Bool) : Type 0 where
  pub texts : Texts
  pub told : ToldTo asked files g texts all
  pub took : TakeAll texts out out' errors errors'

pub SoFar-start : (asked : DemosAsked) (files : List Wad) (out errors : SinkState) → out.failed ≡ false → errors.failed ≡ false → SoFar asked files out out errors errors 0 true
SoFar-start asked files out errors answers refusals = record { texts = no_texts; told = at_start; took = takes_none out errors answers refusals }

-- and one more
pub SoFar-entry : (asked : DemosAsked) (files : List Wad) (out between out' errors errors_between errors' : SinkState) (g : ℕ) (all one : Bool)
    → SoFar asked files out between errors errors_between g all → WritesTold (IsEntryTold asked files g) between out' errors_between errors' (Ok one)
    → SoFar asked files out out' errors errors' (g + 1) (all && one)
SoFar-entry asked files out between out' errors errors_between errors' g all one so_far wrote =
    record {
      texts = texts_with so_far.texts wrote.texts;
      told = subst (λ (b : Bool). ToldTo asked files (g + 1) (texts_with so_far.texts wrote.texts) (all && b)) (sym wrote.tells.0)
          (with_entry g so_far.texts wrote.texts all wrote.is_read so_far.told wrote.is);
      took = takes_more so_far.texts wrote.texts out between out' errors errors_between errors' so_far.took wrote.tells.1;
    }

-- telling stopped within an entry
pub entry_stopped : (asked : DemosAsked) (files : List Wad) (out between out' errors errors_between errors' : SinkState) (g : ℕ) (all : Bool) (why : DemosFault)
    → SoFar asked files out between errors errors_between g all → WritesTold (IsEntryTold asked files g) between out' errors_between errors' (Err why)
    → StopsTelling asked files out out' errors errors' (fault_after all why)
entry_stopped asked files out between out' errors errors_between errors' g all why so_far wrote = record {
  g = g;
  texts = so_far.texts;
  all = all;
  told = so_far.told;
  out_between = between;
  errors_between = errors_between;
  took = so_far.took;
  here = wrote.texts;
  one = wrote.is_read;
  is = wrote.is;
  at_entry = why;
  stops = wrote.tells;
  says = refl;
}

-- what holds where standard error failed does so behind other demos, too
pub handed_after : (all : Bool) (why : DemosFault) (holds : Type 0) → OnErrors (Err why) holds → OnErrors (Err (fault_after all why)) holds
handed_after all (fault.NoWad why) holds is = tt
handed_after all (fault.Write one) holds is = tt
handed_after all fault.Errors holds is = is
handed_after all fault.Memory holds is = tt

-- all entries were told
pub told_all : (asked : DemosAsked) (files : List Wad) (out out' errors errors' : SinkState) (g : ℕ) (all : Bool)
    → SoFar asked files out out' errors errors' g all → g ≡ length (joined files) → TellsAll asked files out out' errors errors' all
told_all asked files out out' errors errors' g all so_far is = record {
  texts = so_far.texts;
  told = subst (λ (n : ℕ). ToldTo asked files n so_far.texts all) is so_far.told;
  took = so_far.took;
}

-- the demos of the one file of these bytes
pub one_file : (asked : DemosAsked) (bytes : List ℕ) (files : List Wad) (out out' errors errors' : SinkState) (result : Result Bool DemosFault)
    → map (λ file. file.bytes) files ≡ bytes ∷ [] → All IsRead files → Tells asked files out out' errors errors' result
    → TellsWad asked bytes out out' errors errors' result
one_file asked bytes [] out out' errors errors' result of_bytes are_read does = absurd (cc)
one_file asked bytes (file ∷ []) out out' errors errors' result of_bytes are_read does = record { file = file; of_bytes = cc; read = are_read 0 file (omega arith); does = does }
one_file asked bytes (file ∷ other ∷ files) out out' errors errors' result of_bytes are_read does = absurd (cc)

-- that is what a run over a WAD file does
pub wad_told : {W E : Type 0} (state : W → SinkState) (state' : E → SinkState) (asked : DemosAsked) (bytes : List ℕ) (out out' : W) (errors errors' : E) (result : Result Bool DemosFault)
    → is_wad_file bytes ≡ true → TellsWad asked bytes (state out) (state out') (state' errors) (state' errors') result
    → RunsDemos state state' asked bytes out out' errors errors' result
wad_told state state' asked bytes out out' errors errors' result is told =
    subst (λ (b : Bool). MatchBool b
    (LeavesWad bytes out out' errors errors' result ⊎ TellsWad asked bytes (state out) (state out') (state' errors) (state' errors') result)
    (WritesTold (IsDemoTold asked None bytes) (state out) (state out') (state' errors) (state' errors') result)) (sym is) (inr told)

-- the message about a demo that is refused was taken, and then its object or not
pub told_refused : (texts : Texts) (out between out' errors errors' : SinkState) → Keeps out.taken between.taken → Appends errors.taken errors'.taken texts.messages
    → errors'.failed ≡ false → Appends between.taken out'.taken texts.answer → out'.failed ≡ false → TellsDemo texts false out out' errors errors' (Ok false)
told_refused texts out between out' errors errors' same told refusals answered answers =
    (refl, record { answered = appends_kept out.taken between.taken out'.taken texts.answer same answered; told = told; answers = answers; refusals = refusals })

pub lacks_answer : (texts : Texts) (out between out' errors errors' : SinkState) → Keeps out.taken between.taken → Appends errors.taken errors'.taken texts.messages
    → errors'.failed ≡ false → TakesFront between out' texts.answer → out'.failed ≡ true → StopsDemo texts false out out' errors errors' (fault.Write false)
lacks_answer texts out between out' errors errors' same told refusals front failed =
    (refl, inl (record { told = told; front = front_kept out between out' texts.answer same front; failed = failed; refusals = refusals }))
