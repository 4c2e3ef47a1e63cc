-- The report on the demos of a file (ours): on the file itself, or on each demo lump of a WAD file in the order of the entries.
use Rattle.std.specs.Prelude.{◌≡◌, ◌⊎◌, ℕ, ◌+◌, ◌<◌, Bool, true, false, ◌&&◌, ◌||◌, List, [], ◌∷◌, ◌++◌, length, codes, nat_eq, Option, Some, None, Result, Ok, Err, IfErr, IfOk, MatchBool}
use Rattle.std.specs.Io.KnownBytes.{Appends, Keeps}
use Rattle.std.specs.List.{slice_get, starts_with}
use Rattle.later_demos.specs.Demo.{Demo, IsDemo}
use Rattle.later_demos.specs.FaultText.{fault_text}
use Rattle.later_demos.specs.Footer.{Footer, IsFooter}
use Rattle.later_demos.specs.Refusal.{RefusesDemo}
use Rattle.later_demos.specs.declared.fault.LaterFault.{LaterFault}
use Rattle.le_rec.specs.Sink.{SinkState}
use Rattle.line_io.specs.Writes.{TakesFront}
use Rattle.wad_dir.specs.Directory.{HasDirectory}
use Rattle.wad_dir.specs.Entries.{joined, names}
use Rattle.wad_dir.specs.Refusal.{RefusesWad}
use Rattle.wad_dir.specs.Slice.{IsLump}
use Rattle.wad_dir.specs.Wad.{IsRead, Wad}
use Rattle.demo_engines.specs.Objects.{demo_object, refused_object}
use Rattle.demo_engines.specs.RefusalText.{outside_text, refusal_line}
use Rattle.demo_engines.specs.Summary.{demo_line}
use Rattle.lens_texts.specs.declared.form.Form.{Form}
use Rattle.lens_texts.specs.declared.form.Form.TheVariants.{Lines, Objects}
use Rattle.demo_engines.specs.declared.demos.DemoQuestion.{DemoQuestion}
use Rattle.demo_engines.specs.declared.demos.DemosFault.{DemosFault}
use Rattle.demo_engines.specs.declared.demos.DemosFault.TheVariants.{NoWad, Write, Errors, Memory}

-- what is asked of demos: the file's path, and the form of the answer
pub record DemosAsked : Type 0 where
  pub path : List ℕ
  pub form : Form

-- what a question asks
abbrev pub asked_of : DemoQuestion → DemosAsked
asked_of question = record { path = question.path.now; form = question.form }

-- the texts of a report: the answer, and the messages that standard error takes
pub record Texts : Type 0 where
  pub answer : List ℕ
  pub messages : List ℕ

-- of no demo
abbrev pub no_texts : Texts
no_texts = record { answer = []; messages = [] }

-- of some, and then of others
abbrev pub texts_with : Texts → Texts → Texts
texts_with a b = record { answer = a.answer ++ b.answer; messages = a.messages ++ b.messages }

-- what is answered of a demo that is read
abbrev pub read_text : Form → List ℕ → Option (List ℕ) → Demo → Footer → List ℕ
read_text Lines path lump demo footer = demo_line path lump demo
read_text Objects path lump demo footer = demo_object path lump demo footer

-- of one that is refused, for a reason in words: its object, where objects are asked for
abbrev pub unread_text : Form → List ℕ → Option (List ℕ) → List ℕ → List ℕ
unread_text Lines path lump why = []
unread_text Objects path lump why = refused_object path lump why

-- what is told of a demo that is read
abbrev pub read_texts : DemosAsked → Option (List ℕ) → Demo → Footer → Texts
read_texts asked lump demo footer = record { answer = read_text asked.form asked.path lump demo footer; messages = [] }

-- of one that is refused: its message goes to standard error in any case
abbrev pub unread_texts : DemosAsked → Option (List ℕ) → List ℕ → Texts
unread_texts asked lump why = record { answer = unread_text asked.form asked.path lump why; messages = refusal_line asked.path lump why }

-- the texts for bytes that should be a demo, and whether they are one
pub data IsDemoTold (asked : DemosAsked) (lump : Option (List ℕ)) (bytes : List ℕ) : Texts → Bool → Type 0 where
  read : (demo : Demo) (footer : Footer) → IsDemo bytes demo → IsFooter demo.rest footer
      → IsDemoTold asked lump bytes (read_texts asked lump demo footer) true
  refused : (fault : LaterFault) → RefusesDemo bytes fault → IsDemoTold asked lump bytes (unread_texts asked lump (fault_text fault)) false

-- the name of a demo's lump begins so
abbrev pub is_demo_name : List ℕ → Bool
is_demo_name name = starts_with nat_eq name (codes "DEMO")

-- The texts for an entry, and whether it holds no refused demo. A lump of another name is no demo, nor is an empty one, as a file may empty a lump to
-- switch its demo off.
pub data IsEntryTold (asked : DemosAsked) (files : List Wad) (g : ℕ) : Texts → Bool → Type 0 where
  other_name : (name : List ℕ) → slice_get (names files) g ≡ Some name → is_demo_name name ≡ false → IsEntryTold asked files g no_texts true
  switched_off : (name : List ℕ) → slice_get (names files) g ≡ Some name → is_demo_name name ≡ true → IsLump files g []
      → IsEntryTold asked files g no_texts true
  inside : (name lump : List ℕ) (texts : Texts) (all_read : Bool) → slice_get (names files) g ≡ Some name → is_demo_name name ≡ true
      → IsLump files g lump → 0 < length lump → IsDemoTold asked (Some name) lump texts all_read → IsEntryTold asked files g texts all_read
  outside : (name : List ℕ) → slice_get (names files) g ≡ Some name → is_demo_name name ≡ true → ((lump : List ℕ) → ¬ IsLump files g lump)
      → IsEntryTold asked files g (unread_texts asked (Some name) outside_text) false

-- the texts for the entries below a number, in order, and whether none of them holds a refused demo
pub data ToldTo (asked : DemosAsked) (files : List Wad) : ℕ → Texts → Bool → Type 0 where
  at_start : ToldTo asked files 0 no_texts true
  with_entry : (g : ℕ) (before texts : Texts) (all one : Bool) → ToldTo asked files g before all → IsEntryTold asked files g texts one
      → ToldTo asked files (g + 1) (texts_with before texts) (all && one)

-- both ends took the texts, and haven't failed
pub record TakeAll (texts : Texts) (out out' errors errors' : SinkState) : Type 0 where
  pub answered : Appends out.taken out'.taken texts.answer
  pub told : Appends errors.taken errors'.taken texts.messages
  pub answers : out'.failed ≡ false
  pub refusals : errors'.failed ≡ false

-- The output failed within what is answered; a message goes before it.
pub record LacksAnswer (texts : Texts) (out out' errors errors' : SinkState) : Type 0 where
  pub told : Appends errors.taken errors'.taken texts.messages
  pub front : TakesFront out out' texts.answer
  pub failed : out'.failed ≡ true
  pub refusals : errors'.failed ≡ false

-- the output failed while it handed on what it held, before the message about a refused demo
pub record LacksHand (is_read : Bool) (out out' errors errors' : SinkState) : Type 0 where
  pub refused : is_read ≡ false
  pub same : Keeps out.taken out'.taken
  pub failed : out'.failed ≡ true
  pub silent : errors' ≡ errors

-- standard error failed within that message, and nothing more was answered
pub record LacksMessage (texts : Texts) (is_read : Bool) (out out' errors errors' : SinkState) : Type 0 where
  pub refused : is_read ≡ false
  pub same : Keeps out.taken out'.taken
  pub answers : out'.failed ≡ false
  pub front : TakesFront errors errors' texts.messages
  pub failed : errors'.failed ≡ true

-- why the texts for a demo weren't taken whole
abbrev pub StopsDemo : Texts → Bool → SinkState → SinkState → SinkState → SinkState → DemosFault → Type 0
StopsDemo texts is_read out out' errors errors' (Write all_read) =
    (all_read ≡ is_read) × (LacksAnswer texts out out' errors errors' ⊎ LacksHand is_read out out' errors errors')
StopsDemo texts is_read out out' errors errors' Errors = LacksMessage texts is_read out out' errors errors'
StopsDemo texts is_read out out' errors errors' (NoWad why) = ⊥
StopsDemo texts is_read out out' errors errors' Memory = ⊥

-- a demo was told, or as much of it as was taken
abbrev pub TellsDemo : Texts → Bool → SinkState → SinkState → SinkState → SinkState → Result Bool DemosFault → Type 0
TellsDemo texts is_read out out' errors errors' (Ok all_read) = (all_read ≡ is_read) × TakeAll texts out out' errors errors'
TellsDemo texts is_read out out' errors errors' (Err why) = StopsDemo texts is_read out out' errors errors' why

-- a text for a demo that is read or not was answered, or a front of it
abbrev pub Answers : List ℕ → Bool → SinkState → SinkState → Result Bool DemosFault → Type 0
Answers text is_read before after (Ok all_read) = (all_read ≡ is_read) × Appends before.taken after.taken text × (after.failed ≡ false)
Answers text is_read before after (Err (Write all_read)) = (all_read ≡ is_read) × TakesFront before after text × (after.failed ≡ true)
Answers text is_read before after (Err Errors) = ⊥
Answers text is_read before after (Err (NoWad why)) = ⊥
Answers text is_read before after (Err Memory) = ⊥

-- the same for the texts of one demo at most, whatever they are
pub record WritesTold (Is : Texts → Bool → Type 0) (out out' errors errors' : SinkState) (result : Result Bool DemosFault) : Type 0 where
  pub texts : Texts
  pub is_read : Bool
  pub is : Is texts is_read
  pub tells : TellsDemo texts is_read out out' errors errors' result

-- all entries were told
pub record TellsAll (asked : DemosAsked) (files : List Wad) (out out' errors errors' : SinkState) (all : Bool) : Type 0 where
  pub texts : Texts
  pub told : ToldTo asked files (length (joined files)) texts all
  pub took : TakeAll texts out out' errors errors'

-- a fault behind entries of which all demos were read or not
abbrev pub fault_after : Bool → DemosFault → DemosFault
fault_after all (NoWad why) = NoWad why
fault_after all (Write one) = Write (all && one)
fault_after all Errors = Errors
fault_after all Memory = Memory

-- all entries below one were reported on, and the report stopped within that one
pub record StopsTelling (asked : DemosAsked) (files : List Wad) (out out' errors errors' : SinkState) (why : DemosFault) : Type 0 where
  pub g : ℕ
  pub texts : Texts
  pub all : Bool
  pub told : ToldTo asked files g texts all
  pub out_between : SinkState
  pub errors_between : SinkState
  pub took : TakeAll texts out out_between errors errors_between
  pub here : Texts
  pub one : Bool
  pub is : IsEntryTold asked files g here one
  pub at_entry : DemosFault
  pub stops : StopsDemo here one out_between out' errors_between errors' at_entry
  pub says : why ≡ fault_after all at_entry

-- the demos of some files were told
pub record Tells (asked : DemosAsked) (files : List Wad) (out out' errors errors' : SinkState) (result : Result Bool DemosFault) : Type 0 where
  pub all : IfOk result (TellsAll asked files out out' errors errors')
  pub some : IfErr result (StopsTelling asked files out out' errors errors')

-- a file is a WAD file where its first four bytes say so, and else a demo
abbrev pub is_wad_file : List ℕ → Bool
is_wad_file bytes = starts_with nat_eq bytes (codes "IWAD") || starts_with nat_eq bytes (codes "PWAD")

-- why there is no report on a WAD file: its bytes have no directory; or they have one, and a growth was refused
abbrev pub RefusesFile : List ℕ → DemosFault → Type 0
RefusesFile bytes (NoWad why) = RefusesWad bytes why
RefusesFile bytes Memory = HasDirectory bytes
RefusesFile bytes Errors = ⊥
RefusesFile bytes (Write all_read) = ⊥

-- and nothing was written
pub record LeavesWad {W E : Type 0} (bytes : List ℕ) (out out' : W) (errors errors' : E) (result : Result Bool DemosFault) : Type 0 where
  pub fault : DemosFault
  pub ended : result ≡ Err fault
  pub holds : RefusesFile bytes fault
  pub untouched : out' ≡ out
  pub silent : errors' ≡ errors

-- the demos of a WAD file were told
pub record TellsWad (asked : DemosAsked) (bytes : List ℕ) (out out' errors errors' : SinkState) (result : Result Bool DemosFault) : Type 0 where
  pub file : Wad
  pub of_bytes : file.bytes ≡ bytes
  pub read : IsRead file
  pub does : Tells asked (file ∷ []) out out' errors errors' result

-- a report on a file of these bytes, into an output and standard error by their states
abbrev pub RunsDemos : {W E : Type 0} → (W → SinkState) → (E → SinkState) → DemosAsked → List ℕ → W → W → E → E → Result Bool DemosFault → Type 0
RunsDemos state state' asked bytes out out' errors errors' result =
    MatchBool (is_wad_file bytes)
    (LeavesWad bytes out out' errors errors' result ⊎ TellsWad asked bytes (state out) (state out') (state' errors) (state' errors') result)
    (WritesTold (IsDemoTold asked None bytes) (state out) (state out') (state' errors) (state' errors') result)

-- what holds where standard error failed
abbrev pub OnErrors : Result Bool DemosFault → Type 0 → Type 0
OnErrors (Ok all_read) holds = Unit {0}
OnErrors (Err (NoWad why)) holds = Unit {0}
OnErrors (Err (Write all_read)) holds = Unit {0}
OnErrors (Err Errors) holds = holds
OnErrors (Err Memory) holds = Unit {0}
