-- What is told of demos, from what their engine says.
use Rattle.std.proofs.Common.{◌≡◌, inl, inr, Bool, true, false, List, [], ◌∷◌, None, Result, Ok, Err, refl, sym, ap, subst}
use Rattle.std.specs.Prelude.{◌⊎◌, ℕ, MatchBool}
use Rattle.demo_engines.specs.Demos.{DemosAsked, IsDemoTold, LeavesWad, OnErrors, RefusesFile, RunsDemos, StopsDemo, StopsTelling, TellsWad, Texts, WritesTold, fault_after, is_wad_file}
use Rattle.demo_engines.specs.declared.demos.DemosFault.{DemosFault}
use Rattle.demo_engines.specs.declared.demos.DemosFault.TheVariants.{NoWad, Write, Errors, Memory}
use Rattle.le_rec.specs.Sink.{SinkState}
use Rattle.wad_dir.specs.Wad.{Wad}
use Rattle.lens_reports.specs.DemosTold.{LeavesDemos, TellsDemos, answers_in, fault_of_demos}
use Rattle.lens_reports.specs.Run.{OnBytesErrors}
use Rattle.lens_texts.specs.declared.form.Form.{Form}
use Rattle.lens_reports.specs.declared.tell.ReportSum.{ReportSum}

-- a demo isn't told to its end only where an end failed
abbrev EndsDemo : DemosFault → SinkState → Type 0
EndsDemo (NoWad why) out' = ⊥
EndsDemo (Write all_read) out' = out'.failed ≡ true
EndsDemo Errors out' = Unit {0}
EndsDemo Memory out' = ⊥

demo_ends : (texts : Texts) (is_read : Bool) (out out' errors errors' : SinkState) (why : DemosFault) → StopsDemo texts is_read out out' errors errors' why → EndsDemo why out'
demo_ends texts is_read out out' errors errors' (NoWad why) stops = absurd stops
demo_ends texts is_read out out' errors errors' (Write all_read) (same, inl lacks) = lacks.failed
demo_ends texts is_read out out' errors errors' (Write all_read) (same, inr lacks) = lacks.failed
demo_ends texts is_read out out' errors errors' Errors stops = tt
demo_ends texts is_read out out' errors errors' Memory stops = absurd stops

after_ends : (all : Bool) (why : DemosFault) (out' : SinkState) → EndsDemo why out' → EndsDemo (fault_after all why) out'
after_ends all (NoWad why) out' ends = ends
after_ends all (Write one) out' ends = ends
after_ends all Errors out' ends = ends
after_ends all Memory out' ends = ends

entries_end : (asked : DemosAsked) (files : List Wad) (out out' errors errors' : SinkState) (why : DemosFault) → StopsTelling asked files out out' errors errors' why → EndsDemo why out'
entries_end asked files out out' errors errors' why stops =
    subst (λ (w : DemosFault). EndsDemo w out') (sym stops.says)
    (after_ends stops.all stops.at_entry out' (demo_ends stops.here stops.one stops.out_between out' stops.errors_between errors' stops.at_entry stops.stops))

module _ {W E : Type 0} (state : W → SinkState) (state' : E → SinkState) (form : Form) (path bytes : List ℕ) (out out' : W) (errors errors' : E) where
  abbrev Wads : Result Bool DemosFault → Type 0
  Wads result = TellsWad (answers_in form path) bytes (state out) (state out') (state' errors) (state' errors') result

  abbrev Alone : Result Bool DemosFault → Type 0
  Alone result = WritesTold (IsDemoTold (answers_in form path) None bytes) (state out) (state out') (state' errors) (state' errors') result

  -- all were told
  pub demos_told : (all_read : Bool) → RunsDemos state state' (answers_in form path) bytes out out' errors errors' (Ok all_read)
      → TellsDemos (answers_in form path) bytes (state out) (state out') (state' errors) (state' errors') (Ok all_read)
      × ((state out').failed ≡ false) × ((state' errors').failed ≡ false)
  demos_told all_read ran = go (is_wad_file bytes) ran
    where
      no_err : (fault : DemosFault) → ◌≡◌ {A = Result Bool DemosFault} (Ok all_read) (Err fault) → ⊥
      no_err fault same = cc

      go : (is : Bool) → MatchBool is (LeavesWad bytes out out' errors errors' (Ok all_read) ⊎ Wads (Ok all_read)) (Alone (Ok all_read))
          → MatchBool is (Wads (Ok all_read)) (Alone (Ok all_read)) × ((state out').failed ≡ false) × ((state' errors').failed ≡ false)
      go true (inl left) = absurd (no_err left.fault left.ended)
      go true (inr told) = (told, told.does.all.took.answers, told.does.all.took.refusals)
      go false told = (told, told.tells.1.answers, told.tells.1.refusals)

  err_same : (v w : DemosFault) → ◌≡◌ {A = Result Bool DemosFault} (Err v) (Err w) → v ≡ w
  err_same v w same = cc

  -- nothing was written
  left_unwritten : (why : DemosFault) → is_wad_file bytes ≡ true → RefusesFile bytes why → out' ≡ out → errors' ≡ errors
      → LeavesDemos state state' form path bytes out out' errors errors' (fault_of_demos why)
  left_unwritten (NoWad why) is refuses same silent = (is, refuses, same, silent)
  left_unwritten (Write all_read) is refuses same silent = absurd refuses
  left_unwritten Errors is refuses same silent = absurd refuses
  left_unwritten Memory is refuses same silent = (ap state same, ap state' silent)

  -- an end failed
  left_failed : (why : DemosFault) → TellsDemos (answers_in form path) bytes (state out) (state out') (state' errors) (state' errors') (Err why) → EndsDemo why (state out')
      → LeavesDemos state state' form path bytes out out' errors errors' (fault_of_demos why)
  left_failed (NoWad why) told ends = absurd ends
  left_failed (Write all_read) told ends = (record { all_read = all_read; told = told; counts = refl }, ends)
  left_failed Errors told ends = told
  left_failed Memory told ends = absurd ends

  -- not all were told
  pub demos_left : (why : DemosFault) → RunsDemos state state' (answers_in form path) bytes out out' errors errors' (Err why)
      → LeavesDemos state state' form path bytes out out' errors errors' (fault_of_demos why)
  demos_left why ran = go (is_wad_file bytes) refl ran
    where
      go : (is : Bool) → is_wad_file bytes ≡ is → MatchBool is (LeavesWad bytes out out' errors errors' (Err why) ⊎ Wads (Err why)) (Alone (Err why))
          → LeavesDemos state state' form path bytes out out' errors errors' (fault_of_demos why)
      go true e (inl left) = left_unwritten why e (subst (RefusesFile bytes) (sym (err_same why left.fault left.ended)) left.holds) left.untouched left.silent
      go true e (inr told) =
          left_failed why (subst (λ (b : Bool). MatchBool b (Wads (Err why)) (Alone (Err why))) (sym e) told)
          (entries_end (answers_in form path) (told.file ∷ []) (state out) (state out') (state' errors) (state' errors') why told.does.some)
      go false e told =
          left_failed why (subst (λ (b : Bool). MatchBool b (Wads (Err why)) (Alone (Err why))) (sym e) told)
          (demo_ends told.texts told.is_read (state out) (state out') (state' errors) (state' errors') why told.tells)

-- what holds where standard error failed
pub handed_of_demos : (why : DemosFault) (holds : Type 0) → OnErrors (Err why) holds → OnBytesErrors {T = ReportSum} (Err (fault_of_demos why)) holds
handed_of_demos (NoWad why) holds is = tt
handed_of_demos (Write all_read) holds is = tt
handed_of_demos Errors holds is = is
handed_of_demos Memory holds is = tt
