-- What `listing` does over a file in memory (ours): it writes the listing of the file's demo, or reports why the file has none.
use Rattle.std.specs.Prelude.{◌≡◌, ◌⊎◌, ℕ, ◌<◌, ◌≤◌, List, length, None}
use Rattle.std.specs.Io.KnownBytes.{Appends}
use Rattle.demo_engines.specs.RefusalText.{refusal_line as demo_refusal_line}
use Rattle.demo_listings.specs.Listing.{listing}
use Rattle.later_demos.specs.Demo.{Demo, IsDemo}
use Rattle.later_demos.specs.FaultText.{fault_text}
use Rattle.later_demos.specs.Refusal.{RefusesDemo}
use Rattle.later_demos.specs.declared.fault.LaterFault.{LaterFault}
use Rattle.le_rec.specs.Sink.{SinkState}
use Rattle.lens_calls.specs.Why.{TellsWhy}
use Rattle.lens_engines.specs.declared.object.FileRefusal.TheVariants.{TooLarge}
use Rattle.lens_engines.specs.declared.verdict.Verdict.{Verdict}
use Rattle.lens_engines.specs.declared.verdict.Verdict.TheVariants.{Clean, Unjudged}
use Rattle.lens_reports.specs.Run.{refusal_line}
use Rattle.line_io.specs.declared.input.TheConstants.{MAX_READ}

-- the file's demo was listed
pub record ListsDemo (bytes : List ℕ) (out out' errors errors' : SinkState) (verdict : Verdict) : Type 0 where
  pub demo : Demo
  pub is : IsDemo bytes demo
  pub took : Appends out.taken out'.taken (listing demo)
  pub silent : errors' ≡ errors
  pub says : verdict ≡ Clean

-- it holds none, and the reason was reported
pub record ListsNone (path bytes : List ℕ) (out out' errors errors' : SinkState) (verdict : Verdict) : Type 0 where
  pub fault : LaterFault
  pub holds : RefusesDemo bytes fault
  pub tells : TellsWhy (demo_refusal_line path None (fault_text fault)) Unjudged out out' errors errors' verdict

-- one of the two
abbrev pub ListsBytes : List ℕ → List ℕ → SinkState → SinkState → SinkState → SinkState → Verdict → Type 0
ListsBytes path bytes out out' errors errors' verdict =
    ListsDemo bytes out out' errors errors' verdict ⊎ ListsNone path bytes out out' errors errors' verdict

-- the file was read
pub record ListsRead (path bytes : List ℕ) (out out' errors errors' : SinkState) (verdict : Verdict) : Type 0 where
  pub few : length bytes ≤ MAX_READ
  pub lists : ListsBytes path bytes out out' errors errors' verdict

-- it is larger than what is read, and this was reported
pub record ListsTooLarge (path bytes : List ℕ) (out out' errors errors' : SinkState) (verdict : Verdict) : Type 0 where
  pub large : MAX_READ < length bytes
  pub tells : TellsWhy (refusal_line path TooLarge) Unjudged out out' errors errors' verdict

abbrev pub ListsFile : List ℕ → List ℕ → SinkState → SinkState → SinkState → SinkState → Verdict → Type 0
ListsFile path bytes out out' errors errors' verdict =
    ListsTooLarge path bytes out out' errors errors' verdict ⊎ ListsRead path bytes out out' errors errors' verdict
