-- The command `levels`: its text (ours), and what its run does.
use Rattle.std.specs.Prelude.{◌≡◌, ℕ, ◌+◌, ◌-◌, ◌<◌, ◌≤◌, ◌↔◌, Bool, List, [], ◌∷◌, ◌++◌, AllPairs, Contains, IsTrue, Some, Result, codes, if◌then◌else◌}
use Rattle.std.specs.Fmt.{decimal}
use Rattle.std.specs.List.{slice_get, flat_map}
use Rattle.le_rec.specs.Name.{query_of, shown_name}
use Rattle.le_rec.specs.Sink.{SinkState}
use Rattle.line_io.specs.Writes.{Writes}
use Rattle.map_level.specs.LinkFaults.{usual_names}
use Rattle.wad_dir.specs.Entries.{names}
use Rattle.wad_dir.specs.Wad.{Wad}
use Rattle.wad_dir.specs.Winner.{Wins}
use Rattle.look_engines.specs.Opening.{AreRead, RefusesFiles}
use Rattle.look_engines.specs.Runs.{Runs}
use Rattle.look_engines.specs.declared.engines.levels.Listed.{Listed}
use Rattle.look_engines.specs.declared.fault.RunFault.{RunFault}

-- the ten entries after a number are there and have the usual names, in order
abbrev pub IsLabel : List (List ℕ) → ℕ → Type 0
IsLabel all g = (k : ℕ) → 1 ≤ k → k ≤ 10 → slice_get all (g + k) ≡ slice_get usual_names (k - 1)

-- the numbers of the labels, ascending, and no others
pub record AreLabels (all : List (List ℕ)) (labels : List ℕ) : Type 0 where
  pub ascending : AllPairs (λ a b. a < b) labels
  pub exact : (g : ℕ) → Contains labels g ↔ IsLabel all g

-- a level as it is listed: it is hidden if a look-up of its name gives another entry or none
pub record IsListed (all : List (List ℕ)) (level : Listed) : Type 0 where
  pub label : IsLabel all level.label
  pub named : slice_get all level.label ≡ Some level.name
  pub hidden : IsTrue level.hidden ↔ ¬ Wins all (query_of level.name) level.label

-- the levels of a list of names: each of them once, by their labels, and no others
pub record AreListed (all : List (List ℕ)) (found : List Listed) : Type 0 where
  pub ascending : AllPairs (λ a b. a.label < b.label) found
  pub exact : (level : Listed) → Contains found level ↔ IsListed all level

-- what a line ends with
abbrev pub hidden_text : Bool → List ℕ
hidden_text hidden = if hidden then codes " hidden" ++ 10 ∷ [] else 10 ∷ []

-- `<g> <name>`, and ` hidden` where it is
unfoldable pub level_line : Listed → List ℕ
level_line level = decimal level.label ++ (codes " " ++ (shown_name level.name ++ hidden_text level.hidden))

-- the text of `levels`
abbrev pub levels_text : List Listed → List ℕ
levels_text found = flat_map level_line found

-- the levels of the files
pub record AreLevels (bytes : List (List ℕ)) (found : List Listed) : Type 0 where
  pub files : List Wad
  pub read : AreRead bytes files
  pub listed : AreListed (names files) found

-- a run over files of these bytes and a sink, by the sink's state
abbrev pub RunsLevels : {W : Type 0} → (W → SinkState) → List (List ℕ) → W → W → Result (Unit {0}) RunFault → Type 0
RunsLevels sink bytes out out' result =
    Runs (RefusesFiles bytes) (out' ≡ out) (AreLevels bytes) (λ found outcome. Writes (sink out) (sink out') (levels_text found) outcome) result
