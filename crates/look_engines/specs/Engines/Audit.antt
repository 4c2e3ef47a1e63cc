-- The text of `audit` (ours), and what its run does.
use Rattle.std.specs.Prelude.{◌≡◌, ◌⊎◌, ◌↔◌, ℕ, Bool, not, count_by, List, [], ◌∷◌, ◌++◌, Result, IfOk, IsTrue, codes}
use Rattle.std.specs.Fmt.{decimal}
use Rattle.std.specs.List.{flat_map}
use Rattle.le_rec.specs.Name.{query_of}
use Rattle.le_rec.specs.Sink.{SinkState}
use Rattle.line_io.specs.Writes.{Writes}
use Rattle.line_io.specs.declared.fault.IoFault.{IoFault}
use Rattle.map_audit.specs.Findings.{AuditHolds}
use Rattle.map_level.specs.Findings.{AreFindings, is_fault}
use Rattle.map_level.specs.Level.{Level}
use Rattle.map_level.specs.Opening.{RefusesLevel}
use Rattle.map_level.specs.declared.finding.Code.{Code}
use Rattle.map_level.specs.declared.finding.Code.TheVariants.{F1, F2, F3, F4, F5, F6, F7, F8, F9, F10, F11, F12, F13, F14, F15, F16, F17, F18, N1, N2, N3, N4, N5, N6, N7, N8, N9, N10, N11, N12}
use Rattle.map_level.specs.declared.finding.Finding.{Finding}
use Rattle.map_level.specs.declared.level.LevelFault.TheVariants.{NoLabel, Missing, Outside}
use Rattle.map_level.specs.declared.reading.Reading.{Reading}
use Rattle.wad_dir.specs.Wad.{Wad}
use Rattle.look_engines.specs.Opening.{AreRead, IsOpened, RefusesFiles}
use Rattle.look_engines.specs.Runs.{Runs}
use Rattle.look_engines.specs.declared.engines.audit.Audited.{Audited}
use Rattle.look_engines.specs.declared.engines.audit.Audited.TheVariants as audited
use Rattle.look_engines.specs.declared.fault.RunFault.{RunFault}
use Rattle.look_engines.specs.declared.fault.RunFault.TheVariants as fault

-- a code as it is printed
abbrev pub code_name : Code → List ℕ
code_name F1 = codes "F1"
code_name F2 = codes "F2"
code_name F3 = codes "F3"
code_name F4 = codes "F4"
code_name F5 = codes "F5"
code_name F6 = codes "F6"
code_name F7 = codes "F7"
code_name F8 = codes "F8"
code_name F9 = codes "F9"
code_name F10 = codes "F10"
code_name F11 = codes "F11"
code_name F12 = codes "F12"
code_name F13 = codes "F13"
code_name F14 = codes "F14"
code_name F15 = codes "F15"
code_name F16 = codes "F16"
code_name F17 = codes "F17"
code_name F18 = codes "F18"
code_name N1 = codes "N1"
code_name N2 = codes "N2"
code_name N3 = codes "N3"
code_name N4 = codes "N4"
code_name N5 = codes "N5"
code_name N6 = codes "N6"
code_name N7 = codes "N7"
code_name N8 = codes "N8"
code_name N9 = codes "N9"
code_name N10 = codes "N10"
code_name N11 = codes "N11"
code_name N12 = codes "N12"

-- what a code says
abbrev pub meaning : Code → List ℕ
meaning F1 = codes "lump missing after the label"
meaning F2 = codes "lump outside its file"
meaning F3 = codes "linedef vertex names none"
meaning F4 = codes "linedef side names none"
meaning F5 = codes "sidedef sector names none"
meaning F6 = codes "seg vertex names none"
meaning F7 = codes "seg linedef names none"
meaning F8 = codes "seg side is not 0 or 1"
meaning F9 = codes "seg's linedef has no side there"
meaning F10 = codes "ssector's segs out of range"
meaning F11 = codes "child names nothing"
meaning F12 = codes "node origin out of range"
meaning F13 = codes "node named twice or root named"
meaning F14 = codes "node not reached"
meaning F15 = codes "ssector named more than once"
meaning F16 = codes "ssector not reached"
meaning F17 = codes "no ssector"
meaning F18 = codes "more than 32767 nodes"
meaning N1 = codes "lump name differs"
meaning N2 = codes "bytes left over"
meaning N3 = codes "two-sided flag without side 1"
meaning N4 = codes "no side 0"
meaning N5 = codes "linedef of no length"
meaning N6 = codes "ssector without segs"
meaning N7 = codes "partition without direction"
meaning N8 = codes "REJECT size"
meaning N9 = codes "BLOCKMAP short"
meaning N10 = codes "block list faulty"
meaning N11 = codes "no player 1 start"
meaning N12 = codes "vertex out of range"

-- `<code> <index> <text>`
abbrev pub finding_line : Finding → List ℕ
finding_line f = code_name f.code ++ (codes " " ++ (decimal f.index ++ (codes " " ++ (meaning f.code ++ (10 ∷ [])))))

-- `faults <n> notes <m>`
abbrev pub totals_line : ℕ → ℕ → List ℕ
totals_line faults notes = codes "faults " ++ (decimal faults ++ (codes " notes " ++ (decimal notes ++ (10 ∷ []))))

-- how many findings are faults, and how many notes
abbrev pub fault_count : List Finding → ℕ
fault_count findings = count_by (λ f. is_fault f.code) findings

abbrev pub note_count : List Finding → ℕ
note_count findings = count_by (λ f. not (is_fault f.code)) findings

-- the text of findings: a line each, and the totals
abbrev pub audit_text_of : List Finding → List ℕ
audit_text_of findings = flat_map finding_line findings ++ totals_line (fault_count findings) (note_count findings)

-- all findings of the level of the files' name
pub record AreLevelFindings (bytes : List (List ℕ)) (asked : List ℕ) (reading : Reading) (findings : List Finding) : Type 0 where
  pub level : Level
  pub opened : IsOpened bytes asked reading level
  pub are : AreFindings (AuditHolds level) findings

-- the only finding where lump k of the level isn't there, F1, or isn't inside its file, F2
pub record IsLumpFinding (bytes : List (List ℕ)) (asked : List ℕ) (findings : List Finding) : Type 0 where
  pub files : List Wad
  pub read : AreRead bytes files
  pub k : ℕ
  pub lacks : (RefusesLevel files (query_of asked) (Missing k) × (findings ≡ (record { code = F1; index = k }) ∷ []))
      ⊎ (RefusesLevel files (query_of asked) (Outside k) × (findings ≡ (record { code = F2; index = k }) ∷ []))

-- the findings on a name: those of its level, or the one of its lump
abbrev pub AreAuditFindings : List (List ℕ) → List ℕ → Reading → List Finding → Type 0
AreAuditFindings bytes asked reading findings = AreLevelFindings bytes asked reading findings ⊎ IsLumpFinding bytes asked findings

-- the findings that were found
abbrev pub findings_of : {A : Type 0} → Audited A → List Finding
findings_of (audited.Whole report) = report
findings_of (audited.Missing k) = (record { code = F1; index = k }) ∷ []
findings_of (audited.Outside k) = (record { code = F2; index = k }) ∷ []

-- why a name isn't audited: there is no such label
abbrev pub RefusesAuditing : List (List ℕ) → List ℕ → RunFault → Type 0
RefusesAuditing bytes asked (fault.Level NoLabel) = (files : List Wad) × AreRead bytes files × RefusesLevel files (query_of asked) NoLabel
RefusesAuditing bytes asked (fault.Level _) = ⊥
RefusesAuditing bytes asked fault = RefusesFiles bytes fault

-- the text was written, and the result says whether there is no fault
pub record TellsFindings (before after : SinkState) (findings : List Finding) (result : Result Bool IoFault) : Type 0 where
  pub writes : Writes before after (audit_text_of findings) result
  pub faultless : IfOk result (λ none. IsTrue none ↔ (fault_count findings ≡ 0))

-- a run over files of these bytes and a sink, by the sink's state
abbrev pub RunsAudit : {W : Type 0} → (W → SinkState) → List (List ℕ) → List ℕ → Reading → W → W → Result Bool RunFault → Type 0
RunsAudit sink bytes asked reading out out' result =
    Runs (RefusesAuditing bytes asked) (out' ≡ out) (AreAuditFindings bytes asked reading)
    (λ findings outcome. TellsFindings (sink out) (sink out') findings outcome) result
