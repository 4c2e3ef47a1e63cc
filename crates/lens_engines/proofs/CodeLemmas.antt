-- The codes of a report, one after another.
use Rattle.std.proofs.Common.{◌≡◌, ℕ, inl, inr, ◌+◌, ◌-◌, ◌<◌, List, [], ◌∷◌, ◌++◌, Some, Ok, ◌≤◌, false, drop, take, length, get_or, refl, sym, ap, ◌∙◌, arith}
use Rattle.std.specs.Prelude.{min}
use Rattle.std.proofs.Math.Nat.{min-eq_left, min-eq_right}
use Rattle.std.proofs.lemmas.Bool.{cases_lt}
use Rattle.std.proofs.lemmas.List.{drop_all, take_all}
use Rattle.std.proofs.lemmas.Option.{slice_get-get_or}
use Rattle.std.specs.List.{flat_map}
use Rattle.map_level.specs.declared.finding.Code.{Code}
use Rattle.map_level.specs.declared.finding.Code.TheVariants.{F1}
use Rattle.map_level.specs.declared.search.TheConstants.{CODE_COUNT}
use Rattle.lens_engines.specs.Counts.{finding_order}
use Rattle.le_rec.specs.Sink.{SinkState}
use Rattle.line_io.proofs.WriteProgressLemmas.{SoFar, SoFar-none, SoFar-end}
use Rattle.line_io.specs.Writes.{Writes}
use Rattle.level_codes.specs.declared.code.ReportCode.{ReportCode}
use Rattle.lens_texts.specs.declared.remark.Remark.{Remark}
use Rattle.lens_engines.specs.LevelLines.{code_part, findings_part}
use Rattle.line_io.proofs.RestLemmas.{drop-at}

-- what is told of the codes from a rank on begins with the code there
pub codes-drop : (part : Code → List ℕ) (i : ℕ) (code : Code) → i < CODE_COUNT → code ≡ get_or finding_order i F1
    → flat_map part (drop i finding_order) ≡ part code ++ flat_map part (drop (i + 1) finding_order)
codes-drop part i code below is =
    let at = drop-at finding_order i code (slice_get-get_or finding_order i F1 below ∙ ap (λ c. Some c) (sym is)) in
    rw at refl

-- of a code that isn't told there is nothing to write
pub none_told : (text : Remark → List ℕ) (left : ReportCode → ℕ → List ℕ) (most : ℕ) (code : Code) (indexes : List ℕ) → length indexes ≡ 0
    → code_part text left most code indexes ≡ []
none_told text left most code [] none =
    let taken : take {A = ℕ} most [] ≡ [] = take_all most [] (omega arith) in
    let others : 0 - most ≡ 0 = omega arith in
    rw (taken, others) refl
none_told text left most code (i ∷ indexes) none = absurd (omega (arith, none))

-- the least of a number and of how many there are is shown
pub shown-take : (most : ℕ) (xs : List ℕ) → take (min most (length xs)) xs ≡ take most xs
shown-take most xs = elim (cases_lt most (length xs)) [
  | inl below ↦ ap (λ n. take n xs) (min-eq_left (omega (arith, below)))
  | inr past ↦ ap (λ n. take n xs) (min-eq_right past) ∙ take_all (length xs) xs (omega arith) ∙ sym (take_all most xs past)
]

pub shown-left : (most count : ℕ) → count - min most count ≡ count - most
shown-left most count = elim (cases_lt most count) [
  | inl below ↦ ap (λ n. count - n) (min-eq_left (omega (arith, below)))
  | inr past ↦ ap (λ n. count - n) (min-eq_right past) ∙ omega (arith, past)
]

-- of what is told of all codes nothing was written
pub codes-none : (text : Remark → List ℕ) (left : ReportCode → ℕ → List ℕ) (most : ℕ) (told : Code → List ℕ) (before : SinkState)
    → SoFar (findings_part text left most told) before before (flat_map (λ code. code_part text left most code (told code)) (drop 0 finding_order))
unfolding findings_part
codes-none text left most told before = SoFar-none (flat_map (λ code. code_part text left most code (told code)) finding_order) before

-- all of it was written
pub codes-end : {T : Type 0} {whole : List ℕ} {before after : SinkState} (part : Code → List ℕ) (i : ℕ) (x : T) → SoFar whole before after (flat_map part (drop i finding_order)) → CODE_COUNT ≤ i → after.failed ≡ false
    → Writes before after whole (Ok x)
codes-end part i x s past sound = SoFar-end x s (ap (flat_map part) (drop_all i finding_order past)) sound
