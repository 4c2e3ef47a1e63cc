-- The base files among the files that are lent.
use Rattle.std.proofs.Common.{◌≡◌, ℕ, List, Bor, length, map, Result, Ok, Err, inl, inr, refl, sym, ap, ◌∙◌, arith}
use Rattle.std.specs.Prelude.{IfOk, drop, take, ◌-◌}
use Rattle.std.proofs.lemmas.List.{drop-map, length-drop, take-map, take_all}
use Rattle.le_rec.specs.Sink.{SinkState}
use Rattle.lens_calls.specs.Told.{TellsAll, TellsOver, TellsRefused}
use Rattle.lens_calls.specs.declared.asked.LensFault.{LensFault}
use Rattle.lens_engines.specs.Rules.{IsOver}
use Rattle.lens_engines.specs.declared.judging.Judging.{Judging}
use Rattle.lens_engines.specs.declared.judging.Rules.{Rules}
use Rattle.lens_engines.specs.declared.verdict.Verdict.{Verdict}
use Rattle.lens_reports.specs.Bases.{AreBases, IsRefusedAt, path_at}
use Rattle.lens_reports.specs.Files.{lent}
use Rattle.lens_reports.specs.declared.bases.BaseFault.{BaseFault}
use Rattle.lens_reports.specs.declared.tell.ReportKind.{ReportKind}
use Rattle.wad_dir.specs.Wad.{Wad}

-- the first of some slices, and those behind them
pub first_slices : (n : ℕ) (slices : List (Bor (List ℕ))) → map (λ slice. slice.now) (take n slices) ≡ take n (map (λ slice. slice.now) slices)
first_slices n slices = sym (take-map (λ (slice : Bor (List ℕ)). slice.now) n slices)

pub other_slices : (n : ℕ) (slices : List (Bor (List ℕ))) → map (λ slice. slice.now) (take (length slices - n) (drop n slices)) ≡ drop n (map (λ slice. slice.now) slices)
other_slices n slices =
    ap (map (λ (slice : Bor (List ℕ)). slice.now)) (take_all (length slices - n) (drop n slices) (omega (arith, length-drop n slices)))
    ∙ sym (drop-map (λ (slice : Bor (List ℕ)). slice.now) n slices)

-- the first files were read, and the others told over them
pub tells_others : (word : ReportKind) (rules : Rules) (bases : ℕ) (paths files : List (List ℕ)) (base : List Wad) (judging : Judging) (out out' errors errors' : SinkState)
    (result : Result Verdict LensFault) → AreBases (lent (take bases files)) (take bases paths) base → IsOver rules base judging
    → IfOk result (TellsAll (record { word = word; judging = judging }) (drop bases paths) (drop bases files) out out' errors errors')
    → IfOk result (TellsOver word rules bases paths files out out' errors errors')
tells_others word rules bases paths files base judging out out' errors errors' (Ok verdict) are over told =
    inr (record { base = base; are_bases = are; judging = judging; over = over; told = told })
tells_others word rules bases paths files base judging out out' errors errors' (Err fault) are over told = tt

-- or one of the first is refused
pub refuses_base : (word : ReportKind) (rules : Rules) (bases : ℕ) (paths files : List (List ℕ)) (first : BaseFault) (out errors errors' : SinkState)
    (result : Result Verdict LensFault) → IsRefusedAt (lent (take bases files)) (take bases paths) first
    → IfOk result (TellsRefused (path_at (take bases paths) first.place) first.fault errors errors')
    → IfOk result (TellsOver word rules bases paths files out out errors errors')
refuses_base word rules bases paths files first out errors errors' (Ok verdict) refused told =
    inl (record { first = first; refused = refused; untouched = refl; told = told })
refuses_base word rules bases paths files first out errors errors' (Err fault) refused told = tt
