-- How the text of `audit` goes on from a finding.
use Rattle.std.proofs.Common.{◌≡◌, ℕ, ◌+◌, Bool, false, IsTrue, List, [], ◌∷◌, ◌++◌, drop, Some, Ok, Err, Result, IfOk, ◌↔◌, ◌∙◌, refl, sym, subst, arith}
use Rattle.std.proofs.lemmas.List.{append-nil}
use Rattle.std.proofs.lemmas.Bool.{false≢true}
use Rattle.std.specs.List.{slice_get, flat_map}
use Rattle.le_rec.specs.Sink.{SinkState}
use Rattle.line_io.specs.Writes.{Writes}
use Rattle.line_io.specs.declared.fault.IoFault.{IoFault}
use Rattle.map_level.specs.declared.finding.Finding.{Finding}
use Rattle.map_level.specs.declared.finding.Code.TheVariants.{F1, F2}
use Rattle.look_engines.specs.Engines.Audit.{TellsFindings, finding_line, totals_line}
use Rattle.line_io.proofs.RestLemmas.{drop-at}

-- the lines of the findings from a place on
pub finding_lines-drop : (findings : List Finding) (i : ℕ) (f : Finding) → slice_get findings i ≡ Some f
    → flat_map finding_line (drop i findings) ≡ finding_line f ++ flat_map finding_line (drop (i + 1) findings)
finding_lines-drop findings i f at = rw (drop-at findings i f at) refl

-- a text that stopped, whatever would have been answered
pub Writes-err : {T U : Type 0} {before after : SinkState} {text : List ℕ} {e : IoFault} → Writes {T = T} before after text (Err e) → Writes {T = U} before after text (Err e)
Writes-err w = record {
  takes = record { whole = tt; front = w.takes.front };
  ends = record { sound = tt; fault = w.ends.fault };
}

-- a fault that is the only finding: its line, and the totals of one fault
not_faultless : (r : Result Bool IoFault) → IfOk r (λ none. none ≡ false) → IfOk r (λ none. IsTrue none ↔ (◌≡◌ {A = ℕ} 1 0))
not_faultless (Ok none) is = ((λ t. absurd (false≢true (sym is ∙ t))), λ (one : ◌≡◌ {A = ℕ} 1 0). absurd (omega (arith, one)))
not_faultless (Err e) is = tt

pub missing_tells : (before after : SinkState) (k : ℕ) (result : Result Bool IoFault)
    → Writes before after (finding_line (record { code = F1; index = k }) ++ totals_line 1 0) result → IfOk result (λ none. none ≡ false)
    → TellsFindings before after ((record { code = F1; index = k }) ∷ []) result
missing_tells before after k result w is =
    record {
      writes = subst (λ (front : List ℕ). Writes before after (front ++ totals_line 1 0) result) (sym (append-nil (finding_line (record { code = F1; index = k })))) w;
      faultless = not_faultless result is;
    }

pub outside_tells : (before after : SinkState) (k : ℕ) (result : Result Bool IoFault)
    → Writes before after (finding_line (record { code = F2; index = k }) ++ totals_line 1 0) result → IfOk result (λ none. none ≡ false)
    → TellsFindings before after ((record { code = F2; index = k }) ∷ []) result
outside_tells before after k result w is =
    record {
      writes = subst (λ (front : List ℕ). Writes before after (front ++ totals_line 1 0) result) (sym (append-nil (finding_line (record { code = F2; index = k })))) w;
      faultless = not_faultless result is;
    }
