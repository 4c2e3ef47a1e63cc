-- A member whose value is a text, from its parts; and as much of a text as is told.
use Rattle.std.specs.Prelude.{codes}
use Rattle.std.proofs.Common.{◌≡◌, ℕ, ◌<◌, ◌≤◌, List, [], ◌++◌, Result, length, min, take, refl, sym, ap, ◌∙◌, subst, inl, inr, arith}
use Rattle.std.proofs.lemmas.Bool.{cases_lt}
use Rattle.std.proofs.lemmas.List.{append_assoc, append-nil, take_all}
use Rattle.le_rec.specs.Sink.{SinkState}
use Rattle.lens_texts.specs.JsonString.{json_string}
use Rattle.line_io.specs.Writes.{Writes}
use Rattle.line_io.specs.declared.fault.IoFault.{IoFault}
use Rattle.demo_engines.specs.Objects.{text_member}

same_text : (name text : List ℕ)
    → (codes ",\"" ++ (name ++ (codes "\":" ++ []))) ++ json_string text ≡ text_member name text
same_text name text = simp (append_assoc, append-nil) refl

pub text_from : (name text : List ℕ) (before after : SinkState) (result : Result (Unit {0}) IoFault)
    → Writes before after ((codes ",\"" ++ (name ++ (codes "\":" ++ []))) ++ json_string text) result
    → Writes before after (text_member name text) result
text_from name text before after result wrote =
    subst (λ (t : List ℕ). Writes before after t result) (same_text name text) wrote

-- of a text that is shorter all is told
pub front_most : (most : ℕ) (text : List ℕ) → take (min (length text) most) text ≡ take most text
front_most most text = elim (cases_lt most (length text)) [
  | inl longer ↦
      let is : min (length text) most ≡ most = omega (arith, longer) in
      ap (λ (n : ℕ). take n text) is
  | inr all ↦ take_all (min (length text) most) text (omega (arith, all)) ∙ sym (take_all most text all)
]
