-- The text of a record before other bytes.
use Rattle.std.proofs.Common.{◌≡◌, ℕ, ◌+◌, List, [], ◌∷◌, ◌++◌, drop, Some, refl, ap, sym, ◌∙◌}
use Rattle.std.proofs.lemmas.List.{append_assoc}
use Rattle.std.specs.List.{slice_get}
use Rattle.le_rec.specs.Layout.{Field, Values, Layout}
use Rattle.look_engines.specs.Engines.Show.{field_text, fields_text, record_text, record_line, record_lines}
use Rattle.line_io.proofs.RestLemmas.{drop-at}

-- the text of fields before other bytes, field by field
abbrev pub fields_before : (fields : List Field) → Values fields → List ℕ → List ℕ
fields_before [] values rest = rest
fields_before (field ∷ fields) (value, values) rest = field_text field value ++ fields_before fields values rest

fields_text-before : (fields : List Field) (values : Values fields) (rest : List ℕ) → fields_before fields values rest ≡ fields_text fields values ++ rest
fields_text-before [] values rest = refl
fields_text-before (field ∷ fields) (value, values) rest =
    ap (λ text. field_text field value ++ text) (fields_text-before fields values rest) ∙ sym (append_assoc (field_text field value) (fields_text fields values) rest)

pub record_text-before : {R : Type 0} (layout : Layout R) (r : R) (rest : List ℕ) → fields_before layout.fields (layout.values r) rest ≡ record_text layout r ++ rest
record_text-before layout r rest = fields_text-before layout.fields (layout.values r) rest

-- the lines of records from a place on
pub record_lines-drop : {R : Type 0} (layout : Layout R) (records : List R) (i : ℕ) (r : R) → slice_get records i ≡ Some r
    → record_lines layout i (drop i records) ≡ record_line layout i r ++ record_lines layout (i + 1) (drop (i + 1) records)
record_lines-drop layout records i r at = rw (drop-at records i r at) refl
