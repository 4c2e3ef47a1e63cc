use Rattle.std.proofs.Common.{◌≡◌, Some, sym, ap, ◌∙◌, rules}
use Rattle.std.specs.Prelude.{FitsSigned}
use Rattle.std.specs.Int.{w16, w32}
use Rattle.std.specs.List.{slice_get}
use Rattle.std.specs.Option.{option_map}
use Rattle.std.proofs.lemmas.Int.{to_z-of_z}
use Rattle.std.proofs.lemmas.Option.{slice_get-map}
use Rattle.le_rec.specs.Record.{word}
use Rattle.le_rec.specs.Table.{Rows, records_of}
use Rattle.le_rec.specs.declared.records.Word.{Word}
use Rattle.map_level.specs.Reading.{number_of}
use Rattle.map_tables.specs.Words.{numbers_of}
use Rattle.wadlook_c.proofs.block.word_at.Goals as goal

pub returns : goal.returns
returns c =
    let bytes = c.args.bytes.now in
    let reading = c.args.reading in
    let k = c.args.k in
    let fits : FitsSigned w32 c.number.result = search rules in
    let short : FitsSigned w16 c.in_ok-word.word.number = search rules in
    let there : Some c.in_ok-word.word ≡ slice_get (records_of 2 word bytes) k =
    c.in_ok-word.ensures ∙ ap (λ (rows : Rows Word). slice_get rows.records k) c.of.ensures in
    ap Some (to_z-of_z w32 c.number.result fits ∙ c.number.ensures.value
    ∙ ap (number_of reading) (to_z-of_z w16 c.in_ok-word.word.number short))
    ∙ ap (λ o. option_map (number_of reading) (option_map (λ (w : Word). w.number) o)) there
    ∙ sym (slice_get-map (number_of reading) (numbers_of bytes) k
    ∙ ap (option_map (number_of reading))
    (slice_get-map (λ (w : Word). w.number) (records_of 2 word bytes) k))
