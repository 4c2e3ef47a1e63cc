use Rattle.std.proofs.Common.{◌∷◌, ◌<◌, length, drop, to_z, of_z, sym, ap, ◌∙◌, arith, rules}
use Rattle.std.specs.Prelude.{FitsSigned}
use Rattle.std.specs.Int.{w16, w32}
use Rattle.std.proofs.lemmas.Int.{to_z-of_z}
use Rattle.le_rec.specs.Number.{signed16_at}
use Rattle.le_rec.specs.declared.records.Word.{Word}
use Rattle.map_level.specs.Reading.{number_of}
use Rattle.map_tables.specs.Words.{words_under}
use Rattle.map_tables.proofs.WordLemmas.{length-words, words-first}
use Rattle.map_tables.proofs.block_lines.BlockLinesIterator.next.Goals as goal

pub returns-clause-steps : goal.returns-clause-steps
returns-clause-steps c =
    let inside = c.self.inside in
    let fits : FitsSigned w32 c.number.result = search rules in
    let short : FitsSigned w16 c.read.result.number = search rules in
    let cut = c.in_ok-word.ensures.cases in
    let first = to_z-of_z w32 c.number.result fits ∙ c.number.ensures.value
    ∙ ap (number_of inside.reading) (to_z-of_z w16 c.read.result.number short ∙ ap (λ (w : Word). w.number) c.read.ensures
    ∙ ap (λ two. signed16_at two 0) cut.1) in
    sym c.self.view_is ∙ words-first inside.reading inside.bytes.now cut.0
    ∙ ap (λ w. w ∷ (words_under inside.reading (drop 2 inside.bytes.now)).numbers) (sym first)
    ∙ ap (λ bytes. to_z w32 (of_z w32 c.number.result) ∷ (words_under inside.reading bytes).numbers)
    (sym cut.2)

pub returns-clause-goes : goal.returns-clause-goes
returns-clause-goes c =
    let inside = c.self.inside in
    let cut = c.in_ok-word.ensures.cases in
    let shorter : length (words_under inside.reading c.in_ok-word.after.now).numbers
    < length c.args.self.now =
    omega (
      arith,
      ap length c.self.view_is,
      length-words inside.reading inside.bytes.now,
      length-words inside.reading c.in_ok-word.after.now,
      cut.4,
    ) in
    search rules
