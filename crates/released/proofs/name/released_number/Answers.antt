use Rattle.std.proofs.Common.{◌-◌, length, map, true, false, w32, sym, ap, ◌∙◌, arith}
use Rattle.std.proofs.lemmas.Int.{to_z_pos}
use Rattle.released.specs.CheckName.{copied, has_words, released_search}
use Rattle.released.proofs.NameLemmas.{search_step}
use Rattle.released.proofs.name.released_number.Goals as goal

pub returns-then-has_words : goal.returns-then-has_words
returns-then-has_words c =
    let names = c.args.names.now in
    let name = c.asked_name-name.result in
    let place = c.loop-i.i - 1 in
    let here =
    ap (λ stored. has_words stored name) (sym c.copied.ensures)
    ∙ sym c.has_words.ensures
    ∙ c.if-has_words.true in
    to_z_pos w32 place (omega (arith, c.requires))
    ∙ sym (c.loop-i.invariant.1
    ∙ search_step names name c.loop-i.i place (omega arith) (omega arith) true here)
    ∙ ap (λ asked. released_search (map copied names) asked (length names)) c.asked_name-name.ensures

pub loop-i-preserved : goal.loop-i-preserved
loop-i-preserved c =
    let names = c.args.names.now in
    let name = c.asked_name-name.result in
    let place = c.loop-i.i - 1 in
    let here =
    ap (λ stored. has_words stored name) (sym c.copied.ensures)
    ∙ sym c.has_words.ensures
    ∙ c.if-has_words.false in (
      omega arith,
      c.loop-i.invariant.1
          ∙ search_step names name c.loop-i.i place (omega arith) (omega arith) false here,
    )
