use Rattle.std.proofs.Common.{◌≡◌, Some, sym, ap, ◌∙◌, rules}
use Rattle.level_codes.specs.Codes.{CodeRow, code_at, code_name, small}
use Rattle.level_codes.proofs.CodeLemmas.{code_name-at, same_from_small}
use Rattle.level_codes.proofs.code.ReportCode.from_word.Goals as goal

pub returns-then-is_spelled : goal.returns-then-is_spelled
returns-then-is_spelled c =
    let k = c.loop-rank.rank in
    let row = c.row_at-row.result.now in
    let same : small row.name.now ≡ small c.args.word.now = search rules in
    let at : row.code ≡ code_at k = ap (λ (r : CodeRow). r.code) c.row_at-row.ensures in
    let named : small (code_name (code_at k)) ≡ small c.args.word.now =
    ap small (code_name-at k c.loop-rank-test.true ∙ sym (ap (λ (r : CodeRow). r.name) c.row_at-row.ensures)) ∙ same in
    λ code. (
      (λ is. let one : row.code ≡ code = cc in rw (sym one ∙ at) named),
      (λ other. ap (λ found. Some found) (at ∙ same_from_small (code_at k) code (named ∙ sym other))),
    )
