use Rattle.std.proofs.Common.{◌≡◌, Some, sym, ap, ◌∙◌, rules}
use Rattle.level_codes.specs.Codes.{CodeRow, code_at, code_name}
use Rattle.level_codes.proofs.CodeLemmas.{code_name-at, same_from_name}
use Rattle.level_codes.proofs.code.ReportCode.named.Goals as goal

pub returns-then-eq : goal.returns-then-eq
returns-then-eq c =
    let k = c.loop-rank.rank in
    let row = c.row_at-row.result.now in
    let same : row.name.now ≡ c.args.name.now = search rules in
    let at : row.code ≡ code_at k = ap (λ (r : CodeRow). r.code) c.row_at-row.ensures in
    let named : code_name (code_at k) ≡ c.args.name.now =
    code_name-at k c.loop-rank-test.true ∙ sym (ap (λ (r : CodeRow). r.name) c.row_at-row.ensures) ∙ same in
    λ code. (
      (λ is. let one : row.code ≡ code = cc in rw (sym one ∙ at) named),
      (λ other. ap (λ found. Some found) (at ∙ same_from_name (code_at k) code (named ∙ sym other))),
    )
