use Rattle.std.proofs.Common.{◌≡◌, ap, arith, length}
use Rattle.level_codes.specs.Codes.{CodeRow, code_name}
use Rattle.level_codes.proofs.CodeLemmas.{name-short}
use Rattle.level_codes.proofs.code.ReportCode.name.Goals as goal

pub returns-clause-short : goal.returns-clause-short
returns-clause-short c =
    let is : c.row.result.now.name.now ≡ code_name c.args.self = ap (λ (row : CodeRow). row.name) c.row.ensures in
    omega (arith, ap length is, name-short c.args.self)
