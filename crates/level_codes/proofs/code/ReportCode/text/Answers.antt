use Rattle.std.proofs.Common.{◌≡◌, ap, arith, length}
use Rattle.level_codes.specs.Codes.{CodeRow, text_of}
use Rattle.level_codes.proofs.CodeLemmas.{text-short}
use Rattle.level_codes.proofs.code.ReportCode.text.Goals as goal

pub returns-clause-short : goal.returns-clause-short
returns-clause-short c =
    let is : c.row.result.now.text.now ≡ text_of c.args.self = ap (λ (row : CodeRow). row.text) c.row.ensures in
    omega (arith, ap length is, text-short c.args.self)
