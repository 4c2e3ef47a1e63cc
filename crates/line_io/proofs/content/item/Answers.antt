use Rattle.std.proofs.Common.{◌≡◌, ◌∷◌, ap, ◌∙◌}
use Rattle.line_io.proofs.ReadingLemmas.{weaker, behind_space, none_behind_space}
use Rattle.line_io.proofs.content.item.Goals as goal

pub returns-then-not-separated : goal.returns-then-not-separated
returns-then-not-separated c = rw c.if-not-separated.true c.number.ensures

pub returns-in-Some-eq32-default : goal.returns-in-Some-eq32-default
returns-in-Some-eq32-default c =
    let bytes = c.args.bytes.now in
    let rest = c.in-Some-eq32-default.rest.now in
    let space : bytes ≡ 32 ∷ rest =
    c.in-Some-eq32-default.ensures.cases.0
    ∙ ap (λ b. b ∷ rest) c.in-Some-eq32-default.field-0-0-test in
    rw c.if-not-separated.false (weaker _ c.number-in-Some-eq32-default.ensures
    (none_behind_space bytes rest space)
    (λ found. behind_space bytes rest found.0 found.1 found.2.now space))
