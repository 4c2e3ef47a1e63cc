use Rattle.std.proofs.Common.{sym, ◌∙◌}
use Rattle.atlas_page.proofs.legend.write_code.Goals as goal

pub returns-then-is_found : goal.returns-then-is_found
returns-then-is_found g c =
    let found = rw c.at-code.ensures at c.is_found.ensures in
    let wrote = rw c.at-code.ensures at c.write_parts.ensures in
    rw (sym found ∙ c.if-is_found.true) wrote

pub returns-else-is_found : goal.returns-else-is_found
returns-else-is_found g c =
    let found = rw c.at-code.ensures at c.is_found.ensures in
    rw (sym found ∙ c.if-is_found.false) c.emit.ensures
