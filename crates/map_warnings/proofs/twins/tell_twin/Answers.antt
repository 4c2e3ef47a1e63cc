use Rattle.std.proofs.Common.{sym, rules}
use Rattle.map_warnings.proofs.TwinLemmas.{twin_tells, twin_alone}
use Rattle.map_warnings.proofs.twins.tell_twin.Goals as goal

pub tell_where-requires-clause-tells : goal.tell_where-requires-clause-tells
tell_where-requires-clause-tells g c =
    let first = rw c.ends_key.ensures at c.in_ok-earlier.ensures.first in
    let told = twin_tells c.args.level.now c.args.i c.in_ok-earlier.earlier c.in-Some.ends (sym c.in-Some.ensures.ends) c.in-Some.ensures.short first in
    (λ t. told.0 (search rules), λ h. let below = told.1 h in search rules)

pub tell_where-requires-clause-alone : goal.tell_where-requires-clause-alone
tell_where-requires-clause-alone g c =
    let first = rw c.ends_key.ensures at c.in_ok-earlier.ensures.first in
    twin_alone c.args.level.now c.args.i c.in_ok-earlier.earlier c.in-Some.ends (sym c.in-Some.ensures.ends) c.in-Some.ensures.short first
