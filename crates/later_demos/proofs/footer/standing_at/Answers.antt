use Rattle.std.proofs.Common.{arith, rules}
use Rattle.std.specs.Prelude.{FitsSigned}
use Rattle.std.specs.Int.{w32}
use Rattle.wad_dir.proofs.StandingLemmas.{range_stands, read_number}
use Rattle.later_demos.proofs.footer.standing_at.Goals as goal

pub returns-clause-some : goal.returns-clause-some
returns-clause-some c =
    let fits : FitsSigned w32 c.args.place = search rules in
    range_stands c.args.bytes.now c.in_ok-start.start c.args.size _ c.args.place (omega arith)
    (omega arith)
    (read_number c.args.place c.in_ok-start.start fits c.in_ok-start.ensures.value)
