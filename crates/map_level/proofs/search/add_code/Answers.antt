use Rattle.std.proofs.Common.{inl, inr}
use Rattle.std.proofs.lemmas.Bool.{cases_lt}
use Rattle.map_level.proofs.FindingLemmas.{found_code, found_more, found_no_more}
use Rattle.map_level.proofs.search.add_code.Goals as goal

pub finds-preserved : goal.finds-preserved
finds-preserved g c =
    let holds = g.T.Searched.holds c.args.searched.now in
    let first = c.in-Some.ensures.some in
    let before = found_no_more holds c.finds.found c.args.code c.finds.from c.in-Some.index c.finds.invariant first.within first.before in
    rw c.in_ok-push.ensures.ok (found_more holds c.finds.found (record { code = c.args.code; index = c.in-Some.index }) before first.here)

pub returns : goal.returns
returns g c =
    found_code (g.T.Searched.holds c.args.searched.now) c.finds.found c.args.code c.finds.from c.finds.invariant
    (λ i here. elim (cases_lt i c.finds.from) [
      | inl below ↦ below
      | inr past ↦ absurd (c.in_default.ensures.none i past here)
    ])
