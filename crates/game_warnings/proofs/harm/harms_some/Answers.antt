use Rattle.std.proofs.Common.{◌≡◌, ◌<◌, length, inl, inr, arith}
use Rattle.std.proofs.lemmas.Bool.{cases_lt}
use Rattle.map_level.specs.Links.{sectors_of}
use Rattle.map_level.proofs.BoundLemmas.{some_within}
use Rattle.game_warnings.proofs.harm.harms_some.Goals as goal

pub loop-s-preserved : goal.loop-s-preserved
loop-s-preserved c j below harmed = elim (cases_lt j c.loop-s.s) [
  | inl before ↦ c.loop-s.invariant j before harmed
  | inr past ↦
      let same : j ≡ c.loop-s.s = omega (arith, below, past) in
      let gone = c.if-is_harmed.ensures.1 (rw same at harmed) in
      cc
]

pub returns : goal.returns
returns c = (
  λ no. absurd (let gone = no in cc),
  λ some.
      let many : c.len-s-end.result ≡ length (sectors_of c.args.level.now) = rw (← c.sectors.ensures.is) c.len-s-end.ensures in
      let there = some_within (sectors_of c.args.level.now) some.0 _ some.1.tagged in
      let within : some.0 < c.loop-s.s = omega (arith, there, c.loop-s-test.false, c.loop-s.auto.s-end, many) in
      absurd (c.loop-s.invariant some.0 within some.1),
)
