use Rattle.std.proofs.Common.{◌≡◌, inl, inr, refl, subst, arith}
use Rattle.std.proofs.lemmas.Bool.{cases_lt, false≢true}
use Rattle.map_cells.specs.Shown.{IsBehind}
use Rattle.map_cells.proofs.shown.is_before_segs.Goals as goal

pub loop-i-init : goal.loop-i-init
loop-i-init c = λ k from below. absurd (omega (arith, from, below))

pub loop-i-preserved : goal.loop-i-preserved
loop-i-preserved c = λ k from below behind. elim (cases_lt k c.loop-i.i) [
  | inl less ↦ c.loop-i.invariant k from less behind
  | inr more ↦
      let same : k ≡ c.loop-i.i = omega (arith, below, more) in
      false≢true (c.if-is_behind.ensures.1 (subst (λ j. IsBehind c.args.level.now j c.args.point) same behind))
]

pub returns : goal.returns
returns c = (
  (λ _ i one behind.
      let within = (c.segs_of-segs.ensures i).0 one in
      c.loop-i.invariant i within.0 (omega (arith, within.1)) behind),
  (λ _. refl),
)
