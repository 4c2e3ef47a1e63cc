use Rattle.std.proofs.Common.{refl}
use Rattle.map_tree.proofs.TouchedLemmas.{Touches-added}
use Rattle.map_tree.proofs.sector_counts.SectorCounts.add.Goals as goal
use Rattle.map_tree.proofs.sector_counts.SectorCounts.add.Goals.{then-index-eq0+in_ok-touch, else-index-eq0}

pub invariant_of-self : goal.invariant_of-self
invariant_of-self g c = rw c.in_err-touch.ensures.err c.self.invariant

pub invariant_of-self-2 : goal.invariant_of-self-2
invariant_of-self-2 g c = elim c.if-index-eq0.branch [
  | then-index-eq0+in_ok-touch w ↦
      rw w.self-inside-is
      (Touches-added c.self.inside.numbers.items c.self.inside.touched.items w.touch.new.touched.items c.args.sector c.from-s.result c.index_mut.result.now c.args.points c.index.result.now c.from-s.ensures (rw (← c.self.view_is) at c.requires.within) c.index.ensures c.requires.some (λ none. w.in_ok-touch.ensures.ok) (λ some. absurd (some w.if-index-eq0.true)) c.self.invariant)
  | else-index-eq0 w ↦
      rw w.self-inside-is
      (Touches-added c.self.inside.numbers.items c.self.inside.touched.items c.self.inside.touched.items c.args.sector c.from-s.result c.index_mut.result.now c.args.points c.index.result.now c.from-s.ensures (rw (← c.self.view_is) at c.requires.within) c.index.ensures c.requires.some (λ none. absurd (w.if-index-eq0.false none)) (λ some. refl) c.self.invariant)
]
