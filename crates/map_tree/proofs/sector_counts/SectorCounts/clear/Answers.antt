use Rattle.std.proofs.Common.{ℕ, ◌<◌, ap, refl, length, length-append, arith}
use Rattle.std.proofs.lemmas.List.{length-set}
use Rattle.map_tree.proofs.TouchedLemmas.{all_touched_within, last_within, left_within, left_each}
use Rattle.map_tree.proofs.sector_counts.SectorCounts.clear.Goals as goal

pub loop-sector-init : goal.loop-sector-init
loop-sector-init g c = record { within = all_touched_within _ _ c.self.invariant; each = c.self.invariant.each; long = refl }

pub index_mut-requires : goal.index_mut-requires
index_mut-requires g c =
    let inside : c.from.result < length c.loop-sector.self-inside.numbers.items = last_within _ _ _ _ _ c.in-Some.ensures.items c.from.ensures c.loop-sector.invariant.within in
    omega arith

pub loop-sector-smaller : goal.loop-sector-smaller
loop-sector-smaller g c = omega (arith, length-append {A = ℕ}, ap length c.in-Some.ensures.items)

pub loop-sector-preserved : goal.loop-sector-preserved
loop-sector-preserved g c =
    let i = c.loop-sector.invariant in
    let ends = c.in-Some.ensures.items in
    record {
      within = left_within _ _ _ _ _ ends c.from.ensures i.within;
      each = left_each _ _ _ _ _ ends c.from.ensures i.within i.each;
      long = simp length-set i.long;
    }
