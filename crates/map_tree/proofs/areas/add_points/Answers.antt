use Rattle.std.proofs.Common.{◌+◌, ◌∷◌, length-set, reverse, get_or, set, refl, ◌∙◌, arith}
use Rattle.std.proofs.Math.Facts.{Fits-lt-pow}
use Rattle.std.proofs.lemmas.List.{length-reverse}
use Rattle.map_tree.proofs.Sizes.{size_of}
use Rattle.map_tree.proofs.CountLemmas.{sum_zeros}
use Rattle.map_tree.proofs.FewLemmas.{sized-from_sound}
use Rattle.map_tree.proofs.AreaLemmas.{HeldAreas-start, done, few_pending, turn-leaf, turn-down, turn-apart, fewer-down, fewer-apart}
use Rattle.map_tree.proofs.PieceLemmas.{pushed, less-leaf, is_word, ssector_in, sector_in, some_points, leaf_fits}
use Rattle.map_tree.proofs.areas.add_points.Goals as goal

pub loop-next-init : goal.loop-next-init
loop-next-init g c =
    let level = c.args.level.now in
    let sized = sized-from_sound level c.requires.sound in
    let hand = c.start-hand.ensures in
    let zeros = c.requires.fresh.zeros in
    let held = HeldAreas-start level (size_of level) c.args.rect sized c.start-hand.result c.args.counts.now hand.rect hand.word hand.valid (sum_zeros c.args.counts.now zeros) zeros in
    record {
      held = rw c.clear.ensures.items held;
      few = rw c.clear.ensures.items (few_pending _ _ _ _ _ _ held);
      long = refl;
    }

pub take_turn-requires : goal.take_turn-requires
take_turn-requires g c =
    let level = c.args.level.now in
    let sized = sized-from_sound level c.requires.sound in
    rw c.nodes-nodes.ensures.is (is_word level (size_of level) sized c.loop-next.hand c.loop-next.invariant.held.good.0)

pub bounds-sectors-from : goal.bounds-sectors-from
bounds-sectors-from g c =
    let level = c.args.level.now in
    let sized = sized-from_sound level c.requires.sound in
    let leaf = c.in-AtSsector.ensures in
    rw (c.from.ensures, leaf.1, c.requires.listed.long) (ssector_in level (size_of level) sized c.loop-next.hand c.loop-next.invariant.held.good.0 leaf.0)

pub add-requires-clause-within : goal.add-requires-clause-within
add-requires-clause-within g c =
    let level = c.args.level.now in
    let sized = sized-from_sound level c.requires.sound in
    let leaf = c.in-AtSsector.ensures in
    let k = get_or c.args.sectors.now c.from.result 0 in
    let in_counts = sector_in level (size_of level) sized c.loop-next.hand c.loop-next.invariant.held.good.0 c.args.counts.now c.loop-next.counts c.args.sectors.now c.from.result k c.requires.fresh.within c.loop-next.invariant.long c.requires.listed c.type_inv.sectors leaf.0 (c.from.ensures ∙ leaf.1) refl in
    in_counts.1

pub add-requires-clause-some : goal.add-requires-clause-some
add-requires-clause-some g c =
    let level = c.args.level.now in
    let sized = sized-from_sound level c.requires.sound in
    some_points level (size_of level) sized c.loop-next.hand c.loop-next.invariant.held.good.0 c.in-AtSsector.points c.in-AtSsector.ensures.2

pub add-requires-clause-fits : goal.add-requires-clause-fits
add-requires-clause-fits g c =
    let level = c.args.level.now in
    let sized = sized-from_sound level c.requires.sound in
    let leaf = c.in-AtSsector.ensures in
    let k = get_or c.args.sectors.now c.from.result 0 in
    let in_counts = sector_in level (size_of level) sized c.loop-next.hand c.loop-next.invariant.held.good.0 c.args.counts.now c.loop-next.counts c.args.sectors.now c.from.result k c.requires.fresh.within c.loop-next.invariant.long c.requires.listed c.type_inv.sectors leaf.0 (c.from.ensures ∙ leaf.1) refl in
    Fits-lt-pow (leaf_fits level (size_of level) sized c.loop-next.hand c.loop-next.invariant.held.good.0 c.args.rect _ _ k c.in-AtSsector.points c.start-hand.ensures.valid c.loop-next.invariant.held.added in_counts.1 leaf.2)

pub returns-in-None-clause-counted : goal.returns-in-None-clause-counted
returns-in-None-clause-counted g c =
    let level = c.args.level.now in
    let sized = sized-from_sound level c.requires.sound in
    let leaf = c.in-AtSsector.ensures in
    let k = get_or c.args.sectors.now c.from.result 0 in
    let in_counts = sector_in level (size_of level) sized c.loop-next.hand c.loop-next.invariant.held.good.0 c.args.counts.now c.loop-next.counts c.args.sectors.now c.from.result k c.requires.fresh.within c.loop-next.invariant.long c.requires.listed c.type_inv.sectors leaf.0 (c.from.ensures ∙ leaf.1) refl in
    let held = turn-leaf level (size_of level) c.args.rect sized c.loop-next.hand _ _ c.loop-next.invariant.held k c.in-AtSsector.points leaf.0 in_counts.0 in_counts.1 leaf.2 in
    let none = c.in-None.ensures.none refl in
    rw c.in_ok-add-in-AtSsector.ensures.ok (done level (size_of level) c.args.rect sized (set c.loop-next.counts k (get_or c.loop-next.counts k 0 + c.in-AtSsector.points)) (rw none at held))

pub loop-next-smaller-in-Down : goal.loop-next-smaller-in-Down
loop-next-smaller-in-Down g c =
    let level = c.args.level.now in
    let sized = sized-from_sound level c.requires.sound in
    let turn = rw c.nodes-nodes.ensures.is at c.in-Down.ensures in
    fewer-down level (size_of level) c.args.rect sized c.loop-next.hand _ _ c.loop-next.invariant.held c.in-Down.next turn

pub loop-next-preserved-in-Down : goal.loop-next-preserved-in-Down
loop-next-preserved-in-Down g c =
    let level = c.args.level.now in
    let sized = sized-from_sound level c.requires.sound in
    let turn = rw c.nodes-nodes.ensures.is at c.in-Down.ensures in
    let held = turn-down level (size_of level) c.args.rect sized c.loop-next.hand _ _ c.loop-next.invariant.held c.in-Down.next turn in
    record { held = held; few = few_pending _ _ _ _ _ _ held; long = c.loop-next.invariant.long }

pub keep-requires : goal.keep-requires
keep-requires g c =
    let level = c.args.level.now in
    let sized = sized-from_sound level c.requires.sound in
    let turn = rw c.nodes-nodes.ensures.is at c.in-Apart.ensures in
    let held = turn-apart level (size_of level) c.args.rect sized c.loop-next.hand _ _ c.loop-next.invariant.held c.in-Apart.parts turn in
    let few = few_pending _ _ _ _ _ _ held in
    rw c.nodes-nodes.ensures.is (omega (arith, few, length-reverse c.loop-next.pending.items))

pub loop-next-smaller-in_ok-keep-in-Apart : goal.loop-next-smaller-in_ok-keep-in-Apart
loop-next-smaller-in_ok-keep-in-Apart g c =
    let level = c.args.level.now in
    let sized = sized-from_sound level c.requires.sound in
    let turn = rw c.nodes-nodes.ensures.is at c.in-Apart.ensures in
    let grown = pushed c.loop-next.pending.items c.keep.new.pending.items c.in-Apart.parts.first c.in_ok-keep-in-Apart.ensures in
    rw grown (fewer-apart level (size_of level) c.args.rect sized c.loop-next.hand _ _ c.loop-next.invariant.held c.in-Apart.parts turn)

pub loop-next-preserved-in_ok-keep-in-Apart : goal.loop-next-preserved-in_ok-keep-in-Apart
loop-next-preserved-in_ok-keep-in-Apart g c =
    let level = c.args.level.now in
    let sized = sized-from_sound level c.requires.sound in
    let turn = rw c.nodes-nodes.ensures.is at c.in-Apart.ensures in
    let grown = pushed c.loop-next.pending.items c.keep.new.pending.items c.in-Apart.parts.first c.in_ok-keep-in-Apart.ensures in
    let held = turn-apart level (size_of level) c.args.rect sized c.loop-next.hand _ _ c.loop-next.invariant.held c.in-Apart.parts turn in
    record {
      held = rw grown held;
      few = rw grown (few_pending _ _ _ _ _ _ held);
      long = c.loop-next.invariant.long;
    }

pub loop-next-smaller : goal.loop-next-smaller
loop-next-smaller g c =
    let popped = pushed c.take_newest.new.pending.items c.loop-next.pending.items c.in-Some.next c.in-Some.ensures.some in
    rw popped (less-leaf (size_of c.args.level.now) c.loop-next.hand (c.in-Some.next ∷ reverse c.take_newest.new.pending.items))

pub loop-next-preserved : goal.loop-next-preserved
loop-next-preserved g c =
    let level = c.args.level.now in
    let sized = sized-from_sound level c.requires.sound in
    let leaf = c.in-AtSsector.ensures in
    let k = get_or c.args.sectors.now c.from.result 0 in
    let in_counts = sector_in level (size_of level) sized c.loop-next.hand c.loop-next.invariant.held.good.0 c.args.counts.now c.loop-next.counts c.args.sectors.now c.from.result k c.requires.fresh.within c.loop-next.invariant.long c.requires.listed c.type_inv.sectors leaf.0 (c.from.ensures ∙ leaf.1) refl in
    let held = turn-leaf level (size_of level) c.args.rect sized c.loop-next.hand _ _ c.loop-next.invariant.held k c.in-AtSsector.points leaf.0 in_counts.0 in_counts.1 leaf.2 in
    let popped = pushed c.take_newest.new.pending.items c.loop-next.pending.items c.in-Some.next c.in-Some.ensures.some in
    let next = rw popped at held in
    rw c.in_ok-add-in-AtSsector.ensures.ok
    (record {
      held = next;
      few = few_pending _ _ _ _ _ _ next;
      long = length-set c.loop-next.counts k (get_or c.loop-next.counts k 0 + c.in-AtSsector.points) ∙ c.loop-next.invariant.long;
    })
