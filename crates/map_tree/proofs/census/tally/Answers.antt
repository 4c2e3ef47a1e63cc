use Rattle.std.proofs.Common.{◌+◌, ◌∷◌, length-set, reverse, get_or, set, refl, ◌∙◌, arith}
use Rattle.std.proofs.Math.Facts.{Fits-lt-pow}
use Rattle.std.proofs.lemmas.List.{length-reverse}
use Rattle.map_tree.specs.declared.pieces.Piece.{Piece}
use Rattle.map_tree.proofs.Sizes.{size_of}
use Rattle.map_tree.proofs.CountLemmas.{sum_zeros}
use Rattle.map_tree.proofs.FewLemmas.{sized-from_sound}
use Rattle.map_tree.proofs.HeldLemmas.{Held-start}
use Rattle.map_tree.proofs.PieceLemmas.{pushed, less-leaf, is_word, ssector_in, sector_in, some_points, leaf_fits}
use Rattle.map_tree.proofs.TurnLemmas.{tests_fit, most_fits, done, turn-leaf, turn-down, turn-apart, turn-pushed, fewer-down, fewer-apart}
use Rattle.map_tree.proofs.census.tally.Goals as goal

pub loop-next-init : goal.loop-next-init
loop-next-init g c =
    let sized = sized-from_sound c.args.level.now c.requires.sound in
    record {
      held = rw c.clear.ensures.items (Held-start c.args.level.now (size_of c.args.level.now) c.args.rect sized c.start-hand.result c.args.counts.now c.start-hand.ensures.rect c.start-hand.ensures.word c.start-hand.ensures.valid (sum_zeros c.args.counts.now c.requires.fresh.zeros) c.requires.fresh.zeros);
      long = refl;
    }

pub step-requires : goal.step-requires
step-requires g c =
    let level = c.args.level.now in
    let sized = sized-from_sound level c.requires.sound in
    rw c.nodes-nodes.ensures.is (is_word level (size_of level) sized c.loop-next.hand c.loop-next.invariant.held.good.0)

pub overflow_add-tests : goal.overflow_add-tests
overflow_add-tests g c =
    let sized = sized-from_sound c.args.level.now c.requires.sound in
    let valid = c.start-hand.ensures.valid in
    let step = rw c.nodes-nodes.ensures.is at c.in-Down.ensures in
    tests_fit c.args.level.now (size_of c.args.level.now) c.args.rect sized valid _ _ _ _ (turn-down c.args.level.now (size_of c.args.level.now) c.args.rect sized valid c.loop-next.hand _ _ _ _ c.loop-next.invariant.held c.in-Down.next step)

pub overflow_add-tests-in-Apart : goal.overflow_add-tests-in-Apart
overflow_add-tests-in-Apart g c =
    let sized = sized-from_sound c.args.level.now c.requires.sound in
    let valid = c.start-hand.ensures.valid in
    let step = rw c.nodes-nodes.ensures.is at c.in-Apart.ensures in
    tests_fit c.args.level.now (size_of c.args.level.now) c.args.rect sized valid _ _ _ _ (turn-apart c.args.level.now (size_of c.args.level.now) c.args.rect sized valid c.loop-next.hand _ _ _ _ c.loop-next.invariant.held c.in-Apart.halves step)

pub bounds-sectors-from : goal.bounds-sectors-from
bounds-sectors-from g c =
    let level = c.args.level.now in
    let sized = sized-from_sound level c.requires.sound in
    let leaf = c.in-AtSsector.ensures in
    rw (c.from.ensures, leaf.1, c.requires.listed.long)
    (ssector_in level (size_of level) sized c.loop-next.hand c.loop-next.invariant.held.good.0 leaf.0)

pub add-requires-clause-within : goal.add-requires-clause-within
add-requires-clause-within g c =
    let sized = sized-from_sound c.args.level.now c.requires.sound in
    let leaf = c.in-AtSsector.ensures in
    let k = get_or c.args.sectors.now c.from.result 0 in
    let in_counts = sector_in c.args.level.now (size_of c.args.level.now) sized c.loop-next.hand c.loop-next.invariant.held.good.0 c.args.counts.now c.loop-next.counts c.args.sectors.now c.from.result k c.requires.fresh.within c.loop-next.invariant.long c.requires.listed c.type_inv.sectors leaf.0 (c.from.ensures ∙ leaf.1) refl in
    in_counts.1

pub add-requires-clause-some : goal.add-requires-clause-some
add-requires-clause-some g c =
    let sized = sized-from_sound c.args.level.now c.requires.sound in
    some_points c.args.level.now (size_of c.args.level.now) sized c.loop-next.hand c.loop-next.invariant.held.good.0 c.in-AtSsector.points c.in-AtSsector.ensures.2

pub add-requires-clause-fits : goal.add-requires-clause-fits
add-requires-clause-fits g c =
    let sized = sized-from_sound c.args.level.now c.requires.sound in
    let leaf = c.in-AtSsector.ensures in
    let k = get_or c.args.sectors.now c.from.result 0 in
    let in_counts = sector_in c.args.level.now (size_of c.args.level.now) sized c.loop-next.hand c.loop-next.invariant.held.good.0 c.args.counts.now c.loop-next.counts c.args.sectors.now c.from.result k c.requires.fresh.within c.loop-next.invariant.long c.requires.listed c.type_inv.sectors leaf.0 (c.from.ensures ∙ leaf.1) refl in
    Fits-lt-pow (leaf_fits c.args.level.now (size_of c.args.level.now) sized c.loop-next.hand c.loop-next.invariant.held.good.0 c.args.rect _ _ k c.in-AtSsector.points c.start-hand.ensures.valid c.loop-next.invariant.held.added in_counts.1 leaf.2)

pub overflow_cast-result : goal.overflow_cast-result
overflow_cast-result g c =
    let sized = sized-from_sound c.args.level.now c.requires.sound in
    most_fits c.args.level.now (size_of c.args.level.now) c.args.rect sized c.start-hand.ensures.valid _ _ _ _ c.loop-next.invariant.held

pub returns-in-None-clause-tally : goal.returns-in-None-clause-tally
returns-in-None-clause-tally g c =
    let sized = sized-from_sound c.args.level.now c.requires.sound in
    let leaf = c.in-AtSsector.ensures in
    let k = get_or c.args.sectors.now c.from.result 0 in
    let in_counts = sector_in c.args.level.now (size_of c.args.level.now) sized c.loop-next.hand c.loop-next.invariant.held.good.0 c.args.counts.now c.loop-next.counts c.args.sectors.now c.from.result k c.requires.fresh.within c.loop-next.invariant.long c.requires.listed c.type_inv.sectors leaf.0 (c.from.ensures ∙ leaf.1) refl in
    let held = turn-leaf c.args.level.now (size_of c.args.level.now) c.args.rect sized c.start-hand.ensures.valid c.loop-next.hand _ _ _ _ c.loop-next.invariant.held k c.in-AtSsector.points leaf.0 in_counts.0 in_counts.1 leaf.2 in
    let none = c.in-None.ensures.none refl in
    rw c.in_ok-add-in-AtSsector.ensures.ok (done c.args.level.now (size_of c.args.level.now) c.args.rect sized c.start-hand.ensures.valid (set c.loop-next.counts k (get_or c.loop-next.counts k 0 + c.in-AtSsector.points)) c.loop-next.tests c.loop-next.most (rw none at held))

pub loop-next-smaller-in-Down : goal.loop-next-smaller-in-Down
loop-next-smaller-in-Down g c =
    let sized = sized-from_sound c.args.level.now c.requires.sound in
    let step = rw c.nodes-nodes.ensures.is at c.in-Down.ensures in
    fewer-down c.args.level.now (size_of c.args.level.now) c.args.rect sized c.start-hand.ensures.valid c.loop-next.hand _ _ _ _ c.loop-next.invariant.held c.in-Down.next step

pub loop-next-preserved-in-Down : goal.loop-next-preserved-in-Down
loop-next-preserved-in-Down g c =
    let sized = sized-from_sound c.args.level.now c.requires.sound in
    let step = rw c.nodes-nodes.ensures.is at c.in-Down.ensures in
    record {
      held = turn-down c.args.level.now (size_of c.args.level.now) c.args.rect sized c.start-hand.ensures.valid c.loop-next.hand _ _ _ _ c.loop-next.invariant.held c.in-Down.next step;
      long = c.loop-next.invariant.long;
    }

pub loop-next-smaller-in_ok-push-in-Apart : goal.loop-next-smaller-in_ok-push-in-Apart
loop-next-smaller-in_ok-push-in-Apart g c =
    let sized = sized-from_sound c.args.level.now c.requires.sound in
    let step = rw c.nodes-nodes.ensures.is at c.in-Apart.ensures in
    let grown = pushed c.loop-next.pending.items c.push.new.self.items c.in-Apart.halves.first c.in_ok-push-in-Apart.ensures.items in
    rw grown (fewer-apart c.args.level.now (size_of c.args.level.now) c.args.rect sized c.start-hand.ensures.valid c.loop-next.hand _ _ _ _ c.loop-next.invariant.held c.in-Apart.halves step)

pub loop-next-preserved-in_ok-push-in-Apart : goal.loop-next-preserved-in_ok-push-in-Apart
loop-next-preserved-in_ok-push-in-Apart g c =
    let sized = sized-from_sound c.args.level.now c.requires.sound in
    let step = rw c.nodes-nodes.ensures.is at c.in-Apart.ensures in
    let grown = pushed c.loop-next.pending.items c.push.new.self.items c.in-Apart.halves.first c.in_ok-push-in-Apart.ensures.items in
    record {
      held = rw grown (turn-pushed c.args.level.now (size_of c.args.level.now) c.args.rect sized c.start-hand.ensures.valid c.loop-next.hand _ _ _ _ c.loop-next.invariant.held c.in-Apart.halves c.len.result c.max-most.result step c.max-most.ensures (omega (arith, length-reverse {A = Piece} c.loop-next.pending.items, c.loop-next.pending.ok.0, c.len.ensures, c.in_ok-push-in-Apart.ensures.len)));
      long = c.loop-next.invariant.long;
    }

pub loop-next-smaller : goal.loop-next-smaller
loop-next-smaller g c =
    let popped = pushed c.take_newest.new.pending.items c.loop-next.pending.items c.in-Some.next c.in-Some.ensures.some in
    rw popped (less-leaf (size_of c.args.level.now) c.loop-next.hand (c.in-Some.next ∷ reverse c.take_newest.new.pending.items))

pub loop-next-preserved : goal.loop-next-preserved
loop-next-preserved g c =
    let sized = sized-from_sound c.args.level.now c.requires.sound in
    let leaf = c.in-AtSsector.ensures in
    let k = get_or c.args.sectors.now c.from.result 0 in
    let in_counts = sector_in c.args.level.now (size_of c.args.level.now) sized c.loop-next.hand c.loop-next.invariant.held.good.0 c.args.counts.now c.loop-next.counts c.args.sectors.now c.from.result k c.requires.fresh.within c.loop-next.invariant.long c.requires.listed c.type_inv.sectors leaf.0 (c.from.ensures ∙ leaf.1) refl in
    let held = turn-leaf c.args.level.now (size_of c.args.level.now) c.args.rect sized c.start-hand.ensures.valid c.loop-next.hand _ _ _ _ c.loop-next.invariant.held k c.in-AtSsector.points leaf.0 in_counts.0 in_counts.1 leaf.2 in
    let popped = pushed c.take_newest.new.pending.items c.loop-next.pending.items c.in-Some.next c.in-Some.ensures.some in
    rw c.in_ok-add-in-AtSsector.ensures.ok (record { held = rw popped at held; long = length-set c.loop-next.counts k (get_or c.loop-next.counts k 0 + c.in-AtSsector.points) ∙ c.loop-next.invariant.long })
