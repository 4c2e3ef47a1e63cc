use Rattle.std.proofs.lemmas.List.{length-map}
use Rattle.std.proofs.lemmas.Result.{err_from_is_err_and}
use Rattle.map_tree.proofs.SoundLemmas.{linked_from_sound}
use Rattle.std.proofs.Common.{◌≡◌, ◌+◌, ap, ◌∙◌, length, length-append, arith}
use Rattle.map_tree.specs.Child.{ssector_count}
use Rattle.map_tree.proofs.SectorListLemmas.{listed_more}
use Rattle.map_tree.proofs.sector_tree.ssector_sectors.Goals as goal

pub loop-t-preserved : goal.loop-t-preserved
loop-t-preserved g c =
    let so_far = c.loop-t.invariant in
    let items = c.in_ok-push.ensures.items in
    record {
      long = rw items (simp length-append (ap (λ n. n + 1) so_far.long));
      each = λ u within. rw items (listed_more c.args.level.now c.loop-t.sectors.items c.loop-t.t _ u so_far.long so_far.each c.ssector_sector.ensures within);
    }

pub returns : goal.returns
returns g c =
    let count = rw c.ssectors.ensures.is at c.len-count.ensures in
    let all : c.loop-t.t ≡ ssector_count c.args.level.now = omega (arith, c.loop-t-test.false, c.loop-t.auto.t-end, count) in
    record { long = c.loop-t.invariant.long ∙ all; each = λ t within. c.loop-t.invariant.each t (rw all within) }

pub returns-in_err-sectors : goal.returns-in_err-sectors
returns-in_err-sectors g c = rw (err_from_is_err_and c.from_residual.result c.from_residual.ensures.1).1 tt

pub returns-in_err-push : goal.returns-in_err-push
returns-in_err-push g c = rw (err_from_is_err_and c.from_residual-in_err-push.result c.from_residual-in_err-push.ensures.1).1 tt

pub overflow_cast-t : goal.overflow_cast-t
overflow_cast-t g c =
    let count = c.len-count.ensures in
    let few = c.ssectors.ensures.few in
    omega arith

pub ssector_sector-requires-clause-linked : goal.ssector_sector-requires-clause-linked
ssector_sector-requires-clause-linked g c = linked_from_sound c.args.level.now c.requires

pub ssector_sector-requires-clause-within : goal.ssector_sector-requires-clause-within
ssector_sector-requires-clause-within g c =
    let count = rw c.ssectors.ensures.is at c.len-count.ensures in
    simp length-map (omega (arith, count))

pub loop-t-init : goal.loop-t-init
loop-t-init g c = record { long = ap length c.in_ok-sectors.ensures.items; each = λ t within. absurd (omega arith) }
