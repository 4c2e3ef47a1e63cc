use Rattle.std.proofs.Common.{◌<◌, sym, arith, length}
use Rattle.std.specs.Prelude.{slice_index_or}
use Rattle.map_warnings.proofs.FacingLemmas.{mismatch_here, mismatch_other}
use Rattle.map_warnings.proofs.facing.mismatch_from.Goals as goal

pub returns-in_default-sector_faced-clause-none : goal.returns-in_default-sector_faced-clause-none
returns-in_default-sector_faced-clause-none c = λ one other m.
    let level = c.args.level.now in
    let inside : c.args.first < length level.segs.records = omega (arith, c.if-first-ends.false, c.requires.long) in
    let there = mismatch_other level c.args.first c.args.count (slice_index_or c.args.ends.now c.args.first 0) (c.requires.each c.args.first inside) one other m in
    let none = c.in_default-sector_faced.ensures in
    cc

pub returns-clause-some : goal.returns-clause-some
returns-clause-some c =
    let level = c.args.level.now in
    let inside : c.args.first < length level.segs.records = omega (arith, c.if-first-ends.false, c.requires.long) in
    let end = slice_index_or c.args.ends.now c.args.first 0 in
    let within : end < length level.segs.records = omega (arith, c.if-end-ends.false, c.requires.long) in
    mismatch_here level c.args.first c.args.count end (c.requires.each c.args.first inside) c.in-Some.one c.in-Some-sector_faced.other
    c.if-end-first.false (sym c.in-Some.ensures) (sym c.in-Some-sector_faced.ensures) within
