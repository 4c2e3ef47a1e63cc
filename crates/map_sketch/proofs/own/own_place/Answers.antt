use Rattle.std.proofs.Common.{◌≡◌, arith, rules}
use Rattle.wad_dir.specs.Entries.{names}
use Rattle.map_sketch.proofs.OwnLemmas.{none_behind, none_passed, none_past_all, none_past_end, passed_more}
use Rattle.map_sketch.proofs.own.own_place.Goals as goal

pub returns-then-k-after-clause-none : goal.returns-then-k-after-clause-none
returns-then-k-after-clause-none g c =
    none_past_end c.args.set.now c.args.g c.args.name c.loop-k.k c.loop-k.invariant (omega arith)

pub returns-then-is_named-clause-some : goal.returns-then-is_named-clause-some
returns-then-is_named-clause-some g c = record {
  from = omega arith;
  to = omega arith;
  own = c.loop-k.invariant.own;
  first = c.loop-k.invariant.first;
  named = c.is_named.ensures.0 c.if-is_named.true;
}

pub returns-then-not-is_own-clause-none : goal.returns-then-not-is_own-clause-none
returns-then-not-is_own-clause-none g c =
    none_behind (names c.args.set.now) c.args.g c.args.name c.loop-k.k (omega arith) c.loop-k.invariant (search rules) (search rules)

pub loop-k-init : goal.loop-k-init
loop-k-init g c = none_passed (names c.args.set.now) c.args.g c.args.name

pub loop-k-preserved : goal.loop-k-preserved
loop-k-preserved g c =
    passed_more (names c.args.set.now) c.args.g c.args.name c.loop-k.k c.loop-k.invariant (search rules) (search rules)

pub returns-clause-none : goal.returns-clause-none
returns-clause-none g c =
    let last : c.loop-k.k ≡ 12 = omega arith in
    none_past_all (names c.args.set.now) c.args.g c.args.name (rw last at c.loop-k.invariant)
