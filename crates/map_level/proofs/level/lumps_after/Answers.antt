use Rattle.std.proofs.Common.{Bor, List, ℕ, ◌^◌, ◌+◌, ◌<◌, length, map, ◌∙◌, arith}
use Rattle.std.proofs.lemmas.List.{length-set, map-set}
use Rattle.std.proofs.lemmas.List.Elements.{All-set}
use Rattle.wad_dir.specs.Entries.{joined}
use Rattle.map_level.proofs.OpeningLemmas.{found_below, refused_outside, found_more}
use Rattle.map_level.proofs.level.lumps_after.Goals as goal

pub returns-then-k-after-clause-err : goal.returns-then-k-after-clause-err
returns-then-k-after-clause-err g c = record {
  from = omega arith;
  to = omega arith;
  before =
      found_below c.args.set.now c.args.label c.loop-i.i
      (map (λ lump. lump.now) c.loop-i.bytes) c.loop-i.invariant.found;
  past = omega arith;
}

pub returns-in_default-clause-err : goal.returns-in_default-clause-err
returns-in_default-clause-err g c =
    let listed : c.args.label + (c.loop-i.i + 1) < length (joined c.args.set.now) = omega arith in
    record {
      from = omega arith;
      to = omega arith;
      before =
          found_below c.args.set.now c.args.label c.loop-i.i
          (map (λ lump. lump.now) c.loop-i.bytes) c.loop-i.invariant.found;
      listed = listed;
      refused =
          refused_outside c.args.set.now (c.args.label + (c.loop-i.i + 1)) c.in_default.field-0
          c.in_default.ensures.no_such c.in_default.ensures.outside listed;
    }

pub loop-i-preserved : goal.loop-i-preserved
loop-i-preserved g c = record {
  ten = length-set c.loop-i.bytes c.loop-i.i c.in-Ok.lump ∙ c.loop-i.invariant.ten;
  found =
      found_more c.args.set.now c.args.label c.loop-i.i c.loop-i.bytes c.in-Ok.lump
      (omega arith) c.loop-i.invariant.found c.in-Ok.ensures.ok;
  short =
      rw (map-set (λ (lump : Bor (List ℕ)). lump.now) c.loop-i.bytes c.loop-i.i c.in-Ok.lump)
      (All-set (λ (lump : List ℕ). length lump < 2 ^ 31)
      (map (λ (lump : Bor (List ℕ)). lump.now) c.loop-i.bytes) c.loop-i.i c.in-Ok.lump.now
      c.in-Ok.ensures.short c.loop-i.invariant.short);
}
