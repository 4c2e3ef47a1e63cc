use Rattle.std.proofs.Common.{◌≡◌, ◌+◌, sym, ◌∙◌, arith}
use Rattle.map_level.specs.Level.{lump_of}
use Rattle.map_level.proofs.OpeningLemmas.{refused_outside}
use Rattle.look_engines.proofs.engines.ExtractLemmas.{extracted-all, extracted-first, extracted-more, there_listed}
use Rattle.look_engines.proofs.engines.extract.packer_of.Goals as goal

pub lumps-init : goal.lumps-init
lumps-init g c = record {
  from = omega arith;
  to = omega arith;
  packed = λ lumps are. rw (c.in_ok-add.ensures.ok, c.new-packer.ensures) (sym (extracted-first c.args.level.now.names lumps c.name.result c.name.ensures));
}

pub unreachable-requires : goal.unreachable-requires
unreachable-requires g c =
    let k = c.lumps.k in
    let files = c.args.set.now in
    let lump = lump_of c.requires.there.0 k in
    let there = rw (← c.label.ensures.is) at (c.requires.there.1.each k c.lumps.invariant.from (omega arith)) in
    refused_outside files (c.label.result + k) c.in_default.field-0 c.in_default.ensures.no_such c.in_default.ensures.outside
    (there_listed files (c.label.result + k) lump there) lump there

pub lumps-preserved : goal.lumps-preserved
lumps-preserved g c =
    let k = c.lumps.k in
    record {
      from = omega arith;
      to = omega arith;
      packed = λ lumps are. rw (c.in_ok-add-2.ensures.ok, c.lumps.invariant.packed lumps are)
          (sym (extracted-more c.args.set.now c.args.level.now.label c.args.level.now.names lumps k c.name-in-lumps.result c.in-Ok.lump.now are
          c.lumps.invariant.from (omega arith) c.name-in-lumps.ensures (rw (← c.label.ensures.is) c.in-Ok.ensures.ok)));
    }

pub returns-clause-ok : goal.returns-clause-ok
returns-clause-ok g c = λ lumps are.
    let past : c.lumps.k ≡ 11 = omega (arith, c.lumps.invariant.to) in
    c.lumps.invariant.packed lumps are ∙ rw past (extracted-all c.args.level.now.names lumps c.requires.named.eleven are.ten)
