use Rattle.std.proofs.Common.{◌≡◌, arith}
use Rattle.lens_engines.proofs.CutLemmas.{belong_within, gathered_all, gathered_more, gathered_none, lump_lacking}
use Rattle.lens_engines.proofs.cut.gather.Goals as goal

pub lumps-init : goal.lumps-init
lumps-init g c = record { upto = omega arith; gathered = rw c.in-Ok.ensures (gathered_none c.args.set.now c.args.g c.args.label.now.name) }

pub overflow_add-g : goal.overflow_add-g
overflow_add-g g c = omega (arith, belong_within c.args.set.now c.args.g c.args.many c.requires.belong, c.total-total.ensures)

pub overflow_add-g-in-lumps : goal.overflow_add-g-in-lumps
overflow_add-g-in-lumps g c = omega (arith, belong_within c.args.set.now c.args.g c.args.many c.requires.belong, c.total-total.ensures)

pub add_lump-requires : goal.add_lump-requires
add_lump-requires g c = omega (arith, belong_within c.args.set.now c.args.g c.args.many c.requires.belong)

pub returns-in-Err-clause-err : goal.returns-in-Err-clause-err
returns-in-Err-clause-err g c =
    lump_lacking c.args.set.now c.args.g c.args.many c.lumps.m c.args.label.now c.lumps.packer c.in-Err.fault c.requires.label c.requires.starts c.requires.belong c.lumps-test.true
    c.lumps.invariant.gathered c.in-Err.ensures.err

pub lumps-preserved : goal.lumps-preserved
lumps-preserved g c = record {
  upto = omega arith;
  gathered = gathered_more c.args.set.now c.args.g c.args.label.now.name c.lumps.m c.lumps.packer c.add_lump.new.packer c.lumps.invariant.gathered
      c.in_default-add_lump.ensures.ok;
}

pub returns-clause-ok : goal.returns-clause-ok
returns-clause-ok g c =
    let all : c.lumps.m ≡ c.args.many = omega (arith, c.lumps.invariant.upto) in
    gathered_all c.args.set.now c.args.g c.args.many c.args.label.now c.lumps.packer c.requires.label c.requires.belong (rw all at c.lumps.invariant.gathered)
