use Rattle.std.proofs.Common.{refl}
use Rattle.look_engines.proofs.engines.blocks.BlockCommand.write_block.Goals as goal

pub returns-in_default-clause-takes : goal.returns-in_default-clause-takes
returns-in_default-clause-takes g c = λ text told.
    let none = rw c.requires.point at (c.in_default.ensures.none.0 refl) in
    rw (told.none none) c.write_no_block.ensures.takes

pub returns-in-Err-OffsetOutside-clause-takes : goal.returns-in-Err-OffsetOutside-clause-takes
returns-in-Err-OffsetOutside-clause-takes g c = λ text told.
    let block = rw c.requires.point at c.in-Some.ensures.some in
    rw (told.outside c.in-Some.bx c.in-Some.by block (c.in-Err-OffsetOutside.ensures.outside.0 (cc))) c.write_fault.ensures.takes

pub returns-in-Err-NoEnd-clause-takes : goal.returns-in-Err-NoEnd-clause-takes
returns-in-Err-NoEnd-clause-takes g c = λ text told.
    let block = rw c.requires.point at c.in-Some.ensures.some in
    rw (told.no_end c.in-Some.bx c.in-Some.by block (c.in-Err-NoEnd.ensures.no_end.0 (cc))) c.write_fault-in-Err-NoEnd.ensures.takes
