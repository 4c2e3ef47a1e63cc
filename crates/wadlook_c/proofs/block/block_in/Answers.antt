use Rattle.std.proofs.Common.{rules}
use Rattle.std.specs.Prelude.{FitsSigned}
use Rattle.std.specs.Int.{w32}
use Rattle.std.proofs.lemmas.Int.{to_z-of_z}
use Rattle.wadlook_c.proofs.BlockLemmas.{refused_in}
use Rattle.wadlook_c.proofs.block.block_in.Goals as goal

pub returns-in-Some-new-clause-err : goal.returns-in-Some-new-clause-err
returns-in-Some-new-clause-err c =
    let asked = c.args.asked in
    let x : FitsSigned w32 asked.x = search rules in
    let y : FitsSigned w32 asked.y = search rules in
    let here = rw (to_z-of_z w32 asked.x x, to_z-of_z w32 asked.y y) at c.in-Some-new.ensures.value in
    refused_in c.args.reading c.args.blockmap.now asked c.in-Some.map c.in-Some-new.point c.block_of.result c.in-Some.ensures.some here
    (search rules) (search rules) c.block_of.ensures.err
