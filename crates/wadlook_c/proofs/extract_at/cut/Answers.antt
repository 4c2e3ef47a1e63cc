use Rattle.memory_streams.specs.ToVec.{state_of}
use Rattle.wadlook_c.proofs.CutLemmas.{read_before_write}
use Rattle.wadlook_c.proofs.extract_at.cut.Goals as goal

pub returns-in-Err-Write-clause-err : goal.returns-in-Err-Write-clause-err
returns-in-Err-Write-clause-err c =
    read_before_write state_of c.args.wad.now c.args.entry c.new-file.result c.cut_level.new.out c.in-Err-Write.field-0 c.in-Err-Write.field-0-is c.in-Err-Write.ensures.runs
