use Rattle.std.proofs.Common.{◌∙◌, sym, arith}
use Rattle.wad_dir.proofs.NameLemmas.{named_by_front, named_by_whole}
use Rattle.wad_dir.proofs.wad.through_nul.Goals as goal

pub returns-then-byte-eq0 : goal.returns-then-byte-eq0
returns-then-byte-eq0 c = λ raw long.
    named_by_front c.args.bytes.now raw c.loop-i.i
    (omega arith) c.if-byte-eq0.true c.loop-i.invariant (long ∙ sym c.told-bytes)

pub returns : goal.returns
returns c = λ raw long.
    named_by_whole c.args.bytes.now raw (λ k below. c.loop-i.invariant k (omega arith))
    (long ∙ sym c.told-bytes)
