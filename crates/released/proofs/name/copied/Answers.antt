use Rattle.std.proofs.Common.{◌≡◌, take, ◌∙◌, ap}
use Rattle.le_rec.specs.Name.{name_of, padded}
use Rattle.le_rec.proofs.NameLemmas.{take-min-length}
use Rattle.released.proofs.name.copied.Goals as goal

pub returns : goal.returns
returns c =
    let front : take c.min.result c.args.bytes.now ≡ take 8 c.args.bytes.now =
    rw c.min.ensures (take-min-length 8 c.args.bytes.now) in
    c.until_nul.ensures ∙ ap (λ bytes. padded (name_of bytes)) front
