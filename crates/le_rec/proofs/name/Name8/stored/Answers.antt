use Rattle.std.proofs.Common.{◌∙◌, ap}
use Rattle.le_rec.specs.Name.{name_of}
use Rattle.le_rec.proofs.NameLemmas.{name_of-padded, padded-name_of-padded}
use Rattle.le_rec.proofs.name.Name8.stored.Goals as goal

pub invariant_of-result : goal.invariant_of-result
invariant_of-result c = rw c.until_nul.ensures (padded-name_of-padded c.args.bytes)

pub returns : goal.returns
returns c = ap name_of c.until_nul.ensures ∙ name_of-padded c.args.bytes
