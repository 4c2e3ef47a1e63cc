use Rattle.lens_texts.proofs.EscapeLemmas.{stands_for}
use Rattle.lens_texts.proofs.laws.escaped_stands_for.Goals as goal

pub returns : goal.returns
returns c = stands_for
