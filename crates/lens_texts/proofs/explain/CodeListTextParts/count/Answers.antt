use Rattle.std.proofs.Common.{sym}
use Rattle.lens_texts.proofs.ExplainLemmas.{lines_length}
use Rattle.lens_texts.proofs.explain.CodeListTextParts.count.Goals as goal

pub returns : goal.returns
returns c = sym lines_length
