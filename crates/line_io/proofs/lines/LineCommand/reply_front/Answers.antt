use Rattle.std.proofs.KnownBytes.{Appends-nil}
use Rattle.line_io.specs.LineAnswers.{answers_from}
use Rattle.line_io.proofs.lines.LineCommand.reply_front.Goals as goal

pub returns-clause-answered : goal.returns-clause-answered
unfolding answers_from
returns-clause-answered g c = λ answer told. record { whole = Appends-nil _; front = tt; unbroken = tt }
