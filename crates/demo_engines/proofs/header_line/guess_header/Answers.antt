use Rattle.demo_engines.proofs.HeaderLineLemmas.{guessed_header, header_bytes}
use Rattle.demo_engines.proofs.header_line.guess_header.Goals as goal

pub returns-clause-is : goal.returns-clause-is
returns-clause-is c h rest fits same = rw (c.guess_numbers-numbers.ensures.is h rest fits same) (guessed_header h fits)

pub returns-clause-bytes : goal.returns-clause-bytes
returns-clause-bytes c = header_bytes c.guess_numbers-numbers.result c.guess_numbers-numbers.ensures.small
