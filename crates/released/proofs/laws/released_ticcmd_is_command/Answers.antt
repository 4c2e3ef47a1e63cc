use Rattle.released.proofs.TiccmdLemmas.{released_is_command, ends_at_marker}
use Rattle.released.proofs.laws.released_ticcmd_is_command.Goals as goal

pub returns-clause-command : goal.returns-clause-command
returns-clause-command c = released_is_command

pub returns-clause-marker : goal.returns-clause-marker
returns-clause-marker c = ends_at_marker
