use Rattle.released.proofs.RecordingLemmas.{played_is_header, plays_one_version}
use Rattle.released.proofs.laws.released_header_is_header.Goals as goal

pub returns-clause-header : goal.returns-clause-header
returns-clause-header c = played_is_header

pub returns-clause-version : goal.returns-clause-version
returns-clause-version c = plays_one_version
