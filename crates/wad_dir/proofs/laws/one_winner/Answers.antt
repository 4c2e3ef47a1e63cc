use Rattle.wad_dir.proofs.WinnerLemmas.{Wins-one}
use Rattle.wad_dir.proofs.laws.one_winner.Goals as goal

pub returns : goal.returns
returns c = Wins-one
