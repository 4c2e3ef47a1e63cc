use Rattle.later_demos.proofs.LayoutLemmas.{layout_sound}
use Rattle.later_demos.proofs.laws.headers_have_players.Goals as goal

pub returns : goal.returns
returns c version layout is =
    let sound = layout_sound version layout is in
    (sound.players, sound.most)
