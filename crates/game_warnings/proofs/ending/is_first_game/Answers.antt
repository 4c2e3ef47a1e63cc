use Rattle.std.proofs.Common.{◌≡◌, [], get_or, sym, ap, ◌∙◌}
use Rattle.std.proofs.lemmas.Option.{get_or_from_slice_get}
use Rattle.le_rec.specs.Name.{padded}
use Rattle.game_warnings.specs.Ending.{is_episodic}
use Rattle.game_warnings.proofs.ending.is_first_game.Goals as goal

pub returns : goal.returns
returns c =
    let name : get_or c.args.level.now.names 0 [] ≡ c.name.result = get_or_from_slice_get c.args.level.now.names 0 c.name.result [] c.name.ensures in
    c.is_episodic.ensures ∙ ap is_episodic (c.bytes-bytes.ensures.padded ∙ ap padded (sym name))
