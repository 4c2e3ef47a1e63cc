use Rattle.std.proofs.Common.{◌≢◌, pos, sym, rules}
use Rattle.std.specs.Prelude.{FitsSigned}
use Rattle.std.specs.Int.{w16}
use Rattle.std.proofs.lemmas.Int.{to_z-of_z}
use Rattle.map_warnings.proofs.unknown_thing.is_unknown.Goals as goal

pub returns-then-is_no_player : goal.returns-then-is_no_player
returns-then-is_no_player c =
    let kind : FitsSigned w16 c.args.thing.now.kind = search rules in
    let game = simp to_z-of_z at c.if-is_of_the_game.ensures in
    let other : c.args.thing.now.kind ≢ pos 11 = search rules in (
      λ t. record {
        no_player = c.is_no_player.ensures.0 c.if-is_no_player.true;
        no_deathmatch = other;
        no_game = sym game;
        placed = c.is_placed.ensures.0 t;
      },
      λ unknown. c.is_placed.ensures.1 unknown.placed,
    )
