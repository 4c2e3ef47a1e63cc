-- The header of a demo of Doom 1.9 has the numbers that it has alone.
use Rattle.std.proofs.Common.{◌≡◌, ℕ, List, ◌∷◌, ◌++◌, take, sym, ap, ◌∙◌, subst}
use Rattle.std.proofs.lemmas.List.{take_at}
use Rattle.demo_lump.specs.Demo.{IsDemo}
use Rattle.demo_lump.specs.Header.{IsHeader}
use Rattle.demo_lump.specs.declared.command.Command.{Command}
use Rattle.demo_lump.specs.declared.header.Header.{Header}
use Rattle.later_demos.specs.Doom.{doom_layout}
use Rattle.later_demos.specs.Game.{game_of}

-- it is the first bytes
pub doom_front : (bytes : List ℕ) (header : Header) (commands : List Command) (rest : List ℕ) → IsDemo bytes header commands rest → IsHeader (take 13 bytes) header
doom_front bytes header commands rest is =
    let front : take 13 bytes ≡ is.front = ap (take 13) is.joined ∙ take_at is.front (is.body ++ 128 ∷ rest) 13 is.begins.long in
    subst (λ (h : List ℕ). IsHeader h header) (sym front) is.begins

pub doom_game : (bytes : List ℕ) (header : Header) (commands : List Command) (rest : List ℕ) → IsDemo bytes header commands rest
    → game_of (doom_layout header.version) (take 13 bytes) ≡ header
doom_game bytes header commands rest is = (doom_front bytes header commands rest is).reads
