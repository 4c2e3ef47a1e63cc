-- How long a demo is (ours).
use Rattle.std.specs.Prelude.{◌≡◌, ℕ, ◌/◌, List, length}
use Rattle.demo_lump.specs.Demo.{Demo, IsRead}
use Rattle.demo_lump.specs.Header.{players_in}

-- bytes are a demo in which each player has so many commands, those after the last full tic aside
pub record CountsTics (bytes : List ℕ) (tics : ℕ) : Type 0 where
  pub demo : Demo
  pub read : IsRead bytes demo
  pub counted : tics ≡ length demo.commands / players_in demo.header.players
