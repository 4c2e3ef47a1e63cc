-- Demos of Doom 1.9 are told by their numbers alone.
use Rattle.std.proofs.Common.{◌≡◌, ℕ, ◌/◌, ◌%◌, List, [], ◌++◌, Option, length, map, take, refl, sym, ap, ◌∙◌}
use Rattle.std.specs.Prelude.{codes}
use Rattle.std.proofs.lemmas.List.{append-nil, length-map}
use Rattle.demo_lump.specs.Header.{players_in}
use Rattle.demo_lump.specs.declared.command.Command.{Command}
use Rattle.demo_lump.specs.declared.header.Header.{Header}
use Rattle.later_demos.specs.Doom.{bare, doom_layout}
use Rattle.later_demos.specs.Footer.{Footer}
use Rattle.later_demos.specs.Game.{game_of}
use Rattle.demo_listings.proofs.DoomHeaderLemmas.{doom_game}
use Rattle.lens_texts.specs.LevelObject.{file_member, number_member}
use Rattle.demo_engines.specs.DoomLine.{doom_line, doom_object}
use Rattle.demo_engines.specs.Laws.{DoomIsTold}
use Rattle.demo_engines.specs.Objects.{end_members, length_members, level_members, lump_member}

pub doom_is_told : DoomIsTold
doom_is_told path lump bytes header commands rest footer is =
    let same : game_of (doom_layout header.version) (take 13 bytes) ≡ header = doom_game bytes header commands rest is in
    let counted : length (map bare commands) ≡ length commands = length-map commands bare in (
      ap (λ (h : Header). doom_line path lump h (length (map bare commands)) (length rest)) same
          ∙ ap (λ (n : ℕ). doom_line path lump header n (length rest)) counted,
      ap (λ (t : List ℕ). file_member path ++ (lump_member lump ++ (t
          ++ (level_members (game_of (doom_layout header.version) (take 13 bytes))
          ++ (length_members (players_in (game_of (doom_layout header.version) (take 13 bytes)).players)
          (length (map bare commands) / players_in (game_of (doom_layout header.version) (take 13 bytes)).players)
          (length (map bare commands) % players_in (game_of (doom_layout header.version) (take 13 bytes)).players) (length rest)
          ++ end_members footer)))))
          (append-nil (number_member (codes "version") (game_of (doom_layout header.version) (take 13 bytes)).version))
          ∙ ap (λ (h : Header). doom_object path lump h (length (map bare commands)) (length rest) footer) same
          ∙ ap (λ (n : ℕ). doom_object path lump header n (length rest) footer) counted,
    )
