-- The line and the object of a demo of Doom 1.9, of its numbers alone (ours).
use Rattle.std.specs.Prelude.{ℕ, ◌/◌, ◌%◌, List, ◌++◌, Option, None, codes}
use Rattle.std.specs.Fmt.{decimal}
use Rattle.demo_lump.specs.Header.{players_in}
use Rattle.demo_lump.specs.declared.header.Header.{Header}
use Rattle.later_demos.specs.Footer.{Footer}
use Rattle.lens_texts.specs.LevelObject.{file_member, number_member}
use Rattle.lens_texts.specs.ShownPath.{shown_path}
use Rattle.demo_engines.specs.Objects.{end_members, length_members, level_members, lump_member}
use Rattle.demo_engines.specs.Summary.{length_text, level_text, lump_text, rest_text}

-- the full tics of so many commands, and those after the last of them
abbrev pub tics_of : Header → ℕ → ℕ
tics_of header count = count / players_in header.players

abbrev pub odd_of : Header → ℕ → ℕ
odd_of header count = count % players_in header.players

-- of so many commands, with so many bytes behind the marker
abbrev pub doom_line : List ℕ → Option (List ℕ) → Header → ℕ → ℕ → List ℕ
doom_line path lump header count after =
    shown_path path ++ ((codes ": " ++ (lump_text lump ++ (codes "version " ++ (decimal header.version ++ level_text header))))
    ++ (length_text (tics_of header count) ++ rest_text None (odd_of header count) after))

abbrev pub doom_object : List ℕ → Option (List ℕ) → Header → ℕ → ℕ → Footer → List ℕ
doom_object path lump header count after footer =
    file_member path ++ (lump_member lump ++ (number_member (codes "version") header.version
    ++ (level_members header ++ (length_members (players_in header.players) (tics_of header count) (odd_of header count) after
    ++ end_members footer))))
