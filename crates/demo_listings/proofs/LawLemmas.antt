-- Demos that are the same don't differ, and demos of Doom 1.9 are listed as before.
use Rattle.std.proofs.Common.{◌≡◌, ◌≢◌, ℕ, ◌+◌, false, List, [], ◌∷◌, ◌++◌, length, map, slice_index, refl, sym, ap, ◌∙◌, arith}
use Rattle.std.proofs.lemmas.Bool.{cond-false}
use Rattle.std.proofs.lemmas.List.{append_assoc, append-nil, length-map}
use Rattle.std.proofs.lemmas.Option.{same_Some, slice_get-map}
use Rattle.std.specs.List.{list_any, range_with_len, slice_get}
use Rattle.std.specs.Option.{option_map}
use Rattle.demo_lump.specs.declared.command.Command.{Command}
use Rattle.demo_lump.specs.declared.header.Header.{Header}
use Rattle.later_demos.specs.Demo.{Demo}
use Rattle.later_demos.specs.Doom.{bare, doom_layout}
use Rattle.later_demos.specs.Game.{game_of}
use Rattle.later_demos.specs.Part.{part_of}
use Rattle.look_engines.specs.Listing.{header_line, ticcmd_line, ticcmds_text, totals_text}
use Rattle.look_engines.specs.Turn.{player_of, tic_of}
use Rattle.demo_listings.proofs.DoomHeaderLemmas.{doom_front, doom_game}
use Rattle.demo_listings.specs.Differences.{CommandsDiffer, FrontDiffers, HeadsDiffer, SameFront, SameHeads, a_ends, b_ends, in_command, in_commands, in_flags, in_frame, in_frame_size, in_front, in_header, in_map_name, in_version, in_wrapper, meaning_of}
use Rattle.demo_listings.specs.Laws.{DoomListsAsBefore, SameOrDiffer}
use Rattle.demo_listings.specs.Listing.{command_line, commands_text, is_left_over, unread_line}
use Rattle.demo_listings.specs.declared.meaning.Compared.{Compared}
use Rattle.demo_listings.specs.declared.meaning.Compared.TheVariants.{Everything, Commands}
use Rattle.demo_listings.specs.declared.meaning.Meaning.{Meaning}

heads_differ : (a b : Demo) (text : List ℕ) → HeadsDiffer a b text → ¬ SameHeads a b
heads_differ a b text (in_wrapper differ) same = differ same.wrappers.kind
heads_differ a b text (in_flags kind differ) same = differ same.wrappers.flags
heads_differ a b text (in_map_name kind flags differ) same = differ same.wrappers.map_name
heads_differ a b text (in_version wrappers differ) same = differ (ap (λ (h : List ℕ). slice_index h 0) same.header)
heads_differ a b text (in_header place wrappers version differ) same = differ.here (ap (λ (h : List ℕ). slice_get h place) same.header)
heads_differ a b text (in_frame_size wrappers header differ) same = differ (ap length same.frame)
heads_differ a b text (in_frame place wrappers header long differ) same = differ.here (ap (λ (f : List ℕ). slice_get f place) same.frame)

commands_differ : (what : Compared) (a b : Demo) (text : List ℕ) → CommandsDiffer what a b text
    → map (meaning_of what a) a.commands ≢ map (meaning_of what b) b.commands
commands_differ what a b text (in_command i x y before of_a of_b differ) same =
    differ (same_Some _ _ (ap (option_map (meaning_of what a)) (sym of_a)
    ∙ sym (slice_get-map (meaning_of what a) a.commands i)
    ∙ ap (λ (ms : List Meaning). slice_get ms i) same
    ∙ slice_get-map (meaning_of what b) b.commands i
    ∙ ap (option_map (meaning_of what b)) of_b))
commands_differ what a b text (a_ends before shorter) same =
    omega (arith, shorter, ap length same, length-map a.commands (meaning_of what a), length-map b.commands (meaning_of what b))
commands_differ what a b text (b_ends before shorter) same =
    omega (arith, shorter, ap length same, length-map a.commands (meaning_of what a), length-map b.commands (meaning_of what b))

front_differs : (what : Compared) (a b : Demo) (text : List ℕ) → FrontDiffers what a b text → ¬ SameFront what a b
front_differs Everything a b text differ same = heads_differ a b text differ same
front_differs Commands a b text differ same = differ.0 same

pub differ_not_same : SameOrDiffer
differ_not_same what a b text (in_front _ differ) same = front_differs what a b text differ same.0
differ_not_same what a b text (in_commands _ front differ) same = commands_differ what a b text differ same.1

-- a command without actions has the line that it has alone
same_line : (tic player : ℕ) (c : Command) → command_line tic player (bare c) ≡ ticcmd_line tic player c
unfolding ticcmd_line
same_line tic player c = simp (append_assoc, append-nil) refl

same_lines : (players : List ℕ) (i : ℕ) (commands : List Command)
    → commands_text players i (map bare commands) ≡ ticcmds_text players i commands
same_lines players i [] = refl
same_lines players i (c ∷ commands) =
    ap (λ (line : List ℕ). line ++ commands_text players (i + 1) (map bare commands)) (same_line (tic_of players i) (player_of players i) c)
    ∙ ap (λ (lines : List ℕ). ticcmd_line (tic_of players i) (player_of players i) c ++ lines) (same_lines players (i + 1) commands)

-- no byte of such a header is unread
none_left_over : (version : ℕ) (header : List ℕ) → list_any (is_left_over (doom_layout version) header) (range_with_len 0 13) ≡ false
unfolding part_of
none_left_over version header = refl

same_front : (version : ℕ) (front : List ℕ) → length front ≡ 13
    → unread_line (doom_layout version) front ≡ []
same_front version front long =
    cond-false _ _ _ (ap (λ (n : ℕ). list_any (is_left_over (doom_layout version) front) (range_with_len 0 n)) long ∙ none_left_over version front)

pub doom_is_listed : DoomListsAsBefore
doom_is_listed bytes header commands rest front is taken =
    let layout = doom_layout header.version in
    let same : game_of layout front ≡ header = ap (game_of layout) taken ∙ doom_game bytes header commands rest is in
    let long : length front ≡ 13 = ap length taken ∙ (doom_front bytes header commands rest is).long in
    let begins : header_line (game_of layout front) ++ unread_line layout front ≡ header_line header =
    ap (λ (t : List ℕ). header_line (game_of layout front) ++ t) (same_front header.version front long)
    ∙ append-nil (header_line (game_of layout front)) ∙ ap header_line same in
    let ends = λ (players : List ℕ). ap (λ (n : ℕ). totals_text players n (length rest)) (length-map commands bare) in
    ap (λ (t : List ℕ). t ++ (commands_text (game_of layout front).players 0 (map bare commands)
    ++ totals_text (game_of layout front).players (length (map bare commands)) (length rest))) begins
    ∙ ap (λ (t : List ℕ). header_line header ++ (t ++ totals_text (game_of layout front).players (length (map bare commands)) (length rest)))
    (same_lines (game_of layout front).players 0 commands)
    ∙ ap (λ (t : List ℕ). header_line header ++ (ticcmds_text (game_of layout front).players 0 commands ++ t)) (ends (game_of layout front).players)
    ∙ ap (λ (h : Header). header_line header ++ (ticcmds_text h.players 0 commands ++ totals_text h.players (length commands) (length rest))) same
