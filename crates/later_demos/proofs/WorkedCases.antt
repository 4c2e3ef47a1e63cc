-- The worked cases of demos, computed on the definitions: what is read of each, or the reason why it is refused.
use Rattle.std.proofs.Common.{◌≡◌, ℕ, Option, Some, None, List, [], ◌∷◌, ◌++◌, length, slice_index, drop, replicate, refl}
use Rattle.std.specs.Fmt.{digits}
use Rattle.std.specs.Prelude.{codes}
use Rattle.le_rec.specs.Number.{unsigned16, unsigned32}
use Rattle.demo_lump.specs.Header.{players_in}
use Rattle.later_demos.specs.Command.{begins, command_of, command_size, commands_in, left_in}
use Rattle.later_demos.specs.FaultText.{fault_text}
use Rattle.later_demos.specs.Footer.{lines_footer, text_of}
use Rattle.later_demos.specs.Header.{players_of, refusal_by}
use Rattle.later_demos.specs.Layout.{layout_of}
use Rattle.later_demos.specs.Refusal.{behind_frame, behind_front, behind_header, behind_wrapper, first_refusal, form_of, frame_of, header_of, inner_refusal, key_frame_refusal, layout_in}
use Rattle.later_demos.specs.Wrapper.{dsda_refusal, pr_um_refusal, wrapper_of, wrapper_refusal}
use Rattle.later_demos.specs.declared.fault.LaterFault.TheVariants.{Empty, Version, Dsda, PrUm, Short, Signature, Options, NoPlayers, KeyFrame}
use Rattle.later_demos.specs.declared.layout.Engine.TheVariants.{Boom, Mbf}
use Rattle.later_demos.specs.declared.layout.Layout.{Layout}

-- the numbers that are read of bytes: the version, how many players are in the game, the commands, the byte in place of the next one
-- and the bytes behind it
abbrev told_by : Option Layout → List ℕ → List ℕ
told_by None bytes = []
told_by (Some layout) bytes =
    let left = left_in (form_of layout (wrapper_of bytes)) (behind_front bytes) in
    slice_index (behind_wrapper bytes) 0
    ∷ players_in (players_of layout (header_of (behind_wrapper bytes)))
    ∷ length (commands_in (form_of layout (wrapper_of bytes)) (behind_front bytes))
    ∷ slice_index left 0 ∷ length (drop 1 left) ∷ []

abbrev told_of : List ℕ → List ℕ
told_of bytes = told_by (layout_in bytes) bytes

-- of Boom, with a forward of -50
abbrev bytes_1 : List ℕ
bytes_1 =
    (202 ∷ 29 ∷ 66 ∷ 111 ∷ 111 ∷ 109 ∷ 230 ∷ 0 ∷ 3 ∷ 1 ∷ 1 ∷ 0 ∷ 0 ∷ 1 ∷ 1 ∷ 0 ∷ 1 ∷ 0 ∷ 1 ∷ 0 ∷ 0 ∷ 0 ∷ 0 ∷ 214 ∷ 24 ∷ 132 ∷ 93 ∷ []) ++ (replicate 50 0) ++ (1 ∷ []) ++ (replicate 31 0) ++ (25 ∷ 0 ∷ 0 ∷ 0 ∷ 206 ∷ 128 ∷ 255 ∷ 128 ∷ 128 ∷ [])

case_1 : (first_refusal bytes_1 ≡ None) × (told_of bytes_1 ≡ 202 ∷ 1 ∷ 2 ∷ 128 ∷ 0 ∷ [])
unfolding layout_of wrapper_of wrapper_refusal dsda_refusal pr_um_refusal refusal_by header_of behind_header key_frame_refusal frame_of behind_frame inner_refusal behind_wrapper first_refusal behind_front command_size command_of begins commands_in left_in unsigned16 unsigned32
case_1 = (refl, refl)

-- 201, and a rest
abbrev bytes_2 : List ℕ
bytes_2 =
    (201 ∷ 29 ∷ 66 ∷ 111 ∷ 111 ∷ 109 ∷ 230 ∷ 1 ∷ 2 ∷ 1 ∷ 7 ∷ 0 ∷ 0 ∷ 1 ∷ 1 ∷ 0 ∷ 1 ∷ 0 ∷ 1 ∷ 0 ∷ 0 ∷ 0 ∷ 0 ∷ 214 ∷ 24 ∷ 132 ∷ 93 ∷ []) ++ (replicate 50 0) ++ (1 ∷ []) ++ (replicate 35 0) ++ (128 ∷ 7 ∷ 7 ∷ 7 ∷ [])

case_2 : (first_refusal bytes_2 ≡ None) × (told_of bytes_2 ≡ 201 ∷ 1 ∷ 1 ∷ 128 ∷ 3 ∷ [])
unfolding layout_of wrapper_of wrapper_refusal dsda_refusal pr_um_refusal refusal_by header_of behind_header key_frame_refusal frame_of behind_frame inner_refusal behind_wrapper first_refusal behind_front command_size command_of begins commands_in left_in unsigned16 unsigned32
case_2 = (refl, refl)

-- 200 has 256 bytes of options
abbrev bytes_3 : List ℕ
bytes_3 =
    (200 ∷ 29 ∷ 66 ∷ 111 ∷ 111 ∷ 109 ∷ 230 ∷ 0 ∷ 3 ∷ 1 ∷ 3 ∷ 0 ∷ 0 ∷ 1 ∷ 1 ∷ 0 ∷ 1 ∷ 0 ∷ 1 ∷ 0 ∷ 0 ∷ 0 ∷ 0 ∷ 214 ∷ 24 ∷ 132 ∷ 93 ∷ []) ++ (replicate 242 0) ++ (1 ∷ []) ++ (replicate 39 0) ++ (128 ∷ [])

case_3 : (first_refusal bytes_3 ≡ None) × (told_of bytes_3 ≡ 200 ∷ 1 ∷ 2 ∷ 128 ∷ 0 ∷ [])
unfolding layout_of wrapper_of wrapper_refusal dsda_refusal pr_um_refusal refusal_by header_of behind_header key_frame_refusal frame_of behind_frame inner_refusal behind_wrapper first_refusal behind_front command_size command_of begins commands_in left_in unsigned16 unsigned32
case_3 = (refl, refl)

-- and not 64
abbrev bytes_4 : List ℕ
bytes_4 =
    (200 ∷ 29 ∷ 66 ∷ 111 ∷ 111 ∷ 109 ∷ 230 ∷ 0 ∷ 3 ∷ 1 ∷ 3 ∷ 0 ∷ 0 ∷ 1 ∷ 1 ∷ 0 ∷ 1 ∷ 0 ∷ 1 ∷ 0 ∷ 0 ∷ 0 ∷ 0 ∷ 214 ∷ 24 ∷ 132 ∷ 93 ∷ []) ++ (replicate 50 0) ++ (1 ∷ []) ++ (replicate 39 0) ++ (128 ∷ [])

case_4 : first_refusal bytes_4 ≡ Some (Short 118 301)
unfolding layout_of wrapper_of wrapper_refusal dsda_refusal pr_um_refusal refusal_by header_of behind_header key_frame_refusal frame_of behind_frame inner_refusal behind_wrapper first_refusal behind_front command_size command_of begins commands_in left_in unsigned16 unsigned32
case_4 = refl

-- no command
abbrev bytes_5 : List ℕ
bytes_5 =
    (202 ∷ 29 ∷ 66 ∷ 111 ∷ 111 ∷ 109 ∷ 230 ∷ 0 ∷ 3 ∷ 1 ∷ 1 ∷ 0 ∷ 0 ∷ 1 ∷ 1 ∷ 0 ∷ 1 ∷ 0 ∷ 1 ∷ 0 ∷ 0 ∷ 0 ∷ 0 ∷ 214 ∷ 24 ∷ 132 ∷ 93 ∷ []) ++ (replicate 50 0) ++ (1 ∷ []) ++ (replicate 31 0) ++ (128 ∷ [])

case_5 : (first_refusal bytes_5 ≡ None) × (told_of bytes_5 ≡ 202 ∷ 1 ∷ 0 ∷ 128 ∷ 0 ∷ [])
unfolding layout_of wrapper_of wrapper_refusal dsda_refusal pr_um_refusal refusal_by header_of behind_header key_frame_refusal frame_of behind_frame inner_refusal behind_wrapper first_refusal behind_front command_size command_of begins commands_in left_in unsigned16 unsigned32
case_5 = (refl, refl)

-- two players, and an odd command
abbrev bytes_6 : List ℕ
bytes_6 =
    (202 ∷ 29 ∷ 66 ∷ 111 ∷ 111 ∷ 109 ∷ 230 ∷ 0 ∷ 0 ∷ 3 ∷ 8 ∷ 0 ∷ 1 ∷ 1 ∷ 1 ∷ 0 ∷ 1 ∷ 0 ∷ 1 ∷ 0 ∷ 0 ∷ 0 ∷ 0 ∷ 214 ∷ 24 ∷ 132 ∷ 93 ∷ []) ++ (replicate 50 0) ++ (1 ∷ 1 ∷ []) ++ (replicate 42 0) ++ (128 ∷ [])

case_6 : (first_refusal bytes_6 ≡ None) × (told_of bytes_6 ≡ 202 ∷ 2 ∷ 3 ∷ 128 ∷ 0 ∷ [])
unfolding layout_of wrapper_of wrapper_refusal dsda_refusal pr_um_refusal refusal_by header_of behind_header key_frame_refusal frame_of behind_frame inner_refusal behind_wrapper first_refusal behind_front command_size command_of begins commands_in left_in unsigned16 unsigned32
case_6 = (refl, refl)

-- a player's byte may have any value but 0
abbrev bytes_7 : List ℕ
bytes_7 =
    (202 ∷ 29 ∷ 66 ∷ 111 ∷ 111 ∷ 109 ∷ 230 ∷ 0 ∷ 3 ∷ 1 ∷ 1 ∷ 0 ∷ 0 ∷ 1 ∷ 1 ∷ 0 ∷ 1 ∷ 0 ∷ 1 ∷ 0 ∷ 0 ∷ 0 ∷ 0 ∷ 214 ∷ 24 ∷ 132 ∷ 93 ∷ []) ++ (replicate 51 0) ++ (255 ∷ 0 ∷ 2 ∷ []) ++ (replicate 36 0) ++ (128 ∷ [])

case_7 : (first_refusal bytes_7 ≡ None) × (told_of bytes_7 ≡ 202 ∷ 2 ∷ 2 ∷ 128 ∷ 0 ∷ [])
unfolding layout_of wrapper_of wrapper_refusal dsda_refusal pr_um_refusal refusal_by header_of behind_header key_frame_refusal frame_of behind_frame inner_refusal behind_wrapper first_refusal behind_front command_size command_of begins commands_in left_in unsigned16 unsigned32
case_7 = (refl, refl)

-- the 28 bytes behind the players are none
abbrev bytes_8 : List ℕ
bytes_8 =
    (202 ∷ 29 ∷ 66 ∷ 111 ∷ 111 ∷ 109 ∷ 230 ∷ 0 ∷ 3 ∷ 1 ∷ 1 ∷ 0 ∷ 0 ∷ 1 ∷ 1 ∷ 0 ∷ 1 ∷ 0 ∷ 1 ∷ 0 ∷ 0 ∷ 0 ∷ 0 ∷ 214 ∷ 24 ∷ 132 ∷ 93 ∷ []) ++ (replicate 54 0) ++ (1 ∷ []) ++ (replicate 35 0) ++ (128 ∷ [])

case_8 : first_refusal bytes_8 ≡ Some NoPlayers
unfolding layout_of wrapper_of wrapper_refusal dsda_refusal pr_um_refusal refusal_by header_of behind_header key_frame_refusal frame_of behind_frame inner_refusal behind_wrapper first_refusal behind_front command_size command_of begins commands_in left_in unsigned16 unsigned32
case_8 = refl

-- no player
abbrev bytes_9 : List ℕ
bytes_9 =
    (202 ∷ 29 ∷ 66 ∷ 111 ∷ 111 ∷ 109 ∷ 230 ∷ 0 ∷ 3 ∷ 1 ∷ 1 ∷ 0 ∷ 0 ∷ 1 ∷ 1 ∷ 0 ∷ 1 ∷ 0 ∷ 1 ∷ 0 ∷ 0 ∷ 0 ∷ 0 ∷ 214 ∷ 24 ∷ 132 ∷ 93 ∷ []) ++ (replicate 90 0)

case_9 : first_refusal bytes_9 ≡ Some NoPlayers
unfolding layout_of wrapper_of wrapper_refusal dsda_refusal pr_um_refusal refusal_by header_of behind_header key_frame_refusal frame_of behind_frame inner_refusal behind_wrapper first_refusal behind_front command_size command_of begins commands_in left_in unsigned16 unsigned32
case_9 = refl

-- a command cut
abbrev bytes_10 : List ℕ
bytes_10 =
    (202 ∷ 29 ∷ 66 ∷ 111 ∷ 111 ∷ 109 ∷ 230 ∷ 0 ∷ 3 ∷ 1 ∷ 1 ∷ 0 ∷ 0 ∷ 1 ∷ 1 ∷ 0 ∷ 1 ∷ 0 ∷ 1 ∷ 0 ∷ 0 ∷ 0 ∷ 0 ∷ 214 ∷ 24 ∷ 132 ∷ 93 ∷ []) ++ (replicate 50 0) ++ (1 ∷ []) ++ (replicate 39 0) ++ (25 ∷ 0 ∷ [])

-- (no marker is in place 117)

case_10 : (first_refusal bytes_10 ≡ None) × (told_of bytes_10 ≡ 202 ∷ 1 ∷ 2 ∷ 25 ∷ 1 ∷ [])
unfolding layout_of wrapper_of wrapper_refusal dsda_refusal pr_um_refusal refusal_by header_of behind_header key_frame_refusal frame_of behind_frame inner_refusal behind_wrapper first_refusal behind_front command_size command_of begins commands_in left_in unsigned16 unsigned32
case_10 = (refl, refl)

-- no marker
abbrev bytes_11 : List ℕ
bytes_11 =
    (202 ∷ 29 ∷ 66 ∷ 111 ∷ 111 ∷ 109 ∷ 230 ∷ 0 ∷ 3 ∷ 1 ∷ 1 ∷ 0 ∷ 0 ∷ 1 ∷ 1 ∷ 0 ∷ 1 ∷ 0 ∷ 1 ∷ 0 ∷ 0 ∷ 0 ∷ 0 ∷ 214 ∷ 24 ∷ 132 ∷ 93 ∷ []) ++ (replicate 50 0) ++ (1 ∷ []) ++ (replicate 31 0)

-- (no marker is in place 109)

case_11 : (first_refusal bytes_11 ≡ None) × (told_of bytes_11 ≡ 202 ∷ 1 ∷ 0 ∷ 0 ∷ 0 ∷ [])
unfolding layout_of wrapper_of wrapper_refusal dsda_refusal pr_um_refusal refusal_by header_of behind_header key_frame_refusal frame_of behind_frame inner_refusal behind_wrapper first_refusal behind_front command_size command_of begins commands_in left_in unsigned16 unsigned32
case_11 = (refl, refl)

-- a header cut behind its version
abbrev bytes_12 : List ℕ
bytes_12 =
    (202 ∷ [])

case_12 : first_refusal bytes_12 ≡ Some (Short 1 109)
unfolding layout_of wrapper_of wrapper_refusal dsda_refusal pr_um_refusal refusal_by header_of behind_header key_frame_refusal frame_of behind_frame inner_refusal behind_wrapper first_refusal behind_front command_size command_of begins commands_in left_in unsigned16 unsigned32
case_12 = refl

-- within its signature
abbrev bytes_13 : List ℕ
bytes_13 =
    (202 ∷ 29 ∷ 66 ∷ [])

case_13 : first_refusal bytes_13 ≡ Some (Short 3 109)
unfolding layout_of wrapper_of wrapper_refusal dsda_refusal pr_um_refusal refusal_by header_of behind_header key_frame_refusal frame_of behind_frame inner_refusal behind_wrapper first_refusal behind_front command_size command_of begins commands_in left_in unsigned16 unsigned32
case_13 = refl

-- a wrong signature, cut
abbrev bytes_14 : List ℕ
bytes_14 =
    (202 ∷ 29 ∷ 77 ∷ [])

case_14 : first_refusal bytes_14 ≡ Some (Signature 202 Boom)
unfolding layout_of wrapper_of wrapper_refusal dsda_refusal pr_um_refusal refusal_by header_of behind_header key_frame_refusal frame_of behind_frame inner_refusal behind_wrapper first_refusal behind_front command_size command_of begins commands_in left_in unsigned16 unsigned32
case_14 = refl

-- a header short by one byte
abbrev bytes_15 : List ℕ
bytes_15 =
    (202 ∷ 29 ∷ 66 ∷ 111 ∷ 111 ∷ 109 ∷ 230 ∷ 0 ∷ 3 ∷ 1 ∷ 1 ∷ 0 ∷ 0 ∷ 1 ∷ 1 ∷ 0 ∷ 1 ∷ 0 ∷ 1 ∷ 0 ∷ 0 ∷ 0 ∷ 0 ∷ 214 ∷ 24 ∷ 132 ∷ 93 ∷ []) ++ (replicate 50 0) ++ (1 ∷ []) ++ (replicate 30 0)

case_15 : first_refusal bytes_15 ≡ Some (Short 108 109)
unfolding layout_of wrapper_of wrapper_refusal dsda_refusal pr_um_refusal refusal_by header_of behind_header key_frame_refusal frame_of behind_frame inner_refusal behind_wrapper first_refusal behind_front command_size command_of begins commands_in left_in unsigned16 unsigned32
case_15 = refl

-- of MBF
abbrev bytes_16 : List ℕ
bytes_16 =
    (203 ∷ 29 ∷ 77 ∷ 66 ∷ 70 ∷ 230 ∷ 0 ∷ 0 ∷ 4 ∷ 1 ∷ 15 ∷ 0 ∷ 0 ∷ 1 ∷ 1 ∷ 0 ∷ 1 ∷ 0 ∷ 1 ∷ 0 ∷ 0 ∷ 0 ∷ 0 ∷ 214 ∷ 24 ∷ 132 ∷ 93 ∷ []) ++ (replicate 50 0) ++ (1 ∷ []) ++ (replicate 35 0) ++ (128 ∷ [])

case_16 : (first_refusal bytes_16 ≡ None) × (told_of bytes_16 ≡ 203 ∷ 1 ∷ 1 ∷ 128 ∷ 0 ∷ [])
unfolding layout_of wrapper_of wrapper_refusal dsda_refusal pr_um_refusal refusal_by header_of behind_header key_frame_refusal frame_of behind_frame inner_refusal behind_wrapper first_refusal behind_front command_size command_of begins commands_in left_in unsigned16 unsigned32
case_16 = (refl, refl)

-- without the byte of compatibility
abbrev bytes_17 : List ℕ
bytes_17 =
    (203 ∷ 29 ∷ 66 ∷ 111 ∷ 111 ∷ 109 ∷ 230 ∷ 4 ∷ 1 ∷ 15 ∷ 0 ∷ 0 ∷ 1 ∷ 1 ∷ 0 ∷ 1 ∷ 0 ∷ 1 ∷ 0 ∷ 0 ∷ 0 ∷ 0 ∷ 214 ∷ 24 ∷ 132 ∷ 93 ∷ []) ++ (replicate 50 0) ++ (1 ∷ []) ++ (replicate 35 0) ++ (128 ∷ [])

case_17 : first_refusal bytes_17 ≡ Some (Signature 203 Mbf)
unfolding layout_of wrapper_of wrapper_refusal dsda_refusal pr_um_refusal refusal_by header_of behind_header key_frame_refusal frame_of behind_frame inner_refusal behind_wrapper first_refusal behind_front command_size command_of begins commands_in left_in unsigned16 unsigned32
case_17 = refl

-- of PrBoom
abbrev bytes_18 : List ℕ
bytes_18 =
    (210 ∷ 29 ∷ 77 ∷ 66 ∷ 70 ∷ 230 ∷ 0 ∷ 0 ∷ 3 ∷ 1 ∷ 1 ∷ 0 ∷ 0 ∷ 1 ∷ 1 ∷ 0 ∷ 1 ∷ 0 ∷ 1 ∷ 0 ∷ 0 ∷ 0 ∷ 0 ∷ 214 ∷ 24 ∷ 132 ∷ 93 ∷ []) ++ (replicate 50 0) ++ (1 ∷ []) ++ (replicate 35 0) ++ (128 ∷ [])

case_18 : (first_refusal bytes_18 ≡ None) × (told_of bytes_18 ≡ 210 ∷ 1 ∷ 1 ∷ 128 ∷ 0 ∷ [])
unfolding layout_of wrapper_of wrapper_refusal dsda_refusal pr_um_refusal refusal_by header_of behind_header key_frame_refusal frame_of behind_frame inner_refusal behind_wrapper first_refusal behind_front command_size command_of begins commands_in left_in unsigned16 unsigned32
case_18 = (refl, refl)

-- 213 has commands of four bytes
abbrev bytes_19 : List ℕ
bytes_19 =
    (213 ∷ 29 ∷ 77 ∷ 66 ∷ 70 ∷ 230 ∷ 0 ∷ 0 ∷ 3 ∷ 1 ∷ 1 ∷ 0 ∷ 0 ∷ 1 ∷ 1 ∷ 0 ∷ 1 ∷ 0 ∷ 1 ∷ 0 ∷ 0 ∷ 0 ∷ 0 ∷ 214 ∷ 24 ∷ 132 ∷ 93 ∷ []) ++ (replicate 50 0) ++ (1 ∷ []) ++ (replicate 51 0) ++ (128 ∷ [])

case_19 : (first_refusal bytes_19 ≡ None) × (told_of bytes_19 ≡ 213 ∷ 1 ∷ 5 ∷ 128 ∷ 0 ∷ [])
unfolding layout_of wrapper_of wrapper_refusal dsda_refusal pr_um_refusal refusal_by header_of behind_header key_frame_refusal frame_of behind_frame inner_refusal behind_wrapper first_refusal behind_front command_size command_of begins commands_in left_in unsigned16 unsigned32
case_19 = (refl, refl)

-- 214 has commands of five
abbrev bytes_20 : List ℕ
bytes_20 =
    (214 ∷ 29 ∷ 77 ∷ 66 ∷ 70 ∷ 230 ∷ 0 ∷ 0 ∷ 3 ∷ 1 ∷ 1 ∷ 0 ∷ 0 ∷ 1 ∷ 1 ∷ 0 ∷ 1 ∷ 0 ∷ 1 ∷ 0 ∷ 0 ∷ 0 ∷ 0 ∷ 214 ∷ 24 ∷ 132 ∷ 93 ∷ []) ++ (replicate 50 0) ++ (1 ∷ []) ++ (replicate 51 0) ++ (128 ∷ [])

case_20 : (first_refusal bytes_20 ≡ None) × (told_of bytes_20 ≡ 214 ∷ 1 ∷ 4 ∷ 128 ∷ 0 ∷ [])
unfolding layout_of wrapper_of wrapper_refusal dsda_refusal pr_um_refusal refusal_by header_of behind_header key_frame_refusal frame_of behind_frame inner_refusal behind_wrapper first_refusal behind_front command_size command_of begins commands_in left_in unsigned16 unsigned32
case_20 = (refl, refl)

-- which sixteen bytes don't make
abbrev bytes_21 : List ℕ
bytes_21 =
    (214 ∷ 29 ∷ 77 ∷ 66 ∷ 70 ∷ 230 ∷ 0 ∷ 0 ∷ 3 ∷ 1 ∷ 1 ∷ 0 ∷ 0 ∷ 1 ∷ 1 ∷ 0 ∷ 1 ∷ 0 ∷ 1 ∷ 0 ∷ 0 ∷ 0 ∷ 0 ∷ 214 ∷ 24 ∷ 132 ∷ 93 ∷ []) ++ (replicate 50 0) ++ (1 ∷ []) ++ (replicate 47 0) ++ (128 ∷ [])

-- (no marker is in place 124)

case_21 : (first_refusal bytes_21 ≡ None) × (told_of bytes_21 ≡ 214 ∷ 1 ∷ 3 ∷ 0 ∷ 1 ∷ [])
unfolding layout_of wrapper_of wrapper_refusal dsda_refusal pr_um_refusal refusal_by header_of behind_header key_frame_refusal frame_of behind_frame inner_refusal behind_wrapper first_refusal behind_front command_size command_of begins commands_in left_in unsigned16 unsigned32
case_21 = (refl, refl)

-- of MBF21: a marker's byte within a command is none
abbrev bytes_22 : List ℕ
bytes_22 =
    (221 ∷ 29 ∷ 77 ∷ 66 ∷ 70 ∷ 230 ∷ 0 ∷ 3 ∷ 1 ∷ 30 ∷ 0 ∷ 0 ∷ 1 ∷ 0 ∷ 1 ∷ 0 ∷ 0 ∷ 0 ∷ 214 ∷ 24 ∷ 132 ∷ 93 ∷ 1 ∷ 0 ∷ 0 ∷ 128 ∷ 0 ∷ 1 ∷ 1 ∷ 0 ∷ 1 ∷ 0 ∷ 25 ∷ []) ++ (replicate 25 0) ++ (1 ∷ []) ++ (replicate 31 0) ++ (25 ∷ 0 ∷ 0 ∷ 128 ∷ 0 ∷ 128 ∷ [])

case_22 : (first_refusal bytes_22 ≡ None) × (told_of bytes_22 ≡ 221 ∷ 1 ∷ 1 ∷ 128 ∷ 0 ∷ [])
unfolding layout_of wrapper_of wrapper_refusal dsda_refusal pr_um_refusal refusal_by header_of behind_header key_frame_refusal frame_of behind_frame inner_refusal behind_wrapper first_refusal behind_front command_size command_of begins commands_in left_in unsigned16 unsigned32
case_22 = (refl, refl)

-- with no compatibility options
abbrev bytes_23 : List ℕ
bytes_23 =
    (221 ∷ 29 ∷ 77 ∷ 66 ∷ 70 ∷ 230 ∷ 0 ∷ 3 ∷ 1 ∷ 3 ∷ 0 ∷ 0 ∷ 1 ∷ 0 ∷ 1 ∷ 0 ∷ 0 ∷ 0 ∷ 214 ∷ 24 ∷ 132 ∷ 93 ∷ 1 ∷ 0 ∷ 0 ∷ 128 ∷ 0 ∷ 1 ∷ 1 ∷ 0 ∷ 1 ∷ 0 ∷ 0 ∷ 1 ∷ []) ++ (replicate 36 0) ++ (128 ∷ [])

case_23 : (first_refusal bytes_23 ≡ None) × (told_of bytes_23 ≡ 221 ∷ 1 ∷ 1 ∷ 128 ∷ 0 ∷ [])
unfolding layout_of wrapper_of wrapper_refusal dsda_refusal pr_um_refusal refusal_by header_of behind_header key_frame_refusal frame_of behind_frame inner_refusal behind_wrapper first_refusal behind_front command_size command_of begins commands_in left_in unsigned16 unsigned32
case_23 = (refl, refl)

-- with 26
abbrev bytes_24 : List ℕ
bytes_24 =
    (221 ∷ 29 ∷ 77 ∷ 66 ∷ 70 ∷ 230 ∷ 0 ∷ 3 ∷ 1 ∷ 3 ∷ 0 ∷ 0 ∷ 1 ∷ 0 ∷ 1 ∷ 0 ∷ 0 ∷ 0 ∷ 214 ∷ 24 ∷ 132 ∷ 93 ∷ 1 ∷ 0 ∷ 0 ∷ 128 ∷ 0 ∷ 1 ∷ 1 ∷ 0 ∷ 1 ∷ 0 ∷ 26 ∷ []) ++ (replicate 26 0) ++ (1 ∷ []) ++ (replicate 36 0) ++ (128 ∷ [])

case_24 : first_refusal bytes_24 ≡ Some (Options 26)
unfolding layout_of wrapper_of wrapper_refusal dsda_refusal pr_um_refusal refusal_by header_of behind_header key_frame_refusal frame_of behind_frame inner_refusal behind_wrapper first_refusal behind_front command_size command_of begins commands_in left_in unsigned16 unsigned32
case_24 = refl

-- with 255
abbrev bytes_25 : List ℕ
bytes_25 =
    (221 ∷ 29 ∷ 77 ∷ 66 ∷ 70 ∷ 230 ∷ 0 ∷ 3 ∷ 1 ∷ 3 ∷ 0 ∷ 0 ∷ 1 ∷ 0 ∷ 1 ∷ 0 ∷ 0 ∷ 0 ∷ 214 ∷ 24 ∷ 132 ∷ 93 ∷ 1 ∷ 0 ∷ 0 ∷ 128 ∷ 0 ∷ 1 ∷ 1 ∷ 0 ∷ 1 ∷ 0 ∷ 255 ∷ [])

case_25 : first_refusal bytes_25 ≡ Some (Options 255)
unfolding layout_of wrapper_of wrapper_refusal dsda_refusal pr_um_refusal refusal_by header_of behind_header key_frame_refusal frame_of behind_frame inner_refusal behind_wrapper first_refusal behind_front command_size command_of begins commands_in left_in unsigned16 unsigned32
case_25 = refl

-- cut before their number
abbrev bytes_26 : List ℕ
bytes_26 =
    (221 ∷ 29 ∷ 77 ∷ 66 ∷ 70 ∷ 230 ∷ 0 ∷ 3 ∷ 1 ∷ 3 ∷ 0 ∷ 0 ∷ 1 ∷ 0 ∷ 1 ∷ 0 ∷ 0 ∷ 0 ∷ 214 ∷ 24 ∷ 132 ∷ 93 ∷ 1 ∷ 0 ∷ 0 ∷ 128 ∷ 0 ∷ 1 ∷ 1 ∷ 0 ∷ 1 ∷ 0 ∷ [])

case_26 : first_refusal bytes_26 ≡ Some (Short 32 65)
unfolding layout_of wrapper_of wrapper_refusal dsda_refusal pr_um_refusal refusal_by header_of behind_header key_frame_refusal frame_of behind_frame inner_refusal behind_wrapper first_refusal behind_front command_size command_of begins commands_in left_in unsigned16 unsigned32
case_26 = refl

-- behind it
abbrev bytes_27 : List ℕ
bytes_27 =
    (221 ∷ 29 ∷ 77 ∷ 66 ∷ 70 ∷ 230 ∷ 0 ∷ 3 ∷ 1 ∷ 3 ∷ 0 ∷ 0 ∷ 1 ∷ 0 ∷ 1 ∷ 0 ∷ 0 ∷ 0 ∷ 214 ∷ 24 ∷ 132 ∷ 93 ∷ 1 ∷ 0 ∷ 0 ∷ 128 ∷ 0 ∷ 1 ∷ 1 ∷ 0 ∷ 1 ∷ 0 ∷ 25 ∷ []) ++ (replicate 25 0) ++ (1 ∷ [])

case_27 : first_refusal bytes_27 ≡ Some (Short 59 90)
unfolding layout_of wrapper_of wrapper_refusal dsda_refusal pr_um_refusal refusal_by header_of behind_header key_frame_refusal frame_of behind_frame inner_refusal behind_wrapper first_refusal behind_front command_size command_of begins commands_in left_in unsigned16 unsigned32
case_27 = refl

-- a byte of compatibility too many
abbrev bytes_28 : List ℕ
bytes_28 =
    (221 ∷ 29 ∷ 77 ∷ 66 ∷ 70 ∷ 230 ∷ 0 ∷ 0 ∷ 3 ∷ 1 ∷ 3 ∷ 0 ∷ 0 ∷ 1 ∷ 0 ∷ 1 ∷ 0 ∷ 0 ∷ 0 ∷ 214 ∷ 24 ∷ 132 ∷ 93 ∷ 1 ∷ 0 ∷ 0 ∷ 128 ∷ 0 ∷ 1 ∷ 1 ∷ 0 ∷ 1 ∷ 0 ∷ 25 ∷ []) ++ (replicate 25 0) ++ (1 ∷ []) ++ (replicate 36 0) ++ (128 ∷ [])

-- (no marker is in place 95)

case_28 : (first_refusal bytes_28 ≡ None) × (told_of bytes_28 ≡ 221 ∷ 1 ∷ 6 ∷ 0 ∷ 1 ∷ [])
unfolding layout_of wrapper_of wrapper_refusal dsda_refusal pr_um_refusal refusal_by header_of behind_header key_frame_refusal frame_of behind_frame inner_refusal behind_wrapper first_refusal behind_front command_size command_of begins commands_in left_in unsigned16 unsigned32
case_28 = (refl, refl)

-- 204
abbrev bytes_29 : List ℕ
bytes_29 =
    (204 ∷ 29 ∷ 77 ∷ 66 ∷ 70 ∷ 230 ∷ []) ++ (replicate 111 0) ++ (128 ∷ [])

case_29 : first_refusal bytes_29 ≡ Some (Version 204)
unfolding layout_of wrapper_of wrapper_refusal dsda_refusal pr_um_refusal refusal_by header_of behind_header key_frame_refusal frame_of behind_frame inner_refusal behind_wrapper first_refusal behind_front command_size command_of begins commands_in left_in unsigned16 unsigned32
case_29 = refl

-- 215
abbrev bytes_30 : List ℕ
bytes_30 =
    (215 ∷ 29 ∷ 77 ∷ 66 ∷ 70 ∷ 230 ∷ []) ++ (replicate 111 0) ++ (128 ∷ [])

case_30 : first_refusal bytes_30 ≡ Some (Version 215)
unfolding layout_of wrapper_of wrapper_refusal dsda_refusal pr_um_refusal refusal_by header_of behind_header key_frame_refusal frame_of behind_frame inner_refusal behind_wrapper first_refusal behind_front command_size command_of begins commands_in left_in unsigned16 unsigned32
case_30 = refl

-- of Doom before 1.4
abbrev bytes_31 : List ℕ
bytes_31 =
    (3 ∷ 1 ∷ 1 ∷ 1 ∷ 0 ∷ 0 ∷ 0 ∷ 128 ∷ [])

case_31 : first_refusal bytes_31 ≡ Some (Version 3)
unfolding layout_of wrapper_of wrapper_refusal dsda_refusal pr_um_refusal refusal_by header_of behind_header key_frame_refusal frame_of behind_frame inner_refusal behind_wrapper first_refusal behind_front command_size command_of begins commands_in left_in unsigned16 unsigned32
case_31 = refl

-- no byte
abbrev bytes_32 : List ℕ
bytes_32 =
    []

case_32 : first_refusal bytes_32 ≡ Some Empty
unfolding layout_of wrapper_of wrapper_refusal dsda_refusal pr_um_refusal refusal_by header_of behind_header key_frame_refusal frame_of behind_frame inner_refusal behind_wrapper first_refusal behind_front command_size command_of begins commands_in left_in unsigned16 unsigned32
case_32 = refl

-- of Doom 1.4 to 1.8
abbrev bytes_33 : List ℕ
bytes_33 =
    (106 ∷ 3 ∷ 2 ∷ 2 ∷ 0 ∷ 0 ∷ 0 ∷ 0 ∷ 0 ∷ 1 ∷ 0 ∷ 0 ∷ 0 ∷ 25 ∷ 0 ∷ 0 ∷ 0 ∷ 128 ∷ [])

case_33 : (first_refusal bytes_33 ≡ None) × (told_of bytes_33 ≡ 106 ∷ 1 ∷ 1 ∷ 128 ∷ 0 ∷ [])
unfolding layout_of wrapper_of wrapper_refusal dsda_refusal pr_um_refusal refusal_by header_of behind_header key_frame_refusal frame_of behind_frame inner_refusal behind_wrapper first_refusal behind_front command_size command_of begins commands_in left_in unsigned16 unsigned32
case_33 = (refl, refl)

-- of Doom 1.9
abbrev bytes_34 : List ℕ
bytes_34 =
    (109 ∷ 3 ∷ 1 ∷ 1 ∷ 0 ∷ 0 ∷ 0 ∷ 0 ∷ 0 ∷ 1 ∷ 0 ∷ 0 ∷ 0 ∷ 25 ∷ 0 ∷ 0 ∷ 0 ∷ 206 ∷ 128 ∷ 255 ∷ 128 ∷ 128 ∷ 7 ∷ [])

case_34 : (first_refusal bytes_34 ≡ None) × (told_of bytes_34 ≡ 109 ∷ 1 ∷ 2 ∷ 128 ∷ 1 ∷ [])
unfolding layout_of wrapper_of wrapper_refusal dsda_refusal pr_um_refusal refusal_by header_of behind_header key_frame_refusal frame_of behind_frame inner_refusal behind_wrapper first_refusal behind_front command_size command_of begins commands_in left_in unsigned16 unsigned32
case_34 = (refl, refl)

-- in DSDA: actions, and two slots
abbrev bytes_35 : List ℕ
bytes_35 =
    (255 ∷ 29 ∷ 68 ∷ 83 ∷ 68 ∷ 65 ∷ 230 ∷ 2 ∷ 0 ∷ 0 ∷ 0 ∷ 141 ∷ 0 ∷ 0 ∷ 0 ∷ 3 ∷ 0 ∷ 202 ∷ 29 ∷ 66 ∷ 111 ∷ 111 ∷ 109 ∷ 230 ∷ 0 ∷ 3 ∷ 1 ∷ 2 ∷ 0 ∷ 0 ∷ 1 ∷ 1 ∷ 0 ∷ 1 ∷ 0 ∷ 1 ∷ 0 ∷ 0 ∷ 0 ∷ 0 ∷ 214 ∷ 24 ∷ 132 ∷ 93 ∷ []) ++ (replicate 50 0) ++ (1 ∷ []) ++ (replicate 31 0) ++ (25 ∷ []) ++ (replicate 8 0) ++ (6 ∷ 5 ∷ 5 ∷ 25 ∷ 0 ∷ 0 ∷ 0 ∷ 25 ∷ 128 ∷ [])

case_35 : (first_refusal bytes_35 ≡ None) × (told_of bytes_35 ≡ 202 ∷ 1 ∷ 3 ∷ 128 ∷ 0 ∷ [])
unfolding layout_of wrapper_of wrapper_refusal dsda_refusal pr_um_refusal refusal_by header_of behind_header key_frame_refusal frame_of behind_frame inner_refusal behind_wrapper first_refusal behind_front command_size command_of begins commands_in left_in unsigned16 unsigned32
case_35 = (refl, refl)

-- in DSDA a command of four bytes has no actions
abbrev bytes_36 : List ℕ
bytes_36 =
    (255 ∷ 29 ∷ 68 ∷ 83 ∷ 68 ∷ 65 ∷ 230 ∷ 2 ∷ []) ++ (replicate 9 0) ++ (202 ∷ 29 ∷ 66 ∷ 111 ∷ 111 ∷ 109 ∷ 230 ∷ 0 ∷ 3 ∷ 1 ∷ 2 ∷ 0 ∷ 0 ∷ 1 ∷ 1 ∷ 0 ∷ 1 ∷ 0 ∷ 1 ∷ 0 ∷ 0 ∷ 0 ∷ 0 ∷ 214 ∷ 24 ∷ 132 ∷ 93 ∷ []) ++ (replicate 50 0) ++ (1 ∷ []) ++ (replicate 35 0) ++ (128 ∷ [])

-- (no marker is in place 131)

case_36 : (first_refusal bytes_36 ≡ None) × (told_of bytes_36 ≡ 202 ∷ 1 ∷ 1 ∷ 0 ∷ 0 ∷ [])
unfolding layout_of wrapper_of wrapper_refusal dsda_refusal pr_um_refusal refusal_by header_of behind_header key_frame_refusal frame_of behind_frame inner_refusal behind_wrapper first_refusal behind_front command_size command_of begins commands_in left_in unsigned16 unsigned32
case_36 = (refl, refl)

-- DSDA 1 has no flags
abbrev bytes_37 : List ℕ
bytes_37 =
    (255 ∷ 29 ∷ 68 ∷ 83 ∷ 68 ∷ 65 ∷ 230 ∷ 1 ∷ 0 ∷ 0 ∷ 0 ∷ 29 ∷ 0 ∷ 0 ∷ 0 ∷ 1 ∷ 109 ∷ 3 ∷ 1 ∷ 1 ∷ 0 ∷ 0 ∷ 0 ∷ 0 ∷ 0 ∷ 1 ∷ []) ++ (replicate 8 0) ++ (128 ∷ [])

case_37 : (first_refusal bytes_37 ≡ None) × (told_of bytes_37 ≡ 109 ∷ 1 ∷ 1 ∷ 128 ∷ 0 ∷ [])
unfolding layout_of wrapper_of wrapper_refusal dsda_refusal pr_um_refusal refusal_by header_of behind_header key_frame_refusal frame_of behind_frame inner_refusal behind_wrapper first_refusal behind_front command_size command_of begins commands_in left_in unsigned16 unsigned32
case_37 = (refl, refl)

-- DSDA 3
abbrev bytes_38 : List ℕ
bytes_38 =
    (255 ∷ 29 ∷ 68 ∷ 83 ∷ 68 ∷ 65 ∷ 230 ∷ 3 ∷ []) ++ (replicate 9 0) ++ (109 ∷ [])

case_38 : first_refusal bytes_38 ≡ Some (Dsda 3)
unfolding layout_of wrapper_of wrapper_refusal dsda_refusal pr_um_refusal refusal_by header_of behind_header key_frame_refusal frame_of behind_frame inner_refusal behind_wrapper first_refusal behind_front command_size command_of begins commands_in left_in unsigned16 unsigned32
case_38 = refl

-- DSDA cut behind its signature
abbrev bytes_39 : List ℕ
bytes_39 =
    (255 ∷ 29 ∷ 68 ∷ 83 ∷ 68 ∷ 65 ∷ 230 ∷ [])

case_39 : first_refusal bytes_39 ≡ Some (Short 7 16)
unfolding layout_of wrapper_of wrapper_refusal dsda_refusal pr_um_refusal refusal_by header_of behind_header key_frame_refusal frame_of behind_frame inner_refusal behind_wrapper first_refusal behind_front command_size command_of begins commands_in left_in unsigned16 unsigned32
case_39 = refl

-- and nothing behind it
abbrev bytes_40 : List ℕ
bytes_40 =
    (255 ∷ 29 ∷ 68 ∷ 83 ∷ 68 ∷ 65 ∷ 230 ∷ 2 ∷ []) ++ (replicate 9 0)

case_40 : first_refusal bytes_40 ≡ Some (Short 17 18)
unfolding layout_of wrapper_of wrapper_refusal dsda_refusal pr_um_refusal refusal_by header_of behind_header key_frame_refusal frame_of behind_frame inner_refusal behind_wrapper first_refusal behind_front command_size command_of begins commands_in left_in unsigned16 unsigned32
case_40 = refl

-- and a header cut
abbrev bytes_41 : List ℕ
bytes_41 =
    (255 ∷ 29 ∷ 68 ∷ 83 ∷ 68 ∷ 65 ∷ 230 ∷ 2 ∷ []) ++ (replicate 9 0) ++ (202 ∷ 29 ∷ 66 ∷ [])

case_41 : first_refusal bytes_41 ≡ Some (Short 20 126)
unfolding layout_of wrapper_of wrapper_refusal dsda_refusal pr_um_refusal refusal_by header_of behind_header key_frame_refusal frame_of behind_frame inner_refusal behind_wrapper first_refusal behind_front command_size command_of begins commands_in left_in unsigned16 unsigned32
case_41 = refl

-- a wrapper in a wrapper
abbrev bytes_42 : List ℕ
bytes_42 =
    (255 ∷ 29 ∷ 68 ∷ 83 ∷ 68 ∷ 65 ∷ 230 ∷ 2 ∷ []) ++ (replicate 9 0) ++ (255 ∷ 29 ∷ 68 ∷ 83 ∷ 68 ∷ 65 ∷ 230 ∷ 2 ∷ []) ++ (replicate 9 0) ++ (109 ∷ [])

case_42 : first_refusal bytes_42 ≡ Some (Version 255)
unfolding layout_of wrapper_of wrapper_refusal dsda_refusal pr_um_refusal refusal_by header_of behind_header key_frame_refusal frame_of behind_frame inner_refusal behind_wrapper first_refusal behind_front command_size command_of begins commands_in left_in unsigned16 unsigned32
case_42 = refl

-- with a key frame
abbrev bytes_43 : List ℕ
bytes_43 =
    (255 ∷ 29 ∷ 68 ∷ 83 ∷ 68 ∷ 65 ∷ 230 ∷ 2 ∷ 0 ∷ 0 ∷ 0 ∷ 42 ∷ 0 ∷ 0 ∷ 0 ∷ 1 ∷ 1 ∷ 109 ∷ 3 ∷ 1 ∷ 1 ∷ 0 ∷ 0 ∷ 0 ∷ 0 ∷ 0 ∷ 1 ∷ 0 ∷ 0 ∷ 0 ∷ 3 ∷ 0 ∷ 0 ∷ 0 ∷ 170 ∷ 187 ∷ 204 ∷ 0 ∷ 0 ∷ 0 ∷ 0 ∷ 0 ∷ 128 ∷ [])

case_43 : (first_refusal bytes_43 ≡ None) × (told_of bytes_43 ≡ 109 ∷ 1 ∷ 1 ∷ 128 ∷ 0 ∷ [])
    × (frame_of (wrapper_of bytes_43) (behind_header (behind_wrapper bytes_43)) ≡ Some (170 ∷ 187 ∷ 204 ∷ []))
unfolding layout_of wrapper_of wrapper_refusal dsda_refusal pr_um_refusal refusal_by header_of behind_header key_frame_refusal frame_of behind_frame inner_refusal behind_wrapper first_refusal behind_front command_size command_of begins commands_in left_in unsigned16 unsigned32
case_43 = (refl, refl, refl)

-- which is cut
abbrev bytes_44 : List ℕ
bytes_44 =
    (255 ∷ 29 ∷ 68 ∷ 83 ∷ 68 ∷ 65 ∷ 230 ∷ 2 ∷ 0 ∷ 0 ∷ 0 ∷ 42 ∷ 0 ∷ 0 ∷ 0 ∷ 1 ∷ 1 ∷ 109 ∷ 3 ∷ 1 ∷ 1 ∷ 0 ∷ 0 ∷ 0 ∷ 0 ∷ 0 ∷ 1 ∷ 0 ∷ 0 ∷ 0 ∷ 10 ∷ 0 ∷ 0 ∷ 0 ∷ 170 ∷ 187 ∷ 204 ∷ 0 ∷ 0 ∷ 0 ∷ 0 ∷ 0 ∷ 128 ∷ [])

case_44 : first_refusal bytes_44 ≡ Some KeyFrame
unfolding layout_of wrapper_of wrapper_refusal dsda_refusal pr_um_refusal refusal_by header_of behind_header key_frame_refusal frame_of behind_frame inner_refusal behind_wrapper first_refusal behind_front command_size command_of begins commands_in left_in unsigned16 unsigned32
case_44 = refl

-- whose length is 2 ^ 32 - 1
abbrev bytes_45 : List ℕ
bytes_45 =
    (255 ∷ 29 ∷ 68 ∷ 83 ∷ 68 ∷ 65 ∷ 230 ∷ 2 ∷ 0 ∷ 0 ∷ 0 ∷ 42 ∷ 0 ∷ 0 ∷ 0 ∷ 1 ∷ 1 ∷ 109 ∷ 3 ∷ 1 ∷ 1 ∷ 0 ∷ 0 ∷ 0 ∷ 0 ∷ 0 ∷ 1 ∷ 0 ∷ 0 ∷ 0 ∷ 255 ∷ 255 ∷ 255 ∷ 255 ∷ 170 ∷ 187 ∷ 204 ∷ 0 ∷ 0 ∷ 0 ∷ 0 ∷ 0 ∷ 128 ∷ [])

case_45 : first_refusal bytes_45 ≡ Some KeyFrame
unfolding layout_of wrapper_of wrapper_refusal dsda_refusal pr_um_refusal refusal_by header_of behind_header key_frame_refusal frame_of behind_frame inner_refusal behind_wrapper first_refusal behind_front command_size command_of begins commands_in left_in unsigned16 unsigned32
case_45 = refl

-- in PR+UM
abbrev bytes_46 : List ℕ
bytes_46 =
    (255 ∷ 80 ∷ 82 ∷ 43 ∷ 85 ∷ 77 ∷ 0 ∷ 1 ∷ 1 ∷ 0 ∷ 8 ∷ 85 ∷ 77 ∷ 65 ∷ 80 ∷ 73 ∷ 78 ∷ 70 ∷ 79 ∷ 77 ∷ 65 ∷ 80 ∷ 48 ∷ 53 ∷ 0 ∷ 0 ∷ 0 ∷ 202 ∷ 29 ∷ 66 ∷ 111 ∷ 111 ∷ 109 ∷ 230 ∷ 0 ∷ 3 ∷ 1 ∷ 2 ∷ 0 ∷ 0 ∷ 1 ∷ 1 ∷ 0 ∷ 1 ∷ 0 ∷ 1 ∷ 0 ∷ 0 ∷ 0 ∷ 0 ∷ 214 ∷ 24 ∷ 132 ∷ 93 ∷ []) ++ (replicate 50 0) ++ (1 ∷ []) ++ (replicate 35 0) ++ (128 ∷ [])

case_46 : (first_refusal bytes_46 ≡ None) × (told_of bytes_46 ≡ 202 ∷ 1 ∷ 1 ∷ 128 ∷ 0 ∷ [])
unfolding layout_of wrapper_of wrapper_refusal dsda_refusal pr_um_refusal refusal_by header_of behind_header key_frame_refusal frame_of behind_frame inner_refusal behind_wrapper first_refusal behind_front command_size command_of begins commands_in left_in unsigned16 unsigned32
case_46 = (refl, refl)

-- two extensions
abbrev bytes_47 : List ℕ
bytes_47 =
    (255 ∷ 80 ∷ 82 ∷ 43 ∷ 85 ∷ 77 ∷ 0 ∷ 1 ∷ 2 ∷ 0 ∷ 8 ∷ 85 ∷ 77 ∷ 65 ∷ 80 ∷ 73 ∷ 78 ∷ 70 ∷ 79 ∷ [])

case_47 : first_refusal bytes_47 ≡ Some PrUm
unfolding layout_of wrapper_of wrapper_refusal dsda_refusal pr_um_refusal refusal_by header_of behind_header key_frame_refusal frame_of behind_frame inner_refusal behind_wrapper first_refusal behind_front command_size command_of begins commands_in left_in unsigned16 unsigned32
case_47 = refl

-- PR+UM cut
abbrev bytes_48 : List ℕ
bytes_48 =
    (255 ∷ 80 ∷ 82 ∷ 43 ∷ 85 ∷ 77 ∷ 0 ∷ 1 ∷ 1 ∷ 0 ∷ [])

case_48 : first_refusal bytes_48 ≡ Some (Short 10 27)
unfolding layout_of wrapper_of wrapper_refusal dsda_refusal pr_um_refusal refusal_by header_of behind_header key_frame_refusal frame_of behind_frame inner_refusal behind_wrapper first_refusal behind_front command_size command_of begins commands_in left_in unsigned16 unsigned32
case_48 = refl

-- byte 6 is free
abbrev bytes_49 : List ℕ
bytes_49 =
    (255 ∷ 80 ∷ 82 ∷ 43 ∷ 85 ∷ 77 ∷ 88 ∷ 1 ∷ 1 ∷ 0 ∷ 8 ∷ 85 ∷ 77 ∷ 65 ∷ 80 ∷ 73 ∷ 78 ∷ 70 ∷ 79 ∷ 77 ∷ 65 ∷ 80 ∷ 48 ∷ 53 ∷ 0 ∷ 0 ∷ 0 ∷ 108 ∷ 3 ∷ 1 ∷ 2 ∷ 0 ∷ 0 ∷ 0 ∷ 0 ∷ 0 ∷ 1 ∷ 0 ∷ 0 ∷ 0 ∷ 0 ∷ 0 ∷ 0 ∷ 0 ∷ 128 ∷ [])

case_49 : (first_refusal bytes_49 ≡ None) × (told_of bytes_49 ≡ 108 ∷ 1 ∷ 1 ∷ 128 ∷ 0 ∷ [])
unfolding layout_of wrapper_of wrapper_refusal dsda_refusal pr_um_refusal refusal_by header_of behind_header key_frame_refusal frame_of behind_frame inner_refusal behind_wrapper first_refusal behind_front command_size command_of begins commands_in left_in unsigned16 unsigned32
case_49 = (refl, refl)

-- 255 alone
abbrev bytes_50 : List ℕ
bytes_50 =
    (255 ∷ [])

case_50 : first_refusal bytes_50 ≡ Some (Version 255)
unfolding layout_of wrapper_of wrapper_refusal dsda_refusal pr_um_refusal refusal_by header_of behind_header key_frame_refusal frame_of behind_frame inner_refusal behind_wrapper first_refusal behind_front command_size command_of begins commands_in left_in unsigned16 unsigned32
case_50 = refl

-- of another engine
abbrev bytes_51 : List ℕ
bytes_51 =
    (255 ∷ 69 ∷ 84 ∷ 69 ∷ 82 ∷ 78 ∷ 0 ∷ [])

case_51 : first_refusal bytes_51 ≡ Some (Version 255)
unfolding layout_of wrapper_of wrapper_refusal dsda_refusal pr_um_refusal refusal_by header_of behind_header key_frame_refusal frame_of behind_frame inner_refusal behind_wrapper first_refusal behind_front command_size command_of begins commands_in left_in unsigned16 unsigned32
case_51 = refl

-- why bytes are no demo, in words
text_of_early : fault_text (Version 3) ≡ codes "version 3 (1.2 and before): not read"
unfolding digits
text_of_early = refl

text_of_signature : fault_text (Signature 203 Mbf) ≡ codes "version 203 (MBF): its signature isn't 1d 4d 42 46 e6 00"
unfolding digits
text_of_signature = refl

text_of_dsda : fault_text (Dsda 3) ≡ codes "version 255 (DSDA 3): not read"
unfolding digits
text_of_dsda = refl

text_of_short : fault_text (Short 118 301) ≡ codes "118 bytes of a header's 301"
unfolding digits
text_of_short = refl

-- what engines leave behind the marker
woof_footer : lines_footer (codes "Woof 10.5.1\n-iwad x  \nmore") ≡ (record { port = Some (codes "Woof 10.5.1"); words = Some (codes "-iwad x") })
woof_footer = refl

woof_without_end : lines_footer (codes "Woof 10.5.1") ≡ (record { port = Some (codes "Woof 10.5.1"); words = None })
woof_without_end = refl

woof_without_words : lines_footer (codes "Woof 1 \n\n") ≡ (record { port = Some (codes "Woof 1 "); words = Some [] })
woof_without_words = refl

small_letters : lines_footer (codes "woof 1\n") ≡ (record { port = None; words = None })
small_letters = refl

words_of_a_lump : text_of (codes "-iwad \"a b.wad\" \n") ≡ codes "-iwad \"a b.wad\""
words_of_a_lump = refl
