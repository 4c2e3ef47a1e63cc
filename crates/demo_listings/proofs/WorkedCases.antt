-- Lines of listings and of differences, computed on the definitions: each is what stands here.
use Rattle.std.proofs.Common.{◌≡◌, ℕ, pos, negsuc, Option, Some, None, List, [], ◌∷◌, ◌++◌, replicate, refl}
use Rattle.std.specs.Fmt.{digits}
use Rattle.std.specs.Prelude.{codes}
use Rattle.le_rec.specs.Number.{unsigned16, unsigned32}
use Rattle.later_demos.specs.Demo.{Demo}
use Rattle.later_demos.specs.Layout.{layout_of}
use Rattle.later_demos.specs.Part.{part_of}
use Rattle.later_demos.specs.declared.layout.Layout.{Layout}
use Rattle.later_demos.specs.declared.wrapper.Wrapper.TheVariants.{Dsda, PrUm}
use Rattle.demo_listings.specs.CommandText.{command_text}
use Rattle.demo_listings.specs.Differences.{part_line, told, wrapper_text}
use Rattle.demo_listings.specs.Listing.{options_line, unread_line, wrapper_line}

-- the lines of a header behind the first one
abbrev lines_by : Option Layout → List ℕ → List ℕ
lines_by (Some layout) header = options_line layout header ++ unread_line layout header
lines_by None header = []

-- the line of two headers that differ at a place
abbrev demo_of : Layout → List ℕ → Demo
demo_of layout header = record { wrapper = None; layout = layout; header = header; key_frame = None; commands = []; rest = [] }

abbrev line_by : Option Layout → List ℕ → List ℕ → ℕ → List ℕ
line_by (Some layout) a b place = part_line (part_of layout a place) (demo_of layout a) (demo_of layout b) place
line_by None a b place = []

-- a header of Boom with this byte at place 17, and this seed's last byte
abbrev boom : ℕ → ℕ → List ℕ
boom unread seed =
    (202 ∷ 29 ∷ 66 ∷ 111 ∷ 111 ∷ 109 ∷ 230 ∷ 0 ∷ 3 ∷ 1 ∷ 1 ∷ 0 ∷ 0 ∷ 1 ∷ 1 ∷ 0 ∷ 1 ∷ unread ∷ 1 ∷ 0 ∷ 0 ∷ 0 ∷ 0 ∷ 214 ∷ 24 ∷ 132 ∷ seed ∷ [])
    ++ (replicate 50 0 ++ (1 ∷ replicate 31 0))

-- of MBF21, with this byte as the last compatibility option
abbrev mbf21 : ℕ → List ℕ
mbf21 option =
    (221 ∷ 29 ∷ 77 ∷ 66 ∷ 70 ∷ 230 ∷ 0 ∷ 3 ∷ 1 ∷ 30 ∷ 0 ∷ 0 ∷ 1 ∷ 0 ∷ 1 ∷ 0 ∷ 0 ∷ 0 ∷ 214 ∷ 24 ∷ 132 ∷ 93 ∷ 1 ∷ 0 ∷ 0 ∷ 128 ∷ 0 ∷ 1 ∷ 1 ∷ 0 ∷ 1 ∷ 0 ∷ 25 ∷ [])
    ++ (replicate 24 0 ++ (option ∷ 1 ∷ replicate 31 0))

boom_lines : lines_by (layout_of 202) (boom 0 93)
    ≡ codes "options compatibility 0 monsters_remember 1 variable_friction 1 weapon_recoil 0 allow_pushers 1 player_bobbing 1 demo_insurance 0 rngseed 3591930973\n"
unfolding layout_of part_of unsigned16 unsigned32 digits
boom_lines = refl

boom_unread_byte : lines_by (layout_of 202) (boom 7 93)
    ≡ codes "options compatibility 0 monsters_remember 1 variable_friction 1 weapon_recoil 0 allow_pushers 1 player_bobbing 1 demo_insurance 0 rngseed 3591930973\nunread 17:7\n"
unfolding layout_of part_of unsigned16 unsigned32 digits
boom_unread_byte = refl

mbf21_lines : lines_by (layout_of 221) (mbf21 1)
    ≡ codes "options monsters_remember 1 weapon_recoil 0 player_bobbing 1 rngseed 3591930973 monster_infighting 1 dogs 0 distfriend 128 monster_backing 0 monster_avoid_hazards 1 monster_friction 1 help_friends 0 dog_jumping 1 monkeys 0 comps 25 comp 0 0 0 0 0 0 0 0 0 0 0 0 0 0 0 0 0 0 0 0 0 0 0 0 1\n"
unfolding layout_of part_of unsigned16 unsigned32 digits
mbf21_lines = refl

differs_in_the_seed : line_by (layout_of 202) (boom 0 93) (boom 0 94) 26 ≡ codes "header: rngseed 3591930973, 3591930974\n"
unfolding layout_of part_of unsigned16 unsigned32 digits
differs_in_the_seed = refl

differs_in_an_unread_byte : line_by (layout_of 202) (boom 7 93) (boom 0 93) 17 ≡ codes "header: byte 17 7, 0\n"
unfolding layout_of part_of unsigned16 unsigned32 digits
differs_in_an_unread_byte = refl

differs_in_an_option : line_by (layout_of 221) (mbf21 1) (mbf21 0) 57 ≡ codes "header: comp 24 1, 0\n"
unfolding layout_of part_of unsigned16 unsigned32 digits
differs_in_an_option = refl

differs_in_the_wrapper : told (codes "wrapper") (wrapper_text None) (wrapper_text (Some (Dsda (record { version = 2; marker = 42; tics = 1; flags = 0 }))))
    ≡ codes "header: wrapper none, DSDA 2\n"
unfolding digits
differs_in_the_wrapper = refl

dsda_line : wrapper_line (Some (Dsda (record { version = 2; marker = 42; tics = 1; flags = 1 }))) (Some (0 ∷ 0 ∷ 0 ∷ []))
    ≡ codes "wrapper DSDA 2 marker 42 tics 1 flags 1 key_frame 3\n"
unfolding digits
dsda_line = refl

pr_um_line : wrapper_line (Some (PrUm (77 ∷ 65 ∷ 80 ∷ 48 ∷ 53 ∷ 0 ∷ 0 ∷ 0 ∷ []))) None ≡ codes "wrapper PR+UM 1 map_name MAP05\n"
pr_um_line = refl

plain_command : command_text (record { ticcmd = record { forward = negsuc 49; side = negsuc 127; turn = 255; buttons = 128 }; actions = None })
    ≡ codes "-50 -128 255 80"
unfolding digits
plain_command = refl

command_with_slots : command_text (record {
  ticcmd = record { forward = pos 0; side = pos 0; turn = 0; buttons = 0 };
  actions = Some (record { actions = 6; save = Some 5; load = Some 5 });
}) ≡ codes "0 0 0 00 06 5 5"
unfolding digits
command_with_slots = refl
