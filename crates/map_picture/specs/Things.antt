-- The things of a picture (ours): each a dart that points where the thing looks.
use Rattle.std.specs.Prelude.{ℕ, ℤ, pos, ◌*ℤ◌, int_div, List, [], ◌∷◌, ◌++◌, codes}
use Rattle.std.specs.Fmt.{decimal, signed_decimal}
use Rattle.le_rec.specs.declared.records.Thing.{Thing}
use Rattle.map_level.specs.Level.{Level}
use Rattle.map_level.specs.Links.{things_of}
use Rattle.lens_texts.specs.Parts.{joined, numbered}
use Rattle.map_picture.specs.Class.{class_name, class_of}

-- by how many degrees the game turns a thing from east towards north: whole eighths (P_SpawnMapThing: ANG45 * (angle / 45))
abbrev pub turn_of : ℤ → ℤ
turn_of angle = int_div angle (pos 45) *ℤ pos 45

-- what a thing is to a player, and where it stands
abbrev pub place_text : Thing → List ℕ
place_text thing =
    codes "<path class=\"p " ++ (class_name (class_of thing.kind) ++ (codes "\" transform=\"translate(" ++ (signed_decimal thing.x
    ++ (codes " " ++ (signed_decimal thing.y ++ codes ")")))))

-- where it looks
abbrev pub turn_text : Thing → List ℕ
turn_text thing = codes "rotate(" ++ (signed_decimal (turn_of thing.angle) ++ codes ")\" d=\"M20 0L-12 14v-28z\"><title>")

-- what it is
abbrev pub thing_text : ℕ → Thing → List ℕ
thing_text i thing =
    codes "thing " ++ (decimal i ++ (codes ": type " ++ (signed_decimal thing.kind ++ (codes ", angle " ++ (signed_decimal thing.angle
    ++ (codes ", flags " ++ (signed_decimal thing.options ++ codes "</title></path>\n")))))))

-- `<path ..><title>thing {i}: type {k}, angle {a}, flags {f}</title></path>`
abbrev pub thing_line : ℕ → Thing → List ℕ
thing_line i thing = joined (place_text thing ∷ turn_text thing ∷ thing_text i thing ∷ [])

-- the lines of the things
abbrev pub things_lines : Level → List ℕ
things_lines level = joined (numbered thing_line 0 (things_of level))
