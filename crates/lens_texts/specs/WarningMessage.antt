-- What a warning says, and where it lies (ours).
use Rattle.std.specs.Prelude.{ℕ, List, ◌++◌, codes}
use Rattle.std.specs.Fmt.{decimal, signed_decimal}
use Rattle.std.specs.List.{slice_get}
use Rattle.std.specs.Option.{option_map_or}
use Rattle.map_warnings.specs.UnknownFlat.{flat_of}
use Rattle.map_warnings.specs.UnknownTexture.{texture_of}
use Rattle.map_warnings.specs.declared.warning.SidePart.{SidePart}
use Rattle.map_warnings.specs.declared.warning.SidePart.TheVariants.{Middle, Upper, Lower}
use Rattle.map_warnings.specs.declared.warning.Plane.{Plane}
use Rattle.map_warnings.specs.declared.warning.Plane.TheVariants.{Floor, Ceiling}
use Rattle.map_warnings.specs.declared.warning.Side.{Side}
use Rattle.map_warnings.specs.declared.warning.Side.TheVariants.{Front, Back}
use Rattle.map_warnings.specs.declared.warning.Warning.{Warning}
use Rattle.map_warnings.specs.declared.warning.Warning.TheVariants as warning
use Rattle.level_codes.specs.Codes.{kind_of}
use Rattle.level_codes.specs.declared.code.ReportCode.TheVariants as report
use Rattle.map_level.specs.Level.{Level}
use Rattle.map_warnings.specs.Warnings.{code_of, number_of}
use Rattle.lens_texts.specs.GameMessage.{game_message}
use Rattle.lens_texts.specs.Label.{named_text}
use Rattle.lens_texts.specs.Place.{place_at}
use Rattle.lens_texts.specs.declared.place.MapPlace.{MapPlace}
use Rattle.lens_texts.specs.declared.place.MapPlace.TheVariants.{Nowhere, At}

-- a part of a wall that has no texture
abbrev pub part_text : SidePart → List ℕ → List ℕ
part_text Middle rest = codes "no middle texture " ++ rest
part_text Upper rest = codes "no upper texture " ++ rest
part_text Lower rest = codes "no lower texture " ++ rest

-- a side of a linedef
abbrev pub side_text : Side → List ℕ → List ℕ
side_text Front rest = codes "in front" ++ rest
side_text Back rest = codes "at the back" ++ rest

-- that no sector has a tag
abbrev pub tag_text : Level → ℕ → List ℕ → List ℕ
tag_text level linedef rest =
    option_map_or (λ found. codes "no sector has tag " ++ (signed_decimal found.tag ++ rest)) (slice_get level.linedefs.records linedef) rest

-- that the game finds nothing under a name
abbrev pub missing_text : List ℕ → List ℕ → List ℕ
missing_text bytes rest = named_text bytes (codes " isn't there" ++ rest)

-- of which part of a sidedef, or of which plane of a sector
abbrev pub texture_text : SidePart → List ℕ → List ℕ
texture_text Upper rest = codes "upper texture " ++ rest
texture_text Lower rest = codes "lower texture " ++ rest
texture_text Middle rest = codes "middle texture " ++ rest

abbrev pub flat_text : Plane → List ℕ → List ℕ
flat_text Floor rest = codes "floor flat " ++ rest
flat_text Ceiling rest = codes "ceiling flat " ++ rest

-- that a texture isn't there
abbrev pub unknown_texture_text : Level → ℕ → SidePart → List ℕ → List ℕ
unknown_texture_text level sidedef part rest =
    option_map_or (λ found. texture_text part (missing_text (texture_of part found) rest)) (slice_get level.sidedefs.records sidedef) rest

-- that a flat isn't there
abbrev pub unknown_flat_text : Level → ℕ → Plane → List ℕ → List ℕ
unknown_flat_text level sector plane rest =
    option_map_or (λ found. flat_text plane (missing_text (flat_of plane found) rest)) (slice_get level.sectors.records sector) rest

-- that the game knows no thing of a kind
abbrev pub unknown_thing_text : Level → ℕ → List ℕ → List ℕ
unknown_thing_text level thing rest =
    option_map_or (λ found. codes "type " ++ (signed_decimal found.kind ++ (codes " is none of the game's" ++ rest)))
    (slice_get level.things.records thing) rest

-- what a warning says, before other bytes
abbrev pub warning_message : Level → Warning → List ℕ → List ℕ
warning_message level (warning.Unclosed sector vertex) rest = codes "isn't closed" ++ rest
warning_message level (warning.Bare linedef side part) rest = part_text part (side_text side rest)
warning_message level (warning.InVoid thing) rest = codes "stands in the void" ++ rest
warning_message level (warning.Untagged linedef) rest = tag_text level linedef rest
warning_message level (warning.Mismatched ssector first other) rest =
    codes "its segs face sectors " ++ (decimal first ++ (codes " and " ++ (decimal other ++ rest)))
warning_message level (warning.Twin linedef earlier) rest = codes "lies on linedef " ++ (decimal earlier ++ rest)
warning_message level (warning.NoStart player) rest = codes "no player " ++ (decimal player ++ (codes " start" ++ rest))
warning_message level (warning.FewStarts starts) rest = decimal starts ++ (codes " deathmatch starts" ++ rest)
warning_message level (warning.UnknownTexture sidedef part) rest = unknown_texture_text level sidedef part rest
warning_message level (warning.UnknownFlat sector plane) rest = unknown_flat_text level sector plane rest
warning_message level (warning.UnknownThing thing) rest = unknown_thing_text level thing rest
warning_message level (warning.Game w) rest = game_message level w rest

-- where a vertex is
abbrev pub vertex_place : Level → ℕ → MapPlace
vertex_place level i = option_map_or (λ found. At (record { x = found.x; y = found.y })) (slice_get level.vertexes.records i) Nowhere

-- where a warning lies: W1 at the vertex, and each other where its record is
abbrev pub warning_place : Level → Warning → MapPlace
warning_place level (warning.Unclosed sector vertex) = vertex_place level vertex
warning_place level w = place_at level (kind_of (report.Warning (code_of w))) (number_of w)
