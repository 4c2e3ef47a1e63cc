-- The warnings of a picture (ours): where references allow what no mapper wants, with what the table of codes says of it.
use Rattle.std.specs.Prelude.{◌≡◌, ℕ, Bool, true, false, List, [], ◌∷◌, ◌++◌, Option, Some, None, codes, map}
use Rattle.std.specs.Fmt.{decimal}
use Rattle.std.specs.List.{slice_get}
use Rattle.std.specs.Option.{option_map, option_map_or}
use Rattle.le_rec.specs.declared.records.Vertex.{Vertex}
use Rattle.game_warnings.specs.declared.warning.GameWarning.{GameWarning}
use Rattle.game_warnings.specs.declared.warning.GameWarning.TheVariants as game
use Rattle.level_codes.specs.Codes.{code_name, text_of}
use Rattle.level_codes.specs.declared.code.ReportCode.TheVariants as report
use Rattle.level_codes.specs.declared.code.WarningCode.{WarningCode}
use Rattle.level_codes.specs.declared.code.WarningCode.TheVariants.{W1, W2, W3, W6, W11, W14, W15, W16, W17, W21}
use Rattle.map_cells.specs.Ends.{linedef_ends}
use Rattle.map_level.specs.Level.{Level}
use Rattle.map_warnings.specs.Holds.{IsWarning}
use Rattle.map_warnings.specs.Warnings.{AreWarnings, code_of, number_of}
use Rattle.map_warnings.specs.declared.warning.Warning.{Warning}
use Rattle.map_warnings.specs.declared.warning.Warning.TheVariants as warning
use Rattle.lens_texts.specs.Parts.{joined}
use Rattle.map_picture.specs.Paths.{shape_part}
use Rattle.map_picture.specs.declared.paths.Shape.{Shape}
use Rattle.map_picture.specs.declared.paths.Shape.TheVariants.{Line, Ring}
use Rattle.map_picture.specs.declared.warned.MarkedWarnings.{MarkedWarnings}

-- the warnings of a code that hold of a level, if it is asked for
abbrev pub AreAllIf : Bool → Level → WarningCode → List Warning → Type 0
AreAllIf true level code all = AreWarnings (IsWarning None level code) all
AreAllIf false level code all = all ≡ []

-- those of a code were added, if it is asked for
pub record AddsAll (asked : Bool) (level : Level) (code : WarningCode) (old new : List Warning) : Type 0 where
  pub all : List Warning
  pub are : AreAllIf asked level code all
  pub is : new ≡ old ++ all

-- what the released game does at linedefs and things was added, of each code that is asked for
pub record AddsGame (asked : MarkedWarnings) (level : Level) (old new : List Warning) : Type 0 where
  pub specials : List Warning
  pub tags : List Warning
  pub crossings : List Warning
  pub effects : List Warning
  pub things : List Warning
  pub are_specials : AreAllIf asked.unknown_specials level W14 specials
  pub are_tags : AreAllIf asked.zero_tags level W15 tags
  pub are_crossings : AreAllIf asked.crossings level W16 crossings
  pub are_effects : AreAllIf asked.effects level W17 effects
  pub are_things : AreAllIf asked.odd_things level W21 things
  pub is : new ≡ old ++ specials ++ tags ++ crossings ++ effects ++ things

-- the warnings that are marked: those of each code that is asked for, one code after another
pub record AreMarked (asked : MarkedWarnings) (level : Level) (marked : List Warning) : Type 0 where
  pub unclosed : List Warning
  pub bare : List Warning
  pub in_void : List Warning
  pub twins : List Warning
  pub unknown : List Warning
  pub are_unclosed : AreAllIf asked.unclosed level W1 unclosed
  pub are_bare : AreAllIf asked.bare level W2 bare
  pub are_in_void : AreAllIf asked.in_void level W3 in_void
  pub are_twins : AreAllIf asked.twins level W6 twins
  pub are_unknown : AreAllIf asked.unknown_things level W11 unknown
  pub game : AddsGame asked level (unclosed ++ bare ++ in_void ++ twins ++ unknown) marked

-- none, where warnings aren't asked for
abbrev pub AreMarkedFor : Option MarkedWarnings → Level → List Warning → Type 0
AreMarkedFor None level marked = marked ≡ []
AreMarkedFor (Some asked) level marked = AreMarked asked level marked

-- a ring about vertex i, and about thing i, where these are there; the line of linedef i, where it has both ends
abbrev pub vertex_ring : Level → ℕ → Option Shape
vertex_ring level i = option_map (λ at. Ring at) (slice_get level.vertexes.records i)

abbrev pub thing_ring : Level → ℕ → Option Shape
thing_ring level i =
    option_map (λ thing. let at : Vertex = record { x = thing.x; y = thing.y } in Ring at) (slice_get level.things.records i)

abbrev pub linedef_line : Level → ℕ → Option Shape
linedef_line level i = option_map (λ ends. Line ends) (linedef_ends level i)

-- what is drawn at what the game does: at its linedef or its thing
abbrev pub game_shape : Level → GameWarning → Option Shape
game_shape level (game.UnknownSpecial linedef) = linedef_line level linedef
game_shape level (game.ZeroTag linedef sectors) = linedef_line level linedef
game_shape level (game.NeverCrossed linedef barrier) = linedef_line level linedef
game_shape level (game.NoDestination linedef) = linedef_line level linedef
game_shape level (game.OneSidedDoor linedef) = linedef_line level linedef
game_shape level (game.ManyPlatforms linedef platforms) = linedef_line level linedef
game_shape level (game.ManyCeilings linedef ceilings) = linedef_line level linedef
game_shape level (game.Harmful linedef harm) = linedef_line level linedef
game_shape level (game.EndsThings thing follow) = thing_ring level thing
game_shape level (game.InNoSkill thing) = thing_ring level thing
game_shape level (game.NoTarget thing skills) = thing_ring level thing
game_shape level (game.ManyTargets thing skills) = thing_ring level thing
game_shape level _ = None

-- what is drawn at a warning: at an open corner, a bare side, a thing in the void, a twin, an unknown thing, and where the game does something
abbrev pub warning_shape : Level → Warning → Option Shape
warning_shape level (warning.Unclosed sector vertex) = vertex_ring level vertex
warning_shape level (warning.Bare linedef side part) = linedef_line level linedef
warning_shape level (warning.InVoid thing) = thing_ring level thing
warning_shape level (warning.Twin linedef earlier) = linedef_line level linedef
warning_shape level (warning.UnknownThing thing) = thing_ring level thing
warning_shape level (warning.Game w) = game_shape level w
warning_shape level _ = None

-- what the table of codes says of a warning: `{code} {number} {text}`, as the audit's line of a finding
abbrev pub warning_title : Warning → List ℕ
warning_title w =
    code_name (report.Warning (code_of w)) ++ (codes " " ++ (decimal (number_of w) ++ (codes " " ++ (text_of (report.Warning (code_of w))
    ++ codes "</title></path>\n"))))

-- `<path class="a" d="{shape}"><title>{title}</title></path>`
abbrev pub warning_line : Warning → Shape → List ℕ
warning_line w shape = joined (shape_part (codes "a") shape ∷ warning_title w ∷ [])

-- a warning's line, if what it is of can be drawn
abbrev pub warning_part : Level → Warning → List ℕ
warning_part level w = option_map_or (warning_line w) (warning_shape level w) []

-- the lines of the warnings
abbrev pub warning_marks : Level → List Warning → List ℕ
warning_marks level marked = joined (map (warning_part level) marked)
