-- The texts of a picture, computed on the sample level and on small ones: each is what stands here.
use Rattle.std.proofs.Common.{◌≡◌, ℕ, ℤ, pos, negsuc, true, false, List, [], ◌∷◌, ◌++◌, refl}
use Rattle.std.specs.Fmt.{digits}
use Rattle.std.specs.Prelude.{codes, map}
use Rattle.le_rec.specs.Table.{Rows}
use Rattle.le_rec.specs.declared.records.LineDef.{LineDef}
use Rattle.le_rec.specs.declared.records.Seg.{Seg}
use Rattle.le_rec.specs.declared.records.Sector.{Sector}
use Rattle.le_rec.specs.declared.records.Thing.{Thing}
use Rattle.map_level.specs.Level.{Level}
use Rattle.map_level.specs.declared.finding.Code.TheVariants.{F3, F4, F7, F9, F17, N3, N5, N11}
use Rattle.map_level.specs.declared.reading.Reading.{Reading}
use Rattle.map_level.specs.declared.reading.Reading.TheVariants.{Signed, Wide}
use Rattle.level_codes.specs.Codes.{code_table}
use Rattle.map_cells.specs.Frame.{frame_at}
use Rattle.map_picture.specs.Class.{class_of}
use Rattle.map_picture.specs.declared.class.Class.TheVariants.{Start, Monster, Weapon, Key, Other}
use Rattle.map_picture.specs.Grey.{grey, shade}
use Rattle.map_picture.specs.Head.{ground_line, svg_line, title_line}
use Rattle.map_picture.specs.Lines.{lines_line}
use Rattle.map_picture.specs.Marks.{marks}
use Rattle.map_picture.specs.Picture.{picture_text}
use Rattle.map_picture.specs.Sectors.{sector_line}
use Rattle.map_picture.specs.Things.{things_lines, turn_of}
use Rattle.map_picture.specs.WarningMarks.{warning_marks}
use Rattle.map_picture.specs.Window.{window_of}
use Rattle.map_warnings.specs.declared.warning.SidePart.TheVariants.{Upper}
use Rattle.map_warnings.specs.declared.warning.Side.TheVariants.{Back}
use Rattle.game_warnings.specs.declared.warning.GameWarning.TheVariants.{UnknownSpecial, OneSidedDoor, DeadlyFloor, NoExit, InNoSkill}
use Rattle.map_warnings.specs.declared.warning.Warning.TheVariants.{Unclosed, Bare, InVoid, Untagged, Twin, UnknownThing, Game}
use Rattle.map_picture.specs.declared.sectors.SectorCells.{SectorCells}

abbrev rows : {R : Type 0} → List R → Rows R
rows records = record { records = records; rest = 0 }

abbrev line : ℤ → ℤ → ℤ → ℤ → LineDef
line v1 v2 side0 side1 = record { v1 = v1; v2 = v2; flags = pos 4; special = pos 0; tag = pos 0; side0 = side0; side1 = side1 }

abbrev seg : ℤ → ℤ → ℤ → ℤ → Seg
seg v1 v2 linedef side = record { v1 = v1; v2 = v2; angle = pos 0; linedef = linedef; side = side; offset = pos 0 }

-- a flat's name as it is stored
abbrev flat : List ℕ
flat = codes "FLAT1" ++ (0 ∷ 0 ∷ 0 ∷ [])

abbrev sector : Sector
sector = record { floor = pos 0; ceiling = pos 128; floor_name = flat; ceiling_name = flat; light = pos 160; special = pos 0; tag = pos 0 }

-- the start of player 1 in the sample
abbrev start : Thing
start = record { x = pos 8; y = pos 8; angle = pos 0; kind = pos 1; options = pos 7 }

-- a level of two vertexes and three segs, with a name, things and linedefs
abbrev level : List ℕ → List Thing → List LineDef → Reading → Level
level name things linedefs reading = record {
  label = 0;
  reading = reading;
  names = name ∷ [];
  things = rows things;
  linedefs = rows linedefs;
  sidedefs = rows [];
  vertexes = rows (record { x = pos 0; y = pos 0 } ∷ record { x = pos 0; y = pos 64 } ∷ []);
  segs = rows (seg (pos 0) (pos 1) (pos 0) (pos 0) ∷ seg (pos 1) (pos 0) (pos 7) (pos 1) ∷ seg (pos 1) (pos 2) (pos 7) (pos 1) ∷ []);
  ssectors = rows [];
  nodes = rows [];
  sectors = rows (sector ∷ sector ∷ []);
  reject = [];
  blockmap = [];
}

-- the sample's linedef, and the sample
abbrev sample : Level
sample = level (codes "E1M1") (start ∷ []) (line (pos 0) (pos 1) (pos 0) (pos 1) ∷ []) Signed

-- linedef 1 has no back, 2 none under the wide reading either, 3 no end, 4 no vertexes at all
abbrev walls : Reading → Level
walls reading =
    level (codes "<A&\">" ++ (32 ∷ []))
    (start ∷ record { x = negsuc 32767; y = pos 5; angle = pos 90; kind = pos 3001; options = negsuc 0 } ∷ [])
    (line (pos 0) (pos 1) (pos 0) (pos 1) ∷ line (pos 1) (pos 0) (pos 1) (negsuc 0) ∷ line (pos 0) (pos 0) (negsuc 0) (negsuc 0)
    ∷ line (pos 0) (pos 2) (pos 0) (negsuc 0) ∷ line (negsuc 0) (pos 0) (pos 0) (pos 0) ∷ [])
    reading

sample_svg : svg_line (window_of (frame_at (pos 0) (pos 0) (pos 0) (pos 64))) ≡ codes "<svg xmlns=\"http://www.w3.org/2000/svg\" viewBox=\"-32 -96 64 128\" width=\"512\" height=\"1024\">\n"
unfolding digits
sample_svg = refl

-- the widest frame there is
wide_svg : svg_line (window_of (frame_at (negsuc 32767) (negsuc 32767) (pos 32767) (pos 32767)))
    ≡ codes "<svg xmlns=\"http://www.w3.org/2000/svg\" viewBox=\"-32800 -32799 65599 65599\" width=\"1024\" height=\"1024\">\n"
unfolding digits
wide_svg = refl

sample_ground : ground_line (window_of (frame_at (pos 0) (pos 0) (pos 0) (pos 64))) ≡ codes "<rect x=\"-32\" y=\"-96\" width=\"64\" height=\"128\" fill=\"#14161a\"/>\n"
unfolding digits
sample_ground = refl

sample_title : title_line sample [] ≡ codes "<title>E1M1: faults 0 notes 0</title>\n"
unfolding digits
sample_title = refl

-- markup in a label, which a byte that isn't visible follows; two faults and a note
marked_title : title_line (walls Signed) (record { code = F4; index = 2 } ∷ record { code = F17; index = 0 } ∷ record { code = N11; index = 0 } ∷ [])
    ≡ codes "<title>&lt;A&amp;&quot;&gt;\\x20: faults 2 notes 1</title>\n"
unfolding digits
marked_title = refl

sample_sector : sector_line 1 sector (record { column = 0; row = 0; width = 1; height = 65 } ∷ []) 65
    ≡ codes "<path fill=\"#7f7f93\" d=\"M0 0h1v65h-1z\"><title>sector 1: floor 0 FLAT1, ceiling 128 FLAT1, light 160, special 0, tag 0, 65 cells</title></path>\n"
unfolding digits grey shade
sample_sector = refl

-- two blocks, a flat's name with markup, numbers below 0
marked_sector :
    sector_line 12 (record { floor = negsuc 7; ceiling = negsuc 0; floor_name = codes "F_\"\"<1>&"; ceiling_name = 0 ∷ codes "ABCDEFG"; light = negsuc 0; special = negsuc 32767; tag = pos 666 })
    (record { column = 0; row = 0; width = 2; height = 3 } ∷ record { column = 5; row = 1; width = 10; height = 1 } ∷ []) 16
    ≡ codes "<path fill=\"#28283c\" d=\"M0 0h2v3h-2zM5 1h10v1h-10z\"><title>sector 12: floor -8 F_&quot;&quot;&lt;1&gt;&amp;, ceiling -1 , light -1, special -32768, tag 666, 16 cells</title></path>\n"
unfolding digits grey shade
marked_sector = refl

greys : grey (pos 0) [] ++ (grey (pos 255) [] ++ (grey (pos 256) [] ++ (grey (pos 144) [] ++ grey (negsuc 32767) []))) ≡ codes "28283cb4b4c8b4b4c877778b28283c"
unfolding grey shade
greys = refl

sample_lines : lines_line sample true ++ lines_line sample false ≡ codes "<path class=\"t\" d=\"M0 0L0 64\"/>\n<path class=\"w\" d=\"\"/>\n"
unfolding digits
sample_lines = refl

two_sided : lines_line (walls Signed) true ≡ codes "<path class=\"t\" d=\"M0 0L0 64\"/>\n"
unfolding digits
two_sided = refl

one_sided : lines_line (walls Signed) false ≡ codes "<path class=\"w\" d=\"M0 64L0 0M0 0L0 0\"/>\n"
unfolding digits
one_sided = refl

one_sided_wide : lines_line (walls Wide) false ≡ codes "<path class=\"w\" d=\"M0 64L0 0M0 0L0 0\"/>\n"
unfolding digits
one_sided_wide = refl

-- linedef 3 has a start alone, at which a ring is drawn, linedef 4 an end alone; seg 2 has no end; F17 is found at no line
some_marks :
    marks (walls Signed)
    (record { code = F3; index = 3 } ∷ record { code = F3; index = 4 } ∷ record { code = F3; index = 1 } ∷ record { code = F4; index = 1 } ∷ record { code = F7; index = 1 } ∷ record { code = F9; index = 2 }
    ∷ record { code = F17; index = 0 } ∷ record { code = N3; index = 3 } ∷ record { code = N5; index = 2 } ∷ [])
    ≡ codes "<path class=\"f\" d=\"M0 0m-24 0a24 24 0 1 0 48 0a24 24 0 1 0-48 0\"><title>F3 3 linedef vertex names none</title></path>\n"
    ++ (codes "<path class=\"f\" d=\"M0 0m-24 0a24 24 0 1 0 48 0a24 24 0 1 0-48 0\"><title>F3 4 linedef vertex names none</title></path>\n"
    ++ (codes "<path class=\"f\" d=\"M0 64L0 0\"><title>F4 1 linedef side names none</title></path>\n"
    ++ (codes "<path class=\"f\" d=\"M0 64L0 0\"><title>F7 1 seg linedef names none</title></path>\n"
    ++ codes "<path class=\"f\" d=\"M0 0L0 0\"><title>N5 2 linedef of no length</title></path>\n")))
unfolding digits
some_marks = refl

-- a corner at vertex 1, a bare side and a twin of linedef 0, thing 1 in the void and of no known kind; what can't be drawn is left out
some_warnings :
    warning_marks (walls Signed)
    (Unclosed 1 1 ∷ Unclosed 1 2 ∷ Bare 0 Back Upper ∷ InVoid 1 ∷ Twin 3 0 ∷ Twin 1 0 ∷ UnknownThing 1 ∷ UnknownThing 2 ∷ Untagged 0 ∷ [])
    ≡ codes "<path class=\"a\" d=\"M0 64m-24 0a24 24 0 1 0 48 0a24 24 0 1 0-48 0\"><title>W1 1 sector not closed</title></path>\n"
    ++ (codes "<path class=\"a\" d=\"M0 0L0 64\"><title>W2 0 wall without texture</title></path>\n"
    ++ (codes "<path class=\"a\" d=\"M-32768 5m-24 0a24 24 0 1 0 48 0a24 24 0 1 0-48 0\"><title>W3 1 thing in the void</title></path>\n"
    ++ (codes "<path class=\"a\" d=\"M0 64L0 0\"><title>W6 1 linedef on another</title></path>\n"
    ++ codes "<path class=\"a\" d=\"M-32768 5m-24 0a24 24 0 1 0 48 0a24 24 0 1 0-48 0\"><title>W11 1 thing of no known type</title></path>\n")))
unfolding digits code_table
some_warnings = refl

-- linedef 0 for what the game does there, and thing 1; what it does at a sector is left out
some_game_warnings :
    warning_marks (walls Signed) (Game (UnknownSpecial 0) ∷ Game (OneSidedDoor 0) ∷ Game (DeadlyFloor 0) ∷ Game (InNoSkill 1) ∷ Game NoExit ∷ [])
    ≡ codes "<path class=\"a\" d=\"M0 0L0 64\"><title>W14 0 unknown special</title></path>\n"
    ++ (codes "<path class=\"a\" d=\"M0 0L0 64\"><title>W17 0 use ends or spoils the game</title></path>\n"
    ++ codes "<path class=\"a\" d=\"M-32768 5m-24 0a24 24 0 1 0 48 0a24 24 0 1 0-48 0\"><title>W21 1 thing unread, unplaced or deadly</title></path>\n")
unfolding digits code_table
some_game_warnings = refl

some_things : things_lines (walls Signed)
    ≡ codes "<path class=\"p start\" transform=\"translate(8 8)rotate(0)\" d=\"M20 0L-12 14v-28z\"><title>thing 0: type 1, angle 0, flags 7</title></path>\n"
    ++ codes "<path class=\"p monster\" transform=\"translate(-32768 5)rotate(90)\" d=\"M20 0L-12 14v-28z\"><title>thing 1: type 3001, angle 90, flags -1</title></path>\n"
unfolding digits
some_things = refl

-- whole eighths of a turn, cut towards 0
turns : turn_of (pos 44) ∷ turn_of (pos 45) ∷ turn_of (pos 100) ∷ turn_of (negsuc 49) ∷ turn_of (negsuc 32767) ∷ []
    ≡ pos 0 ∷ pos 45 ∷ pos 90 ∷ negsuc 44 ∷ negsuc 32759 ∷ []
turns = refl

-- the first and the last kind of each class, and those beside; a teleporter's landing (14) is no start
classes : map (λ kind. class_of (pos kind)) (0 ∷ 1 ∷ 4 ∷ 5 ∷ 6 ∷ 7 ∷ 8 ∷ 9 ∷ 11 ∷ 13 ∷ 14 ∷ 16 ∷ 38 ∷ 40 ∷ 41 ∷ 58 ∷ 63 ∷ 64 ∷ 69 ∷ 70 ∷ 72 ∷ 82 ∷ 84 ∷ [])
    ≡ Other ∷ Start ∷ Start ∷ Key ∷ Key ∷ Monster ∷ Other ∷ Monster ∷ Start ∷ Key ∷ Other ∷ Monster ∷ Key ∷ Key ∷ Other ∷ Monster ∷ Other
    ∷ Monster ∷ Monster ∷ Other ∷ Monster ∷ Weapon ∷ Monster ∷ []
classes = refl

more_classes : map (λ kind. class_of (pos kind)) (2000 ∷ 2001 ∷ 2006 ∷ 2007 ∷ 3000 ∷ 3001 ∷ 3006 ∷ 3007 ∷ [])
    ≡ Other ∷ Weapon ∷ Weapon ∷ Other ∷ Other ∷ Monster ∷ Monster ∷ Other ∷ []
more_classes = refl

-- the whole sample, one cell wide and 65 high, all of which show sector 1
sample_picture : (cells : SectorCells) → cells.number ≡ 1 → cells.blocks.now ≡ (record { column = 0; row = 0; width = 1; height = 65 }) ∷ [] → cells.cells ≡ 65
    → picture_text sample [] (frame_at (pos 0) (pos 0) (pos 0) (pos 64)) 1 (cells ∷ []) []
    ≡ codes "<svg xmlns=\"http://www.w3.org/2000/svg\" viewBox=\"-32 -96 64 128\" width=\"512\" height=\"1024\">\n"
    ++ (codes "<title>E1M1: faults 0 notes 0</title>\n"
    ++ (codes "<style>svg{background:#14161a}path{vector-effect:non-scaling-stroke}.s{shape-rendering:crispEdges}.s path:hover{fill:#fb5}.w{fill:none;stroke:#eee;stroke-width:1.5}.t{fill:none;stroke:#778;stroke-width:.7}.f{fill:none;stroke:#f33;stroke-width:4}.a{fill:none;stroke:#fb3;stroke-width:3}.p{vector-effect:none;stroke:#14161a;stroke-width:5;paint-order:stroke}.start{fill:#6f6}.monster{fill:#f7b}.weapon{fill:#5cf}.key{fill:#ff5}.other{fill:#cba}.p:hover{fill:#fff}</style>\n"
    ++ (codes "<rect x=\"-32\" y=\"-96\" width=\"64\" height=\"128\" fill=\"#14161a\"/>\n"
    ++ (codes "<g class=\"s\" transform=\"matrix(1 0 0 -1 0 0)\">\n"
    ++ (codes "<path fill=\"#7f7f93\" d=\"M0 0h1v65h-1z\"><title>sector 1: floor 0 FLAT1, ceiling 128 FLAT1, light 160, special 0, tag 0, 65 cells</title></path>\n"
    ++ (codes "</g><g transform=\"matrix(1 0 0 -1 0 0)\">\n"
    ++ (codes "<path class=\"t\" d=\"M0 0L0 64\"/>\n"
    ++ (codes "<path class=\"w\" d=\"\"/>\n"
    ++ (codes "<path class=\"p start\" transform=\"translate(8 8)rotate(0)\" d=\"M20 0L-12 14v-28z\"><title>thing 0: type 1, angle 0, flags 7</title></path>\n"
    ++ (codes "</g></svg>\n"))))))))))
unfolding digits grey shade
sample_picture cells number blocks count = rw (number, blocks, count) refl
