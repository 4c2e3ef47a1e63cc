-- The table of all codes (ours): names, classes, what each is found at and wants of a level, and what it says.
use Rattle.std.specs.Prelude.{Bool, false, true, ℕ, ◌+◌, List, [], ◌∷◌, codes, drop, map, slice_index_or, take}
use Rattle.std.specs.Char.{to_ascii_lowercase}
use Rattle.map_level.specs.Findings.{is_fault, rank}
use Rattle.map_level.specs.declared.finding.Code.{Code}
use Rattle.map_level.specs.declared.finding.Code.TheVariants.{F1, F2, F3, F4, F5, F6, F7, F8, F9, F10, F11, F12, F13, F14, F15, F16, F17, F18, N1, N2, N3, N4, N5, N6, N7, N8, N9, N10, N11, N12}
use Rattle.level_codes.specs.declared.code.ReportCode.{ReportCode}
use Rattle.level_codes.specs.declared.code.ReportCode.TheVariants as code
use Rattle.level_codes.specs.declared.code.WarningCode.{WarningCode}
use Rattle.level_codes.specs.declared.code.WarningCode.TheVariants.{W1, W2, W3, W4, W5, W6, W7, W8, W9, W10, W11, W12, W13, W14, W15, W16, W17, W18, W19, W20, W21, W22, W23, W24, W25}
use Rattle.level_codes.specs.declared.kind.Class.{Class}
use Rattle.level_codes.specs.declared.kind.Class.TheVariants as class
use Rattle.level_codes.specs.declared.kind.Kind.{Kind}
use Rattle.level_codes.specs.declared.kind.Kind.TheVariants.{Linedef, Sidedef, Vertex, Seg, Ssector, Node, Sector, Thing, Lump, Block, Whole}
use Rattle.level_codes.specs.declared.kind.Wants.{Wants}
use Rattle.level_codes.specs.declared.kind.Wants.TheVariants.{Lumps, References, Soundness, Textures, Flats, FlatEnds}
use Rattle.level_codes.specs.declared.table.Row.{Row}

-- a row of the table
pub record CodeRow : Type 0 where
  pub code : ReportCode
  pub name : List ℕ
  pub class : Class
  pub kind : Kind
  pub wants : Wants
  pub ends_game : Bool
  pub text : List ℕ
  pub meaning : List ℕ

-- what a row of the code says
abbrev pub view_of : Row → CodeRow
view_of row = record {
  code = row.code;
  name = row.name.now;
  class = row.class;
  kind = row.kind;
  wants = row.wants;
  ends_game = row.ends_game;
  text = row.text.now;
  meaning = row.meaning.now;
}

-- that of a fault, of a note and of a warning; a finding wants no more of a level than its ten lumps
abbrev pub fault : Code → List ℕ → Kind → List ℕ → List ℕ → CodeRow
fault c n k t m = record { code = code.Finding c; name = n; class = class.Fault; kind = k; wants = Lumps; ends_game = false; text = t; meaning = m }

abbrev pub note : Code → List ℕ → Kind → List ℕ → List ℕ → CodeRow
note c n k t m = record { code = code.Finding c; name = n; class = class.Note; kind = k; wants = Lumps; ends_game = false; text = t; meaning = m }

abbrev pub warning : WarningCode → List ℕ → Kind → Wants → List ℕ → List ℕ → CodeRow
warning c n k w t m = record { code = code.Warning c; name = n; class = class.Warning; kind = k; wants = w; ends_game = false; text = t; meaning = m }

-- a row whose code ends the game
abbrev pub ends : CodeRow → CodeRow
ends row = record row { ends_game = true }

-- all codes, in the order of a report; the released game ends where a linedef has no front sidedef (P_GroupLines of p_setup.c), where player 1 has no start
-- (P_PlayerThink of p_user.c), at a texture or a flat that isn't there (R_TextureNumForName, R_FlatNumForName of r_data.c), at a thing of no known type
-- (P_SpawnMapThing of p_mobj.c), at the use of some specials (EV_VerticalDoor of p_doors.c, P_AddActivePlat of p_plats.c), on some floors
-- (P_PlayerInSpecialSector of p_spec.c), and past limits (P_SpawnSpecials of p_spec.c, G_DoSaveGame of g_game.c)
unfoldable pub code_table : List CodeRow
code_table =
    fault F1 (codes "F1") Lump (codes "lump missing after the label") (codes "a lump isn't there behind the label")
    ∷ fault F2 (codes "F2") Lump (codes "lump outside its file") (codes "a lump isn't inside its file")
    ∷ fault F3 (codes "F3") Linedef (codes "linedef vertex names none") (codes "a linedef's vertex isn't there")
    ∷ fault F4 (codes "F4") Linedef (codes "linedef side names none") (codes "a linedef's sidedef isn't there")
    ∷ fault F5 (codes "F5") Sidedef (codes "sidedef sector names none") (codes "a sidedef's sector isn't there")
    ∷ fault F6 (codes "F6") Seg (codes "seg vertex names none") (codes "a seg's vertex isn't there")
    ∷ fault F7 (codes "F7") Seg (codes "seg linedef names none") (codes "a seg's linedef isn't there")
    ∷ fault F8 (codes "F8") Seg (codes "seg side is not 0 or 1") (codes "a seg's side is neither 0 nor 1")
    ∷ fault F9 (codes "F9") Seg (codes "seg's linedef has no side there") (codes "a seg's linedef has no sidedef on the seg's side")
    ∷ fault F10 (codes "F10") Ssector (codes "ssector's segs out of range") (codes "an ssector's segs aren't all there")
    ∷ fault F11 (codes "F11") Node (codes "child names nothing") (codes "a node's child isn't there")
    ∷ fault F12 (codes "F12") Node (codes "node origin out of range") (codes "a node's origin is outside -16384 to 16383")
    ∷ fault F13 (codes "F13") Node (codes "node named twice or root named") (codes "a node is named more than once, or is the root and named")
    ∷ fault F14 (codes "F14") Node (codes "node not reached") (codes "a node isn't reached from the root")
    ∷ fault F15 (codes "F15") Ssector (codes "ssector named more than once") (codes "an ssector is named more than once")
    ∷ fault F16 (codes "F16") Ssector (codes "ssector not reached") (codes "an ssector isn't reached from the root")
    ∷ fault F17 (codes "F17") Whole (codes "no ssector") (codes "the level has no ssector")
    ∷ fault F18 (codes "F18") Whole (codes "more than 32767 nodes") (codes "the level has more than 32767 nodes")
    ∷ note N1 (codes "N1") Lump (codes "lump name differs") (codes "a lump's name isn't the usual one")
    ∷ note N2 (codes "N2") Lump (codes "bytes left over") (codes "a lump has bytes left over")
    ∷ note N3 (codes "N3") Linedef (codes "two-sided flag without side 1") (codes "a linedef is two-sided, without a back sidedef")
    ∷ ends (note N4 (codes "N4") Linedef (codes "no side 0") (codes "a linedef is without a front sidedef"))
    ∷ note N5 (codes "N5") Linedef (codes "linedef of no length") (codes "a linedef is without length")
    ∷ note N6 (codes "N6") Ssector (codes "ssector without segs") (codes "an ssector is without segs")
    ∷ note N7 (codes "N7") Node (codes "partition without direction") (codes "a node is without direction")
    ∷ note N8 (codes "N8") Whole (codes "REJECT size") (codes "REJECT hasn't as many bytes as are wanted")
    ∷ note N9 (codes "N9") Whole (codes "BLOCKMAP short") (codes "BLOCKMAP hasn't as many words as are wanted")
    ∷ note N10 (codes "N10") Block (codes "block list faulty") (codes "a block's list isn't inside BLOCKMAP, or has no end")
    ∷ ends (note N11 (codes "N11") Whole (codes "no player 1 start") (codes "the level has no player 1 start"))
    ∷ note N12 (codes "N12") Vertex (codes "vertex out of range") (codes "a vertex is outside -16384 to 16383")
    ∷ warning W1 (codes "W1") Sector References (codes "sector not closed") (codes "a sector isn't closed: its outline has a gap or an extra line")
    ∷ warning W2 (codes "W2") Linedef References (codes "wall without texture") (codes "a texture that is seen is missing")
    ∷ warning W3 (codes "W3") Thing Soundness (codes "thing in the void") (codes "a thing stands in the void")
    ∷ warning W4 (codes "W4") Linedef References (codes "tag of no sector") (codes "a linedef's special goes by a tag that no sector has")
    ∷ warning W5 (codes "W5") Ssector Soundness (codes "segs face several sectors") (codes "the segs of an ssector face several sectors")
    ∷ warning W6 (codes "W6") Linedef References (codes "linedef on another") (codes "a linedef lies on another")
    ∷ warning W7 (codes "W7") Whole References (codes "no start of players 2 to 4") (codes "a start of players 2 to 4 is missing")
    ∷ warning W8 (codes "W8") Whole References (codes "fewer than 4 deathmatch starts") (codes "the level has fewer than 4 deathmatch starts")
    ∷ ends (warning W9 (codes "W9") Sidedef Textures (codes "texture not there") (codes "a texture isn't there: neither TEXTURE1 nor TEXTURE2 lists it"))
    ∷ ends (warning W10 (codes "W10") Sector Flats (codes "flat not there") (codes "a flat isn't there: no entry has its name"))
    ∷ ends (warning W11 (codes "W11") Thing References (codes "thing of no known type") (codes "a thing's type is none of the game's"))
    ∷ warning W12 (codes "W12") Whole Lumps (codes "reserved") (codes "this number is kept for a later version")
    ∷ warning W13 (codes "W13") Whole Lumps (codes "reserved") (codes "this number is kept for a later version")
    ∷ warning W14 (codes "W14") Linedef References (codes "unknown special") (codes "a linedef's special is none of the game's")
    ∷ warning W15 (codes "W15") Linedef References (codes "special with tag 0") (codes "a linedef's special goes by the tag, and the tag is 0")
    ∷ warning W16 (codes "W16") Linedef References (codes "special that acts on nothing") (codes "a linedef's special can't be crossed, or has no destination")
    ∷ ends (warning W17 (codes "W17") Linedef References (codes "use ends or spoils the game") (codes "a linedef's use ends or spoils the game"))
    ∷ ends (warning W18 (codes "W18") Sector References (codes "floor that ends the game") (codes "a player on a sector's floor ends the game"))
    ∷ warning W19 (codes "W19") Whole References (codes "no exit, or a key missing") (codes "the level has no exit, or a key isn't there")
    ∷ warning W20 (codes "W20") Whole Lumps (codes "reserved") (codes "this number is kept for a later version")
    ∷ warning W21 (codes "W21") Thing References (codes "thing unread, unplaced or deadly") (codes "a thing ends the reading of things, is in no skill, or ends the game")
    ∷ ends (warning W22 (codes "W22") Whole References (codes "limit of the game passed") (codes "the level passes a limit of the game, or a texture lacks a patch"))
    ∷ warning W23 (codes "W23") Whole Lumps (codes "reserved") (codes "this number is kept for a later version")
    ∷ warning W24 (codes "W24") Whole Lumps (codes "reserved") (codes "this number is kept for a later version")
    ∷ warning W25 (codes "W25") Sector FlatEnds (codes "flat not between its ends") (codes "a flat isn't between F_START and F_END")
    ∷ []

-- all codes in their order, those of findings, and those of warnings
abbrev pub report_order : List ReportCode
report_order = map (λ row. row.code) code_table

abbrev pub finding_codes : List ReportCode
finding_codes = take 30 report_order

abbrev pub warning_codes : List ReportCode
warning_codes = drop 30 report_order

-- a code's rank among those of warnings
abbrev pub warning_rank : WarningCode → ℕ
warning_rank W1 = 0
warning_rank W2 = 1
warning_rank W3 = 2
warning_rank W4 = 3
warning_rank W5 = 4
warning_rank W6 = 5
warning_rank W7 = 6
warning_rank W8 = 7
warning_rank W9 = 8
warning_rank W10 = 9
warning_rank W11 = 10
warning_rank W12 = 11
warning_rank W13 = 12
warning_rank W14 = 13
warning_rank W15 = 14
warning_rank W16 = 15
warning_rank W17 = 16
warning_rank W18 = 17
warning_rank W19 = 18
warning_rank W20 = 19
warning_rank W21 = 20
warning_rank W22 = 21
warning_rank W23 = 22
warning_rank W24 = 23
warning_rank W25 = 24

-- its rank among all: findings stand before warnings
abbrev pub code_rank : ReportCode → ℕ
code_rank (code.Finding c) = rank c
code_rank (code.Warning c) = 30 + warning_rank c

-- the code is a fault's
abbrev pub is_fault_code : ReportCode → Bool
is_fault_code (code.Finding c) = is_fault c
is_fault_code (code.Warning c) = false

-- the row of a rank; an empty one where there is none
abbrev pub no_row : CodeRow
no_row = fault F1 [] Lump [] []

abbrev pub row_at : ℕ → CodeRow
row_at k = slice_index_or code_table k no_row

-- the code of a rank
abbrev pub code_at : ℕ → ReportCode
code_at k = (row_at k).code

-- a word in small letters
abbrev pub small : List ℕ → List ℕ
small word = map to_ascii_lowercase word

-- what stands in a code's row
abbrev pub code_name : ReportCode → List ℕ
code_name c = (row_at (code_rank c)).name

abbrev pub class_of : ReportCode → Class
class_of c = (row_at (code_rank c)).class

abbrev pub kind_of : ReportCode → Kind
kind_of c = (row_at (code_rank c)).kind

abbrev pub wants_of : ReportCode → Wants
wants_of c = (row_at (code_rank c)).wants

abbrev pub text_of : ReportCode → List ℕ
text_of c = (row_at (code_rank c)).text

abbrev pub meaning_of : ReportCode → List ℕ
meaning_of c = (row_at (code_rank c)).meaning

-- whether the released game ends at it
abbrev pub ends_game : ReportCode → Bool
ends_game c = (row_at (code_rank c)).ends_game
