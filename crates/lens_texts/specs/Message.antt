-- What is wrong where a code holds, in words and with the level's values (ours). Each text comes before other bytes. Codes that hold of no level of Doom's
-- format have none.
use Rattle.std.specs.Prelude.{ℕ, ◌+◌, ◌-◌, ◌/◌, ℤ, Bool, not, ◌&&◌, List, [], ◌++◌, length, is_some, is_none, codes, nat_eq, nat_lt, slice_index_or, if◌then◌else◌}
use Rattle.std.specs.Fmt.{decimal, signed_decimal}
use Rattle.std.specs.List.{slice_get}
use Rattle.std.specs.Option.{option_and_then, option_map_or}
use Rattle.std.specs.Ordering.{int_eq}
use Rattle.le_rec.specs.Name.{shown_name}
use Rattle.le_rec.specs.Record.{word}
use Rattle.le_rec.specs.Table.{records_of}
use Rattle.le_rec.specs.declared.records.Node.{Node}
use Rattle.le_rec.specs.declared.records.Word.{Word}
use Rattle.map_level.specs.Level.{Level}
use Rattle.map_level.specs.LinkFaults.{rests, usual_names}
use Rattle.map_level.specs.Links.{named, no_side}
use Rattle.map_level.specs.declared.finding.Code.{Code}
use Rattle.map_level.specs.declared.finding.Code.TheVariants.{F3, F4, F5, F6, F7, F8, F9, F10, F11, F12, F13, F14, F15, F16, F17, F18, N2, N3, N4, N5, N6, N7, N8, N9, N10, N11, N12}
use Rattle.map_tables.specs.BlockMap.{block_count}
use Rattle.map_tables.specs.TableFaults.{map_of, reject_size}
use Rattle.map_tree.specs.Child.{has, node_count, place_of, ssector_count}
use Rattle.map_tree.specs.Paths.{Place, node, ssector}
use Rattle.lens_texts.specs.Place.{index_of, spot_at, spot_text}

-- `WHAT V isn't there (N NOUN)`
abbrev pub missing_text : List ℕ → ℤ → ℕ → List ℕ → List ℕ → List ℕ
missing_text what value count noun rest =
    what ++ (signed_decimal value ++ (codes " isn't there (" ++ (decimal count ++ (noun ++ rest))))

-- of a linedef or seg: the start, or the end where the start is there
abbrev pub vertex_text : Level → ℤ → ℤ → List ℕ → List ℕ
vertex_text level v1 v2 rest =
    if is_some (spot_at level v1)
    then missing_text (codes "end vertex ") (index_of level v2) (length level.vertexes.records) (codes " vertexes)") rest
    else missing_text (codes "start vertex ") (index_of level v1) (length level.vertexes.records) (codes " vertexes)") rest

-- a linedef's word for a side names a sidedef, which isn't there
abbrev pub is_side_missing : Level → ℤ → Bool
is_side_missing level word =
    not (int_eq (index_of level word) (no_side level.reading)) && is_none (named level.sidedefs.records (index_of level word))

-- the front sidedef, or the back one where that isn't missing
abbrev pub sidedef_text : Level → ℤ → ℤ → List ℕ → List ℕ
sidedef_text level side0 side1 rest =
    if is_side_missing level side0
    then missing_text (codes "front sidedef ") (index_of level side0) (length level.sidedefs.records) (codes " sidedefs)") rest
    else missing_text (codes "back sidedef ") (index_of level side1) (length level.sidedefs.records) (codes " sidedefs)") rest

-- the linedef of a seg has no sidedef on its side
abbrev pub sideless_text : Level → ℤ → ℤ → List ℕ → List ℕ
sideless_text level linedef side rest =
    codes "linedef " ++ (signed_decimal (index_of level linedef) ++ (codes " has no sidedef on side " ++ (signed_decimal side ++ rest)))

-- the first seg of an ssector, and the number of its segs by its record
abbrev pub segs_text : Level → ℤ → ℤ → List ℕ → List ℕ
segs_text level first count rest =
    codes "segs from " ++ (signed_decimal (index_of level first) ++ (codes ", " ++ (signed_decimal (index_of level count)
    ++ (codes " of them, aren't all there (" ++ (decimal (length level.segs.records) ++ (codes " segs)" ++ rest))))))

-- what a child word names
abbrev pub named_text : Level → Place → List ℕ → List ℕ
named_text level (node n) rest =
    codes " names node " ++ (decimal n ++ (codes ", which isn't there (" ++ (decimal (node_count level) ++ (codes " nodes)" ++ rest))))
named_text level (ssector t) rest =
    codes " names ssector " ++ (decimal t ++ (codes ", which isn't there (" ++ (decimal (ssector_count level) ++ (codes " ssectors)" ++ rest))))

-- child 0 of a node, or child 1 where that is there
abbrev pub child_text : Level → Node → List ℕ → List ℕ
child_text level found rest =
    if has level (place_of found.child0)
    then codes "child 1" ++ named_text level (place_of found.child1) rest
    else codes "child 0" ++ named_text level (place_of found.child0) rest

-- node n is the root, the last one, and is named; any other is named more than once
abbrev pub twice_text : Level → ℕ → List ℕ → List ℕ
twice_text level n rest =
    if nat_eq n (node_count level - 1) then codes "the root, and named" ++ rest else codes "named more than once" ++ rest

-- `LUMP has N bytes left over`, of a lump counted from 0
abbrev pub left_text : ℕ → ℕ → List ℕ → List ℕ
left_text k left rest = shown_name (slice_index_or usual_names k []) ++ (codes " has " ++ (decimal left ++ (codes " bytes left over" ++ rest)))

-- the range of coordinates
abbrev pub outside_text : List ℕ → List ℕ
outside_text rest = codes " is outside -16384 to 16383" ++ rest

-- `WHAT has N NOUN, V are wanted`
abbrev pub wanted_text : List ℕ → ℕ → List ℕ → ℕ → List ℕ → List ℕ
wanted_text what count noun wanted rest =
    what ++ (codes " has " ++ (decimal count ++ (noun ++ (decimal wanted ++ (codes " are wanted" ++ rest)))))

-- how many words BLOCKMAP must have: those of its head, and one for each block, by the width and height of a whole head
abbrev pub wanted_words : Level → ℕ
wanted_words level = if nat_lt (length level.blockmap) 8 then 4 else 4 + block_count (map_of level)

-- the signed words of BLOCKMAP
abbrev pub words_of : Level → List Word
words_of level = records_of 2 word level.blockmap

-- the offset of block n, behind the four words of the head, names a word of BLOCKMAP
abbrev pub is_offset_inside : Level → ℕ → Bool
is_offset_inside level n =
    is_some (option_and_then (λ offset. named (words_of level) (index_of level offset.number)) (slice_get (words_of level) (4 + n)))

-- what is wrong with the list of block n
abbrev pub list_text : Level → ℕ → List ℕ → List ℕ
list_text level n rest =
    if is_offset_inside level n then codes "its list has no end" ++ rest else codes "its list isn't inside BLOCKMAP" ++ rest

-- what is wrong where a code holds at an index
abbrev pub message : Level → Code → ℕ → List ℕ → List ℕ
message level F3 i rest = option_map_or (λ linedef. vertex_text level linedef.v1 linedef.v2 rest) (slice_get level.linedefs.records i) rest
message level F4 i rest = option_map_or (λ linedef. sidedef_text level linedef.side0 linedef.side1 rest) (slice_get level.linedefs.records i) rest
message level F5 i rest =
    option_map_or (λ sidedef. missing_text (codes "sector ") (index_of level sidedef.sector) (length level.sectors.records) (codes " sectors)") rest)
    (slice_get level.sidedefs.records i) rest
message level F6 i rest = option_map_or (λ seg. vertex_text level seg.v1 seg.v2 rest) (slice_get level.segs.records i) rest
message level F7 i rest =
    option_map_or (λ seg. missing_text (codes "linedef ") (index_of level seg.linedef) (length level.linedefs.records) (codes " linedefs)") rest)
    (slice_get level.segs.records i) rest
message level F8 i rest =
    option_map_or (λ seg. codes "side " ++ (signed_decimal seg.side ++ (codes " is neither 0 nor 1" ++ rest))) (slice_get level.segs.records i) rest
message level F9 i rest = option_map_or (λ seg. sideless_text level seg.linedef seg.side rest) (slice_get level.segs.records i) rest
message level F10 i rest = option_map_or (λ ssector. segs_text level ssector.first ssector.count rest) (slice_get level.ssectors.records i) rest
message level F11 i rest = option_map_or (λ found. child_text level found rest) (slice_get level.nodes.records i) rest
message level F12 i rest =
    option_map_or (λ found. codes "origin " ++ spot_text found.x found.y (outside_text rest)) (slice_get level.nodes.records i) rest
message level F13 i rest = twice_text level i rest
message level F14 i rest = codes "not reached from the root" ++ rest
message level F15 i rest = codes "named more than once" ++ rest
message level F16 i rest = codes "not reached from the root" ++ rest
message level F17 i rest = codes "no ssector" ++ rest
message level F18 i rest = decimal (node_count level) ++ (codes " nodes, 32767 are the most" ++ rest)
message level N2 i rest = option_map_or (λ left. left_text (i - 1) left rest) (slice_get (rests level) (i - 1)) rest
message level N3 i rest = codes "two-sided, without a back sidedef" ++ rest
message level N4 i rest = codes "without a front sidedef" ++ rest
message level N5 i rest = codes "without length" ++ rest
message level N6 i rest = codes "without segs" ++ rest
message level N7 i rest = codes "without direction" ++ rest
message level N8 i rest =
    wanted_text (codes "REJECT") (length level.reject) (codes " bytes, ") (reject_size (length level.sectors.records)) rest
message level N9 i rest = wanted_text (codes "BLOCKMAP") (length level.blockmap / 2) (codes " words, ") (wanted_words level) rest
message level N10 i rest = list_text level i rest
message level N11 i rest = codes "no player 1 start" ++ rest
message level N12 i rest = option_map_or (λ vertex. spot_text vertex.x vertex.y (outside_text rest)) (slice_get level.vertexes.records i) rest
message level _ i rest = rest
