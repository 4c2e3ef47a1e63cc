-- Where levels start, their tags and their formats, computed on small lists of names and on small files.
use Rattle.std.proofs.Common.{◌≡◌, ◌≢◌, inl, inr, ℕ, ◌+◌, ◌<◌, ◌≤◌, ℤ, pos, List, [], ◌∷◌, ◌++◌, length, Some, None, refl, sym, ap, arith, length-append, below_more}
use Rattle.std.specs.Prelude.{Option, codes, sum}
use Rattle.std.specs.List.{slice_get}
use Rattle.std.proofs.lemmas.Int.{ints}
use Rattle.std.proofs.lemmas.Option.{slice_get_within}
use Rattle.le_rec.specs.Name.{padded}
use Rattle.le_rec.specs.declared.records.Entry.{Entry}
use Rattle.wad_dir.specs.Entries.{Listed, joined}
use Rattle.wad_dir.specs.Slice.{IsLump, IsSlice}
use Rattle.wad_dir.specs.Wad.{Wad}
use Rattle.wad_dir.specs.declared.header.Kind.TheVariants.{Pwad}
use Rattle.wad_dir.proofs.LumpLemmas.{lump_is, no_lump}
use Rattle.map_level.specs.Opening.{AreThereBelow}
use Rattle.level_starts.specs.Format.{AreUsualBelow, IsFormat, IsUsual, tag_of}
use Rattle.level_starts.specs.Starts.{IsNextStart, LevelStartsAt, NoneStartsFrom}
use Rattle.level_starts.specs.declared.format.Format.TheVariants.{Udmf, Incomplete, Hexen, Outside, Extended, Doom}

-- a level starts at a label that THINGS or TEXTMAP follows, and at none that nothing or another name follows
things_start : LevelStartsAt (codes "MAP01" ∷ codes "THINGS" ∷ []) 0
things_start = inl refl

textmap_starts : LevelStartsAt (codes "MAP01" ∷ codes "TEXTMAP" ∷ []) 0
textmap_starts = inr refl

nothing_follows : ¬ LevelStartsAt (codes "MAP01" ∷ []) 0
nothing_follows (inl e) = cc
nothing_follows (inr e) = cc

another_follows : ¬ LevelStartsAt (codes "MAP01" ∷ codes "LINEDEFS" ∷ []) 0
another_follows (inl e) = cc
another_follows (inr e) = cc

-- of two THINGS in a row the first is a label, too, and the last entry none
abbrev two_things : List (List ℕ)
two_things = codes "MAP01" ∷ codes "THINGS" ∷ codes "THINGS" ∷ []

first_of_two : IsNextStart two_things 0 0
first_of_two = record { after = omega arith; starts = inl refl; first = λ h from below. absurd (omega arith) }

second_of_two : IsNextStart two_things 1 1
second_of_two = record { after = omega arith; starts = inl refl; first = λ h from below. absurd (omega arith) }

none_behind_two : NoneStartsFrom two_things 2
none_behind_two g from (inl e) = absurd (omega (arith, slice_get_within two_things (g + 1) (codes "THINGS") e))
none_behind_two g from (inr e) = absurd (omega (arith, slice_get_within two_things (g + 1) (codes "TEXTMAP") e))

-- the tags of extended nodes, of each lump and of both; DeePBSP's takes the four zeros behind its name
no_tag : tag_of (codes "XNO") (codes "XGL") ≡ None
no_tag = refl

extended_tag : tag_of (codes "XNOD" ++ (0 ∷ 0 ∷ [])) [] ≡ Some (codes "XNOD")
extended_tag = refl

deep_tag : tag_of (codes "xNd4" ++ (0 ∷ 0 ∷ 0 ∷ 0 ∷ 7 ∷ [])) [] ≡ Some (codes "xNd4")
deep_tag = refl

deep_without_zeros : tag_of (codes "xNd4" ++ (0 ∷ 0 ∷ 0 ∷ 7 ∷ [])) [] ≡ None
deep_without_zeros = refl

gl_tag : tag_of [] (codes "XGL3") ≡ Some (codes "XGL3")
gl_tag = refl

nodes_before_ssectors : tag_of (codes "ZNOD") (codes "ZGLN") ≡ Some (codes "ZNOD")
nodes_before_ssectors = refl

-- an entry, and a level of eleven, whose lumps are empty but for NODES, before others
abbrev entry : ℤ → ℤ → List ℕ → Entry
entry filepos size name = record { filepos = filepos; size = size; name = padded name }

abbrev empty : List ℕ → Entry
empty name = entry (pos 0) (pos 0) name

abbrev level : ℤ → ℤ → List Entry → List Entry
level filepos size others =
    empty (codes "MAP01") ∷ empty (codes "THINGS") ∷ empty (codes "LINEDEFS") ∷ empty (codes "SIDEDEFS") ∷ empty (codes "VERTEXES")
    ∷ empty (codes "SEGS") ∷ empty (codes "SSECTORS") ∷ entry filepos size (codes "NODES") ∷ empty (codes "SECTORS") ∷ empty (codes "REJECT")
    ∷ empty (codes "BLOCKMAP") ∷ others

-- one file
abbrev file : List ℕ → List Entry → List Wad
file bytes entries = record { bytes = bytes; kind = Pwad; entries = entries } ∷ []

-- names whose bytes don't add up to the same are two
abbrev total : Option (List ℕ) → ℕ
total None = 0
total (Some name) = sum name

apart : (a b : Option (List ℕ)) → total a ≢ total b → a ≢ b
apart a b differ same = differ (ap total same)

-- in text
udmf_format : IsFormat (file [] (empty (codes "MAP01") ∷ empty (codes "TEXTMAP") ∷ empty (codes "ENDMAP") ∷ [])) 0 Udmf
udmf_format = refl

-- without SIDEDEFS
abbrev short : List Wad
short = file [] (empty (codes "MAP01") ∷ empty (codes "THINGS") ∷ empty (codes "LINEDEFS") ∷ empty (codes "VERTEXES") ∷ [])

incomplete_format : IsFormat short 0 (Incomplete 3)
incomplete_format = (
  apart _ _ (omega arith),
  record {
    from = omega arith;
    to = omega arith;
    before = λ j from below. below_more (λ j. 2 ≤ j → IsUsual short 0 j) 2 (λ i before from. absurd (omega arith)) (λ from. refl) j (omega arith) from;
    other = apart _ _ (omega arith);
  },
)

-- the names of a level are as usual, up to that of NODES and up to the last
usual_to_nodes : (bytes : List ℕ) (filepos size : ℤ) (others : List Entry) → AreUsualBelow (file bytes (level filepos size others)) 0 7
usual_to_nodes bytes filepos size others j from below =
    let P = λ (k : ℕ). 2 ≤ k → IsUsual (file bytes (level filepos size others)) 0 k in
    let to_2 : (k : ℕ) → k < 3 → P k = below_more P 2 (λ k before from. absurd (omega arith)) (λ from. refl) in
    let to_3 : (k : ℕ) → k < 4 → P k = below_more P 3 to_2 (λ from. refl) in
    let to_4 : (k : ℕ) → k < 5 → P k = below_more P 4 to_3 (λ from. refl) in
    let to_5 : (k : ℕ) → k < 6 → P k = below_more P 5 to_4 (λ from. refl) in
    below_more P 6 to_5 (λ from. refl) j below from

are_usual : (bytes : List ℕ) (filepos size : ℤ) (others : List Entry) → AreUsualBelow (file bytes (level filepos size others)) 0 11
are_usual bytes filepos size others j from below =
    let P = λ (k : ℕ). 2 ≤ k → IsUsual (file bytes (level filepos size others)) 0 k in
    let to_6 : (k : ℕ) → k < 7 → P k = λ k before from. usual_to_nodes bytes filepos size others k from before in
    let to_7 : (k : ℕ) → k < 8 → P k = below_more P 7 to_6 (λ from. refl) in
    let to_8 : (k : ℕ) → k < 9 → P k = below_more P 8 to_7 (λ from. refl) in
    let to_9 : (k : ℕ) → k < 10 → P k = below_more P 9 to_8 (λ from. refl) in
    below_more P 10 to_9 (λ from. refl) j below from

-- an empty lump is there
empty_there : (files : List Wad) (g : ℕ) (listed : Listed) → slice_get (joined files) g ≡ Some listed → listed.entry.size ≡ pos 0
    → IsLump files g []
empty_there files g listed at none = lump_is files g listed at [] (record { sized = sym none; stands = λ some. absurd (omega arith) })

-- so all up to NODES are, and all where NODES is
there_to_nodes : (bytes : List ℕ) (filepos size : ℤ) (others : List Entry) → AreThereBelow (file bytes (level filepos size others)) 0 7
there_to_nodes bytes filepos size others j from below =
    let files = file bytes (level filepos size others) in
    let P = λ (k : ℕ). 1 ≤ k → (lump : List ℕ) × IsLump files (0 + k) lump in
    let to_1 : (k : ℕ) → k < 2 → P k = below_more P 1 (λ k before from. absurd (omega arith)) (λ from. ([], empty_there files 1 _ refl refl)) in
    let to_2 : (k : ℕ) → k < 3 → P k = below_more P 2 to_1 (λ from. ([], empty_there files 2 _ refl refl)) in
    let to_3 : (k : ℕ) → k < 4 → P k = below_more P 3 to_2 (λ from. ([], empty_there files 3 _ refl refl)) in
    let to_4 : (k : ℕ) → k < 5 → P k = below_more P 4 to_3 (λ from. ([], empty_there files 4 _ refl refl)) in
    let to_5 : (k : ℕ) → k < 6 → P k = below_more P 5 to_4 (λ from. ([], empty_there files 5 _ refl refl)) in
    below_more P 6 to_5 (λ from. ([], empty_there files 6 _ refl refl)) j below from

are_there : (bytes : List ℕ) (filepos size : ℤ) (others : List Entry) (nodes : List ℕ)
    → IsLump (file bytes (level filepos size others)) 7 nodes → AreThereBelow (file bytes (level filepos size others)) 0 11
are_there bytes filepos size others nodes there j from below =
    let files = file bytes (level filepos size others) in
    let P = λ (k : ℕ). 1 ≤ k → (lump : List ℕ) × IsLump files (0 + k) lump in
    let to_6 : (k : ℕ) → k < 7 → P k = λ k before from. there_to_nodes bytes filepos size others k from before in
    let to_7 : (k : ℕ) → k < 8 → P k = below_more P 7 to_6 (λ from. (nodes, there)) in
    let to_8 : (k : ℕ) → k < 9 → P k = below_more P 8 to_7 (λ from. ([], empty_there files 8 _ refl refl)) in
    let to_9 : (k : ℕ) → k < 10 → P k = below_more P 9 to_8 (λ from. ([], empty_there files 9 _ refl refl)) in
    below_more P 10 to_9 (λ from. ([], empty_there files 10 _ refl refl)) j below from

-- BEHAVIOR behind the ten
hexen_format : IsFormat (file [] (level (pos 0) (pos 0) (empty (codes "BEHAVIOR") ∷ []))) 0 Hexen
hexen_format = ((apart _ _ (omega arith), are_usual [] (pos 0) (pos 0) (empty (codes "BEHAVIOR") ∷ [])), refl)

-- NODES of four bytes from place 2 on, where the file has four
not_inside : (lump : List ℕ) → ¬ IsSlice (codes "XNOD") (entry (pos 2) (pos 4) (codes "NODES")) lump
not_inside lump slice =
    let sized : length lump ≡ 4 = omega (arith, ints, slice.sized) in
    let stands = slice.stands (omega arith) in
    let placed : length stands.before ≡ 2 = omega (arith, ints, stands.placed) in
    let joined : 4 ≡ length stands.before + (length lump + length stands.after) = simp length-append at (ap length stands.joined) in
    omega arith

outside_format : IsFormat (file (codes "XNOD") (level (pos 2) (pos 4) [])) 0 (Outside 7)
outside_format = (
  ((apart _ _ (omega arith), are_usual (codes "XNOD") (pos 2) (pos 4) []), λ e. cc),
  record {
    from = omega arith;
    to = omega arith;
    before = there_to_nodes (codes "XNOD") (pos 2) (pos 4) [];
    listed = omega arith;
    refused = no_lump _ 7 _ refl not_inside;
  },
)

-- extended nodes
extended_format : IsFormat (file (codes "XNOD") (level (pos 0) (pos 4) [])) 0 (Extended (codes "XNOD"))
extended_format =
    let files = file (codes "XNOD") (level (pos 0) (pos 4) []) in
    let nodes : IsLump files 7 (codes "XNOD") =
    lump_is files 7 _ refl (codes "XNOD") (record { sized = refl; stands = λ some. record { before = []; after = []; joined = refl; placed = refl } }) in (
      (((apart _ _ (omega arith), are_usual (codes "XNOD") (pos 0) (pos 4) []), λ e. cc), are_there (codes "XNOD") (pos 0) (pos 4) [] (codes "XNOD") nodes),
      record { nodes = codes "XNOD"; ssectors = []; nodes_there = nodes; ssectors_there = empty_there files 6 _ refl refl; tagged = refl },
    )

-- none of these
doom_format : IsFormat (file [] (level (pos 0) (pos 0) [])) 0 Doom
doom_format =
    let files = file [] (level (pos 0) (pos 0) []) in
    let nodes : IsLump files 7 [] = empty_there files 7 _ refl refl in (
      (((apart _ _ (omega arith), are_usual [] (pos 0) (pos 0) []), λ e. cc), are_there [] (pos 0) (pos 0) [] [] nodes),
      record { nodes = []; ssectors = []; nodes_there = nodes; ssectors_there = empty_there files 6 _ refl refl; tagged = refl },
    )
