-- What each code means to a mapper (ours): what it is, what the released game does with it, and what a mapper does about it. The game was read as Chocolate
-- Doom 3.0.1 has it.
use Rattle.std.specs.Prelude.{ℕ, ◌+◌, ◌-◌, Bool, not, ◌&&◌, ◌||◌, List, [], ◌∷◌, ◌++◌, codes, if◌then◌else◌, nat_eq, nat_lt, slice_index_or}
use Rattle.std.specs.List.{count_by, flat_map, list_all}
use Rattle.level_codes.specs.Codes.{code_rank}
use Rattle.level_codes.specs.declared.code.ReportCode.{ReportCode}
use Rattle.level_codes.specs.declared.explanation.Explanation.{Explanation}

-- an explanation: the text of each of its parts
pub record Explained : Type 0 where
  pub what : List ℕ
  pub game : List ℕ
  pub cure : List ℕ

-- what an explanation of the code says
abbrev pub explained_of : Explanation → Explained
explained_of explanation = record { what = explanation.what.now; game = explanation.game.now; cure = explanation.cure.now }

-- lines, each with its end
abbrev pub lines : List (List ℕ) → List ℕ
lines all = flat_map (λ line. line ++ 10 ∷ []) all

-- that of the lines of each part
abbrev pub explained : List (List ℕ) → List (List ℕ) → List (List ℕ) → Explained
explained w g c = record { what = lines w; game = lines g; cure = lines c }

-- those of all codes, in the order of a report
unfoldable pub explanation_table : List Explained
explanation_table =
    explained
    (codes "The directory ends before all ten lumps of the level, THINGS to BLOCKMAP, stand" ∷ codes "behind its label. wadlens calls such a level incomplete." ∷ [])
    (codes "The game takes these lumps by their places, and ends with an error where the" ∷ codes "directory ends (W_CacheLumpNum). If another file was loaded behind this one, the" ∷ codes "game takes lumps of that file." ∷ [])
    (codes "Take a whole copy of the file, or save the level again in an editor, with nodes," ∷ codes "REJECT and BLOCKMAP." ∷ [])
    ∷ explained
    (codes "A lump's place or size is negative, or the lump goes past the end of its file." ∷ codes "wadlens calls such a level outside." ∷ [])
    (codes "The game ends with an error as it reads a lump that its file cuts short" ∷ codes "(W_ReadLump). The game doesn't test for a negative place or size." ∷ [])
    (codes "Take a whole copy of the file, or save the level again in an editor." ∷ [])
    ∷ explained
    (codes "A linedef begins or ends at a vertex that isn't there." ∷ [])
    (codes "The game doesn't test the number (P_LoadLineDefs): it reads memory that isn't" ∷ codes "its own as the vertex. The linedef runs to a place by chance, or the game" ∷ codes "crashes." ∷ [])
    (codes "Draw the linedef again in an editor, then build the nodes. A level with more" ∷ codes "than 32768 vertexes is for ports: check it with --wide." ∷ [])
    ∷ explained
    (codes "A linedef names a sidedef that isn't there." ∷ [])
    (codes "The game doesn't test the number (P_LoadLineDefs): it reads memory that isn't" ∷ codes "its own as the side's sector, and then writes to that sector (P_GroupLines). A" ∷ codes "crash is likely. Chocolate Doom ends at a seg on such a side." ∷ [])
    (codes "Give the linedef a new side in an editor, then build the nodes. A level with" ∷ codes "more than 32768 sidedefs is for ports: check it with --wide." ∷ [])
    ∷ explained
    (codes "A sidedef names a sector that isn't there." ∷ [])
    (codes "The game doesn't test the number (P_LoadSideDefs): memory that isn't its own" ∷ codes "stands for the sector. The game writes there as it loads the level" ∷ codes "(P_GroupLines), and a crash is likely. A sidedef that no linedef has does no" ∷ codes "harm." ∷ [])
    (codes "Give the side a sector in an editor, then build the nodes." ∷ [])
    ∷ explained
    (codes "A seg begins or ends at a vertex that isn't there." ∷ [])
    (codes "The game doesn't test the number (P_LoadSegs). To draw the seg, the game reads" ∷ codes "memory that isn't its own as the vertex (R_AddLine): the wall is missing or" ∷ codes "stands in a wrong place, or the game crashes." ∷ [])
    (codes "Build the nodes again. A level with more than 32768 vertexes is for ports: check" ∷ codes "it with --wide." ∷ [])
    ∷ explained
    (codes "A seg names a linedef that isn't there." ∷ [])
    (codes "The game doesn't test the number (P_LoadSegs): it reads memory that isn't its" ∷ codes "own as the linedef, and follows a sidedef's number found there. A crash is" ∷ codes "likely as the level is loaded." ∷ [])
    (codes "Build the nodes again: they may be older than the linedefs. A level with more" ∷ codes "than 32768 linedefs is for ports: check it with --wide." ∷ [])
    ∷ explained
    (codes "A seg lies on side 0 of its linedef, the front, or on side 1, the back. This seg" ∷ codes "has another number." ∷ [])
    (codes "The game doesn't test the number (P_LoadSegs). It takes what stands before or" ∷ codes "behind the linedef's two sidedef numbers for another one. The seg gets a wrong" ∷ codes "sidedef and sector, or the game reads memory that isn't its own, and may crash." ∷ [])
    (codes "Build the nodes again." ∷ [])
    ∷ explained
    (codes "A seg lies on a side of its linedef, and the linedef has no sidedef there." ∷ [])
    (codes "The game reads memory that isn't its own, before the first sidedef, as the side" ∷ codes "and its sector (P_LoadSegs). The wall is drawn by chance, or the game crashes." ∷ codes "Chocolate Doom ends with an error as it loads the level." ∷ [])
    (codes "Give the linedef this side, or build the nodes again: they may be older than the" ∷ codes "linedefs." ∷ [])
    ∷ explained
    (codes "An ssector has a run of segs, and not all of them are there." ∷ [])
    (codes "The game doesn't test this. Without the first seg it reads the ssector's sector" ∷ codes "from memory that isn't its own (P_GroupLines). Without others it reads walls" ∷ codes "from there (R_Subsector, P_CrossSubsector). A crash is likely." ∷ [])
    (codes "Build the nodes again. A level with more than 32768 segs is for ports: check it" ∷ codes "with --wide." ∷ [])
    ∷ explained
    (codes "A node has two children, each a node or an ssector. One of them isn't there." ∷ [])
    (codes "At an ssector that isn't there the game ends with an error, as it draws" ∷ codes "(R_Subsector) or traces a sight (P_CrossSubsector). To place a thing there, or" ∷ codes "to follow a node that isn't there, the game reads memory that isn't its own" ∷ codes "(R_PointInSubsector)." ∷ [])
    (codes "Build the nodes again." ∷ [])
    ∷ explained
    (codes "The line by which a node divides the level begins outside -16384 to 16383." ∷ [])
    (codes "The game's numbers have 16 bits for whole units. If a place is 32768 units or" ∷ codes "more away from there in x or y, the difference wraps. At a slanted line the game" ∷ codes "may then take the wrong side (R_PointOnSide): it draws walls in a wrong order," ∷ codes "and puts things into a wrong sector." ∷ [])
    (codes "Move the level nearer to (0, 0), or make it smaller, then build the nodes." ∷ [])
    ∷ explained
    (codes "A node is a child more than once, or the root, the last node, is a child. So the" ∷ codes "nodes are no tree." ∷ [])
    (codes "If children lead back to the node, the game can hang as it looks for a place's" ∷ codes "sector (R_PointInSubsector), and can run out of stack as it draws" ∷ codes "(R_RenderBSPNode). Otherwise it draws twice all that the node leads to." ∷ [])
    (codes "Build the nodes again." ∷ [])
    ∷ explained
    (codes "No children lead from the root, the last node, to this node." ∷ [])
    (codes "The game begins at the root (R_RenderBSPNode, R_PointInSubsector), so it never" ∷ codes "uses this node. An ssector to which no other node leads is never used either:" ∷ codes "see F16." ∷ [])
    (codes "Build the nodes again. In NODES the root has to come last." ∷ [])
    ∷ explained
    (codes "An ssector is a child more than once, so it stands for two parts of the level." ∷ [])
    (codes "A thing in either part stands in this ssector's sector (R_PointInSubsector)," ∷ codes "which is likely wrong in one of them. The game draws the ssector with both parts" ∷ codes "(R_RenderBSPNode)." ∷ [])
    (codes "Build the nodes again." ∷ [])
    ∷ explained
    (codes "No children lead from the root to this ssector. Without nodes only ssector 0 is" ∷ codes "reached." ∷ [])
    (codes "The game never draws this ssector (R_RenderBSPNode), and may let a sight through" ∷ codes "its walls (P_CrossBSPNode). The walls still stop what moves, since moves go by" ∷ codes "BLOCKMAP (P_BlockLinesIterator)." ∷ [])
    (codes "Build the nodes again." ∷ [])
    ∷ explained
    (codes "SSECTORS is empty. Most likely the level was saved without nodes." ∷ [])
    (codes "The game looks up the ssector of each thing that it places, and reads memory" ∷ codes "that isn't its own (R_PointInSubsector). A crash is likely. If the game comes to" ∷ codes "draw the level, it ends with an error (R_Subsector)." ∷ [])
    (codes "Build the nodes." ∷ [])
    ∷ explained
    (codes "A child has 15 bits for a number, so nodes can name 32768 ssectors. A tree of" ∷ codes "more than 32767 nodes has more." ∷ [])
    (codes "From 32769 to 65536 nodes the game takes the root's number for that of an" ∷ codes "ssector (R_PointInSubsector, R_RenderBSPNode). It draws this ssector alone, and" ∷ codes "all things stand in its sector." ∷ [])
    (codes "Make the level smaller, or build extended nodes, which are for ports." ∷ [])
    ∷ explained
    (codes "A lump behind the label hasn't the usual name of its place. wadlens calls such a" ∷ codes "level incomplete; without THINGS it sees no level." ∷ [])
    (codes "The game takes a level's lumps by their places, and doesn't look at their names" ∷ codes "(P_SetupLevel). A wrong lump is read as if it were the right one." ∷ [])
    (codes "Put the ten lumps behind the label in order, under their usual names. Editors" ∷ codes "and ports look at these." ∷ [])
    ∷ explained
    (codes "A lump has bytes behind its last whole record." ∷ [])
    (codes "The game divides the lump's length by that of a record, and leaves the rest out" ∷ codes "(P_LoadThings and the like)." ∷ [])
    (codes "Look whether the lump was cut, or has the longer records of another game. An" ∷ codes "editor that saves the level again writes whole records." ∷ [])
    ∷ explained
    (codes "A linedef is flagged as two-sided, and has no back sidedef." ∷ [])
    (codes "Nothing moves through it (PIT_CheckLine). As the sector behind it the game takes" ∷ codes "memory that isn't its own, by way of a sidedef before the first one" ∷ codes "(P_LoadSegs). An opening may show, a sight may pass, or the game crashes." ∷ codes "Chocolate Doom has a stand-in for this sector." ∷ [])
    (codes "Clear the flag, or give the linedef its back sidedef." ∷ [])
    ∷ explained
    (codes "A linedef has no front sidedef." ∷ [])
    (codes "The game counts each linedef in its front sector (P_GroupLines), here through a" ∷ codes "sector that isn't there, at address 0, and ends as it loads the level. A sound" ∷ codes "level with N4 isn't one that the game loads." ∷ [])
    (codes "Turn the linedef round if it has a back sidedef, otherwise delete it. Then build" ∷ codes "the nodes." ∷ [])
    ∷ explained
    (codes "A linedef begins and ends at the same place." ∷ [])
    (codes "The game draws nothing for it (R_AddLine). If BLOCKMAP lists it, a one-sided or" ∷ codes "blocking one still stops what moves over the place, like a thin post" ∷ codes "(PIT_CheckLine). Nothing gets from one side of it to the other, so nothing sets" ∷ codes "its special off." ∷ [])
    (codes "Delete the linedef, or move one of its ends, then build the nodes." ∷ [])
    ∷ explained
    (codes "An ssector has a part of the level, but no segs." ∷ [])
    (codes "The game draws nothing for it (R_Subsector). Things there stand in the sector of" ∷ codes "the seg that the ssector names as its first (P_GroupLines). Most likely this seg" ∷ codes "is another ssector's." ∷ [])
    (codes "Build the nodes again, if need be with another builder." ∷ [])
    ∷ explained
    (codes "The line by which a node divides the level has no direction." ∷ [])
    (codes "The game takes every place to be in front (R_PointOnSide). Things that belong to" ∷ codes "the back stand in a sector of the front. Walls of the back are drawn after the" ∷ codes "front or not at all (R_RenderBSPNode), and hardly stop a sight (P_CrossBSPNode)." ∷ [])
    (codes "Delete the linedefs of no length (N5), then build the nodes." ∷ [])
    ∷ explained
    (codes "REJECT has a bit for each pair of sectors. This one is shorter or longer." ∷ [])
    (codes "The game reads past a short one, into memory that isn't its own (P_CheckSight):" ∷ codes "by chance some monsters never see a player, and some blasts harm nobody. Bytes" ∷ codes "too many do no harm." ∷ [])
    (codes "Build REJECT again. Zeros of the right size will do: the game then traces each" ∷ codes "sight." ∷ [])
    ∷ explained
    (codes "BLOCKMAP is shorter than its head of 8 bytes, or hasn't a word for each block." ∷ [])
    (codes "The game doesn't test this (P_LoadBlockMap, P_BlockLinesIterator): it reads" ∷ codes "memory that isn't its own as the number of blocks or as lists. By chance walls" ∷ codes "stop nothing, or the game crashes." ∷ [])
    (codes "Build BLOCKMAP again. Some ports build one in place of an empty one; the" ∷ codes "released game doesn't." ∷ [])
    ∷ explained
    (codes "The list of a block's linedefs begins outside BLOCKMAP, or has no end in it." ∷ [])
    (codes "The game doesn't test this (P_BlockLinesIterator): as something moves or shoots" ∷ codes "through the block, it reads memory that isn't its own as numbers of linedefs. By" ∷ codes "chance walls stop nothing, or the game crashes." ∷ [])
    (codes "Build BLOCKMAP again. A level whose lists begin behind word 32767 is for ports:" ∷ codes "make it smaller, or check it with --wide." ∷ [])
    ∷ explained
    (codes "No thing is of type 1, where player 1 starts." ∷ [])
    (codes "Except in a deathmatch, the player has no body. As the game moves the player, it" ∷ codes "reads and writes memory that isn't its own (P_PlayerThink). A crash is likely." ∷ codes "Chocolate Doom ends with an error as it loads the level." ∷ [])
    (codes "Place a thing of type 1." ∷ [])
    ∷ explained
    (codes "A vertex is outside -16384 to 16383." ∷ [])
    (codes "The game's numbers have 16 bits for whole units. No difference wraps while" ∷ codes "places are less than 32768 units apart in x and in y. From there on walls are" ∷ codes "drawn in wrong directions (R_PointToAngle), and a linedef of such a length runs" ∷ codes "the wrong way (P_LoadLineDefs)." ∷ [])
    (codes "Move the level nearer to (0, 0), or make it smaller, then build the nodes." ∷ [])
    ∷ explained
    (codes "At the vertex that is reported, the sector's outline has a gap or an extra line:" ∷ codes "more of its sides begin there than end, or fewer." ∷ [])
    (codes "The game ends a floor and a ceiling only at a seg (R_RenderSegLoop). In a gap" ∷ codes "those of another sector run in, or nothing is drawn (a hall of mirrors)." ∷ [])
    (codes "Draw the missing line, or give the wrong side its sector, then build the nodes." ∷ codes "Ignore W1 if a trick needs the sector open." ∷ [])
    ∷ explained
    (codes "By its sectors' heights a part of a wall can be seen, but its texture is \"-\"." ∷ [])
    (codes "The game draws nothing for it (R_RenderSegLoop). In place of the middle of a" ∷ codes "one-sided wall old pictures show (a hall of mirrors). In place of an upper or a" ∷ codes "lower the ceiling or the floor behind it runs on, or old pictures show." ∷ [])
    (codes "Choose a texture. Ignore W2 where no player sees the wall, or if a trick needs" ∷ codes "it bare." ∷ [])
    ∷ explained
    (codes "A thing stands in the void, outside the walls of the level." ∷ [])
    (codes "The game has a sector for every place, so the thing stands in one" ∷ codes "(R_PointInSubsector). Hardly anybody gets there. A monster or an item counts for" ∷ codes "the totals all the same (P_SpawnMapThing). A player who starts there is shut" ∷ codes "out." ∷ [])
    (codes "Move the thing inside, or delete it." ∷ [])
    ∷ explained
    (codes "A linedef's special goes by its tag to a sector, and no sector has this tag." ∷ [])
    (codes "The special finds no sector, and does nothing (P_FindSectorFromLineTag). A" ∷ codes "switch doesn't even turn (P_UseSpecialLine), and a teleporter takes nobody" ∷ codes "anywhere (EV_Teleport). Exits, scrolling walls and doors opened by hand don't go" ∷ codes "by the tag: they aren't told." ∷ [])
    (codes "Give the sector this tag, or the linedef the tag of the sector." ∷ [])
    ∷ explained
    (codes "An ssector is part of one sector, but its segs face more than one." ∷ [])
    (codes "The game takes the sector of the first seg for the whole ssector (P_GroupLines)." ∷ codes "Things there stand on that sector's floor. Floor, ceiling and walls are drawn by" ∷ codes "that sector's heights and light (R_Subsector)." ∷ [])
    (codes "Look for sectors that aren't closed (W1), and for linedefs that lie on others" ∷ codes "(W6) or cross others without a vertex. Then build the nodes." ∷ [])
    ∷ explained
    (codes "A linedef has the same two ends as an earlier one." ∷ [])
    (codes "The game keeps both. A thing is stopped if either stops it (PIT_CheckLine). If" ∷ codes "both let a thing through, the specials of both can act (P_TryMove). The nodes" ∷ codes "decide which one is drawn." ∷ [])
    (codes "Delete one of them, look at the sectors on both sides, then build the nodes." ∷ [])
    ∷ explained
    (codes "No thing is of type 2, 3 or 4, where players 2 to 4 start. The first player" ∷ codes "without a start is reported." ∷ [])
    (codes "A single game doesn't need the start. In a cooperative game the player has no" ∷ codes "body (see N11), and a crash is likely." ∷ [])
    (codes "Place the starts, or ignore W7 in a level for one player." ∷ [])
    ∷ explained
    (codes "Fewer than four things are of type 11, where players start in a deathmatch." ∷ [])
    (codes "The game ends with an error as it loads the level for a deathmatch" ∷ codes "(G_DeathMatchSpawnPlayer). Other games don't need these things." ∷ [])
    (codes "Place at least four of them; the game uses ten at most. Ignore W8 in a level" ∷ codes "that isn't for deathmatch." ∷ [])
    ∷ explained
    (codes "A sidedef has a texture that neither TEXTURE1 nor TEXTURE2 lists." ∷ [])
    (codes "The game ends with an error as it loads the level (R_TextureNumForName), even if" ∷ codes "nobody can see this part of the wall." ∷ [])
    (codes "With --base name the files that the level stands on, so that their textures" ∷ codes "count. Otherwise choose another texture, or \"-\" for none." ∷ [])
    ∷ explained
    (codes "A sector has a flat for its floor or its ceiling, and no lump has that name." ∷ [])
    (codes "The game ends with an error as it loads the level (R_FlatNumForName)." ∷ [])
    (codes "With --base name the files that the level stands on, so that their flats count." ∷ codes "Otherwise choose another flat." ∷ [])
    ∷ explained
    (codes "A thing's type is none of the game's, and the thing appears in some skill." ∷ [])
    (codes "In such a skill the game ends with an error as it loads the level" ∷ codes "(P_SpawnMapThing)." ∷ [])
    (codes "Change the type, or delete the thing. Ignore W11 if the level is for a port that" ∷ codes "knows the type." ∷ [])
    ∷ explained
    (codes "This number is kept for a later version, and no level is looked at for it." ∷ [])
    (codes "Nothing is told under it." ∷ [])
    (codes "Nothing has to be done." ∷ [])
    ∷ explained
    (codes "This number is kept for a later version, and no level is looked at for it." ∷ [])
    (codes "Nothing is told under it." ∷ [])
    (codes "Nothing has to be done." ∷ [])
    ∷ explained
    (codes "A linedef's special is none of the game's." ∷ [])
    (codes "Nothing happens when something crosses, uses or shoots at the linedef" ∷ codes "(P_CrossSpecialLine, P_UseSpecialLine, P_ShootSpecialLine). Other engines have" ∷ codes "specials of their own." ∷ [])
    (codes "Choose one of the game's specials, or ignore W14 if the level is for a port that" ∷ codes "knows this one." ∷ [])
    ∷ explained
    (codes "A linedef's special goes by its tag, and the tag is 0." ∷ [])
    (codes "The game compares 0 like any other tag (P_FindSectorFromLineTag): the special" ∷ codes "moves every sector without a tag, or changes its light." ∷ [])
    (codes "Give the linedef a tag, and the sectors that are meant the same one." ∷ [])
    ∷ explained
    (codes "A linedef's special acts when something crosses it, and nothing can; or it" ∷ codes "teleports, and no sector with its tag has a destination." ∷ [])
    (codes "A linedef isn't crossed by what it stops (PIT_CheckLine, P_TryMove). A" ∷ codes "teleporter looks for a thing of type 14 in the sectors of its tag (EV_Teleport)," ∷ codes "and does nothing without one." ∷ [])
    (codes "Give the linedef a back sidedef, or clear the flag that blocks. Place a thing of" ∷ codes "type 14 in the sector." ∷ [])
    ∷ explained
    (codes "The use of a linedef's special ends the game, or spoils a sector." ∷ [])
    (codes "A door in a wall ends it (EV_VerticalDoor), and so does a 31st platform" ∷ codes "(P_AddActivePlat). A 31st ceiling can't be stopped (P_AddActiveCeiling). A list" ∷ codes "has room for 20 higher neighbours (P_FindNextHighestFloor). A donut (EV_DoDonut)" ∷ codes "and a floor that changes (EV_DoFloor) may read what isn't there." ∷ [])
    (codes "Put the special on a linedef with two sides, give fewer sectors the tag, or draw" ∷ codes "the sector's linedefs in another order." ∷ [])
    ∷ explained
    (codes "A sector's special is none of the game's." ∷ [])
    (codes "Once a player stands on the sector's floor, the game ends with an error" ∷ codes "(P_PlayerInSpecialSector)." ∷ [])
    (codes "Choose another special. Ignore W18 where no player can stand." ∷ [])
    ∷ explained
    (codes "Nothing ends the level, or a linedef wants a key that isn't there in some skill." ∷ [])
    (codes "Without an exit the level goes on for ever. Locked doors stay shut" ∷ codes "(EV_VerticalDoor, EV_DoLockedDoor); keys don't last from level to level. Things" ∷ codes "for several players aren't there for one." ∷ [])
    (codes "Place an exit, or the key in each skill. Ignore W19 in a level for deathmatch," ∷ codes "where players have all keys." ∷ [])
    ∷ explained
    (codes "This number is kept for a later version, and no level is looked at for it." ∷ [])
    (codes "Nothing is told under it." ∷ [])
    (codes "Nothing has to be done." ∷ [])
    ∷ explained
    (codes "A thing ends the reading of things, appears in no skill, or ends the game as it" ∷ codes "shoots." ∷ [])
    (codes "In a level of the first game reading ends at the first thing of the second" ∷ codes "(P_LoadThings). Without a target the shot of a shooter of cubes divides by 0" ∷ codes "(A_BrainSpit), and the game has room for 32 targets." ∷ [])
    (codes "Delete the thing, or give it a skill. Place a thing of type 87 in each skill of" ∷ codes "the shooter." ∷ [])
    ∷ explained
    (codes "The level has more of something than the game has room for, or a texture of its" ∷ codes "files lacks a patch." ∷ [])
    (codes "The game writes past the end of its list, over memory of its own" ∷ codes "(P_SpawnSpecials), ends with an error (P_AddActivePlat, G_DoSaveGame), doesn't" ∷ codes "use what is too much (P_SpawnMapThing), or doesn't start (R_InitTextures)." ∷ [])
    (codes "Take away what is too much, or put it into another level. Give the texture" ∷ codes "patches that the files have." ∷ [])
    ∷ explained
    (codes "This number is kept for a later version, and no level is looked at for it." ∷ [])
    (codes "Nothing is told under it." ∷ [])
    (codes "Nothing has to be done." ∷ [])
    ∷ explained
    (codes "This number is kept for a later version, and no level is looked at for it." ∷ [])
    (codes "Nothing is told under it." ∷ [])
    (codes "Nothing has to be done." ∷ [])
    ∷ explained
    (codes "A sector's flat isn't between F_START and F_END, the last of each." ∷ [])
    (codes "The game gives numbers to the flats between these two (R_InitFlats). The number" ∷ codes "of another one is outside its table. The game writes there as it loads the" ∷ codes "level (R_PrecacheLevel). It reads there as it draws the flat (R_DrawPlanes), and" ∷ codes "mostly ends." ∷ [])
    (codes "Put the flats that are needed between one F_START and one F_END." ∷ [])
    ∷ []

-- that of a rank; an empty one where there is none
abbrev pub unexplained : Explained
unexplained = explained [] [] []

abbrev pub explanation_at : ℕ → Explained
explanation_at k = slice_index_or explanation_table k unexplained

-- that of a code
abbrev pub explanation_of : ReportCode → Explained
explanation_of c = explanation_at (code_rank c)

-- a byte of plain text that HTML takes as it stands
abbrev pub is_plain : ℕ → Bool
is_plain b = nat_eq b 10 || nat_lt 31 b && nat_lt b 127 && not (nat_eq b 38 || nat_eq b 60 || nat_eq b 62)

-- how many lines end in a text
abbrev pub line_count : List ℕ → ℕ
line_count text = count_by (λ b. nat_eq b 10) text

-- a text of whole lines, of which the first has this many columns at most and each other one 80
abbrev pub has_columns : ℕ → List ℕ → Bool
has_columns left [] = nat_eq left 80
has_columns left (b ∷ bs) = if nat_eq b 10 then has_columns 80 bs else nat_lt 0 left && has_columns (left - 1) bs

-- a part: whole lines of at most 80 columns of plain text
abbrev pub is_told : List ℕ → Bool
is_told text = has_columns 80 text && list_all is_plain text

-- each part has a line, and all have at most seven, below a head
abbrev pub fits_screen : Explained → Bool
fits_screen e =
    is_told e.what && is_told e.game && is_told e.cure && nat_lt 0 (line_count e.what) && nat_lt 0 (line_count e.game) && nat_lt 0 (line_count e.cure)
    && nat_lt (line_count e.what + line_count e.game + line_count e.cure) 8
