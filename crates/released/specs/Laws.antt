-- What the released game computes on numbers of 32 bits is what is defined.
use Rattle.std.specs.Prelude.{◌≡◌, ◌≢◌, ◌↔◌, ◌⊎◌, ◌<◌, ◌≤◌, ◌+◌, ◌*◌, ◌^◌, ℕ, ℤ, pos, negsuc, neg_ℤ, ◌+ℤ◌, ◌-ℤ◌, ◌*ℤ◌, ◌≤ℤ◌, ◌<ℤ◌, FitsSigned, List, [], length, map, take, slice_index, Some, None}
use Rattle.std.specs.Int.{w8, w16, int_wrap}
use Rattle.std.specs.List.{All, slice_get}
use Rattle.le_rec.specs.Bytes.{AreBytes}
use Rattle.le_rec.specs.Name.{name_of, query_of}
use Rattle.le_rec.specs.declared.records.Node.{Node}
use Rattle.le_rec.specs.declared.records.LineDef.{LineDef}
use Rattle.le_rec.specs.declared.records.Seg.{Seg}
use Rattle.map_geo.specs.declared.sides.Side.TheVariants.{Front, Back}
use Rattle.map_geo.specs.Partition.{partition_of}
use Rattle.map_geo.specs.Point.{Point, IsInRange, point_at}
use Rattle.map_geo.specs.Side.{side_of}
use Rattle.map_level.specs.Level.{Level}
use Rattle.map_level.specs.Opening.{IsLevelAt}
use Rattle.map_level.specs.declared.reading.Reading.{Reading}
use Rattle.map_level.specs.SectorOf.{sector_of, IsLinked}
use Rattle.map_level.specs.LinkFaults.{TwoSidedWithoutSide, NoSide0}
use Rattle.map_level.specs.declared.reading.Reading.TheVariants.{Signed}
use Rattle.demo_lump.specs.Command.{IsCommand, short_command_of}
use Rattle.demo_lump.specs.Demo.{IsDemo}
use Rattle.demo_lump.specs.Header.{IsHeader, players_in}
use Rattle.demo_lump.specs.declared.command.Command.{Command}
use Rattle.demo_lump.specs.declared.header.Header.{Header}
use Rattle.map_tables.specs.BlockMap.{IsBlockAlong, block_map_of, block_number, count_of, head}
use Rattle.map_tables.specs.Words.{numbers_of, words_under, IsBlockList}
use Rattle.map_tables.specs.Reject.{bits_of, sight_bit}
use Rattle.map_tree.specs.Leaf.{IsLeaf}
use Rattle.map_tree.specs.Sound.{IsSound}
use Rattle.wad_dir.specs.Entries.{names}
use Rattle.wad_dir.specs.Wad.{Wad}
use Rattle.wad_dir.specs.Winner.{Wins}
use Rattle.released.specs.PointOnSide.{fixed, fixed_node, released_side}
use Rattle.released.specs.PointInSubsector.{FindsSsector}
use Rattle.released.specs.ThingPosition.{released_block}
use Rattle.released.specs.BlockLines.{released_list}
use Rattle.released.specs.GroupLines.{released_sector}
use Rattle.released.specs.LoadLinks.{IsInside, IsLoadedInside, IsSegLoadedInside, FollowsBack}
use Rattle.released.specs.PlayDemo.{released_header, game_version}
use Rattle.released.specs.ReadTiccmd.{released_ticcmd}
use Rattle.released.specs.WriteTiccmd.{recorded, released_written}
use Rattle.released.specs.declared.ticcmd.Ticcmd.{Ticcmd}
use Rattle.released.specs.CheckSight.{released_sight_bit}
use Rattle.released.specs.CheckName.{released_number, raw_names}

-- ---- sides

-- the numbers of a point and of a node are of 16 bits, and so are the point's differences from the
-- node's (x, y): none of them wraps in 16.16 fixed point
pub record IsWithinReach (node : Node) (point : Point) : Type 0 where
  pub dx : FitsSigned w16 node.dx
  pub dy : FitsSigned w16 node.dy
  pub x : FitsSigned w16 node.x
  pub y : FitsSigned w16 node.y
  pub column : FitsSigned w16 point.x
  pub row : FitsSigned w16 point.y
  pub right : FitsSigned w16 (point.x -ℤ node.x)
  pub up : FitsSigned w16 (point.y -ℤ node.y)

-- what the released game computes is the side as defined, as long as no difference wraps
abbrev pub ReleasedIsSide : Type 0
ReleasedIsSide =
    (node : Node) (point : Point) → IsWithinReach node point →
    released_side (fixed point.x) (fixed point.y) (fixed_node node)
    ≡ side_of (partition_of node) point

-- nothing wraps for a point and a node in range
abbrev pub RangeIsWithinReach : Type 0
RangeIsWithinReach =
    (node : Node) (point : Point) → IsInRange node.x → IsInRange node.y →
    FitsSigned w16 node.dx → FitsSigned w16 node.dy → IsInRange point.x → IsInRange point.y →
    IsWithinReach node point

-- where a difference wraps, as it does for a column one past the range, the game can have another
-- side: here for the diagonal up from (-16384, 0) and the point (16384, 0), which is in front of it
pub record WrapsPastRange : Type 0 where
  pub defined : side_of (record { x = neg_ℤ (pos 16384); y = pos 0; dx = pos 1; dy = pos 1 })
      (point_at (pos 16384) (pos 0))
      ≡ Front
  pub released : released_side (fixed (pos 16384)) (fixed (pos 0)) (record {
    x = fixed (neg_ℤ (pos 16384));
    y = fixed (pos 0);
    dx = fixed (pos 1);
    dy = fixed (pos 1);
  })
      ≡ Back

-- ---- ssectors

-- the ssector that the released game finds for a point is its leaf as defined, in each sound level of
-- files of bytes
abbrev pub ReleasedIsLeaf : Type 0
ReleasedIsLeaf =
    (files : List Wad) (label : ℕ) (reading : Reading) (level : Level) (point : Point) (t : ℕ)
    → All (λ file. AreBytes file.bytes) files → IsLevelAt files label reading level
    → IsSound level → IsInRange point.x → IsInRange point.y →
    FindsSsector level.nodes.records point t ↔ IsLeaf level point t

-- ---- REJECT

-- the bit that the released game looks up is the sight bit as defined, where the number of the pair is
-- below 2 ^ 31
abbrev pub ReleasedBitIsSightBit : Type 0
ReleasedBitIsSightBit =
    (bytes : List ℕ) (sectors a b : ℕ) → a * sectors + b < 2 ^ 31 →
    released_sight_bit bytes (pos sectors) (pos a) (pos b)
    ≡ sight_bit (record { bits = bits_of bytes; sectors = sectors }) a b

-- ---- BLOCKMAP

-- the block of the released game is the one as defined, as long as the difference doesn't wrap
abbrev pub ReleasedIsBlock : Type 0
ReleasedIsBlock =
    (origin z : ℤ) (k : ℕ) → FitsSigned w16 origin → FitsSigned w16 z → FitsSigned w16 (z -ℤ origin) →
    (released_block origin z ≡ pos k) ↔ IsBlockAlong origin z k

-- past the origin it wraps from 32768 units on, and the game has no block
abbrev pub ReleasedIsNoBlock : Type 0
ReleasedIsNoBlock =
    (origin z : ℤ) → FitsSigned w16 origin → FitsSigned w16 z → pos 32768 ≤ℤ (z -ℤ origin)
    → released_block origin z <ℤ pos 0

-- which can be so for a point in range, where the definition has one
pub record BlockWraps : Type 0 where
  pub defined : IsBlockAlong (neg_ℤ (pos 32768)) (pos 0) 256
  pub released : released_block (neg_ℤ (pos 32768)) (pos 0) ≡ neg_ℤ (pos 256)

-- more than 32768 units below the origin it wraps, too: there the game can have a block, and none is defined
pub record BlockWrapsBelow : Type 0 where
  pub undefined : (k : ℕ) → ¬ IsBlockAlong (pos 32767) (neg_ℤ (pos 16384)) k
  pub released : released_block (pos 32767) (neg_ℤ (pos 16384)) ≡ pos 128

-- the list that the released game walks is the block's list as defined
abbrev pub ReleasedListIsBlockList : Type 0
ReleasedListIsBlockList =
    (bytes : List ℕ) (bx by : ℕ) (list : List ℤ) → AreBytes bytes
    → bx < count_of (head bytes 2) → by < count_of (head bytes 3)
    → (released_list (numbers_of bytes) (pos bx) (pos by) ≡ Some list)
    ↔ IsBlockList (words_under Signed bytes)
    (block_number (block_map_of Signed bytes) bx by) list

-- ---- sectors

-- the sector of an ssector that the released game finds is the one as defined
abbrev pub ReleasedSectorIsSector : Type 0
ReleasedSectorIsSector =
    (level : Level) (t : ℕ) → level.reading ≡ Signed → released_sector level t ≡ sector_of level t

-- ---- links

-- in a level without the faults F3 to F10 each index that is followed for a linedef is one of its table
abbrev pub LinkedLineDefsInside : Type 0
LinkedLineDefsInside =
    (level : Level) (m : ℕ) (linedef : LineDef) → level.reading ≡ Signed → IsLinked level
    → slice_get level.linedefs.records m ≡ Some linedef → IsLoadedInside level linedef

-- and each that is followed for a seg's front
abbrev pub LinkedSegsInside : Type 0
LinkedSegsInside =
    (level : Level) (i : ℕ) (seg : Seg) → level.reading ≡ Signed → IsLinked level
    → slice_get level.segs.records i ≡ Some seg → IsSegLoadedInside level seg

-- for its back the game can follow -1, and no other index outside: just if the linedef is two-sided and lacks that side, for which there are the notes N3
-- and N4
abbrev pub LinkedBackOrNoted : Type 0
LinkedBackOrNoted =
    (level : Level) (i : ℕ) (seg : Seg) (linedef : LineDef) (back : ℤ) → level.reading ≡ Signed
    → IsLinked level → slice_get level.segs.records i ≡ Some seg
    → FollowsBack level seg linedef back
    → IsInside (length level.sidedefs.records) back
    ⊎ ((back ≡ negsuc 0) × (m : ℕ) × (seg.linedef ≡ pos m)
    × (TwoSidedWithoutSide level m ⊎ NoSide0 level m))

-- ---- demos

-- a command as the game holds it: its turn has 16 bits, of which a demo tells the higher 8
abbrev pub ticcmd_of : Command → Ticcmd
ticcmd_of command = record {
  forwardmove = command.forward;
  sidemove = command.side;
  angleturn = int_wrap w16 (pos (command.turn * 256));
  buttons = command.buttons;
}

-- the command that the released game reads is the one as defined, under the versions whose commands have four bytes
pub record ReleasedTiccmdIsCommand : Type 0 where
  pub reads : (version : ℕ) (bytes : List ℕ) (command : Command) → version ≢ 111 → AreBytes bytes
      → IsCommand version (take 4 bytes) command
      → released_ticcmd bytes ≡ Some (ticcmd_of command)
  pub is : (version : ℕ) (bytes : List ℕ) (ticcmd : Ticcmd) → version ≢ 111 → AreBytes bytes
      → 4 ≤ length bytes → released_ticcmd bytes ≡ Some ticcmd
      → (command : Command) × IsCommand version (take 4 bytes) command × (ticcmd ≡ ticcmd_of command)

-- it ends at the marker, and only there
abbrev pub ReleasedEndsAtMarker : Type 0
ReleasedEndsAtMarker =
    (bytes : List ℕ) → (released_ticcmd bytes ≡ None) ↔ (slice_index bytes 0 ≡ 128)

-- a command whose numbers are in the ranges of their types
pub record IsTiccmd (ticcmd : Ticcmd) : Type 0 where
  pub forward : FitsSigned w8 ticcmd.forwardmove
  pub side : FitsSigned w8 ticcmd.sidemove
  pub angle : FitsSigned w16 ticcmd.angleturn

-- the multiple of 256 that is nearest to an angle, the greater of two, as 16 bits hold it
pub record IsRounded (angle rounded : ℤ) : Type 0 where
  pub k : ℤ
  pub is : rounded ≡ int_wrap w16 (k *ℤ pos 256)
  pub from : (k *ℤ pos 256) ≤ℤ (angle +ℤ pos 128)
  pub below : (angle +ℤ pos 128) <ℤ (k *ℤ pos 256 +ℤ pos 256)

-- what the released game writes of a command is read as the same, but for its angle
abbrev pub WrittenIsRead : Type 0
WrittenIsRead =
    (ticcmd : Ticcmd) → IsTiccmd ticcmd → ticcmd.forwardmove ≢ negsuc 127
    → (angle : ℤ) × IsRounded ticcmd.angleturn angle
    × (released_ticcmd (released_written ticcmd) ≡ Some (record ticcmd { angleturn = angle }))

-- and as the marker if it begins with that byte
abbrev pub WrittenAsMarker : Type 0
WrittenAsMarker =
    (ticcmd : Ticcmd) → ticcmd.forwardmove ≡ negsuc 127
    → released_ticcmd (released_written ticcmd) ≡ None

-- a command that stands in a demo when it was written
pub record IsKept (ticcmd : Ticcmd) : Type 0 where
  pub is : IsTiccmd ticcmd
  pub unmarked : ticcmd.forwardmove ≢ negsuc 127

-- what the released game records is a demo: the header and the commands that are read of what was written
abbrev pub RecordedIsDemo : Type 0
RecordedIsDemo =
    (header : Header) (ticcmds : List Ticcmd) → header.version ≡ game_version → length header.players ≡ 4
    → 0 < players_in header.players → All IsKept ticcmds
    → IsDemo (recorded header ticcmds) header
    (map (λ ticcmd. short_command_of (released_written ticcmd)) ticcmds) []

-- the header with which the released game plays a demo is the one as defined, of its own version
abbrev pub PlayedIsHeader : Type 0
PlayedIsHeader =
    (bytes : List ℕ) (header : Header) → 13 ≤ length bytes → 0 < players_in header.players
    → (released_header bytes ≡ Some header)
    ↔ (IsHeader (take 13 bytes) header × (header.version ≡ game_version))

-- and no other version is played
abbrev pub PlaysOneVersion : Type 0
PlaysOneVersion =
    (bytes : List ℕ) → (released_header bytes ≡ None) ↔ (slice_index bytes 0 ≢ game_version)

-- ---- names

-- a name as it stands in a directory
pub record IsRawName (raw : List ℕ) : Type 0 where
  pub long : length raw ≡ 8
  pub are : AreBytes raw

-- the lump number that the released game gives is that of the winner
abbrev pub ReleasedIsWinner : Type 0
ReleasedIsWinner =
    (raw : List (List ℕ)) (asked : List ℕ) (g : ℕ) → All IsRawName raw → AreBytes asked
    → (released_number raw asked ≡ pos g) ↔ Wins (map name_of raw) (query_of asked) g

-- it gives -1 where no entry has the name
abbrev pub ReleasedIsNone : Type 0
ReleasedIsNone =
    (raw : List (List ℕ)) (asked : List ℕ) → All IsRawName raw → AreBytes asked
    → (released_number raw asked ≡ negsuc 0)
    ↔ ((g : ℕ) → slice_get (map name_of raw) g ≢ Some (query_of asked))

-- the names among which the winner is looked for are those of the directories
abbrev pub NamesStandRaw : Type 0
NamesStandRaw = (files : List Wad) → names files ≡ map name_of (raw_names files)
