-- What the released game writes into a demo is what it reads, and what a demo is.
use Rattle.std.proofs.Common.{◌≡◌, ◌≢◌, ◌↔◌, ℕ, suc, ◌+◌, ◌-◌, ◌*◌, ◌%◌, ◌^◌, ◌<◌, ◌≤◌, ◌==◌, ℤ, pos, negsuc, ◌+ℤ◌, ◌*ℤ◌, ◌≤ℤ◌, ◌<ℤ◌, FitsSigned, of_z, w8, w32, List, [], ◌∷◌, ◌++◌, length, take, drop, map, get_or, slice_index, Some, None, inl, inr, refl, sym, ap, ◌∙◌, arith}
use Rattle.std.proofs.Math.Facts.{Fits-of_z, Fits-lt-pow}
use Rattle.std.specs.Int.{w16, int_shr, int_wrap, int_wrapping_add}
use Rattle.std.specs.List.{All, flat_map}
use Rattle.std.proofs.lemmas.Bool.{cond-true, cond-false, ne_eqb}
use Rattle.std.proofs.lemmas.Bool.Decides.{eqb_tells}
use Rattle.std.proofs.lemmas.Int.{ints, int_wrap_fits, int_wrap-add_right, to_z-of_z, wrapping_add_is}
use Rattle.std.proofs.lemmas.List.{drop_more, get_or-take, length-take-le, take_all}
use Rattle.std.proofs.lemmas.List.Elements.{All-tail}
use Rattle.std.proofs.lemmas.Option.{same_Some, none-some}
use lib.Signed.{shr_z}
use Rattle.demo_lump.specs.Command.{short_command_of}
use Rattle.demo_lump.specs.Demo.{AreCommands}
use Rattle.demo_lump.specs.Header.{IsHeader, header_of, players_in}
use Rattle.demo_lump.specs.declared.header.Header.{Header}
use Rattle.released.specs.Laws.{IsKept, IsRounded, IsTiccmd, PlayedIsHeader, PlaysOneVersion, RecordedIsDemo, WrittenAsMarker, WrittenIsRead}
use Rattle.released.specs.PlayDemo.{released_header, game_version}
use Rattle.released.specs.ReadTiccmd.{signed_char, angle_turn}
use Rattle.released.specs.WriteTiccmd.{angle_byte, header_bytes, released_written}
use Rattle.released.specs.declared.ticcmd.Ticcmd.{Ticcmd}
use Rattle.released.proofs.TiccmdLemmas.{ends_at_marker, read_ticcmd, shifted, short_command, short_size, signed_char_is, unmarked_is}

-- ---- a signed number as a byte

byte_below : (z : ℤ) → FitsSigned w8 z → of_z w8 z < 256
byte_below z fits = Fits-lt-pow (Fits-of_z fits)

read_back : (z : ℤ) → FitsSigned w8 z → signed_char (of_z w8 z) ≡ z
read_back z fits = signed_char_is (of_z w8 z) (byte_below z fits) ∙ to_z-of_z w8 z fits

marked_alone : (z : ℤ) → FitsSigned w8 z → of_z w8 z ≡ 128 → z ≡ negsuc 127
marked_alone (pos n) fits e = absurd (omega (arith, ints, fits, e))
marked_alone (negsuc n) fits e = omega (arith, ints, fits, e)

-- ---- an angle as a byte

full_turn : int_wrap w16 (pos 65536) ≡ pos 0
unfolding int_wrap
full_turn = refl

wrap_more : (a : ℤ) → int_wrap w16 (a +ℤ pos 65536) ≡ int_wrap w16 a
wrap_more a =
    let same : a +ℤ pos 0 ≡ a = omega (arith, ints) in
    sym (int_wrap-add_right w16 a (pos 65536))
    ∙ ap (λ b. int_wrap w16 (a +ℤ b)) full_turn
    ∙ ap (int_wrap w16) same

turn_is : (q : ℤ) → negsuc 127 ≤ℤ q → q ≤ℤ pos 128
    → angle_turn (of_z w32 q % 256) ≡ int_wrap w16 (q *ℤ pos 256)
turn_is (pos n) least most =
    let e : pos (n % 256 * 256) ≡ pos n *ℤ pos 256 = omega (arith, ints, most) in
    ap (int_wrap w16) (shifted (n % 256) (omega arith) ∙ e)
turn_is (negsuc m) least most =
    let e : pos ((2 ^ 32 - suc m) % 256 * 256) ≡ (negsuc m *ℤ pos 256) +ℤ pos 65536 =
    omega (arith, ints, least) in
    ap (int_wrap w16) (shifted ((2 ^ 32 - suc m) % 256) (omega arith) ∙ e)
    ∙ wrap_more (negsuc m *ℤ pos 256)

shr_from : (s : ℤ) → (shr_z s 256 *ℤ pos 256) ≤ℤ s
shr_from (pos a) = omega (arith, ints)
shr_from (negsuc a) = omega (arith, ints)

shr_below : (s : ℤ) → s <ℤ (shr_z s 256 *ℤ pos 256 +ℤ pos 256)
shr_below (pos a) = omega (arith, ints)
shr_below (negsuc a) = omega (arith, ints)

shr_least : (s : ℤ) → negsuc 32639 ≤ℤ s → negsuc 127 ≤ℤ shr_z s 256
shr_least (pos a) h = omega (arith, ints)
shr_least (negsuc a) h = omega (arith, ints, h)

shr_most : (s : ℤ) → s ≤ℤ pos 32895 → shr_z s 256 ≤ℤ pos 128
shr_most (pos a) h = omega (arith, ints, h)
shr_most (negsuc a) h = omega (arith, ints)

module _ (angle : ℤ) (fits : FitsSigned w16 angle) where
  sum_is : int_wrapping_add w32 angle (pos 128) ≡ angle +ℤ pos 128
  sum_is =
      let f : FitsSigned w32 angle = omega (arith, ints, fits) in
      let g : FitsSigned w32 (pos 128) = omega (arith, ints) in
      let h : FitsSigned w32 (angle +ℤ pos 128) = omega (arith, ints, fits) in
      wrapping_add_is w32 angle (pos 128) f g ∙ int_wrap_fits w32 (angle +ℤ pos 128) h

  abbrev rounded : ℤ
  rounded = int_wrap w16 (shr_z (angle +ℤ pos 128) 256 *ℤ pos 256)

  is_rounded : IsRounded angle rounded
  is_rounded = record {
    k = shr_z (angle +ℤ pos 128) 256;
    is = refl;
    from = shr_from (angle +ℤ pos 128);
    below = shr_below (angle +ℤ pos 128);
  }

  angle_back : angle_turn (angle_byte angle) ≡ rounded
  angle_back =
      ap (λ sum. angle_turn (of_z w32 (int_shr sum 8) % 256)) sum_is
      ∙ turn_is (shr_z (angle +ℤ pos 128) 256)
      (shr_least (angle +ℤ pos 128) (omega (arith, ints, fits)))
      (shr_most (angle +ℤ pos 128) (omega (arith, ints, fits)))

-- ---- commands

pub written_is_read : WrittenIsRead
written_is_read ticcmd is unmarked =
    let forward = read_back ticcmd.forwardmove is.forward in
    let side = read_back ticcmd.sidemove is.side in
    let angle = angle_back ticcmd.angleturn is.angle in
    let first = λ (e : of_z w8 ticcmd.forwardmove ≡ 128). unmarked (marked_alone ticcmd.forwardmove is.forward e) in (
      rounded ticcmd.angleturn is.angle,
      is_rounded ticcmd.angleturn is.angle,
      unmarked_is (released_written ticcmd) first
          ∙ ap Some (λ i. record {
            forwardmove = forward i;
            sidemove = side i;
            angleturn = angle i;
            buttons = ticcmd.buttons;
          }),
    )

pub written_as_marker : WrittenAsMarker
written_as_marker ticcmd marked = (ends_at_marker (released_written ticcmd)).1 (ap (of_z w8) marked)

-- ---- a demo

other_version : (v : ℕ) → v ≡ game_version → v ≢ 111
other_version v is e = absurd (omega (arith, is, e))

written_commands : (v : ℕ) → v ≢ 111 → (ticcmds : List Ticcmd) → All IsKept ticcmds
    → AreCommands v (flat_map released_written ticcmds)
    (map (λ ticcmd. short_command_of (released_written ticcmd)) ticcmds)
written_commands v other [] kept = refl
written_commands v other (ticcmd ∷ ticcmds) kept =
    let one : IsKept ticcmd = kept 0 ticcmd (omega arith) in (
      released_written ticcmd,
      flat_map released_written ticcmds,
      refl,
      record {
        long = sym (short_size v other);
        unmarked = λ e. one.unmarked (marked_alone ticcmd.forwardmove one.is.forward e);
        reads = short_command v other (released_written ticcmd);
      },
      written_commands v other ticcmds (All-tail IsKept ticcmd ticcmds kept),
    )

header_is_read : (header : Header) → length header.players ≡ 4
    → header_of (header_bytes header) ≡ header
header_is_read header four =
    let players : take 4 header.players ≡ header.players = take_all 4 header.players (omega (arith, four)) in
    λ i. record header { players = players i }

pub recorded_is_demo : RecordedIsDemo
recorded_is_demo header ticcmds own four some kept = record {
  front = header_bytes header;
  body = flat_map released_written ticcmds;
  joined = refl;
  begins = record {
    long = omega (arith, four);
    reads = header_is_read header four;
    version = (omega (arith, own), omega (arith, own));
    players = some;
  };
  follow = written_commands header.version (other_version header.version own) ticcmds kept;
}

-- ---- the header that is played

four_from : (bytes : List ℕ) (i : ℕ) → i + 4 ≤ length bytes
    → take 4 (drop i bytes)
    ≡ get_or bytes i 0 ∷ get_or bytes (i + 1) 0 ∷ get_or bytes (i + 1 + 1) 0
    ∷ get_or bytes (i + 1 + 1 + 1) 0 ∷ []
four_from bytes i long =
    let a = drop_more bytes i 0 (omega (arith, long)) in
    let b = drop_more bytes (i + 1) 0 (omega (arith, long)) in
    let c = drop_more bytes (i + 1 + 1) 0 (omega (arith, long)) in
    let d = drop_more bytes (i + 1 + 1 + 1) 0 (omega (arith, long)) in
    ap (take 4) a
    ∙ ap (λ xs. get_or bytes i 0 ∷ take 3 xs) b
    ∙ ap (λ xs. get_or bytes i 0 ∷ get_or bytes (i + 1) 0 ∷ take 2 xs) c
    ∙ ap (λ xs. get_or bytes i 0 ∷ get_or bytes (i + 1) 0 ∷ get_or bytes (i + 1 + 1) 0 ∷ take 1 xs) d

abbrev taken_header : List ℕ → Header
taken_header bytes = record {
  version = slice_index bytes 0;
  skill = slice_index bytes 1;
  episode = slice_index bytes 2;
  map = slice_index bytes 3;
  deathmatch = slice_index bytes 4;
  respawn = slice_index bytes 5;
  fast = slice_index bytes 6;
  no_monsters = slice_index bytes 7;
  viewpoint = slice_index bytes 8;
  players = slice_index bytes 9 ∷ slice_index bytes 10 ∷ slice_index bytes 11 ∷ slice_index bytes 12 ∷ [];
}

module _ (bytes : List ℕ) (long : 13 ≤ length bytes) where
  at_13 : (k : ℕ) → k < 13 → slice_index (take 13 bytes) k ≡ slice_index bytes k
  at_13 k below = get_or-take 13 bytes k 0 below

  players_13 : take 4 (drop 9 (take 13 bytes))
      ≡ slice_index bytes 9 ∷ slice_index bytes 10 ∷ slice_index bytes 11 ∷ slice_index bytes 12 ∷ []
  players_13 =
      let count = length-take-le 13 bytes long in
      let b9 = at_13 9 (omega arith) in
      let b10 = at_13 10 (omega arith) in
      let b11 = at_13 11 (omega arith) in
      let b12 = at_13 12 (omega arith) in
      four_from (take 13 bytes) 9 (omega (arith, count)) ∙ (λ i. b9 i ∷ b10 i ∷ b11 i ∷ b12 i ∷ [])

  header_13 : header_of (take 13 bytes) ≡ taken_header bytes
  header_13 =
      let b0 = at_13 0 (omega arith) in
      let b1 = at_13 1 (omega arith) in
      let b2 = at_13 2 (omega arith) in
      let b3 = at_13 3 (omega arith) in
      let b4 = at_13 4 (omega arith) in
      let b5 = at_13 5 (omega arith) in
      let b6 = at_13 6 (omega arith) in
      let b7 = at_13 7 (omega arith) in
      let b8 = at_13 8 (omega arith) in
      let all = players_13 in
      λ i. record {
        version = b0 i;
        skill = b1 i;
        episode = b2 i;
        map = b3 i;
        deathmatch = b4 i;
        respawn = b5 i;
        fast = b6 i;
        no_monsters = b7 i;
        viewpoint = b8 i;
        players = all i;
      }

own_is : (bytes : List ℕ) → slice_index bytes 0 ≡ game_version → released_header bytes ≡ Some (taken_header bytes)
own_is bytes own =
    elim (eqb_tells (slice_index bytes 0) game_version) [
      | inl same ↦ cond-true (slice_index bytes 0 == game_version) (Some (taken_header bytes)) None same.0
      | inr other ↦ absurd (other.1 own)
    ]

other_is : (bytes : List ℕ) → slice_index bytes 0 ≢ game_version → released_header bytes ≡ None
other_is bytes other =
    cond-false (slice_index bytes 0 == game_version) (Some (taken_header bytes)) None (ne_eqb (slice_index bytes 0) game_version other)

pub plays_one_version : PlaysOneVersion
plays_one_version bytes = (
  λ none own. none-some (taken_header bytes) (sym none ∙ own_is bytes own),
  λ other. other_is bytes other,
)

pub played_is_header : PlayedIsHeader
played_is_header bytes header long some = (
  λ told.
      elim (eqb_tells (slice_index bytes 0) game_version) [
        | inl same ↦
            let is : header ≡ taken_header bytes = same_Some header (taken_header bytes) (sym told ∙ own_is bytes same.1) in
            let own : header.version ≡ game_version = ap (λ h. h.version) is ∙ same.1 in (
              record {
                long = length-take-le 13 bytes long;
                reads = header_13 bytes long ∙ sym is;
                version = (omega (arith, own), omega (arith, own));
                players = some;
              },
              own,
            )
        | inr other ↦ absurd (none-some header (sym (other_is bytes other.1) ∙ told))
      ],
  λ is.
      let same : taken_header bytes ≡ header = sym (header_13 bytes long) ∙ is.0.reads in
      own_is bytes (ap (λ (h : Header). h.version) same ∙ is.1) ∙ ap Some same,
)
