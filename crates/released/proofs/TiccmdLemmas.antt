-- The command that the released game reads is the demo's.
use Rattle.std.proofs.Common.{◌≡◌, ◌≢◌, ℕ, ◌*◌, ◌%◌, ◌^◌, ◌<◌, ◌==◌, pos, to_z, w8, w32, List, take, slice_index, Some, None, inl, inr, refl, sym, ap, ◌∙◌, arith}
use Rattle.std.specs.Int.{w16, int_wrap, int_shl}
use Rattle.std.proofs.lemmas.Bool.{cond-true, cond-false, ne_eqb}
use Rattle.std.proofs.lemmas.Bool.Decides.{eqb_tells, nat_tests}
use Rattle.std.proofs.lemmas.Int.{ints, to_z_pos}
use Rattle.std.proofs.lemmas.List.{get_or-take, length-take-le}
use Rattle.std.proofs.lemmas.Option.{same_Some, none-some}
use Rattle.le_rec.specs.Bytes.{AreBytes}
use Rattle.demo_lump.specs.Command.{command_of, command_size, long_command_of, short_command_of, signed8}
use Rattle.released.specs.Laws.{ReleasedTiccmdIsCommand, ReleasedEndsAtMarker, ticcmd_of}
use Rattle.released.specs.ReadTiccmd.{signed_char, angle_turn, released_ticcmd}
use Rattle.released.specs.declared.ticcmd.Ticcmd.{Ticcmd}

pub signed_char_is : (byte : ℕ) → byte < 256 → signed_char byte ≡ to_z w8 byte
unfolding int_wrap
signed_char_is byte h =
    let e : byte % 256 ≡ byte = omega arith in ap (to_z w8) e

pub shifted : (byte : ℕ) → byte < 256 → int_shl w32 (pos byte) 8 ≡ pos (byte * 256)
shifted byte h =
    let e : byte * 2 ^ 8 % 2 ^ 32 ≡ byte * 256 = omega arith in
    ap (to_z w32) e ∙ to_z_pos w32 (byte * 256) (omega arith)

short_of : (n : ℕ) → int_wrap w16 (pos n) ≡ to_z w16 (n % 65536)
unfolding int_wrap
short_of n = refl

pub angle_turn_is : (byte : ℕ) → byte < 256 → angle_turn byte ≡ to_z w16 (byte * 256 % 65536)
angle_turn_is byte h = ap (int_wrap w16) (shifted byte h) ∙ short_of (byte * 256)

-- ---- the law

short_of_four : (bytes : List ℕ) → short_command_of (take 4 bytes) ≡ short_command_of bytes
short_of_four bytes =
    let b0 = get_or-take 4 bytes 0 0 (omega arith) in
    let b1 = get_or-take 4 bytes 1 0 (omega arith) in
    let b2 = get_or-take 4 bytes 2 0 (omega arith) in
    let b3 = get_or-take 4 bytes 3 0 (omega arith) in
    λ i. record { forward = signed8 (b0 i); side = signed8 (b1 i); turn = b2 i; buttons = b3 i }

signed_is : (byte : ℕ) → byte < 256 → signed8 byte ≡ signed_char byte
unfolding signed8
signed_is byte h =
    let e : signed8 byte ≡ to_z w8 byte = grind (arith, ints, nat_tests) in
    e ∙ sym (signed_char_is byte h)

read_of : (bytes : List ℕ) → AreBytes bytes → ticcmd_of (short_command_of bytes) ≡ (record {
  forwardmove = signed_char (slice_index bytes 0);
  sidemove = signed_char (slice_index bytes 1);
  angleturn = angle_turn (slice_index bytes 2);
  buttons = slice_index bytes 3;
})
read_of bytes are =
    let forward = signed_is (slice_index bytes 0) (are.each 0) in
    let side = signed_is (slice_index bytes 1) (are.each 1) in
    let turn = ap (int_wrap w16) (sym (shifted (slice_index bytes 2) (are.each 2))) in
    λ i. record {
      forwardmove = forward i;
      sidemove = side i;
      angleturn = turn i;
      buttons = slice_index bytes 3;
    }

-- under the versions whose commands have four bytes
module _ (version : ℕ) (other : version ≢ 111) where
  pub short_size : command_size version ≡ 4
  unfolding command_size
  short_size = cond-false (version == 111) 5 4 (ne_eqb version 111 other)

  pub short_command : (bytes : List ℕ) → command_of version bytes ≡ short_command_of bytes
  unfolding command_of
  short_command bytes =
      cond-false (version == 111) (long_command_of bytes) (short_command_of bytes)
      (ne_eqb version 111 other)

abbrev pub read_ticcmd : List ℕ → Ticcmd
read_ticcmd bytes = record {
  forwardmove = signed_char (slice_index bytes 0);
  sidemove = signed_char (slice_index bytes 1);
  angleturn = angle_turn (slice_index bytes 2);
  buttons = slice_index bytes 3;
}

pub unmarked_is : (bytes : List ℕ) → slice_index bytes 0 ≢ 128
    → released_ticcmd bytes ≡ Some (read_ticcmd bytes)
unmarked_is bytes unmarked =
    cond-false (slice_index bytes 0 == 128) None (Some (read_ticcmd bytes))
    (ne_eqb (slice_index bytes 0) 128 unmarked)

pub ends_at_marker : ReleasedEndsAtMarker
ends_at_marker bytes = elim (eqb_tells (slice_index bytes 0) 128) [
  | inl marked ↦ (
    λ e. marked.1,
    λ e. cond-true (slice_index bytes 0 == 128) None (Some (read_ticcmd bytes)) marked.0,
  )
  | inr unmarked ↦ (
    λ e. absurd (none-some (read_ticcmd bytes) (sym e ∙ unmarked_is bytes unmarked.1)),
    λ e. absurd (unmarked.1 e),
  )
]

pub released_is_command : ReleasedTiccmdIsCommand
released_is_command = record {
  reads = λ version bytes command other are is.
      let first = get_or-take 4 bytes 0 0 (omega arith) in
      let whole : short_command_of bytes ≡ command =
      sym (short_of_four bytes) ∙ sym (short_command version other (take 4 bytes)) ∙ is.reads in
      unmarked_is bytes (λ e. is.unmarked (first ∙ e))
      ∙ ap Some (sym (read_of bytes are) ∙ ap ticcmd_of whole);
  is = λ version bytes ticcmd other are long e.
      let first = get_or-take 4 bytes 0 0 (omega arith) in
      let unmarked : slice_index bytes 0 ≢ 128 =
      λ marked. none-some ticcmd (sym ((ends_at_marker bytes).1 marked) ∙ e) in (
        short_command_of bytes,
        record {
          long = length-take-le 4 bytes long ∙ sym (short_size version other);
          unmarked = λ marked. unmarked (sym first ∙ marked);
          reads = short_command version other (take 4 bytes) ∙ short_of_four bytes;
        },
        same_Some ticcmd (read_ticcmd bytes) (sym e ∙ unmarked_is bytes unmarked)
            ∙ sym (read_of bytes are),
      );
}
