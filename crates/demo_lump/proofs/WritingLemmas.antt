-- What is written is read.
use Rattle.std.proofs.Common.{◌≡◌, ◌≢◌, ℕ, ◌+◌, ◌/◌, ◌%◌, ◌<◌, ◌^◌, ℤ, negsuc, List, [], ◌∷◌, ◌++◌, length, get_or, refl, sym, ap, ◌∙◌, arith, ◌-◌, drop, length-append, length-drop}
use Rattle.std.specs.Prelude.{FitsSigned, ◌==◌, false}
use Rattle.std.specs.Int.{w8, cast_unsigned}
use Rattle.std.proofs.Math.ListN.{set}
use Rattle.std.proofs.Math.Seq.{set-append_seam}
use Rattle.std.proofs.lemmas.Bool.Decides.{nat_tests}
use Rattle.std.proofs.lemmas.List.{append_assoc, take_at}
use borrow.Rule.Slice.PartMut.{put_mid, post_of}
use Rattle.std.proofs.lemmas.Int.{ints}
use Rattle.le_rec.specs.Number.{unsigned16}
use Rattle.demo_lump.proofs.FillingLemmas.{length-post_of}
use Rattle.demo_lump.specs.Command.{IsCommand, command_of, command_size, signed8}
use Rattle.demo_lump.specs.Header.{IsHeader, IsVersion, players_in}
use Rattle.demo_lump.specs.Writable.{IsWritable}
use Rattle.demo_lump.specs.declared.command.Command.{Command}
use Rattle.demo_lump.specs.declared.header.Header.{Header}

four : (xs : List ℕ) → length xs ≡ 4
    → get_or xs 0 0 ∷ get_or xs 1 0 ∷ get_or xs 2 0 ∷ get_or xs 3 0 ∷ [] ≡ xs
four (a ∷ b ∷ c ∷ d ∷ []) long = refl
four [] long = absurd (omega (arith, long))
four (a ∷ []) long = absurd (omega (arith, long))
four (a ∷ b ∷ []) long = absurd (omega (arith, long))
four (a ∷ b ∷ c ∷ []) long = absurd (omega (arith, long))
four (a ∷ b ∷ c ∷ d ∷ e ∷ xs) long = absurd (omega (arith, long))

abbrev pub header_bytes : Header → List ℕ
header_bytes h =
    h.version ∷ h.skill ∷ h.episode ∷ h.map ∷ h.deathmatch ∷ h.respawn ∷ h.fast ∷ h.no_monsters
    ∷ h.viewpoint
    ∷ get_or h.players 0 0 ∷ get_or h.players 1 0 ∷ get_or h.players 2 0 ∷ get_or h.players 3 0 ∷ []

pub IsHeader-written : (h : Header) → length h.players ≡ 4 → IsVersion h.version
    → 0 < players_in h.players → IsHeader (header_bytes h) h
IsHeader-written h long version some = record {
  long = refl;
  reads = ap (λ (xs : List ℕ). record h { players = xs }) (four h.players long);
  version = version;
  players = some;
}

signed8-back : (z : ℤ) → FitsSigned w8 z → signed8 (cast_unsigned w8 z) ≡ z
unfolding signed8
signed8-back z fits = grind (arith, ints, nat_tests)

unmarked : (z : ℤ) → FitsSigned w8 z → z ≢ negsuc 127 → cast_unsigned w8 z ≢ 128
unfolding signed8
unmarked z fits other is = other (sym (signed8-back z fits) ∙ ap signed8 is)

two_bytes : (n : ℕ) → n < 2 ^ 16 → unsigned16 (n % 256) (n / 256) ≡ n
unfolding unsigned16
two_bytes n h = omega arith

-- commands of the same fields are the same
pub same_command : (c d : Command) → c.forward ≡ d.forward → c.side ≡ d.side → c.turn ≡ d.turn
    → c.buttons ≡ d.buttons → c ≡ d
same_command c d f s t b =
    ap (λ (x : ℤ). record c { forward = x }) f
    ∙ ap (λ (x : ℤ). record c { forward = d.forward; side = x }) s
    ∙ ap (λ (x : ℕ). record c { forward = d.forward; side = d.side; turn = x }) t
    ∙ ap (λ (x : ℕ). record d { buttons = x }) b

pub IsCommand-long : (version : ℕ) (c : Command) → version ≡ 111 → FitsSigned w8 c.forward
    → FitsSigned w8 c.side → c.turn < 2 ^ 16 → IsWritable version c
    → IsCommand version (cast_unsigned w8 c.forward ∷ cast_unsigned w8 c.side ∷ c.turn % 256
    ∷ c.turn / 256 ∷ c.buttons ∷ []) c
unfolding command_size command_of
IsCommand-long version c is forward side turn w = record {
  long = rw is refl;
  unmarked = unmarked c.forward forward w.unmarked;
  reads =
      rw is (same_command _ c (signed8-back c.forward forward) (signed8-back c.side side)
      (two_bytes c.turn turn) refl);
}

pub IsCommand-short : (version : ℕ) (c : Command) → version ≢ 111 → FitsSigned w8 c.forward
    → FitsSigned w8 c.side → IsWritable version c
    → IsCommand version
    (cast_unsigned w8 c.forward ∷ cast_unsigned w8 c.side ∷ c.turn % 256 ∷ c.buttons ∷ []) c
unfolding command_size command_of
IsCommand-short version c other forward side w =
    let no : (version == 111) ≡ false = grind (arith, nat_tests) in
    let whole : c.turn % 256 ≡ c.turn = omega (arith, w.small other) in
    record {
      long = rw no refl;
      unmarked = unmarked c.forward forward w.unmarked;
      reads =
          rw no
          (same_command _ c (signed8-back c.forward forward) (signed8-back c.side side) whole refl);
    }

set_last : (xs last : List ℕ) (n v : ℕ) → length last ≡ 1 → n ≡ length xs
    → set (xs ++ last) n v ≡ xs ++ v ∷ []
set_last xs [] n v one at = absurd (omega (arith, one))
set_last xs (b ∷ []) n v one at = rw at (set-append_seam xs b [] v)
set_last xs (b ∷ c ∷ last) n v one at = absurd (omega (arith, one))

-- a demo that was put together: the header, the commands behind it and the last byte
pub demo_put : (bytes front body : List ℕ) → length bytes ≡ 13 + length body + 1 → length front ≡ 13
    → set (put_mid 13 (length bytes - 1 - 13) (front ++ drop 13 bytes) body) (length bytes - 1) 128
    ≡ front ++ (body ++ 128 ∷ [])
demo_put bytes front body room long =
    let n = length bytes - 1 - 13 in
    let xs = front ++ drop 13 bytes in
    let last = post_of 13 n xs in
    let one : length last ≡ 1 =
    omega (
      arith,
      length-post_of 13 n xs,
      length-append front (drop 13 bytes),
      length-drop 13 bytes,
      room,
      long,
    ) in
    ap (λ (t : List ℕ). set (t ++ (body ++ last)) (length bytes - 1) 128)
    (take_at front (drop 13 bytes) 13 long)
    ∙ ap (λ (t : List ℕ). set t (length bytes - 1) 128) (sym (append_assoc front body last))
    ∙ set_last (front ++ body) last (length bytes - 1) 128 one
    (omega (arith, length-append front body, room, long))
    ∙ append_assoc front body (128 ∷ [])
