-- What the demo of a listing can hold, and that there are bytes that hold it.
use Rattle.std.proofs.Common.{◌≡◌, ◌≢◌, ℕ, zero, suc, ◌/◌, ◌^◌, ◌<◌, ◌==◌, Bool, true, false, if◌then◌else◌, ℤ, negsuc, List, [], ◌∷◌, ◌++◌, length, take, drop, replicate, refl, sym, ap, ◌∙◌, subst, arith, w8, slice_index, ◌%◌, length-take, length-drop}
use borrow.Author.Tests.{eqb-true}
use Rattle.std.proofs.lemmas.Bool.Decides.{nat_tests}
use Rattle.std.proofs.lemmas.Int.{ints}
use Rattle.std.proofs.lemmas.List.{length-replicate}
use Rattle.std.specs.Int.{cast_unsigned}
use Rattle.std.specs.Int.RustNames.{FitsSigned}
use Rattle.std.specs.List.{AllByRecursion}
use Rattle.demo_lump.proofs.WritingLemmas.{IsCommand-long, IsCommand-short, IsHeader-written}
use Rattle.demo_lump.specs.Command.{IsCommand, command_of, long_command_of, short_command_of, signed8}
use Rattle.demo_lump.specs.Demo.{AreCommands, Demo}
use Rattle.demo_lump.specs.Writable.{IsWritable}
use Rattle.demo_lump.specs.Header.{IsHeader}
use Rattle.demo_lump.specs.declared.command.Command.{Command}
use Rattle.demo_lump.specs.declared.header.Header.{Header}
use Rattle.le_rec.proofs.BytesLemmas.{AreBytes-append, AreBytes-cons, AreBytes-drop, AreBytes-nil, AreBytes-tail, AreBytes-take}
use Rattle.le_rec.specs.Bytes.{AreBytes}
use Rattle.le_rec.specs.Number.{unsigned16, unsigned16_at}
use Rattle.demo_engines.specs.Assembly.{IsListingOf}
use Rattle.demo_engines.specs.Parts.{FitsCommand, FitsHeader, numbers_of}
use Rattle.look_engines.specs.Listing.{listing}

front_bytes : (a b : List ℕ) → AreBytes (a ++ b) → AreBytes a
front_bytes [] b are = AreBytes-nil
front_bytes (x ∷ a) b are = AreBytes-cons x a (are.each 0) (front_bytes a b (AreBytes-tail x (a ++ b) are))

back_bytes : (a b : List ℕ) → AreBytes (a ++ b) → AreBytes b
back_bytes [] b are = are
back_bytes (x ∷ a) b are = back_bytes a b (AreBytes-tail x (a ++ b) are)

-- a byte as a signed number
signed_fits : (b : ℕ) → b < 256 → FitsSigned w8 (signed8 b)
unfolding signed8
signed_fits b small = grind (arith, ints, nat_tests)

signed_unmarked : (b : ℕ) → b < 256 → b ≢ 128 → signed8 b ≢ negsuc 127
unfolding signed8
signed_unmarked b small other same = grind (arith, ints, nat_tests)

turn_small : (bytes : List ℕ) → AreBytes bytes → unsigned16_at bytes 2 < 65536
unfolding unsigned16
turn_small bytes are = omega (arith, are.each 2, are.each 3)

long_fits : (version : ℕ) (bytes : List ℕ) → version ≡ 111 → AreBytes bytes → slice_index bytes 0 ≢ 128 → FitsCommand version (long_command_of bytes)
long_fits version bytes is are unmarked = record {
  forward = signed_fits (slice_index bytes 0) (are.each 0);
  side = signed_fits (slice_index bytes 1) (are.each 1);
  turn = turn_small bytes are;
  small = λ other. absurd (other is);
  buttons = are.each 4;
  unmarked = signed_unmarked (slice_index bytes 0) (are.each 0) unmarked;
}

short_fits : (version : ℕ) (bytes : List ℕ) → AreBytes bytes → slice_index bytes 0 ≢ 128 → FitsCommand version (short_command_of bytes)
short_fits version bytes are unmarked = record {
  forward = signed_fits (slice_index bytes 0) (are.each 0);
  side = signed_fits (slice_index bytes 1) (are.each 1);
  turn = let few = are.each 2 in omega (arith, few);
  small = λ other. are.each 2;
  buttons = are.each 3;
  unmarked = signed_unmarked (slice_index bytes 0) (are.each 0) unmarked;
}

command_fits : (version : ℕ) (bytes : List ℕ) (c : Command) → AreBytes bytes → IsCommand version bytes c → FitsCommand version c
unfolding command_of
command_fits version bytes c are is = subst (FitsCommand version) is.reads (go (version == 111) refl)
  where
    go : (long : Bool) → (version == 111) ≡ long → FitsCommand version (if long then long_command_of bytes else short_command_of bytes)
    go true e = long_fits version bytes (eqb-true version 111 e) are is.unmarked
    go false e = short_fits version bytes are is.unmarked

commands_fit : (version : ℕ) (body : List ℕ) (commands : List Command) → AreBytes body → AreCommands version body commands → AllByRecursion (FitsCommand version) commands
commands_fit version body [] are is = tt
commands_fit version body (c ∷ commands) are is =
    let here = subst AreBytes is.2 are in
    (command_fits version is.0 c (front_bytes is.0 is.1 here) is.3, commands_fit version is.1 commands (back_bytes is.0 is.1 here) is.4)

thirteen : (bytes : List ℕ) → AreBytes bytes → AreBytes (
    slice_index bytes 0 ∷ slice_index bytes 1 ∷ slice_index bytes 2 ∷ slice_index bytes 3 ∷ slice_index bytes 4 ∷ slice_index bytes 5 ∷ slice_index bytes 6
    ∷ slice_index bytes 7 ∷ slice_index bytes 8 ∷ slice_index (take 4 (drop 9 bytes)) 0 ∷ slice_index (take 4 (drop 9 bytes)) 1
    ∷ slice_index (take 4 (drop 9 bytes)) 2 ∷ slice_index (take 4 (drop 9 bytes)) 3 ∷ [])
thirteen bytes are =
    let players = AreBytes-take 4 (drop 9 bytes) (AreBytes-drop 9 bytes are) in
    AreBytes-cons _ _ (are.each 0) (AreBytes-cons _ _ (are.each 1) (AreBytes-cons _ _ (are.each 2) (AreBytes-cons _ _ (are.each 3)
    (AreBytes-cons _ _ (are.each 4) (AreBytes-cons _ _ (are.each 5) (AreBytes-cons _ _ (are.each 6) (AreBytes-cons _ _ (are.each 7)
    (AreBytes-cons _ _ (are.each 8) (AreBytes-cons _ _ (players.each 0) (AreBytes-cons _ _ (players.each 1) (AreBytes-cons _ _ (players.each 2)
    (AreBytes-cons _ _ (players.each 3) AreBytes-nil))))))))))))

header_fits : (front : List ℕ) (h : Header) → AreBytes front → IsHeader front h → FitsHeader h
header_fits front h are is = record {
  numbers = subst (λ (g : Header). AreBytes (numbers_of g)) is.reads (thirteen front are);
  version = is.version;
  long = sym (ap (λ (g : Header). length g.players) is.reads) ∙ four front is.long;
  some = is.players;
}
  where
    four : (bytes : List ℕ) → length bytes ≡ 13 → length (take 4 (drop 9 bytes)) ≡ 4
    four bytes long = simp (length-take, length-drop) (omega (arith, long))

-- a demo that bytes can hold
pub record FitsDemo (demo : Demo) : Type 0 where
  pub header : FitsHeader demo.header
  pub commands : AllByRecursion (FitsCommand demo.header.version) demo.commands
  pub few : demo.after < 2 ^ 64

pub listed_fits : (text : List ℕ) (demo : Demo) → IsListingOf text demo → FitsDemo demo
listed_fits text demo is =
    let d = is.read.reads in
    let all = subst AreBytes d.joined is.are in
    let behind = back_bytes d.front (d.body ++ 128 ∷ is.read.rest) all in
    record {
      header = header_fits d.front demo.header (front_bytes d.front (d.body ++ 128 ∷ is.read.rest) all) d.begins;
      commands = commands_fit demo.header.version d.body demo.commands (front_bytes d.body (128 ∷ is.read.rest) behind) d.follow;
      few = is.few;
    }

cast_small : (z : ℤ) → FitsSigned w8 z → cast_unsigned w8 z < 256
cast_small z fits = grind (arith, ints, nat_tests)

-- the bytes of a command
record HasBytes (version : ℕ) (c : Command) : Type 0 where
  bytes : List ℕ
  are : AreBytes bytes
  is : IsCommand version bytes c

has_bytes : (version : ℕ) (c : Command) → FitsCommand version c → HasBytes version c
has_bytes version c fits = go (version == 111) refl
  where
    writable : IsWritable version c
    writable = record { unmarked = fits.unmarked; small = fits.small }

    go : (long : Bool) → (version == 111) ≡ long → HasBytes version c
    go true e =
        let turn = fits.turn in
        record {
          bytes = cast_unsigned w8 c.forward ∷ cast_unsigned w8 c.side ∷ c.turn % 256 ∷ c.turn / 256 ∷ c.buttons ∷ [];
          are = AreBytes-cons _ _ (cast_small c.forward fits.forward) (AreBytes-cons _ _ (cast_small c.side fits.side)
              (AreBytes-cons _ _ (omega arith) (AreBytes-cons _ _ (omega (arith, turn)) (AreBytes-cons _ _ fits.buttons AreBytes-nil))));
          is = IsCommand-long version c (eqb-true version 111 e) fits.forward fits.side (omega (arith, turn)) writable;
        }
    go false e = record {
      bytes = cast_unsigned w8 c.forward ∷ cast_unsigned w8 c.side ∷ c.turn % 256 ∷ c.buttons ∷ [];
      are = AreBytes-cons _ _ (cast_small c.forward fits.forward) (AreBytes-cons _ _ (cast_small c.side fits.side)
          (AreBytes-cons _ _ (omega arith) (AreBytes-cons _ _ fits.buttons AreBytes-nil)));
      is = IsCommand-short version c (other_version version e) fits.forward fits.side writable;
    }
      where
        other_version : (v : ℕ) → (v == 111) ≡ false → v ≢ 111
        other_version v is_short same = grind (arith, nat_tests)

-- and of commands
record HaveBytes (version : ℕ) (commands : List Command) : Type 0 where
  bytes : List ℕ
  are : AreBytes bytes
  is : AreCommands version bytes commands

have_bytes : (version : ℕ) (commands : List Command) → AllByRecursion (FitsCommand version) commands → HaveBytes version commands
have_bytes version [] all = record { bytes = []; are = AreBytes-nil; is = refl }
have_bytes version (c ∷ commands) all =
    let one = has_bytes version c all.0 in
    let others = have_bytes version commands all.1 in
    record { bytes = one.bytes ++ others.bytes; are = AreBytes-append one.bytes others.bytes one.are others.are; is = (one.bytes, others.bytes, refl, one.is, others.is) }

zeros : (n : ℕ) → AreBytes (replicate n 0)
zeros zero = AreBytes-nil
zeros (suc n) = AreBytes-cons 0 (replicate n 0) (omega arith) (zeros n)

-- and so there are bytes of which its text is the listing
pub fit_listed : (demo : Demo) → FitsDemo demo → IsListingOf (listing demo) demo
fit_listed demo fits =
    let h = demo.header in
    let of_h = fits.header in
    let body = have_bytes h.version demo.commands fits.commands in
    let junk : List ℕ = replicate demo.after 0 in
    record {
      bytes = numbers_of h ++ (body.bytes ++ 128 ∷ junk);
      are = AreBytes-append (numbers_of h) _ of_h.numbers (AreBytes-append body.bytes _ body.are (AreBytes-cons 128 junk (omega arith) (zeros demo.after)));
      read = record {
        rest = junk;
        reads = record {
          front = numbers_of h;
          body = body.bytes;
          joined = refl;
          begins = IsHeader-written h of_h.long of_h.version of_h.some;
          follow = body.is;
        };
        counted = sym (length-replicate demo.after 0);
      };
      few = fits.few;
      printed = refl;
    }
