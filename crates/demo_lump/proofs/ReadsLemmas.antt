-- A piece is read as one byte and then the bytes behind it.
use Rattle.std.proofs.Common.{◌≡◌, ◌≢◌, ℕ, zero, suc, ◌+◌, ◌-◌, ◌<◌, ◌≤◌, Bool, true, false, Option, Some, None, IfSome, List, [], ◌∷◌, ◌++◌, length, take, slice_index, Ok, Err, refl, sym, ap, ◌∙◌, arith, subst, length-append, length-take}
use Rattle.std.proofs.KnownBytes.{Consumes-trans, Consumes-whole}
use Rattle.std.proofs.lemmas.List.{take_all, take_at}
use Rattle.std.specs.Io.KnownBytes.{Consumes}
use Rattle.le_rec.specs.Source.{SourceState}
use Rattle.le_rec.proofs.SourceLemmas.{Consumes-front}
use Rattle.demo_lump.specs.Command.{command_size}
use Rattle.demo_lump.specs.Header.{IsHeader, IsVersion, RefusesHeader, header_of, players_in}
use Rattle.demo_lump.specs.NextPiece.{IsNext, Piece, RefusesNext, header_piece, next_piece}
use Rattle.demo_lump.specs.Pieces.{NoneBegins}
use Rattle.demo_lump.specs.Reads.{ReadFault, Reads}
use Rattle.demo_lump.specs.Takes.{Fills, IsByte, TakeFault, Takes}
use Rattle.demo_lump.specs.declared.command.Command.{Command}
use Rattle.demo_lump.specs.declared.header.Header.{Header}
use Rattle.demo_lump.specs.declared.fault.DemoFault.{DemoFault}
use Rattle.demo_lump.specs.declared.fault.DemoFault.TheVariants.{Version, ShortHeader, NoPlayers, NoMarker}
use Rattle.demo_lump.specs.declared.fault.StreamFault.{StreamFault}
use Rattle.demo_lump.specs.declared.fault.StreamFault.TheVariants.{Demo, Read, TooLong}
use Rattle.demo_lump.proofs.ReadingLemmas.{command_size-some, first-append}

-- what was taken within the limit is too short
short_read : (n limit : ℕ) (failed : Bool) (read : List ℕ) (taken taken' : ℕ) (e : StreamFault)
    → taken ≤ limit → taken' ≡ taken + length read → length read ≤ n
    → TakeFault n limit failed (length read) taken' e → length (take (limit - taken) read) < n
short_read n limit failed read taken taken' Read before counted wanted h =
    omega (arith, length-take (limit - taken) read, h.2)
short_read n limit failed read taken taken' TooLong before counted wanted h =
    omega (arith, length-take (limit - taken) read, h.1)
short_read n limit failed read taken taken' (Demo f) before counted wanted h = absurd h

short_behind : (n limit : ℕ) (failed : Bool) (b : ℕ) (read : List ℕ) (taken taken' : ℕ)
    (e : StreamFault)
    → taken' ≡ taken + 1 + length read → length read ≤ n
    → TakeFault n limit failed (length read) taken' e → length (take (limit - taken) (b ∷ read)) ≤ n
short_behind n limit failed b read taken taken' Read counted wanted h =
    omega (arith, length-take (limit - taken) (b ∷ read), h.2)
short_behind n limit failed b read taken taken' TooLong counted wanted h =
    omega (arith, length-take (limit - taken) (b ∷ read), h.1)
short_behind n limit failed b read taken taken' (Demo f) counted wanted h = absurd h

-- a piece has a byte, and a reading of it needs that
pub record HasByte {A : Type 0} (piece : Piece A) : Type 0 where
  pub some : (x : A) (front : List ℕ) → piece.is front x → 0 < length front
  pub first : (read : List ℕ) → length read ≤ 1 → piece.needs read

-- one that begins with a byte has n more at least, and a reading of it needs these
pub record GoesOn {A : Type 0} (piece : Piece A) (b n : ℕ) : Type 0 where
  pub more : (x : A) (front : List ℕ) → piece.is front x → slice_index front 0 ≡ b
      → n < length front
  pub others : (read : List ℕ) → length read ≤ n → piece.needs (b ∷ read)

module _ {A : Type 0} (piece : Piece A) (has : HasByte piece) where
  none_short : (bytes : List ℕ) → length bytes < 1 → NoneBegins piece.is bytes
  none_short bytes short x front rest same is =
      omega (arith, ap length same, length-append front rest, has.some x front is)

  none_behind : (n b k : ℕ) (bytes : List ℕ) → GoesOn piece b n → length (take k (b ∷ bytes)) ≤ n
      → NoneBegins piece.is (take k (b ∷ bytes))
  none_behind n b zero bytes on short x front rest same is =
      omega (arith, ap length same, length-append front rest, has.some x front is)
  none_behind n b (suc k) bytes on short x front rest same is =
      let first : slice_index front 0 ≡ b =
      sym (first-append front rest (has.some x front is))
      ∙ ap (λ t. slice_index t 0) (sym same) in
      omega (arith, ap length same, length-append front rest, on.more x front is first)

  -- bytes that begin with b and are too few
  pub none_few : (n b : ℕ) (bytes : List ℕ) → GoesOn piece b n → length bytes < n
      → NoneBegins piece.is (b ∷ bytes)
  none_few n b bytes on few =
      let size = length (b ∷ bytes) in
      let whole : take size (b ∷ bytes) ≡ b ∷ bytes = take_all size (b ∷ bytes) (omega arith) in
      subst (NoneBegins piece.is) whole
      (none_behind n b size bytes on (omega (arith, length-take size (b ∷ bytes), few)))

  fault_of : (limit : ℕ) (source source' : SourceState) (n read taken : ℕ) (e : StreamFault)
      → TakeFault n limit source'.failed read taken e
      → ReadFault piece limit source source'.failed taken e
  fault_of limit source source' n read taken Read h = (h.0, h.1)
  fault_of limit source source' n read taken TooLong h = h
  fault_of limit source source' n read taken (Demo f) h = absurd h

  module _ {limit : ℕ} {source source' : SourceState} {taken taken' : ℕ} where
    -- the first byte didn't come
    pub Reads-no_byte : {B : Type 0} {is : List ℕ → B → Type 0} (e : StreamFault) → taken ≤ limit
        → Takes is 1 limit source source' taken taken' (Err e)
        → Reads piece limit source source' taken taken' (Err e)
    Reads-no_byte e room t = record {
      read = t.read;
      given = t.given;
      counted = t.counted;
      needed = has.first t.read t.wanted;
      found = tt;
      within = tt;
      sound = tt;
      fault = fault_of limit source source' 1 (length t.read) taken' e t.fault;
      none =
          none_short _
          (short_read 1 limit source'.failed t.read taken taken' e room t.counted t.wanted t.fault);
    }

    -- the bytes are no piece
    Reads-refused : (read : List ℕ) (fault : DemoFault) → Consumes source.left source'.left read
        → taken' ≡ taken + length read → taken' ≤ limit → source'.failed ≡ false
        → piece.needs read → IfSome source.left (λ left. piece.refuses left fault)
        → NoneBegins piece.is read
        → Reads piece limit source source' taken taken' (Err (Demo fault))
    Reads-refused read fault given counted within sound needed is none =
        let whole : take (limit - taken) read ≡ read =
        take_all _ read (omega (arith, counted, within)) in
        record {
          read = read;
          given = given;
          counted = counted;
          needed = needed;
          found = tt;
          within = tt;
          sound = tt;
          fault = (sound, within, is);
          none = subst (NoneBegins piece.is) (sym whole) none;
        }

    -- no byte is left
    pub Reads-empty : (fault : DemoFault) → piece.refuses [] fault
        → Takes IsByte 1 limit source source' taken taken' (Ok None)
        → Reads piece limit source source' taken taken' (Err (Demo fault))
    Reads-empty fault is t =
        let none : length t.read < 1 = omega (arith, ap length t.found) in
        Reads-refused t.read fault t.given t.counted t.within t.sound (has.first t.read t.wanted)
        (Consumes-whole source.left source'.left t.read (λ left. piece.refuses left fault) t.given
        (t.ended none) (subst (λ (xs : List ℕ). piece.refuses xs fault) (sym t.found) is))
        (none_short t.read none)

    -- the first byte is the piece
    pub Reads-byte : (b : ℕ) (x : A) → piece.is (b ∷ []) x
        → Takes IsByte 1 limit source source' taken taken' (Ok (Some b))
        → Reads piece limit source source' taken taken' (Ok x)
    Reads-byte b x is t = record {
      read = t.read;
      given = t.given;
      counted = t.counted;
      needed = has.first t.read t.wanted;
      found = subst (λ (xs : List ℕ). piece.is xs x) (sym t.found) is;
      within = t.within;
      sound = t.sound;
      fault = tt;
      none = tt;
    }

    -- the first byte is refused
    pub Reads-bad_byte : (b : ℕ) (fault : DemoFault) → NoneBegins piece.is (b ∷ [])
        → ((more : List ℕ) → piece.refuses (b ∷ more) fault)
        → Takes IsByte 1 limit source source' taken taken' (Ok (Some b))
        → Reads piece limit source source' taken taken' (Err (Demo fault))
    Reads-bad_byte b fault none is t =
        let given : Consumes source.left source'.left (b ∷ []) =
        subst (Consumes source.left source'.left) t.found t.given in
        Reads-refused (b ∷ []) fault given
        (t.counted ∙ ap (λ (xs : List ℕ). taken + length xs) t.found) t.within t.sound
        (has.first (b ∷ []) (omega arith))
        (Consumes-front source.left source'.left (b ∷ [])
        (λ left. piece.refuses left fault) given is) none

  -- the first byte b came, and n more were asked for
  module _ {limit : ℕ} {source between : SourceState} {taken now : ℕ} (n b : ℕ)
      (on : GoesOn piece b n)
      (byte : Takes IsByte 1 limit source between taken now (Ok (Some b))) where
    one_more : now ≡ taken + 1
    one_more = byte.counted ∙ ap (λ (xs : List ℕ). taken + length xs) byte.found

    given_both : (left : Option (List ℕ)) (more : List ℕ) → Consumes between.left left more
        → Consumes source.left left (b ∷ more)
    given_both left more given =
        let first : Consumes source.left between.left (b ∷ []) =
        subst (Consumes source.left between.left) byte.found byte.given in
        Consumes-trans source.left between.left left (b ∷ []) more first given

    module _ {source' : SourceState} {taken' : ℕ} where
      -- they didn't come
      pub Reads-no_rest : (buf : List ℕ) (e : StreamFault)
          → Takes (Fills buf) n limit between source' now taken' (Err e)
          → Reads piece limit source source' taken taken' (Err e)
      Reads-no_rest buf e t =
          let counted : taken' ≡ taken + 1 + length t.read =
          t.counted ∙ ap (λ m. m + length t.read) one_more in
          record {
            read = b ∷ t.read;
            given = given_both source'.left t.read t.given;
            counted = omega (arith, counted);
            needed = on.others t.read t.wanted;
            found = tt;
            within = tt;
            sound = tt;
            fault = fault_of limit source source' n (length t.read) taken' e t.fault;
            none =
                none_behind n b (limit - taken) t.read on
                (short_behind n limit source'.failed b t.read taken taken' e counted t.wanted
                t.fault);
          }

      -- they were too few
      pub Reads-short : (buf : List ℕ) (fault : DemoFault) → length buf ≡ n
          → ((more : List ℕ) → length more < n → piece.refuses (b ∷ more) fault)
          → Takes (Fills buf) n limit between source' now taken' (Ok false)
          → Reads piece limit source source' taken taken' (Err (Demo fault))
      Reads-short buf fault long is t =
          let few : length t.read < n = omega (arith, t.found, long) in
          let given = given_both source'.left t.read t.given in
          Reads-refused (b ∷ t.read) fault given
          (omega (arith, t.counted, one_more)) t.within t.sound (on.others t.read t.wanted)
          (Consumes-whole source.left source'.left (b ∷ t.read)
          (λ left. piece.refuses left fault) given (t.ended few) (is t.read few))
          (none_few n b t.read on few)

      -- with the first they are the piece
      pub Reads-whole : (buf : List ℕ) (x : A) → piece.is (b ∷ buf) x
          → Takes (Fills buf) n limit between source' now taken' (Ok true)
          → Reads piece limit source source' taken taken' (Ok x)
      Reads-whole buf x is t = record {
        read = b ∷ t.read;
        given = given_both source'.left t.read t.given;
        counted = omega (arith, t.counted, one_more);
        needed = on.others t.read t.wanted;
        found = subst (λ (xs : List ℕ). piece.is (b ∷ xs) x) (sym t.found) is;
        within = t.within;
        sound = t.sound;
        fault = tt;
        none = tt;
      }

      -- or refused
      pub Reads-bad : (buf : List ℕ) (fault : DemoFault) → NoneBegins piece.is (b ∷ buf)
          → ((more : List ℕ) → piece.refuses ((b ∷ buf) ++ more) fault)
          → Takes (Fills buf) n limit between source' now taken' (Ok true)
          → Reads piece limit source source' taken taken' (Err (Demo fault))
      Reads-bad buf fault none is t =
          let given : Consumes source.left source'.left (b ∷ buf) =
          subst (λ (xs : List ℕ). Consumes source.left source'.left (b ∷ xs)) t.found
          (given_both source'.left t.read t.given) in
          Reads-refused (b ∷ buf) fault given
          (omega (arith, t.counted, one_more, ap length t.found)) t.within t.sound
          (subst (λ (xs : List ℕ). piece.needs (b ∷ xs)) t.found (on.others t.read t.wanted))
          (Consumes-front source.left source'.left (b ∷ buf)
          (λ left. piece.refuses left fault) given is) none

-- a header has 13 bytes
pub header_has_byte : HasByte header_piece
header_has_byte = record {
  some = λ header front is. omega (arith, is.long);
  first = λ read few. (λ more. absurd (omega arith), omega arith);
}

pub header_goes_on : (b : ℕ) → IsVersion b → GoesOn header_piece b 12
header_goes_on b version = record {
  more = λ header front is first. omega (arith, is.long);
  others = λ read few. (λ more. version, omega arith);
}

-- a first byte that is no version
pub no_version : (b : ℕ) → ¬ IsVersion b → NoneBegins IsHeader (b ∷ [])
no_version b other header front rest same is =
    omega (arith, ap length same, length-append front rest, is.long)

pub no_version_refused : (b : ℕ) → ¬ IsVersion b → (more : List ℕ)
    → RefusesHeader (b ∷ more) (Version b)
no_version_refused b other more = (omega arith, refl, other)

-- bytes that are too few for a header
pub short_header : (b : ℕ) (more : List ℕ) → IsVersion b → length more < 12
    → RefusesHeader (b ∷ more) ShortHeader
short_header b more version few = (omega arith, version, omega arith)

-- thirteen bytes with no player
pub no_players : (b : ℕ) (more : List ℕ) → length more ≡ 12
    → players_in (header_of (b ∷ more)).players ≡ 0 → NoneBegins IsHeader (b ∷ more)
no_players b more long none header front rest same is =
    let all : front ≡ b ∷ more =
    sym (take_at front rest 13 is.long) ∙ ap (take 13) (sym same)
    ∙ take_all 13 (b ∷ more) (omega (arith, long)) in
    let zero : players_in header.players ≡ 0 =
    ap (λ (h : Header). players_in h.players) (sym is.reads)
    ∙ ap (λ t. players_in (header_of t).players) all ∙ none in
    omega (arith, is.players, zero)

pub no_players_refused : (b : ℕ) (more : List ℕ) → length more ≡ 12 → IsVersion b
    → players_in (header_of (b ∷ more)).players ≡ 0 → (rest : List ℕ)
    → RefusesHeader ((b ∷ more) ++ rest) NoPlayers
no_players_refused b more long version none rest =
    let whole : take 13 ((b ∷ more) ++ rest) ≡ b ∷ more =
    take_at (b ∷ more) rest 13 (omega (arith, long)) in (
      omega (arith, length-append (b ∷ more) rest, long),
      version,
      ap (λ t. players_in (header_of t).players) whole ∙ none,
    )

-- a command has its version's size, and the marker is one byte
module _ (version taken : ℕ) where
  pub next_has_byte : HasByte (next_piece version taken)
  next_has_byte = record {
    some = is_some;
    first =
        λ read few. (λ more. absurd (omega arith), omega (arith, (command_size-some version).0));
  } where
    is_some : (x : Option Command) (front : List ℕ) → IsNext version front x → 0 < length front
    is_some (Some c) front is = omega (arith, is.long, (command_size-some version).0)
    is_some None front is = omega (arith, ap length is)

  pub next_goes_on : (n b : ℕ) → n + 1 ≡ command_size version → b ≢ 128
      → GoesOn (next_piece version taken) b n
  next_goes_on n b size unmarked = record {
    more = is_long;
    others = λ read few. (λ more. unmarked, omega (arith, size));
  } where
    is_long : (x : Option Command) (front : List ℕ) → IsNext version front x
        → slice_index front 0 ≡ b → n < length front
    is_long (Some c) front is first = omega (arith, is.long, size)
    is_long None front is first = absurd (unmarked (sym first ∙ ap (λ t. slice_index t 0) is))

  -- no byte at all
  pub no_next : RefusesNext version taken [] (NoMarker taken)
  no_next = (refl, none_short (next_piece version taken) next_has_byte [] (omega arith))

  -- bytes that are too few for a command
  pub short_next : (n b : ℕ) (more : List ℕ) → n + 1 ≡ command_size version → b ≢ 128
      → length more < n → RefusesNext version taken (b ∷ more) (NoMarker taken)
  short_next n b more size unmarked few = (
    refl,
    none_few (next_piece version taken) next_has_byte n b more
        (next_goes_on n b size unmarked) few,
  )
