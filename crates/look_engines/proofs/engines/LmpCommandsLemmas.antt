-- Commands that were read and listed.
use Rattle.std.specs.Prelude.{IfSome}
use Rattle.std.proofs.Common.{◌≡◌, ℕ, ◌+◌, ◌-◌, ◌*◌, ◌≤◌, true, false, List, [], ◌∷◌, ◌++◌, length, take, Option, Some, None, Result, Ok, Err, refl, sym, ap, ◌∙◌, arith, subst, length-append}
use Rattle.std.proofs.KnownBytes.{Appends-nil, Appends-trans, Consumes-nil, Consumes-trans}
use Rattle.std.proofs.Math.Nat.{mul-le-mul_left}
use Rattle.std.proofs.lemmas.List.{append-nil}
use Rattle.std.specs.Io.KnownBytes.{Appends, Consumes}
use Rattle.demo_lump.specs.Command.{command_size}
use Rattle.demo_lump.specs.Demo.{AreCommands}
use Rattle.demo_lump.specs.DemoReader.{DemoReader, ReadsNext}
use Rattle.demo_lump.specs.NextPiece.{IsNext, RefusesNext}
use Rattle.demo_lump.specs.Pieces.{NoneBegins}
use Rattle.demo_lump.specs.declared.command.Command.{Command}
use Rattle.demo_lump.specs.declared.header.Header.{Header}
use Rattle.demo_lump.specs.declared.fault.StreamFault.{StreamFault}
use Rattle.demo_lump.specs.declared.fault.StreamFault.TheVariants as stream
use Rattle.demo_lump.proofs.CommandLemmas.{AreCommands-last, AreCommands-length}
use Rattle.demo_lump.proofs.ReadingLemmas.{command_size-some}
use Rattle.le_rec.specs.Sink.{SinkState}
use Rattle.le_rec.specs.Source.{SourceState}
use Rattle.line_io.proofs.WriteLemmas.{TakesFront-after}
use Rattle.line_io.specs.Writes.{TakesFront, Writes}
use Rattle.line_io.specs.declared.fault.IoFault.{IoFault}
use Rattle.line_io.specs.declared.fault.IoFault.TheVariants as io
use Rattle.look_engines.proofs.ListingLemmas.{ticcmds_text-last}
use Rattle.look_engines.specs.Listing.{ticcmd_line, ticcmds_text}
use Rattle.look_engines.specs.Turn.{PlayerTurn, player_of, tic_of}
use Rattle.look_engines.specs.Engines.Lmp.{TiccmdsFault, ListsCommands}
use Rattle.look_engines.specs.Fault.{run_fault, stream_fault}
use Rattle.look_engines.proofs.engines.KnownBytesLemmas.{taken_then}

-- the commands so far
pub record Listed (header : Header) (start : ℕ) (source source' : SourceState) (taken : ℕ) (out out' : SinkState) (count : ℕ) : Type 0 where
  pub commands : List Command
  pub body : List ℕ
  pub given : Consumes source.left source'.left body
  pub counted : taken ≡ start + length body
  pub follow : AreCommands header.version body commands
  pub wrote : Appends out.taken out'.taken (ticcmds_text header.players 0 commands)
  pub listed : length commands ≡ count

-- there are fewer than their bytes
pub Listed-few : {header : Header} {start : ℕ} {source source' : SourceState} {taken : ℕ} {out out' : SinkState} {count : ℕ} → Listed header start source source' taken out out' count → count + count ≤ taken
Listed-few {header = header} l =
    let size = command_size header.version in
    let some : 2 ≤ size = omega (arith, (command_size-some header.version).0) in
    let more : length l.commands * 2 ≤ length l.commands * size = mul-le-mul_left (length l.commands) some in
    omega (arith, l.counted, AreCommands-length header.version l.body l.commands l.follow, l.listed, more)

pub Listed-none : (header : Header) (start : ℕ) (source : SourceState) (out : SinkState) → Listed header start source source start out out 0
Listed-none header start source out = record {
  commands = [];
  body = [];
  given = Consumes-nil source.left;
  counted = omega arith;
  follow = refl;
  wrote = Appends-nil out.taken;
  listed = refl;
}

-- a reader that goes on reads the next command
pub next_reads : {header : Header} {source source' : SourceState} {result : Result (Option Command) StreamFault} (old reader new : DemoReader)
    → reader ≡ record old { taken = reader.taken } → old.fault ≡ None → old.ended ≡ false → old.header ≡ Some header
    → (reader.fault ≡ None → reader.ended ≡ false → IfSome reader.header (λ h. ReadsNext h.version source source' reader new result))
    → ReadsNext header.version source source' reader new result
next_reads {header} {source} {source'} {result} old reader new state going begun same known =
    let fault : reader.fault ≡ None = ap (λ (r : DemoReader). r.fault) state ∙ going in
    let ended : reader.ended ≡ false = ap (λ (r : DemoReader). r.ended) state ∙ begun in
    let is : reader.header ≡ Some header = ap (λ (r : DemoReader). r.header) state ∙ same in
    subst (λ (o : Option Header). IfSome o (λ h. ReadsNext h.version source source' reader new result)) is (known fault ended)

module _ {header : Header} {limit : ℕ} {source mid source' : SourceState} {out out' : SinkState} (old reader new : DemoReader) (count : ℕ)
    (listed : Listed header old.taken source mid reader.taken out out' count) (bound : reader.limit ≡ limit) (before_room : reader.taken ≤ limit) where
  none_within : (e : StreamFault) → ReadsNext header.version mid source' reader new (Err e) → (tail : List ℕ) → NoneBegins (IsNext header.version) (take (reader.limit - reader.taken) tail)
      → NoneBegins (IsNext header.version) (take (limit - (old.taken + length listed.body)) tail)
  none_within e r tail none = rw (← bound, ← listed.counted) none

  reading_fault : (e : StreamFault) → out'.failed ≡ false → (r : ReadsNext header.version mid source' reader new (Err e))
      → TiccmdsFault header limit source source'.failed out out' listed.body r.reads.read (old.taken + length listed.body) new.taken listed.commands (stream_fault e)
  reading_fault stream.Read sound r = (
    (r.reads.fault.0, sound, rw (← bound) r.reads.fault.1),
    none_within stream.Read r r.reads.read r.reads.none,
    listed.wrote,
  )
  reading_fault stream.TooLong sound r = (
    (r.reads.fault.0, sound, rw (← bound) r.reads.fault.1),
    none_within stream.TooLong r r.reads.read r.reads.none,
    listed.wrote,
  )
  reading_fault (stream.Demo why) sound r = (
    (
      r.reads.fault.0,
      sound,
      omega (arith, r.reads.fault.1, bound),
      taken_then (λ more. RefusesNext header.version (old.taken + length listed.body) more why) (λ left. (more : List ℕ) × (left ≡ listed.body ++ more) × RefusesNext header.version (old.taken + length listed.body) more why) source.left mid.left listed.body listed.given (λ more h. (more, refl, h)) (rw (← listed.counted) r.reads.fault.2),
    ),
    none_within (stream.Demo why) r r.reads.read r.reads.none,
    listed.wrote,
  )

  -- a reading that failed
  pub stops_reading : (e : StreamFault) → out'.failed ≡ false → ReadsNext header.version mid source' reader new (Err e)
      → ListsCommands header limit source source' out out' old new (Err (stream_fault e))
  stops_reading e sound r = record {
    commands = listed.commands;
    body = listed.body;
    tail = r.reads.read;
    given = Consumes-trans source.left mid.left source'.left listed.body r.reads.read listed.given r.reads.given;
    counted = omega (arith, r.reads.counted, listed.counted);
    follow = listed.follow;
    room = omega (arith, listed.counted, before_room);
    marked = tt;
    wrote = tt;
    turn = tt;
    state = tt;
    within = tt;
    sound = tt;
    fault = reading_fault e sound r;
  }

  -- the marker
  pub ends_marked : (turn : PlayerTurn) → out'.failed ≡ false → reader ≡ record old { taken = reader.taken } → turn ≡ record { players = header.players; index = count }
      → ReadsNext header.version mid source' reader new (Ok None)
      → ListsCommands header limit source source' out out' old new (Ok turn)
  ends_marked turn sound state is r = record {
    commands = listed.commands;
    body = listed.body;
    tail = r.reads.read;
    given = Consumes-trans source.left mid.left source'.left listed.body r.reads.read listed.given r.reads.given;
    counted = omega (arith, r.reads.counted, listed.counted);
    follow = listed.follow;
    room = omega (arith, listed.counted, before_room);
    marked = r.reads.found;
    wrote = listed.wrote;
    turn = is ∙ ap (λ (n : ℕ). record { players = header.players; index = n }) (sym listed.listed);
    state = r.state ∙ ap (λ (x : DemoReader). record x { taken = new.taken; ended = true }) state;
    within = omega (arith, r.reads.within, bound);
    sound = (r.reads.sound, sound);
    fault = tt;
  }

  -- one more command was read, and its line is being written
  module _ (c : Command) (r : ReadsNext header.version mid source' reader new (Ok (Some c))) where
    abbrev line : List ℕ
    line = ticcmd_line (tic_of header.players count) (player_of header.players count) c

    text_is : ticcmds_text header.players 0 (listed.commands ++ c ∷ []) ≡ ticcmds_text header.players 0 listed.commands ++ line
    text_is =
        let here : 0 + length listed.commands ≡ count = omega (arith, listed.listed) in
        ticcmds_text-last header.players 0 listed.commands c
        ∙ ap (λ n. ticcmds_text header.players 0 listed.commands ++ ticcmd_line (tic_of header.players n) (player_of header.players n) c) here

    taken_more : Consumes source.left source'.left (listed.body ++ r.reads.read)
    taken_more = Consumes-trans source.left mid.left source'.left listed.body r.reads.read listed.given r.reads.given

    pub Listed-more : (after : SinkState) → Appends out'.taken after.taken line → Listed header old.taken source source' new.taken out after (count + 1)
    Listed-more after wrote = record {
      commands = listed.commands ++ c ∷ [];
      body = listed.body ++ r.reads.read;
      given = taken_more;
      counted = omega (arith, r.reads.counted, listed.counted, length-append listed.body r.reads.read);
      follow = AreCommands-last header.version listed.body r.reads.read listed.commands c listed.follow r.reads.found;
      wrote = subst (Appends out.taken after.taken) (sym text_is) (Appends-trans out.taken out'.taken after.taken (ticcmds_text header.players 0 listed.commands) line listed.wrote wrote);
      listed = length-append listed.commands (c ∷ []) ∙ ap (λ n. n + 1) listed.listed;
    }

    pub state_more : reader ≡ record old { taken = reader.taken } → new ≡ record old { taken = new.taken }
    state_more state = r.state ∙ ap (λ (x : DemoReader). record x { taken = new.taken }) state

    pub stops_writing : {T : Type 0} (after : SinkState) (e : IoFault) → Writes {T = T} out' after line (Err e)
        → ListsCommands header limit source source' out after old new (Err (run_fault e))
    stops_writing after io.Write w = record {
      commands = listed.commands ++ c ∷ [];
      body = listed.body ++ r.reads.read;
      tail = [];
      given = rw (append-nil (listed.body ++ r.reads.read)) taken_more;
      counted = omega (arith, r.reads.counted, listed.counted, length-append listed.body r.reads.read);
      follow = AreCommands-last header.version listed.body r.reads.read listed.commands c listed.follow r.reads.found;
      room = omega (arith, r.reads.within, bound, r.reads.counted, listed.counted, length-append listed.body r.reads.read);
      marked = tt;
      wrote = tt;
      turn = tt;
      state = tt;
      within = tt;
      sound = tt;
      fault = (
        (r.reads.sound, w.ends.fault),
        refl,
        omega (arith, r.reads.within, bound),
        subst (TakesFront out after) (sym text_is) (TakesFront-after out out' after _ listed.wrote w.takes.front),
        record {
          told = listed.commands;
          last = c;
          are = refl;
          stops = (
            out',
            listed.wrote,
            subst (λ n. TakesFront out' after (ticcmd_line (tic_of header.players n) (player_of header.players n) c))
                (sym listed.listed) w.takes.front,
          );
        },
      );
    }
    stops_writing after io.Memory w = absurd w.ends.fault
    stops_writing after io.Read w = absurd w.ends.fault
    stops_writing after io.TooLong w = absurd w.ends.fault
