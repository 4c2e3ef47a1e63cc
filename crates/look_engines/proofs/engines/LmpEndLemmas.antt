-- How the listing of a demo ends.
use Rattle.std.proofs.Common.{◌≡◌, ℕ, zero, suc, ◌+◌, ◌-◌, ◌≤◌, false, List, [], ◌∷◌, ◌++◌, length, take, Some, Result, Ok, Err, inl, inr, refl, sym, ap, ◌∙◌, arith, subst, length-append}
use Rattle.std.proofs.KnownBytes.{Appends-nil, Appends-trans, Consumes-nil, Consumes-trans}
use Rattle.std.proofs.Math.Seq.{take-append-add}
use Rattle.std.proofs.lemmas.List.{append-nil, append_assoc}
use Rattle.std.specs.Io.KnownBytes.{Appends, Consumes}
use Rattle.demo_lump.specs.Command.{IsCommand}
use Rattle.demo_lump.specs.Demo.{AreCommands, Demo, IsRead, RefusesDemo}
use Rattle.demo_lump.specs.DemoReader.{DemoReader, ReadsHeader, ReadsRest}
use Rattle.demo_lump.specs.Header.{IsHeader, RefusesHeader}
use Rattle.demo_lump.specs.NextPiece.{IsNext, RefusesNext}
use Rattle.demo_lump.specs.Pieces.{NoneBegins}
use Rattle.demo_lump.specs.declared.command.Command.{Command}
use Rattle.demo_lump.specs.declared.header.Header.{Header}
use Rattle.demo_lump.specs.declared.fault.StreamFault.{StreamFault}
use Rattle.demo_lump.specs.declared.fault.StreamFault.TheVariants as stream
use Rattle.demo_lump.proofs.CommandLemmas.{short_stops}
use Rattle.demo_lump.proofs.DemoLemmas.{RefusesDemo-header}
use Rattle.demo_lump.proofs.PieceLemmas.{stops_behind}
use Rattle.demo_lump.proofs.ReadingLemmas.{command_size-some, marker_stops}
use Rattle.le_rec.specs.Sink.{SinkState}
use Rattle.le_rec.specs.Source.{SourceState}
use Rattle.line_io.proofs.WriteLemmas.{TakesFront-after}
use Rattle.line_io.specs.Writes.{TakesFront, Writes}
use Rattle.line_io.specs.declared.fault.IoFault.{IoFault}
use Rattle.line_io.specs.declared.fault.IoFault.TheVariants as io
use Rattle.look_engines.specs.Listing.{ticcmds_text, header_line, listing, totals_text}
use Rattle.look_engines.specs.Turn.{PlayerTurn}
use Rattle.look_engines.specs.Engines.Lmp.{AreLines, IsText, ListsCommands, ListsDemo, in_ticcmd, in_header, in_totals}
use Rattle.look_engines.specs.Fault.{run_end, run_fault, stream_fault}
use Rattle.look_engines.specs.declared.fault.RunFault.{RunFault}
use Rattle.look_engines.specs.declared.fault.RunFault.TheVariants as fault
use Rattle.look_engines.proofs.engines.KnownBytesLemmas.{taken_then, begun_with, ended_with}
use Rattle.look_engines.proofs.engines.LmpTextLemmas.{front_of_text}

-- what was read within the limit
within_limit : (limit : ℕ) (front body tail : List ℕ) → length front + length body ≤ limit → take limit (front ++ (body ++ tail)) ≡ front ++ (body ++ take (limit - (length front + length body)) tail)
within_limit limit front body tail h =
    let one : length front + (limit - length front) ≡ limit = omega (arith, h) in
    let two : length body + (limit - (length front + length body)) ≡ limit - length front = omega (arith, h) in
    ap (λ n. take n (front ++ (body ++ tail))) (sym one) ∙ take-append-add front (body ++ tail) (limit - length front)
    ∙ ap (λ n. front ++ take n (body ++ tail)) (sym two) ∙ ap (λ t. front ++ t) (take-append-add body tail (limit - (length front + length body)))

stops_at_marker : (version k : ℕ) (rest : List ℕ) → NoneBegins (IsCommand version) (take k (128 ∷ rest))
stops_at_marker version zero rest = short_stops version [] (omega (arith, (command_size-some version).0))
stops_at_marker version (suc k) rest = marker_stops version (take k rest)

length-read : (front body tail : List ℕ) → length (front ++ (body ++ tail)) ≡ length front + length body + length tail
length-read front body tail = omega (arith, length-append front (body ++ tail), length-append body tail)

-- a header was read: `start` is the source before it, and `out` the sink
module _ (header : Header) (front : List ℕ) (start : SourceState) (out : SinkState) (begins : IsHeader front header) where
  -- its line couldn't be written
  pub ends_header : {T : Type 0} (limit : ℕ) (source : SourceState) (out' : SinkState) (e : IoFault) → source.failed ≡ false → length front ≤ limit → Consumes start.left source.left front
      → Writes {T = T} out out' (header_line header) (Err e) → ListsDemo limit start source out out' (Err (run_fault e))
  ends_header limit source out' io.Write works room given w = record {
    read = front;
    given = given;
    whole = tt;
    all_read = tt;
    within = tt;
    sound = tt;
    bounded = omega (arith, room);
    fault = (works, w.ends.fault);
    lines = (
      begun_with (λ left. (text : List ℕ) × IsText left text × TakesFront out out' text) start.left source.left front given (λ more.
          front_of_text front [] more header [] begins refl out out' (rw (append-nil (header_line header)) w.takes.front)),
      in_header header begins w.takes.front,
    );
  }
  ends_header limit source out' io.Memory works room given w = absurd w.ends.fault
  ends_header limit source out' io.Read works room given w = absurd w.ends.fault
  ends_header limit source out' io.TooLong works room given w = absurd w.ends.fault

  -- the lines of the commands that were read
  module _ (limit : ℕ) (body : List ℕ) (commands : List Command) (follow : AreCommands header.version body commands) (room : length front + length body ≤ limit)
      (between out' : SinkState) (headed : Appends out.taken between.taken (header_line header)) (wrote : Appends between.taken out'.taken (ticcmds_text header.players 0 commands)) where
    lines_of : (tail : List ℕ) → NoneBegins (IsCommand header.version) (take (limit - (length front + length body)) tail)
        → (text : List ℕ) × AreLines (take limit (front ++ (body ++ tail))) text × Appends out.taken out'.taken text
    lines_of tail most = (
      header_line header ++ ticcmds_text header.players 0 commands,
      inr (record {
        header = header;
        commands = commands;
        front = front;
        body = body;
        rest = take (limit - (length front + length body)) tail;
        joined = within_limit limit front body tail room;
        begins = begins;
        follow = follow;
        most = most;
        is = refl;
      }),
      Appends-trans out.taken between.taken out'.taken (header_line header) (ticcmds_text header.players 0 commands) headed wrote,
    )

  -- the commands stopped
  module _ {limit : ℕ} {source source' : SourceState} {between out' : SinkState} {old new : DemoReader} (begun : old.taken ≡ length front) (given : Consumes start.left source.left front)
      (headed : Appends out.taken between.taken (header_line header)) where
    module _ {e : RunFault} (l : ListsCommands header limit source source' between out' old new (Err e)) where
      stop_given : Consumes start.left source'.left (front ++ (l.body ++ l.tail))
      stop_given = Consumes-trans start.left source.left source'.left front (l.body ++ l.tail) given l.given

      stop_count : length (front ++ (l.body ++ l.tail)) ≡ new.taken
      stop_count = omega (arith, length-read front l.body l.tail, l.counted, begun)

      stop_room : length front + length l.body ≤ limit
      stop_room = omega (arith, l.room, begun)

      stop_lines : NoneBegins (IsNext header.version) (take (limit - (old.taken + length l.body)) l.tail) → Appends between.taken out'.taken (ticcmds_text header.players 0 l.commands)
          → (text : List ℕ) × AreLines (take limit (front ++ (l.body ++ l.tail))) text × Appends out.taken out'.taken text
      stop_lines none wrote =
          let place : length front + length l.body ≡ old.taken + length l.body = omega (arith, begun) in
          lines_of limit l.body l.commands l.follow stop_room between out' headed wrote l.tail
          (λ c piece more same k. none (Some c) piece more (ap (λ n. take (limit - n) l.tail) (sym place) ∙ same) k)

    pub ends_commands : (e : RunFault) → ListsCommands header limit source source' between out' old new (Err e) → ListsDemo limit start source' out out' (Err e)
    ends_commands fault.Write l = record {
      read = front ++ (l.body ++ l.tail);
      given = stop_given l;
      whole = tt;
      all_read = tt;
      within = tt;
      sound = tt;
      bounded = omega (arith, stop_count l, l.fault.2);
      fault = l.fault.0;
      lines = (
        begun_with (λ left. (text : List ℕ) × IsText left text × TakesFront out out' text) start.left source'.left (front ++ (l.body ++ l.tail)) (stop_given l) (λ more.
            let all : (front ++ (l.body ++ l.tail)) ++ more ≡ front ++ (l.body ++ (l.tail ++ more)) = simp append_assoc in
            rw all (front_of_text front l.body (l.tail ++ more) header l.commands begins l.follow out out' (TakesFront-after out between out' (header_line header) headed l.fault.3))),
        in_ticcmd header l.commands front l.body between
            (ap (λ t. front ++ (l.body ++ t)) l.fault.1 ∙ ap (λ b. front ++ b) (append-nil l.body)) begins l.follow headed l.fault.4,
      );
    }
    ends_commands fault.Read l = record {
      read = front ++ (l.body ++ l.tail);
      given = stop_given l;
      whole = tt;
      all_read = tt;
      within = tt;
      sound = tt;
      bounded = omega (arith, stop_count l, l.fault.0.2);
      fault = (l.fault.0.0, l.fault.0.1, omega (arith, stop_count l, l.fault.0.2));
      lines = stop_lines l l.fault.1 l.fault.2;
    }
    ends_commands fault.TooLong l = record {
      read = front ++ (l.body ++ l.tail);
      given = stop_given l;
      whole = tt;
      all_read = tt;
      within = tt;
      sound = tt;
      bounded = omega (arith, stop_count l, l.fault.0.2);
      fault = (l.fault.0.0, l.fault.0.1, omega (arith, stop_count l, l.fault.0.2));
      lines = stop_lines l l.fault.1 l.fault.2;
    }
    ends_commands (fault.Demo why) l = record {
      read = front ++ (l.body ++ l.tail);
      given = stop_given l;
      whole = tt;
      all_read = tt;
      within = tt;
      sound = tt;
      bounded = omega (arith, stop_count l, l.fault.0.2);
      fault = (
        l.fault.0.0,
        l.fault.0.1,
        omega (arith, stop_count l, l.fault.0.2),
        taken_then (λ left. (more : List ℕ) × (left ≡ l.body ++ more) × RefusesNext header.version (old.taken + length l.body) more why) (λ left. RefusesDemo left why) start.left source.left front given
            (λ left h. subst (λ (b : List ℕ). RefusesDemo (front ++ b) why) (sym h.1)
            (stops_behind header l.commands front l.body h.0 (old.taken + length l.body) why begins l.follow (omega (arith, begun)) h.2))
            l.fault.0.3,
      );
      lines = stop_lines l l.fault.1 l.fault.2;
    }
    ends_commands (fault.Set n why) l = absurd l.fault
    ends_commands (fault.Lump why) l = absurd l.fault
    ends_commands (fault.Level why) l = absurd l.fault
    ends_commands fault.Audit l = absurd l.fault
    ends_commands fault.NoBlockMap l = absurd l.fault
    ends_commands (fault.Pack why) l = absurd l.fault
    ends_commands fault.Memory l = absurd l.fault

    -- the marker was read
    module _ {turn : PlayerTurn} (bound : old.limit ≡ limit) (l : ListsCommands header limit source source' between out' old new (Ok turn)) where
      rest_limit : new.limit ≡ limit
      rest_limit = ap (λ (r : DemoReader). r.limit) l.state ∙ bound

      rest_given : (last : SourceState) (rest : List ℕ) → Consumes source'.left last.left rest → Consumes start.left last.left (front ++ (l.body ++ 128 ∷ rest))
      rest_given last rest after =
          let all : (front ++ (l.body ++ l.tail)) ++ rest ≡ front ++ (l.body ++ 128 ∷ rest) =
          ap (λ t. (front ++ (l.body ++ t)) ++ rest) l.marked ∙ simp append_assoc in
          subst (Consumes start.left last.left) all
          (Consumes-trans start.left source'.left last.left (front ++ (l.body ++ l.tail)) rest (Consumes-trans start.left source.left source'.left front (l.body ++ l.tail) given l.given) after)

      rest_count : (end : DemoReader) (rest : List ℕ) → end.taken ≡ new.taken + length rest → length (front ++ (l.body ++ 128 ∷ rest)) ≡ end.taken
      rest_count end rest counted = omega (arith, length-read front l.body (128 ∷ rest), counted, l.counted, ap length l.marked, begun)

      rest_lines : (rest : List ℕ) → (text : List ℕ) × AreLines (take limit (front ++ (l.body ++ 128 ∷ rest))) text × Appends out.taken out'.taken text
      rest_lines rest = lines_of limit l.body l.commands l.follow (omega (arith, l.room, begun)) between out' headed l.wrote (128 ∷ rest) (stops_at_marker header.version _ rest)

      module _ {last : SourceState} {end : DemoReader} where
        pub ends_rest : (e : StreamFault) → ReadsRest source' last new end (Err e) → ListsDemo limit start last out out' (Err (stream_fault e))
        ends_rest stream.Read r = record {
          read = front ++ (l.body ++ 128 ∷ r.reads.read);
          given = rest_given last r.reads.read r.reads.given;
          whole = tt;
          all_read = tt;
          within = tt;
          sound = tt;
          bounded = omega (arith, rest_count end r.reads.read r.reads.counted, r.reads.fault.1, rest_limit);
          fault = (r.reads.fault.0, l.sound.1, omega (arith, rest_count end r.reads.read r.reads.counted, r.reads.fault.1, rest_limit));
          lines = rest_lines r.reads.read;
        }
        ends_rest stream.TooLong r = record {
          read = front ++ (l.body ++ 128 ∷ r.reads.read);
          given = rest_given last r.reads.read r.reads.given;
          whole = tt;
          all_read = tt;
          within = tt;
          sound = tt;
          bounded = omega (arith, rest_count end r.reads.read r.reads.counted, r.reads.fault.1, rest_limit);
          fault = (r.reads.fault.0, l.sound.1, omega (arith, rest_count end r.reads.read r.reads.counted, r.reads.fault.1, rest_limit));
          lines = rest_lines r.reads.read;
        }
        ends_rest (stream.Demo why) r = absurd r.reads.fault

        module _ (n : ℕ) (r : ReadsRest source' last new end (Ok n)) where
          abbrev read_all : List ℕ
          read_all = front ++ (l.body ++ 128 ∷ r.reads.read)

          abbrev demo_read : Demo
          demo_read = record { header = header; commands = l.commands; after = length r.reads.read }

          is_read : IsRead read_all demo_read
          is_read = record {
            rest = r.reads.read;
            reads = record { front = front; body = l.body; joined = refl; begins = begins; follow = l.follow };
            counted = refl;
          }

          abbrev totals : List ℕ
          totals = totals_text header.players (length l.commands) (length r.reads.read)

          lines_then : Appends out.taken out'.taken (header_line header ++ ticcmds_text header.players 0 l.commands)
          lines_then = Appends-trans out.taken between.taken out'.taken (header_line header) (ticcmds_text header.players 0 l.commands) headed l.wrote

          listed_is : (header_line header ++ ticcmds_text header.players 0 l.commands) ++ totals ≡ listing demo_read
          listed_is = append_assoc (header_line header) (ticcmds_text header.players 0 l.commands) totals

          ends_whole : (after : SinkState) (x : Unit {0}) → Writes out' after totals (Ok x) → ListsDemo limit start last out after (Ok x)
          ends_whole after x w = record {
            read = read_all;
            given = rest_given last r.reads.read r.reads.given;
            whole = (demo_read, is_read, subst (Appends out.taken after.taken) listed_is (Appends-trans out.taken out'.taken after.taken _ totals lines_then w.takes.whole));
            all_read = r.reads.ended;
            within = omega (arith, rest_count end r.reads.read r.reads.counted, r.reads.within, rest_limit);
            sound = (r.reads.sound, w.ends.sound);
            bounded = omega (arith, rest_count end r.reads.read r.reads.counted, r.reads.within, rest_limit);
            fault = tt;
            lines = tt;
          }

          ends_totals : (after : SinkState) (e : IoFault) → Writes {T = Unit {0}} out' after totals (Err e) → ListsDemo limit start last out after (Err (run_fault e))
          ends_totals after io.Write w = record {
            read = read_all;
            given = rest_given last r.reads.read r.reads.given;
            whole = tt;
            all_read = tt;
            within = tt;
            sound = tt;
            bounded = omega (arith, rest_count end r.reads.read r.reads.counted, r.reads.within, rest_limit);
            fault = (r.reads.sound, w.ends.fault);
            lines = (
              ended_with (λ left. (text : List ℕ) × IsText left text × TakesFront out after text) start.left last.left read_all (rest_given last r.reads.read r.reads.given) r.reads.ended
                  (listing demo_read, inl (demo_read, is_read, refl), subst (TakesFront out after) listed_is (TakesFront-after out out' after _ lines_then w.takes.front)),
              in_totals demo_read is_read (out', lines_then, w.takes.front),
            );
          }
          ends_totals after io.Memory w = absurd w.ends.fault
          ends_totals after io.Read w = absurd w.ends.fault
          ends_totals after io.TooLong w = absurd w.ends.fault

          pub ends_after : (after : SinkState) (outcome : Result (Unit {0}) IoFault) → Writes out' after totals outcome → ListsDemo limit start last out after (run_end outcome)
          ends_after after (Ok x) w = ends_whole after x w
          ends_after after (Err e) w = ends_totals after e w

no_lines : (limit : ℕ) (old : DemoReader) (out : SinkState) → old.limit ≡ limit → old.taken ≡ 0 → (read : List ℕ) → NoneBegins IsHeader (take (old.limit - old.taken) read)
    → (text : List ℕ) × AreLines (take limit read) text × Appends out.taken out.taken text
no_lines limit old out bound start read none =
    let all : old.limit - old.taken ≡ limit = omega (arith, bound, start) in
    ([], inl (subst (λ n. NoneBegins IsHeader (take n read)) all none, refl), Appends-nil out.taken)

-- no header was read
module _ {limit : ℕ} {source source' : SourceState} {old new : DemoReader} (out : SinkState) (sound : out.failed ≡ false) (bound : old.limit ≡ limit) (start : old.taken ≡ 0) where
  pub ends_before : (e : StreamFault) → ReadsHeader source source' old new (Err e) → ListsDemo limit source source' out out (Err (stream_fault e))
  ends_before stream.Read r = record {
    read = r.reads.read;
    given = r.reads.given;
    whole = tt;
    all_read = tt;
    within = tt;
    sound = tt;
    bounded = omega (arith, r.reads.counted, r.reads.fault.1, bound, start);
    fault = (r.reads.fault.0, sound, omega (arith, r.reads.counted, r.reads.fault.1, bound, start));
    lines = no_lines limit old out bound start r.reads.read r.reads.none;
  }
  ends_before stream.TooLong r = record {
    read = r.reads.read;
    given = r.reads.given;
    whole = tt;
    all_read = tt;
    within = tt;
    sound = tt;
    bounded = omega (arith, r.reads.counted, r.reads.fault.1, bound, start);
    fault = (r.reads.fault.0, sound, omega (arith, r.reads.counted, r.reads.fault.1, bound, start));
    lines = no_lines limit old out bound start r.reads.read r.reads.none;
  }
  ends_before (stream.Demo why) r = record {
    read = r.reads.read;
    given = r.reads.given;
    whole = tt;
    all_read = tt;
    within = tt;
    sound = tt;
    bounded = omega (arith, r.reads.counted, r.reads.fault.1, bound, start);
    fault = (
      r.reads.fault.0,
      sound,
      omega (arith, r.reads.counted, r.reads.fault.1, bound, start),
      taken_then (λ left. RefusesHeader left why) (λ left. RefusesDemo left why) source.left source.left [] (Consumes-nil source.left) (λ left h. RefusesDemo-header left why h) r.reads.fault.2,
    );
    lines = no_lines limit old out bound start r.reads.read r.reads.none;
  }
