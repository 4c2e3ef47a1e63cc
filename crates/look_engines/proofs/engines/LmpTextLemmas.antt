-- The text for an input whose header and first commands are known: it begins with their lines.
use Rattle.std.proofs.Common.{◌≡◌, ℕ, ◌+◌, List, ◌++◌, length, inl, inr, refl, sym, ap, ◌∙◌}
use Rattle.std.proofs.lemmas.List.{append_assoc}
use Rattle.demo_lump.specs.Demo.{AreCommands, Demo, IsCutAt, IsRead}
use Rattle.demo_lump.specs.Header.{IsHeader}
use Rattle.demo_lump.specs.declared.command.Command.{Command}
use Rattle.demo_lump.specs.declared.header.Header.{Header}
use Rattle.demo_lump.specs.declared.fault.DemoFault.TheVariants.{NoMarker}
use Rattle.demo_lump.proofs.ReadingLemmas.{IsDemo-not_refused}
use Rattle.le_rec.specs.Sink.{SinkState}
use Rattle.line_io.specs.Writes.{TakesFront}
use Rattle.look_engines.proofs.ListingLemmas.{ticcmds_text-append}
use Rattle.look_engines.specs.Listing.{ticcmds_text, header_line, listing, totals_text}
use Rattle.look_engines.specs.Engines.Lmp.{HasLines, IsText}
use Rattle.look_engines.proofs.engines.MostCommandsLemmas.{most_commands, AreCommands-append, marker_or_not}

module _ (front body more : List ℕ) (header : Header) (commands : List Command) (begins : IsHeader front header) (follow : AreCommands header.version body commands) where
  abbrev pub lines : List ℕ
  lines = header_line header ++ ticcmds_text header.players 0 commands

  text_after : (text : List ℕ) × (rest : List ℕ) × IsText (front ++ (body ++ more)) text × (text ≡ lines ++ rest)
  text_after =
      let m = most_commands header.version more in
      let all = commands ++ m.commands in
      let players = header.players in
      let joined : front ++ (body ++ more) ≡ front ++ ((body ++ m.body) ++ m.rest) =
      ap (λ t. front ++ t) (ap (λ t. body ++ t) m.joined ∙ sym (append_assoc body m.body m.rest)) in
      let follows = AreCommands-append header.version body m.body commands m.commands follow m.follow in
      let shown : header_line header ++ ticcmds_text players 0 all ≡ lines ++ ticcmds_text players (0 + length commands) m.commands =
      ap (λ t. header_line header ++ t) (ticcmds_text-append players 0 commands m.commands) ∙ sym (append_assoc (header_line header) _ _) in
      elim (marker_or_not m.rest) [
        | inl (after, marked) ↦
            let demo : Demo = record { header = header; commands = all; after = length after } in
            let totals = totals_text players (length all) (length after) in
            let read : IsRead (front ++ (body ++ more)) demo = record {
              rest = after;
              reads = record { front = front; body = body ++ m.body; joined = joined ∙ ap (λ t. front ++ ((body ++ m.body) ++ t)) marked; begins = begins; follow = follows };
              counted = refl;
            } in (
              listing demo,
              ticcmds_text players (0 + length commands) m.commands ++ totals,
              inl (demo, read, refl),
              sym (append_assoc (header_line header) (ticcmds_text players 0 all) totals) ∙ ap (λ t. t ++ totals) shown ∙ append_assoc lines _ totals,
            )
        | inr unmarked ↦
            let cut_at : IsCutAt (front ++ (body ++ more)) (length front + length (body ++ m.body)) = record {
              header = header;
              commands = all;
              front = front;
              body = body ++ m.body;
              rest = m.rest;
              joined = joined;
              begins = begins;
              follow = follows;
              most = m.most;
              unmarked = unmarked;
              placed = refl;
            } in
            let has : HasLines (front ++ (body ++ more)) (header_line header ++ ticcmds_text players 0 all) = record {
              header = header;
              commands = all;
              front = front;
              body = body ++ m.body;
              rest = m.rest;
              joined = joined;
              begins = begins;
              follow = follows;
              most = m.most;
              is = refl;
            } in (
              header_line header ++ ticcmds_text players 0 all,
              ticcmds_text players (0 + length commands) m.commands,
              inr ((λ demo h. IsDemo-not_refused (front ++ (body ++ more)) demo.header demo.commands h.rest (NoMarker (length front + length (body ++ m.body))) h.reads cut_at), inr has),
              shown,
            )
      ]

  -- a front of the lines is one of that text
  pub front_of_text : (out out' : SinkState) → TakesFront out out' lines → (text : List ℕ) × IsText (front ++ (body ++ more)) text × TakesFront out out' text
  front_of_text out out' a =
      let t = text_after in (
        t.0,
        t.2,
        record {
          front = a.front;
          rest = a.rest ++ t.1;
          splits = t.3 ∙ ap (λ s. s ++ t.1) a.splits ∙ append_assoc a.front a.rest t.1;
          added = a.added;
        },
      )
