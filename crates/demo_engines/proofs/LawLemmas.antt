-- One text is the listing of one demo, and what is put together of it lists as the text again.
use Rattle.std.proofs.Common.{◌≡◌, ℕ, ◌+◌, ◌/◌, ◌%◌, ◌^◌, ◌<◌, List, [], ◌∷◌, ◌++◌, length, refl, sym, ap, ◌∙◌, subst, arith}
use Rattle.std.proofs.lemmas.List.{append_assoc, append-nil, append_cancel_left}
use Rattle.std.specs.Fmt.{decimal}
use Rattle.std.specs.List.{AllByRecursion}
use Rattle.demo_lump.proofs.DemoLemmas.{same_demos}
use Rattle.demo_lump.specs.Demo.{Demo, IsDemo}
use Rattle.demo_lump.specs.Header.{players_in}
use Rattle.demo_lump.specs.declared.command.Command.{Command}
use Rattle.demo_lump.specs.declared.header.Header.{Header}
use Rattle.demo_engines.specs.Assembly.{IsAssembled, IsListingOf}
use Rattle.demo_engines.specs.Laws.{ListsAgain}
use Rattle.demo_engines.specs.Parts.{FitsCommand, totals_front}
use Rattle.look_engines.specs.Listing.{header_line, ticcmd_line, ticcmds_text, totals_line, totals_text}
use Rattle.look_engines.specs.Turn.{player_of, tic_of}
use Rattle.demo_engines.proofs.AssemblyLemmas.{GoesOn, goes_on, no_totals, totals_begin}
use Rattle.demo_engines.proofs.FitLemmas.{fit_listed, listed_fits}
use Rattle.demo_engines.proofs.HeaderLineLemmas.{same_header}
use Rattle.demo_engines.proofs.ListingLemmas.{end_stops, totals_from_front}
use Rattle.demo_engines.proofs.RunLemmas.{same_number}

-- totals of as many commands tell of as many bytes
same_after : (tics odd m n : ℕ) → m < 2 ^ 64 → n < 2 ^ 64 → totals_line tics odd m ≡ totals_line tics odd n → m ≡ n
same_after tics odd m n small_m small_n same =
    let from_front : (k : ℕ) → totals_line tics odd k ≡ totals_front tics odd ++ (decimal k ++ 10 ∷ []) = λ k. sym (append-nil (totals_line tics odd k)) ∙ totals_from_front tics odd k [] in
    let numbers = append_cancel_left (totals_front tics odd) (decimal m ++ 10 ∷ []) (decimal n ++ 10 ∷ []) (sym (from_front m) ∙ same ∙ from_front n) in
    (same_number m n (10 ∷ []) (10 ∷ []) small_m small_n (end_stops []) (end_stops []) numbers).0

-- the lines behind the header's tell of the same commands
same_rest : (version : ℕ) (players : List ℕ) (commands others : List Command) (m n : ℕ) → AllByRecursion (FitsCommand version) commands → AllByRecursion (FitsCommand version) others → m < 2 ^ 64 → n < 2 ^ 64
    → ticcmds_text players 0 commands ++ totals_text players (length commands) m ≡ ticcmds_text players 0 others ++ totals_text players (length others) n → (commands ≡ others) × (m ≡ n)
same_rest version players commands others m n fit fit_others small_m small_n same = at_later on.later on.splits on.goes
  where
    begin : (count after : ℕ) → (y : List ℕ) × (totals_text players count after ++ [] ≡ 116 ∷ y)
    begin count after = totals_begin (count / players_in players) (count % players_in players) after []

    on : GoesOn version players 0 commands others (totals_text players (length commands) m) (totals_text players (length others) n)
    on =
        goes_on version players 0 commands others _ _ (begin (length others) n).0 fit fit_others
        (sym (append-nil (totals_text players (length others) n)) ∙ (begin (length others) n).1) same

    at_later : (later : List Command) → others ≡ commands ++ later
        → totals_text players (length commands) m ≡ ticcmds_text players (0 + length commands) later ++ totals_text players (length others) n → (commands ≡ others) × (m ≡ n)
    at_later [] splits goes =
        let equal : commands ≡ others = sym (append-nil commands) ∙ sym splits in
        (equal, same_after _ _ m n small_m small_n (goes ∙ ap (λ (cs : List Command). totals_text players (length cs) n) (sym equal)))
    at_later (c ∷ later) splits goes =
        let i = 0 + length commands in
        let line = ticcmd_line (tic_of players i) (player_of players i) c in
        let behind = ticcmds_text players (i + 1) later in
        absurd (no_totals (tic_of players i) (player_of players i) c (behind ++ totals_text players (length others) n) (begin (length commands) m).0
        (sym (append_assoc line behind (totals_text players (length others) n)) ∙ sym goes ∙ sym (append-nil (totals_text players (length commands) m)) ∙ (begin (length commands) m).1))

pub one_listing : (text : List ℕ) (a b : Demo) → IsListingOf text a → IsListingOf text b → a ≡ b
one_listing text a b of_a of_b =
    let fits_a = listed_fits text a of_a in
    let fits_b = listed_fits text b of_b in
    let heads = same_header a.header b.header _ _ fits_a.header fits_b.header (sym of_a.printed ∙ of_b.printed) in
    let players_a : List ℕ = a.header.players in
    let fit_b = subst (λ (h : Header). AllByRecursion (FitsCommand h.version) b.commands) (sym heads.0) fits_b.commands in
    let rest = same_rest a.header.version players_a a.commands b.commands a.after b.after fits_a.commands fit_b fits_a.few fits_b.few
    (heads.1 ∙ ap (λ (h : Header). ticcmds_text h.players 0 b.commands ++ totals_text h.players (length b.commands) b.after) (sym heads.0)) in
    same_demos a b heads.0 rest.0 rest.1

pub assembled_is_demo : (text bytes : List ℕ) (demo : Demo) → IsListingOf text demo → IsAssembled text bytes → IsDemo bytes demo.header demo.commands []
assembled_is_demo text bytes demo is of = subst (λ (d : Demo). IsDemo bytes d.header d.commands []) (one_listing text of.demo demo of.is is) of.written

pub lists_again : (text bytes : List ℕ) → IsAssembled text bytes → ListsAgain text bytes
lists_again text bytes of =
    let demo = of.demo in
    let fits = listed_fits text demo of.is in
    let players = demo.header.players in
    let count = length demo.commands in
    let lines = ticcmds_text players 0 demo.commands in
    let apart : (after : ℕ) → (header_line demo.header ++ lines) ++ totals_text players count after ≡ header_line demo.header ++ (lines ++ totals_text players count after) =
    λ after. append_assoc (header_line demo.header) lines (totals_text players count after) in
    let again : Demo = record demo { after = 0 } in
    record {
      demo = again;
      read = record { rest = []; reads = of.written; counted = refl };
      front = header_line demo.header ++ lines;
      tics = count / players_in players;
      odd = count % players_in players;
      after = demo.after;
      was = of.is.printed ∙ sym (apart demo.after);
      lists = subst (λ t. IsListingOf t again) (sym (apart 0)) (fit_listed again (record { header = fits.header; commands = fits.commands; few = omega arith }));
    }
