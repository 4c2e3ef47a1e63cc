-- What a text tells as a listing, as far as it was taken, and where it is wrong.
use Rattle.std.proofs.Common.{◌≡◌, ◌≢◌, ◌⊎◌, inl, inr, ℕ, ◌+◌, ◌/◌, ◌%◌, ◌^◌, ◌<◌, pos, Bool, true, false, if◌then◌else◌, rules, List, [], ◌∷◌, ◌++◌, length, refl, sym, ap, ◌∙◌, subst, arith}
use Rattle.std.proofs.lemmas.List.{append_assoc, append-nil}
use Rattle.std.specs.Fmt.{decimal}
use Rattle.std.specs.List.{AllByRecursion, starts_with}
use Rattle.std.specs.Prelude.{codes, nat_eq}
use Rattle.demo_lump.specs.Demo.{Demo}
use Rattle.demo_lump.specs.Header.{players_in}
use Rattle.demo_lump.specs.declared.command.Command.{Command}
use Rattle.demo_lump.specs.declared.header.Header.{Header}
use Rattle.le_rec.proofs.BytesLemmas.{AreBytes-cons, AreBytes-nil}
use Rattle.demo_engines.specs.Assembly.{AreLines, BeginsListing, IsLine, IsListingOf, IsWanted, IsWrongLine, RefusesListing, WantsFirst, wanted_behind}
use Rattle.demo_engines.specs.declared.assembly.Wanted.{Wanted}
use Rattle.demo_engines.specs.declared.assembly.Wanted.TheVariants as wanted
use Rattle.demo_engines.specs.Assembly.AreLines.{more, none}
use Rattle.demo_engines.specs.Parts.{FitsCommand, FitsHeader, Stops}
use Rattle.demo_engines.specs.Parts.Stops.{other}
use Rattle.look_engines.specs.Listing.{header_line, listing, ticcmd_line, ticcmds_text, totals_line, totals_text}
use Rattle.look_engines.proofs.ListingLemmas.{ticcmds_text-last}
use Rattle.look_engines.specs.Turn.{PlayerTurn, player_of, tic_of}
use Rattle.demo_engines.proofs.FitLemmas.{FitsDemo, fit_listed, listed_fits}
use Rattle.demo_engines.proofs.HeaderLineLemmas.{same_header}
use Rattle.demo_engines.proofs.LineLemmas.{header_is_line, lines_of, ticcmd_is_line, totals_is_line}
use Rattle.demo_engines.proofs.ListingLemmas.{line_fields, same_line}
use Rattle.demo_engines.proofs.RunLemmas.{BeginsWithDigit, decimal_begins, same_run}
use Rattle.demo_engines.proofs.TakingLemmas.{fit_push}
use Rattle.demo_engines.proofs.TurnLemmas.{turns_small}

pub nothing : (text : List ℕ) → length text ≡ 0 → text ≡ []
nothing [] long = refl
nothing (b ∷ text) long = absurd (omega (arith, long))

-- the first lines of equal texts are equal
same_first : (a b x y : List ℕ) → IsLine a → IsLine b → a ++ x ≡ b ++ y → (a ≡ b) × (x ≡ y)
same_first a b x y of_a of_b same =
    let stop : (t : List ℕ) → Stops (λ byte. byte ≢ 10) (10 ∷ t) = λ t. other 10 t (λ not. not refl) in
    let spread : (c content t : List ℕ) → c ≡ content ++ 10 ∷ [] → c ++ t ≡ content ++ 10 ∷ t =
    λ c content t is. ap (λ u. u ++ t) is ∙ append_assoc content (10 ∷ []) t in
    let run = same_run (λ byte. byte ≢ 10) of_a.content of_b.content (10 ∷ x) (10 ∷ y) of_a.unbroken of_b.unbroken (stop x) (stop y)
    (sym (spread a of_a.content x of_a.is) ∙ same ∙ spread b of_b.content y of_b.is) in
    let rest = run.1 in
    (of_a.is ∙ ap (λ t. t ++ 10 ∷ []) run.0 ∙ sym of_b.is, cc)

-- a command's line begins with a digit, and the totals don't
pub no_totals : (tic player : ℕ) (c : Command) (x y : List ℕ) → ticcmd_line tic player c ++ x ≡ 116 ∷ y → ⊥
no_totals tic player c x y same = begins (decimal tic) _ (decimal_begins tic) (sym (line_fields tic player c x) ∙ same)
  where
    begins : (text behind : List ℕ) → BeginsWithDigit text → text ++ behind ≡ 116 ∷ y → ⊥
    begins text behind with_digit is =
        let first : with_digit.digit ≡ 116 = head_is with_digit.digit (with_digit.more ++ behind) (sym (ap (λ t. t ++ behind) with_digit.is) ∙ is) in
        let kind = with_digit.kind in
        omega (arith, kind.1, first)
      where
        head_is : (d : ℕ) (text : List ℕ) → d ∷ text ≡ 116 ∷ y → d ≡ 116
        head_is d text is = cc

pub totals_begin : (tics odd after : ℕ) (x : List ℕ) → (y : List ℕ) × (totals_line tics odd after ++ x ≡ 116 ∷ y)
unfolding totals_line
totals_begin tics odd after x = (_, refl)

-- what another listing goes on with, behind commands that both have
pub record GoesOn (version : ℕ) (players : List ℕ) (i : ℕ) (commands others : List Command) (rest tail : List ℕ) : Type 0 where
  pub later : List Command
  pub fit : AllByRecursion (FitsCommand version) later
  pub splits : others ≡ commands ++ later
  pub goes : rest ≡ ticcmds_text players (i + length commands) later ++ tail

pub goes_on : (version : ℕ) (players : List ℕ) (i : ℕ) (commands others : List Command) (rest tail end : List ℕ) → AllByRecursion (FitsCommand version) commands
    → AllByRecursion (FitsCommand version) others
    → tail ≡ 116 ∷ end → ticcmds_text players i commands ++ rest ≡ ticcmds_text players i others ++ tail → GoesOn version players i commands others rest tail
goes_on version players i [] others rest tail end fit fit_others totals same = record {
  later = others;
  fit = fit_others;
  splits = refl;
  goes = same ∙ ap (λ k. ticcmds_text players k others ++ tail) (omega arith);
}
goes_on version players i (c ∷ commands) [] rest tail end fit fit_others totals same =
    absurd (no_totals (tic_of players i) (player_of players i) c (ticcmds_text players (i + 1) commands ++ rest) end
    (sym (append_assoc (ticcmd_line (tic_of players i) (player_of players i) c) (ticcmds_text players (i + 1) commands) rest) ∙ same ∙ totals))
goes_on version players i (c ∷ commands) (d ∷ others) rest tail end fit fit_others totals same =
    let line_c = ticcmd_line (tic_of players i) (player_of players i) c in
    let line_d = ticcmd_line (tic_of players i) (player_of players i) d in
    let both = same_line (tic_of players i) (player_of players i) c d (ticcmds_text players (i + 1) commands ++ rest) (ticcmds_text players (i + 1) others ++ tail) fit.0 fit_others.0
    (sym (append_assoc line_c (ticcmds_text players (i + 1) commands) rest) ∙ same ∙ append_assoc line_d (ticcmds_text players (i + 1) others) tail) in
    let deep = goes_on version players (i + 1) commands others rest tail end fit.1 fit_others.1 totals both.1 in
    record {
      later = deep.later;
      fit = deep.fit;
      splits = ap (λ e. e ∷ others) (sym both.0) ∙ ap (λ es. c ∷ es) deep.splits;
      goes = deep.goes ∙ ap (λ k. ticcmds_text players k deep.later ++ tail) (omega arith);
    }

-- a text as far as it was taken: the header's line and those of commands
pub record IsTaken (text : List ℕ) (header : Header) (commands : List Command) (rest : List ℕ) : Type 0 where
  pub splits : text ≡ header_line header ++ (ticcmds_text header.players 0 commands ++ rest)
  pub of_header : FitsHeader header
  pub of_commands : AllByRecursion (FitsCommand header.version) commands
  pub few : length commands < 2 ^ 62

-- what is wanted of a wrong line, first of all its end
refuses_by : (text : List ℕ) (number : ℕ) (line : IsWrongLine text number) (asked found : Wanted) → IsWanted line.before line.rest asked → WantsFirst line.rest asked found
    → RefusesListing text number found
refuses_by text number line asked found is (inl lacks) = record {
  line = line;
  is = subst (IsWanted line.before line.rest) (sym lacks.1) lacks.0;
  first = λ _. lacks.1;
}
refuses_by text number line asked found is (inr ended) = record {
  line = line;
  is = subst (IsWanted line.before line.rest) (sym ended.1) is;
  first = λ lacks. absurd (ended.0 lacks);
}

abbrev idle : Command
idle = record { forward = pos 0; side = pos 0; turn = 0; buttons = 0 }

module _ (text : List ℕ) (header : Header) (commands : List Command) (rest : List ℕ) (taken : IsTaken text header commands rest) where
  -- another listing that begins so goes on with commands, and then its totals
  agrees : (x : List ℕ) (demo : Demo) → header_line header ++ (ticcmds_text header.players 0 commands ++ x) ≡ listing demo → FitsDemo demo
      → (later : List Command) × AllByRecursion (FitsCommand header.version) later
      × (x ≡ ticcmds_text header.players (length commands) later ++ totals_text header.players (length (commands ++ later)) demo.after)
  agrees x demo same fits =
      let heads = same_header header demo.header _ _ taken.of_header fits.header same in
      let tail = totals_text demo.header.players (length demo.commands) demo.after in
      let begin = totals_begin (length demo.commands / players_in demo.header.players) (length demo.commands % players_in demo.header.players) demo.after [] in
      let totals : tail ≡ 116 ∷ begin.0 = sym (append-nil tail) ∙ begin.1 in
      let fit = subst (λ (h : Header). AllByRecursion (FitsCommand h.version) demo.commands) (sym heads.0) fits.commands in
      let on : GoesOn header.version header.players 0 commands demo.commands x tail =
      goes_on header.version header.players 0 commands demo.commands x tail begin.0 taken.of_commands fit totals
      (subst (λ (h : Header). ticcmds_text header.players 0 commands ++ x ≡ ticcmds_text h.players 0 demo.commands ++ tail) (sym heads.0) heads.1) in (
        on.later,
        on.fit,
        on.goes ∙ ap (λ k. ticcmds_text header.players k on.later ++ tail) (omega arith)
            ∙ ap (λ (h : Header). ticcmds_text header.players (length commands) on.later ++ totals_text h.players (length demo.commands) demo.after) (sym heads.0)
            ∙ ap (λ (ds : List Command). ticcmds_text header.players (length commands) on.later ++ totals_text header.players (length ds) demo.after) on.splits,
      )

  -- the text up to there
  abbrev text_there : List ℕ
  text_there = header_line header ++ ticcmds_text header.players 0 commands

  split_there : text ≡ text_there ++ rest
  split_there = taken.splits ∙ sym (append_assoc (header_line header) (ticcmds_text header.players 0 commands) rest)

  abbrev pub own_demo : ℕ → Demo
  own_demo after = record { header = header; commands = commands; after = after }

  own_fits : (after : ℕ) → after < 2 ^ 64 → FitsDemo (own_demo after)
  own_fits after few = record { header = taken.of_header; commands = taken.of_commands; few = few }

  abbrev pub own_totals : ℕ → List ℕ
  own_totals after = totals_text header.players (length commands) after

  own_listing : (after : ℕ) → text_there ++ own_totals after ≡ listing (own_demo after)
  own_listing after = append_assoc (header_line header) (ticcmds_text header.players 0 commands) (own_totals after)

  own_begins : BeginsListing text_there
  own_begins =
      record {
        demo = own_demo 0;
        more = own_totals 0;
        is = subst (λ t. IsListingOf t (own_demo 0)) (sym (own_listing 0)) (fit_listed (own_demo 0) (own_fits 0 (omega arith)));
      }

  own_lines : AreLines (1 + length commands) text_there
  own_lines =
      let few = taken.few in
      lines_of header.version header.players 0 1 (header_line header) commands taken.of_commands (omega arith) (turns_small header.players taken.of_header.long)
      (more 0 [] (header_line header) none (header_is_line header taken.of_header))

  totals_line_is : (after : ℕ) → after < 2 ^ 64 → IsLine (own_totals after)
  totals_line_is after small =
      let few = taken.few in
      totals_is_line (length commands / players_in header.players) (length commands % players_in header.players) after
      (quotient_small (length commands) (players_in header.players) (omega arith)) (remainder_small (length commands) (players_in header.players) (omega arith)) small
    where
      quotient_small : (k n : ℕ) → k < 2 ^ 64 → k / n < 2 ^ 64
      quotient_small k n small = grind arith

      remainder_small : (k n : ℕ) → k < 2 ^ 64 → k % n < 2 ^ 64
      remainder_small k n small = grind arith

  -- a line of a command behind it, or the totals: the first line of what another listing goes on with
  first_of_rest : (line z : List ℕ) (demo : Demo) → IsLine line → header_line header ++ (ticcmds_text header.players 0 commands ++ (line ++ z)) ≡ listing demo → FitsDemo demo
      → ((c : Command) × FitsCommand header.version c × (line ≡ ticcmd_line (tic_of header.players (length commands)) (player_of header.players (length commands)) c))
      ⊎ ((after : ℕ) × (after < 2 ^ 64) × (line ≡ own_totals after) × (z ≡ []))
  first_of_rest line z demo is same fits = at_later on.0 on.1 on.2
    where
      on : (later : List Command) × AllByRecursion (FitsCommand header.version) later
          × (line ++ z ≡ ticcmds_text header.players (length commands) later ++ totals_text header.players (length (commands ++ later)) demo.after)
      on = agrees (line ++ z) demo same fits

      at_later : (later : List Command) → AllByRecursion (FitsCommand header.version) later
          → line ++ z ≡ ticcmds_text header.players (length commands) later ++ totals_text header.players (length (commands ++ later)) demo.after
          → ((c : Command) × FitsCommand header.version c × (line ≡ ticcmd_line (tic_of header.players (length commands)) (player_of header.players (length commands)) c))
          ⊎ ((after : ℕ) × (after < 2 ^ 64) × (line ≡ own_totals after) × (z ≡ []))
      at_later [] fit goes =
          let own : line ++ z ≡ own_totals demo.after ++ [] =
          goes ∙ ap (λ (cs : List Command). totals_text header.players (length cs) demo.after) (append-nil commands) ∙ sym (append-nil (own_totals demo.after)) in
          let first = same_first line (own_totals demo.after) z [] is (totals_line_is demo.after fits.few) own in
          inr (demo.after, fits.few, first.0, first.1)
      at_later (c ∷ later) fit goes =
          let few = taken.few in
          let here = turns_small header.players taken.of_header.long (length commands) (omega arith) in
          let own = ticcmd_line (tic_of header.players (length commands)) (player_of header.players (length commands)) c in
          let first = same_first line own z _ is (ticcmd_is_line (tic_of header.players (length commands)) (player_of header.players (length commands)) c here.0 here.1 fit.0)
          (goes ∙ append_assoc own (ticcmds_text header.players (length commands + 1) later) (totals_text header.players (length (commands ++ c ∷ later)) demo.after)) in
          inl (c, fit.0, first.0)

  -- all of the rest is the totals, and so the text is a listing
  pub listed : (after : ℕ) → after < 2 ^ 64 → rest ≡ own_totals after → IsListingOf text (own_demo after)
  listed after few totals =
      subst (λ t. IsListingOf t (own_demo after)) (sym (split_there ∙ ap (λ r. text_there ++ r) totals ∙ own_listing after)) (fit_listed (own_demo after) (own_fits after few))

  -- no line of a command follows, and no totals
  pub wrong_there : ((c : Command) (r : List ℕ) → FitsCommand header.version c → rest ≢ ticcmd_line (tic_of header.players (length commands)) (player_of header.players (length commands)) c ++ r)
      → ((after : ℕ) (r : List ℕ) → after < 2 ^ 64 → rest ≢ own_totals after ++ r) → IsWrongLine text (length commands + 2)
  wrong_there no_command no_totals_there = record {
    none = λ demo is.
        let fits = listed_fits text demo is in
        let on = agrees rest demo (sym taken.splits ∙ is.printed) fits in
        no_rest on.0 on.1 demo.after fits.few on.2;
    count = 1 + length commands;
    before = text_there;
    rest = rest;
    splits = split_there;
    lines = own_lines;
    counted = omega arith;
    begins = own_begins;
    wrong = λ line behind is follows begins.
        let demo = begins.demo in
        let fits = listed_fits ((text_there ++ line) ++ begins.more) demo begins.is in
        no_line line behind begins.more follows (first_of_rest line begins.more demo is (sym (append_assoc (header_line header) (ticcmds_text header.players 0 commands) (line ++ begins.more))
        ∙ sym (append_assoc text_there line begins.more) ∙ begins.is.printed) fits);
  }
    where
      no_rest : (later : List Command) → AllByRecursion (FitsCommand header.version) later → (after : ℕ) → after < 2 ^ 64
          → rest ≡ ticcmds_text header.players (length commands) later ++ totals_text header.players (length (commands ++ later)) after → ⊥
      no_rest [] fit after few same =
          no_totals_there after [] few (same ∙ ap (λ (cs : List Command). totals_text header.players (length cs) after) (append-nil commands) ∙ sym (append-nil (own_totals after)))
      no_rest (c ∷ later) fit after few same =
          no_command c _ fit.0 (same ∙ append_assoc (ticcmd_line (tic_of header.players (length commands)) (player_of header.players (length commands)) c)
          (ticcmds_text header.players (length commands + 1) later) (totals_text header.players (length (commands ++ c ∷ later)) after))

      no_line : (line behind z : List ℕ) → rest ≡ line ++ behind
          → ((c : Command) × FitsCommand header.version c × (line ≡ ticcmd_line (tic_of header.players (length commands)) (player_of header.players (length commands)) c))
          ⊎ ((after : ℕ) × (after < 2 ^ 64) × (line ≡ own_totals after) × (z ≡ [])) → ⊥
      no_line line behind z follows (inl found) = no_command found.0 behind found.1 (follows ∙ ap (λ l. l ++ behind) found.2)
      no_line line behind z follows (inr found) = no_totals_there found.0 behind found.1 (follows ∙ ap (λ l. l ++ behind) found.2)

  -- the totals follow, and then more
  pub wrong_end : (after : ℕ) (behind : List ℕ) → after < 2 ^ 64 → rest ≡ own_totals after ++ behind → behind ≢ [] → IsWrongLine text (length commands + 3)
  wrong_end after behind few totals some = record {
    none = λ demo is. some (last behind demo (sym totals_there ∙ is.printed) (listed_fits text demo is));
    count = 1 + length commands + 1;
    before = text_there ++ own_totals after;
    rest = behind;
    splits = split_there ∙ ap (λ r. text_there ++ r) totals ∙ sym (append_assoc text_there (own_totals after) behind);
    lines = more (1 + length commands) text_there (own_totals after) own_lines (totals_line_is after few);
    counted = omega arith;
    begins = record {
      demo = own_demo after;
      more = [];
      is = subst (λ t. IsListingOf t (own_demo after)) (sym (append-nil (text_there ++ own_totals after) ∙ own_listing after)) (fit_listed (own_demo after) (own_fits after few));
    };
    wrong = λ line left is follows begins.
        let fits = listed_fits (((text_there ++ own_totals after) ++ line) ++ begins.more) begins.demo begins.is in
        let there : header_line header ++ (ticcmds_text header.players 0 commands ++ (own_totals after ++ (line ++ begins.more))) ≡ listing begins.demo =
        sym (append_assoc (header_line header) (ticcmds_text header.players 0 commands) (own_totals after ++ (line ++ begins.more)))
        ∙ sym (append_assoc text_there (own_totals after) (line ++ begins.more)) ∙ sym (append_assoc (text_there ++ own_totals after) line begins.more) ∙ begins.is.printed in
        no_line_is_empty line begins.more is (last (line ++ begins.more) begins.demo there fits);
  }
    where
      totals_there : text ≡ header_line header ++ (ticcmds_text header.players 0 commands ++ (own_totals after ++ behind))
      totals_there = taken.splits ∙ ap (λ r. header_line header ++ (ticcmds_text header.players 0 commands ++ r)) totals

      no_line_is_empty : (line z : List ℕ) → IsLine line → line ++ z ≡ [] → ⊥
      no_line_is_empty line z is same = first (is.content) (sym (ap (λ l. l ++ z) is.is) ∙ same)
        where
          first : (content : List ℕ) → (content ++ 10 ∷ []) ++ z ≡ [] → ⊥
          first [] e = let f : ⊥ = cc in f
          first (b ∷ content) e = let f : ⊥ = cc in f

      last : (z : List ℕ) (demo : Demo) → header_line header ++ (ticcmds_text header.players 0 commands ++ (own_totals after ++ z)) ≡ listing demo → FitsDemo demo → z ≡ []
      last z demo same fits = at (first_of_rest (own_totals after) z demo (totals_line_is after few) same fits)
        where
          at : ((c : Command) × FitsCommand header.version c × (own_totals after ≡ ticcmd_line (tic_of header.players (length commands)) (player_of header.players (length commands)) c))
              ⊎ ((a : ℕ) × (a < 2 ^ 64) × (own_totals after ≡ own_totals a) × (z ≡ [])) → z ≡ []
          at (inl found) =
              let begin = totals_begin (length commands / players_in header.players) (length commands % players_in header.players) after [] in
              absurd (no_totals (tic_of header.players (length commands)) (player_of header.players (length commands)) found.0 [] begin.0
              (ap (λ l. l ++ []) (sym found.2) ∙ begin.1))
          at (inr found) = found.3

  -- what is wanted where neither a command nor the totals follow
  abbrev pub own_turn : PlayerTurn
  own_turn = record { players = header.players; index = length commands }

  -- a command of that turn follows, as another listing goes on
  abbrev more_commands : List Command
  more_commands = commands ++ idle ∷ []

  abbrev with_idle : Demo
  with_idle = record { header = header; commands = more_commands; after = 0 }

  abbrev idle_line : List ℕ
  idle_line = ticcmd_line (tic_of header.players (length commands)) (player_of header.players (length commands)) idle

  idle_fits : FitsCommand header.version idle
  idle_fits = record { forward = search rules; side = search rules; turn = omega arith; small = λ _. omega arith; buttons = omega arith; unmarked = λ same. cc }

  idle_listing : (text_there ++ idle_line) ++ totals_text header.players (length more_commands) 0 ≡ listing with_idle
  idle_listing =
      let zero_more : 0 + length commands ≡ length commands = omega arith in
      let totals = totals_text header.players (length more_commands) 0 in
      let lines = ticcmds_text header.players 0 commands in
      let last = ticcmds_text-last header.players 0 commands idle ∙ ap (λ k. lines ++ ticcmd_line (tic_of header.players k) (player_of header.players k) idle) zero_more in
      ap (λ t. t ++ totals) (append_assoc (header_line header) lines idle_line) ∙ append_assoc (header_line header) (lines ++ idle_line) totals
      ∙ ap (λ t. header_line header ++ (t ++ totals)) (sym last)

  idle_begins : BeginsListing (text_there ++ idle_line)
  idle_begins =
      record {
        demo = with_idle;
        more = totals_text header.players (length more_commands) 0;
        is = subst (λ t. IsListingOf t with_idle) (sym idle_listing)
            (fit_listed with_idle (record { header = taken.of_header; commands = fit_push header.version commands idle taken.of_commands idle_fits; few = omega arith }));
      }

  wanted_there : IsWanted text_there rest (wanted_behind rest own_turn)
  wanted_there = go (starts_with nat_eq rest (codes "tics")) refl
    where
      go : (starts : Bool) → starts_with nat_eq rest (codes "tics") ≡ starts → IsWanted text_there rest (
          if starts
          then wanted.Totals (tic_of header.players (length commands)) (length commands % players_in header.players)
          else wanted.TicCommand (tic_of header.players (length commands)) (player_of header.players (length commands)))
      go true e = (e, own_demo 0, subst (λ t. IsListingOf t (own_demo 0)) (sym (own_listing 0)) (fit_listed (own_demo 0) (own_fits 0 (omega arith))))
      go false e = (e, idle, idle_begins)

  pub refuses_there : (found : Wanted) → ((c : Command) (r : List ℕ) → FitsCommand header.version c
      → rest ≢ ticcmd_line (tic_of header.players (length commands)) (player_of header.players (length commands)) c ++ r)
      → ((after : ℕ) (r : List ℕ) → after < 2 ^ 64 → rest ≢ own_totals after ++ r) → WantsFirst rest (wanted_behind rest own_turn) found
      → RefusesListing text (length commands + 2) found
  unfolding wrong_there
  refuses_there found no_command no_totals_there first =
      refuses_by text (length commands + 2) (wrong_there no_command no_totals_there) (wanted_behind rest own_turn) found wanted_there first

  pub refuses_end : (found : Wanted) (after : ℕ) (behind : List ℕ) → after < 2 ^ 64 → rest ≡ own_totals after ++ behind → behind ≢ [] → WantsFirst behind wanted.Nothing found
      → RefusesListing text (length commands + 3) found
  unfolding wrong_end
  refuses_end found after behind few totals some first =
      refuses_by text (length commands + 3) (wrong_end after behind few totals some) wanted.Nothing found
      (own_demo after, subst (λ t. IsListingOf t (own_demo after)) (sym (own_listing after)) (fit_listed (own_demo after) (own_fits after few))) first

-- a header that the first line may tell
some_header : Header
some_header = record {
  version = 109;
  skill = 0;
  episode = 1;
  map = 1;
  deathmatch = 0;
  respawn = 0;
  fast = 0;
  no_monsters = 0;
  viewpoint = 0;
  players = 1 ∷ 0 ∷ 0 ∷ 0 ∷ [];
}

abbrev some_demo : Demo
some_demo = record { header = some_header; commands = []; after = 0 }

some_fits : FitsHeader some_header
unfolding some_header
some_fits = record {
  numbers = AreBytes-cons 109 _ (omega arith) (AreBytes-cons 0 _ (omega arith) (AreBytes-cons 1 _ (omega arith) (AreBytes-cons 1 _ (omega arith)
      (AreBytes-cons 0 _ (omega arith) (AreBytes-cons 0 _ (omega arith) (AreBytes-cons 0 _ (omega arith) (AreBytes-cons 0 _ (omega arith)
      (AreBytes-cons 0 _ (omega arith) (AreBytes-cons 1 _ (omega arith) (AreBytes-cons 0 _ (omega arith) (AreBytes-cons 0 _ (omega arith)
      (AreBytes-cons 0 [] (omega arith) AreBytes-nil))))))))))));
  version = (omega arith, omega arith);
  long = refl;
  some = omega arith;
}

-- no header's line begins the text
pub wrong_header : (text : List ℕ) → ((h : Header) (r : List ℕ) → FitsHeader h → text ≢ header_line h ++ r) → IsWrongLine text 1
wrong_header text no_header = record {
  none = λ demo is. no_header demo.header _ (listed_fits text demo is).header is.printed;
  count = 0;
  before = [];
  rest = text;
  splits = refl;
  lines = none;
  counted = refl;
  begins = record { demo = some_demo; more = listing some_demo; is = fit_listed some_demo (record { header = some_fits; commands = tt; few = omega arith }) };
  wrong = λ line left is follows begins.
      let demo = begins.demo in
      let fits = listed_fits (line ++ begins.more) demo begins.is in
      let first = same_first line (header_line demo.header) begins.more _ is (header_is_line demo.header fits.header) begins.is.printed in
      no_header demo.header left fits.header (follows ∙ ap (λ l. l ++ left) first.0);
}

pub refuses_header : (text : List ℕ) (found : Wanted) → ((h : Header) (r : List ℕ) → FitsHeader h → text ≢ header_line h ++ r) → WantsFirst text wanted.Header found
    → RefusesListing text 1 found
unfolding wrong_header
refuses_header text found no_header first = refuses_by text 1 (wrong_header text no_header) wanted.Header found refl first
