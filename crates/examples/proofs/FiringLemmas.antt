-- Commands of a demo that hold the fire button, one after another.
use Rattle.std.proofs.Common.{◌≡◌, ℕ, ◌+◌, ◌≤◌, cond, false, List, [], ◌∷◌, ◌++◌, length, length-append, Option, Some, None, Result, Ok, Err, refl, sym, ap, ◌∙◌, subst, arith}
use Rattle.std.specs.Prelude.{IfSome, count_by}
use Rattle.std.specs.Io.KnownBytes.{Consumes}
use Rattle.std.proofs.KnownBytes.{Consumes-trans}
use Rattle.std.proofs.lemmas.Bool.Decides.{nat_tests}
use Rattle.std.proofs.lemmas.List.{append-nil, append_assoc}
use Rattle.std.proofs.lemmas.List.Sums.{sum_by-append}
use Rattle.le_rec.specs.Source.{SourceState}
use Rattle.demo_lump.specs.Demo.{AreCommands, RefusesDemo}
use Rattle.demo_lump.specs.DemoReader.{DemoReader, ReadsHeader, ReadsNext}
use Rattle.demo_lump.specs.Header.{IsHeader}
use Rattle.demo_lump.specs.Laws.{CommandSizes, OneMoreCommand, StopsBehind}
use Rattle.demo_lump.specs.NextPiece.{RefusesNext}
use Rattle.demo_lump.specs.declared.command.Command.{Command}
use Rattle.demo_lump.specs.declared.fault.StreamFault.{StreamFault}
use Rattle.demo_lump.specs.declared.fault.StreamFault.TheVariants.{Demo, Read, TooLong}
use Rattle.demo_lump.specs.declared.header.Header.{Header}
use Rattle.demo_lump.specs.declared.intake.TheConstants.{MAX_READ}
use Rattle.examples.specs.DemoFiring.{CountsFiring, FiringFault, is_firing}

-- a reader that has read the header and some commands, of which so many hold the fire button
pub record FiringSoFar (source source' : SourceState) (reader : DemoReader) (firing : ℕ) : Type 0 where
  pub header : Header
  pub commands : List Command
  pub front : List ℕ
  pub body : List ℕ
  pub given : Consumes source.left source'.left (front ++ body)
  pub begins : IsHeader front header
  pub follow : AreCommands header.version body commands
  pub counted : firing ≡ count_by is_firing commands
  pub few : firing ≤ length body
  pub taken : reader.taken ≡ length front + length body
  pub within : reader.taken ≤ MAX_READ
  pub limit : reader.limit ≡ MAX_READ
  pub known : reader.header ≡ Some header
  pub begun : reader.ended ≡ false
  pub going : reader.fault ≡ None

-- what holds of the bytes behind those that were taken holds of all
behind : (P Q : List ℕ → Type 0) (a b : Option (List ℕ)) (bytes : List ℕ) → Consumes a b bytes
    → ((more : List ℕ) → P more → Q (bytes ++ more)) → IfSome b P → IfSome a Q
behind P Q None b bytes given leads h = tt
behind P Q (Some all) None bytes given leads h = absurd given
behind P Q (Some all) (Some more) bytes given leads h = subst Q (sym given) (leads more h)

-- one more command
count-more : (commands : List Command) (c : Command) → count_by is_firing (commands ++ c ∷ []) ≡ count_by is_firing commands + cond (is_firing c) 1 0
count-more commands c = sum_by-append (λ x. cond (is_firing x) 1 0) commands (c ∷ []) ∙ omega arith

-- the header was read
module _ {source source' : SourceState} {old new : DemoReader} (fresh : old ≡ record { limit = MAX_READ; taken = 0; header = None; ended = false; counted = None; fault = None }) where
  pub FiringSoFar-none : (header : Header) → ReadsHeader source source' old new (Ok header) → FiringSoFar source source' new 0
  FiringSoFar-none header r =
      let is : new ≡ record { limit = MAX_READ; taken = new.taken; header = Some header; ended = false; counted = None; fault = None } =
      r.state ∙ ap (λ (x : DemoReader). record x { taken = new.taken; header = Some header }) fresh in
      record {
        header = header;
        commands = [];
        front = r.reads.read;
        body = [];
        given = subst (Consumes source.left source'.left) (sym (append-nil r.reads.read)) r.reads.given;
        begins = r.reads.found;
        follow = refl;
        counted = refl;
        few = omega arith;
        taken = omega (arith, r.reads.counted, ap (λ (x : DemoReader). x.taken) fresh);
        within = omega (arith, r.reads.within, ap (λ (x : DemoReader). x.limit) fresh);
        limit = ap (λ (x : DemoReader). x.limit) is;
        known = ap (λ (x : DemoReader). x.header) is;
        begun = ap (λ (x : DemoReader). x.ended) is;
        going = ap (λ (x : DemoReader). x.fault) is;
      }

-- the next piece was asked for
module _ {source mid source' : SourceState} {reader new : DemoReader} {firing : ℕ} (f : FiringSoFar source mid reader firing) where
  pub next_reads : {result : Result (Option Command) StreamFault}
      → (reader.fault ≡ None → reader.ended ≡ false → IfSome reader.header (λ header. ReadsNext header.version mid source' reader new result))
      → ReadsNext f.header.version mid source' reader new result
  next_reads {result} known =
      subst (λ (o : Option Header). IfSome o (λ header. ReadsNext header.version mid source' reader new result)) f.known (known f.going f.begun)

  given_more : {result : Result (Option Command) StreamFault} (r : ReadsNext f.header.version mid source' reader new result) → Consumes source.left source'.left (f.front ++ (f.body ++ r.reads.read))
  given_more r =
      subst (Consumes source.left source'.left) (append_assoc f.front f.body r.reads.read)
      (Consumes-trans source.left mid.left source'.left (f.front ++ f.body) r.reads.read f.given r.reads.given)

  -- a command
  pub FiringSoFar-more : CommandSizes → OneMoreCommand → (c : Command) → ReadsNext f.header.version mid source' reader new (Ok (Some c))
      → (firing' : ℕ) → firing' ≡ firing + cond (is_firing c) 1 0 → FiringSoFar source source' new firing'
  FiringSoFar-more sizes more c r firing' counts =
      let more_bytes = length-append f.body r.reads.read in
      let one : cond (is_firing c) 1 0 ≤ 1 = grind (arith, nat_tests) in
      record {
        header = f.header;
        commands = f.commands ++ c ∷ [];
        front = f.front;
        body = f.body ++ r.reads.read;
        given = given_more r;
        begins = f.begins;
        follow = more f.header.version f.body r.reads.read f.commands c f.follow r.reads.found;
        counted = counts ∙ ap (λ n. n + cond (is_firing c) 1 0) f.counted ∙ sym (count-more f.commands c);
        few = omega (arith, f.few, counts, more_bytes, one, r.reads.found.long, (sizes f.header.version).0);
        taken = omega (arith, f.taken, r.reads.counted, more_bytes);
        within = omega (arith, r.reads.within, f.limit);
        limit = ap (λ (x : DemoReader). x.limit) r.state ∙ f.limit;
        known = ap (λ (x : DemoReader). x.header) r.state ∙ f.known;
        begun = ap (λ (x : DemoReader). x.ended) r.state ∙ f.begun;
        going = ap (λ (x : DemoReader). x.fault) r.state ∙ f.going;
      }

  -- the marker
  pub at_marker : ReadsNext f.header.version mid source' reader new (Ok None) → CountsFiring source source' (Ok firing)
  at_marker r = record {
    read = f.front ++ (f.body ++ r.reads.read);
    given = given_more r;
    counted = record {
      header = f.header;
      commands = f.commands;
      demo = record { front = f.front; body = f.body; joined = ap (λ t. f.front ++ (f.body ++ t)) r.reads.found; begins = f.begins; follow = f.follow };
      counted = f.counted;
    };
    fault = tt;
  }

  -- neither
  module _ (stopped : StopsBehind) where
    why_stopped : (e : StreamFault) (r : ReadsNext f.header.version mid source' reader new (Err e))
        → FiringFault source source'.failed (length (f.front ++ (f.body ++ r.reads.read))) e
    why_stopped (Demo fault) r =
        behind (λ left. RefusesNext f.header.version reader.taken left fault) (λ bytes. RefusesDemo bytes fault) source.left mid.left (f.front ++ f.body) f.given
        (λ left h. subst (λ bytes. RefusesDemo bytes fault) (sym (append_assoc f.front f.body left)) (stopped f.header f.commands f.front f.body left reader.taken fault f.begins f.follow f.taken h))
        r.reads.fault.2
    why_stopped Read r = r.reads.fault.0
    why_stopped TooLong r =
        omega (arith, r.reads.fault.1, r.reads.counted, f.taken, f.limit, length-append f.front (f.body ++ r.reads.read), length-append f.body r.reads.read)

    pub stops_at : (e : StreamFault) → ReadsNext f.header.version mid source' reader new (Err e) → CountsFiring source source' (Err e)
    stops_at e r = record {
      read = f.front ++ (f.body ++ r.reads.read);
      given = given_more r;
      counted = tt;
      fault = why_stopped e r;
    }
