use Rattle.std.proofs.Common.{◌≡◌, ◌≢◌, ◌<◌, ◌^◌, ◌%◌, ◌++◌, ℕ, List, [], length, ap, ◌∙◌, subst, arith, rules}
use Rattle.std.proofs.lemmas.List.{append-nil}
use Rattle.demo_engines.proofs.AssemblyLemmas.{IsTaken, listed, nothing, own_demo, own_totals, refuses_end, refuses_header, refuses_there}
use Rattle.demo_engines.specs.Assembly.{WantsFirst, wanted_behind}
use Rattle.demo_engines.specs.declared.assembly.Wanted.{Wanted}
use Rattle.demo_lump.specs.Demo.{IsDemo}
use Rattle.demo_lump.specs.Header.{players_in}
use Rattle.look_engines.specs.Listing.{header_line, totals_line}
use Rattle.look_engines.specs.Turn.{PlayerTurn, tic_of}
use Rattle.demo_engines.proofs.assembly.assemble.Goals as goal

pub returns-in_default-clause-wrong : goal.returns-in_default-clause-wrong
returns-in_default-clause-wrong c =
    let why = c.wrong_line.ensures in
    rw why.2 (refuses_header c.args.listing.now why.0 c.in_default.ensures.none why.1)

pub returns-in_default-take_totals-clause-wrong : goal.returns-in_default-take_totals-clause-wrong
returns-in_default-take_totals-clause-wrong c =
    let taken : IsTaken c.args.listing.now c.in-Some.header c.in-Ok.taken.commands.items c.in-Ok.taken.rest.now = record {
      splits = c.in-Some.ensures.some ∙ ap (λ t. header_line c.in-Some.header ++ t) c.in-Ok.ensures.splits;
      of_header = c.in-Some.ensures.fits;
      of_commands = c.in-Ok.ensures.fit;
      few = c.in-Ok.ensures.few;
    } in
    let no_totals = subst (λ (t : PlayerTurn). (after : ℕ) (r : List ℕ) → after < 2 ^ 64
    → c.in-Ok.taken.rest.now ≢ totals_line (tic_of t.players t.index) (t.index % players_in t.players) after ++ r) c.in-Ok.ensures.turns c.in_default-take_totals.ensures.none in
    let count : c.len-lines.result ≡ length c.in-Ok.taken.commands.items = search rules in
    let why = c.wrong_line-in_default-take_totals.ensures in
    let turns : c.in-Ok.taken.turn ≡ record { players = c.in-Some.header.players; index = length c.in-Ok.taken.commands.items } = c.in-Ok.ensures.turns in
    let first = subst (λ (t : PlayerTurn). WantsFirst c.in-Ok.taken.rest.now (wanted_behind c.in-Ok.taken.rest.now t) why.0) turns
    (subst (λ (w : Wanted). WantsFirst c.in-Ok.taken.rest.now w why.0) c.wanted_behind-wanted.ensures why.1) in
    rw (why.2, count) (refuses_there c.args.listing.now c.in-Some.header c.in-Ok.taken.commands.items c.in-Ok.taken.rest.now taken why.0 c.in-Ok.ensures.none no_totals first)

pub returns-then-not-is_empty-clause-wrong : goal.returns-then-not-is_empty-clause-wrong
returns-then-not-is_empty-clause-wrong c =
    let taken : IsTaken c.args.listing.now c.in-Some.header c.in-Ok.taken.commands.items c.in-Ok.taken.rest.now = record {
      splits = c.in-Some.ensures.some ∙ ap (λ t. header_line c.in-Some.header ++ t) c.in-Ok.ensures.splits;
      of_header = c.in-Some.ensures.fits;
      of_commands = c.in-Ok.ensures.fit;
      few = c.in-Ok.ensures.few;
    } in
    let found = subst (λ (t : PlayerTurn). (after : ℕ) × (after < 2 ^ 64)
    × (c.in-Ok.taken.rest.now ≡ totals_line (tic_of t.players t.index) (t.index % players_in t.players) after ++ c.in-Some-take_totals.rest.now)) c.in-Ok.ensures.turns
    c.in-Some-take_totals.ensures.some in
    let some : 0 < length c.in-Some-take_totals.rest.now = search rules in
    let count : c.len-lines.result ≡ length c.in-Ok.taken.commands.items = search rules in
    let why = c.wrong_line-then-not-is_empty.ensures in
    rw (why.2, count) (refuses_end c.args.listing.now c.in-Some.header c.in-Ok.taken.commands.items c.in-Ok.taken.rest.now taken why.0 found.0 c.in-Some-take_totals.rest.now found.1 found.2
    (λ same. omega (arith, some, ap length same)) why.1)

pub returns-in-Ok-write_demo-clause-ok : goal.returns-in-Ok-write_demo-clause-ok
returns-in-Ok-write_demo-clause-ok c =
    let taken : IsTaken c.args.listing.now c.in-Some.header c.in-Ok.taken.commands.items c.in-Ok.taken.rest.now = record {
      splits = c.in-Some.ensures.some ∙ ap (λ t. header_line c.in-Some.header ++ t) c.in-Ok.ensures.splits;
      of_header = c.in-Some.ensures.fits;
      of_commands = c.in-Ok.ensures.fit;
      few = c.in-Ok.ensures.few;
    } in
    let found = subst (λ (t : PlayerTurn). (after : ℕ) × (after < 2 ^ 64)
    × (c.in-Ok.taken.rest.now ≡ totals_line (tic_of t.players t.index) (t.index % players_in t.players) after ++ c.in-Some-take_totals.rest.now)) c.in-Ok.ensures.turns
    c.in-Some-take_totals.ensures.some in
    let zero : length c.in-Some-take_totals.rest.now ≡ 0 = search rules in
    let none = nothing c.in-Some-take_totals.rest.now zero in
    let text = c.args.listing.now in
    let header = c.in-Some.header in
    let commands = c.in-Ok.taken.commands.items in
    let rest = c.in-Ok.taken.rest.now in
    record {
      demo = own_demo text header commands rest taken found.0;
      is = listed text header commands rest taken found.0 found.1
          (found.2 ∙ ap (λ t. own_totals text header commands rest taken found.0 ++ t) none ∙ append-nil (own_totals text header commands rest taken found.0));
      written = subst (λ cs. IsDemo c.in-Ok-write_demo.bytes.items header cs []) c.deref.ensures.value c.in-Ok-write_demo.ensures.demo;
    }
