-- Demos of Doom 1.9 are read here as they are alone.
use Rattle.std.proofs.Common.{◌≡◌, ◌≢◌, ℕ, ◌+◌, ◌≤◌, ◌<◌, ◌==◌, Option, Some, None, List, [], ◌∷◌, ◌++◌, length, map, take, drop, slice_index, refl, sym, ap, ◌∙◌, ◌⊎◌, inl, inr, arith, length-append, lit≤, subst}
use Rattle.std.proofs.Math.Nat.{zero-add}
use Rattle.std.proofs.lemmas.Bool.{cases_lt, cond-false, cond-true, eq-eqb, le-ltb, lt-ltb, ne_eqb}
use Rattle.std.proofs.lemmas.List.{drop-take, take-take, take_at}
use Rattle.demo_lump.specs.Command.{IsCommand as IsDoomCommand, command_of as doom_command_of, command_size as doom_command_size}
use Rattle.demo_lump.specs.Demo.{AreCommands as AreDoomCommands, IsCutAt as IsDoomCut, IsDemo as IsDoomDemo, RefusesDemo as RefusesDoom}
use Rattle.demo_lump.specs.Header.{IsHeader as IsDoomHeader, IsVersion, players_in}
use Rattle.demo_lump.specs.Pieces.{NoneBegins}
use Rattle.demo_lump.specs.declared.command.Command.{Command}
use Rattle.demo_lump.specs.declared.fault.DemoFault.{DemoFault}
use Rattle.demo_lump.specs.declared.fault.DemoFault.TheVariants.{Empty, Version, ShortHeader, NoPlayers, NoMarker}
use Rattle.demo_lump.specs.declared.header.Header.{Header}
use Rattle.later_demos.specs.Command.{AreCommands, IsCommand, command_of, command_size}
use Rattle.later_demos.specs.Demo.{IsDemo}
use Rattle.later_demos.specs.Doom.{bare, bare_demo, doom_fault, doom_layout}
use Rattle.later_demos.specs.Game.{game_of}
use Rattle.later_demos.specs.Header.{IsHeader, header_refusal, refusal_by, refusal_of}
use Rattle.later_demos.specs.Laws.{DoomIsRead, DoomIsRefused}
use Rattle.later_demos.specs.Layout.{layout_of}
use Rattle.later_demos.specs.Numbers.{or_else}
use Rattle.later_demos.specs.Refusal.{RefusesBy, RefusesDemo, behind_header, behind_wrapper, first_refusal, form_of, inner_refusal, key_frame_refusal}
use Rattle.later_demos.specs.Wrapper.{size_of, wrapper_of}
use Rattle.later_demos.specs.declared.command.CommandForm.{CommandForm}
use Rattle.later_demos.specs.declared.command.LaterCommand.{LaterCommand}
use Rattle.later_demos.specs.declared.fault.LaterFault.{LaterFault}
use Rattle.later_demos.specs.declared.fault.LaterFault.TheVariants as later
use Rattle.later_demos.proofs.DemoLemmas.{first_refuses, whole_allowed, whole_commands, whole_version, whole_wrapped}
use Rattle.later_demos.proofs.WrapperLemmas.{wraps}

-- the table has the three versions
three : (version : ℕ) → IsVersion version
    → (version ≡ 109) ⊎ ((version ≡ 110) ⊎ (version ≡ 111))
three version is = elim (cases_lt version 110) [
  | inl below ↦ inl (omega (arith, is.0, below))
  | inr upto ↦ elim (cases_lt version 111) [
    | inl below ↦ inr (inl (omega (arith, upto, below)))
    | inr last ↦ inr (inr (omega (arith, is.1, last)))
  ]
]

doom_version : (version : ℕ) → IsVersion version → layout_of version ≡ Some (doom_layout version)
unfolding layout_of
doom_version version is = elim (three version is) [
  | inl first ↦ subst (λ (v : ℕ). layout_of v ≡ Some (doom_layout v)) (sym first) refl
  | inr more ↦ elim more [
    | inl second ↦ subst (λ (v : ℕ). layout_of v ≡ Some (doom_layout v)) (sym second) refl
    | inr third ↦ subst (λ (v : ℕ). layout_of v ≡ Some (doom_layout v)) (sym third) refl
  ]
]

doom_begins : (front : List ℕ) (header : Header) → IsDoomHeader front header
    → IsHeader front (doom_layout header.version)
doom_begins front header is =
    let version : slice_index front 0 ≡ header.version = ap (λ (h : Header). h.version) is.reads in
    record {
      version = ap layout_of version ∙ doom_version header.version is.version;
      long = is.long;
      signature = refl;
      options = lit≤ tt;
      players =
          subst (λ (p : List ℕ). 0 < players_in p) (sym (ap (λ (h : Header). h.players) is.reads)) is.players;
    }

-- commands lie as they do alone
abbrev doom_form : ℕ → CommandForm
doom_form version = form_of (doom_layout version) None

doom_command : (version : ℕ) (bytes : List ℕ) (c : Command) → IsDoomCommand version bytes c
    → IsCommand (doom_form version) bytes (bare c)
unfolding command_size command_of doom_command_size doom_command_of
doom_command version bytes c is =
    record { long = is.long; unmarked = is.unmarked; reads = ap bare is.reads }

doom_commands : (version : ℕ) (body : List ℕ) (commands : List Command)
    → AreDoomCommands version body commands
    → AreCommands (doom_form version) body (map bare commands)
doom_commands version body [] h = h
doom_commands version body (c ∷ commands) h =
    (h.0, h.1, h.2, doom_command version h.0 c h.3, doom_commands version h.1 commands h.4)

command_alone : (version : ℕ) (bytes : List ℕ) (c : LaterCommand) → IsCommand (doom_form version) bytes c
    → IsDoomCommand version bytes (doom_command_of version bytes)
unfolding command_size doom_command_size
command_alone version bytes c is = record { long = is.long; unmarked = is.unmarked; reads = refl }

pub doom_is_read : DoomIsRead
doom_is_read bytes header commands rest is =
    let third = is.body ++ 128 ∷ rest in
    let front : take 13 bytes ≡ is.front =
    ap (take 13) is.joined ∙ take_at is.front third 13 is.begins.long in
    subst (λ (h : List ℕ). IsDemo bytes (bare_demo header.version h commands rest)) (sym front) (record {
      front = [];
      frame = [];
      body = is.body;
      joined = is.joined;
      wrapped = refl;
      begins = doom_begins is.front header is.begins;
      framed = (refl, refl);
      follow = doom_commands header.version is.body commands is.follow;
    })

-- its header is the first bytes, and has the numbers that it has alone
pub doom_front : (bytes : List ℕ) (header : Header) (commands : List Command) (rest : List ℕ)
    → IsDoomDemo bytes header commands rest → IsDoomHeader (take 13 bytes) header
doom_front bytes header commands rest is =
    let front : take 13 bytes ≡ is.front =
    ap (take 13) is.joined ∙ take_at is.front (is.body ++ 128 ∷ rest) 13 is.begins.long in
    subst (λ (h : List ℕ). IsDoomHeader h header) (sym front) is.begins

pub doom_game : (bytes : List ℕ) (header : Header) (commands : List Command) (rest : List ℕ)
    → IsDoomDemo bytes header commands rest → game_of (doom_layout header.version) (take 13 bytes) ≡ header
doom_game bytes header commands rest is = (doom_front bytes header commands rest is).reads

-- what refuses a header without a wrapper is the first reason
header_refuses : (bytes : List ℕ) (fault : LaterFault) → 0 < length bytes → slice_index bytes 0 ≢ 255
    → header_refusal 0 bytes ≡ Some fault → first_refusal bytes ≡ Some fault
unfolding first_refusal inner_refusal behind_wrapper
header_refuses bytes fault some other h =
    let outer = wraps [] bytes None refl some other in
    let behind : behind_wrapper bytes ≡ bytes = ap (λ w. drop (size_of w) bytes) outer.0 in
    cond-false _ _ _ (ne_eqb (length bytes) 0 (λ e. omega (arith, e, some)))
    ∙ ap (λ o. or_else o (inner_refusal (wrapper_of bytes) (behind_wrapper bytes))) outer.1
    ∙ ap (λ w. inner_refusal w (behind_wrapper bytes)) outer.0
    ∙ ap (inner_refusal None) behind
    ∙ cond-false _ _ _ (ne_eqb (length bytes) 0 (λ e. omega (arith, e, some)))
    ∙ ap (λ o. or_else o (key_frame_refusal None (behind_header bytes))) h

doom_refusal : (bytes : List ℕ) → IsVersion (slice_index bytes 0)
    → header_refusal 0 bytes ≡ refusal_by (doom_layout (slice_index bytes 0)) 0 bytes
doom_refusal bytes version = ap (λ o. refusal_of o 0 bytes) (doom_version (slice_index bytes 0) version)

doom_short : (version : ℕ) (bytes : List ℕ) → length bytes < 13
    → refusal_by (doom_layout version) 0 bytes ≡ Some (later.Short (length bytes) 13)
unfolding refusal_by
doom_short version bytes short =
    cond-true _ _ _ (lt-ltb (length bytes) 13 short)
    ∙ ap (λ (n : ℕ). Some (later.Short n 13)) (zero-add (length bytes))

same_players : (bytes : List ℕ) → take 4 (drop 9 bytes) ≡ take 4 (drop 9 (take 13 bytes))
same_players bytes =
    sym (ap (take 4) (drop-take 9 4 bytes) ∙ take-take 4 4 (drop 9 bytes) (lit≤ tt))

doom_no_players : (version : ℕ) (bytes : List ℕ) → 13 ≤ length bytes
    → players_in (take 4 (drop 9 (take 13 bytes))) ≡ 0
    → refusal_by (doom_layout version) 0 bytes ≡ Some later.NoPlayers
unfolding refusal_by
doom_no_players version bytes long none =
    cond-false _ _ _ (le-ltb (length bytes) 13 long)
    ∙ cond-true _ _ _ (eq-eqb _ _ (ap players_in (same_players bytes) ∙ none))

not_255 : (version : ℕ) → IsVersion version → version ≢ 255
not_255 version is same = omega (arith, is.1, same)

doom_cut : (bytes : List ℕ) (place : ℕ) → IsDoomCut bytes place → RefusesDemo bytes (later.NoMarker place)
doom_cut bytes place cut =
    let layout = doom_layout cut.header.version in
    let third = cut.body ++ cut.rest in
    let whole = cut.front ++ third in
    let begins = doom_begins cut.front cut.header cut.begins in
    let wrapped = whole_wrapped None layout cut.front None [] [] third refl begins (refl, refl) in
    subst (λ (b : List ℕ). RefusesDemo b (later.NoMarker place)) (sym cut.joined)
    (subst (λ o. RefusesBy whole o (later.NoMarker place))
    (sym (whole_allowed None layout cut.front None [] [] third refl begins (refl, refl))) (record {
      layout = layout;
      body = cut.body;
      commands = map bare cut.commands;
      rest = cut.rest;
      version = whole_version None layout cut.front None [] [] third refl begins (refl, refl);
      joined = whole_commands None layout cut.front None [] [] third refl begins (refl, refl);
      follow =
          subst (λ w. AreCommands (form_of layout w) cut.body (map bare cut.commands)) (sym wrapped)
          (doom_commands cut.header.version cut.body cut.commands cut.follow);
      most =
          subst (λ w. NoneBegins (IsCommand (form_of layout w)) cut.rest) (sym wrapped)
          (λ c front more same is. cut.most (doom_command_of cut.header.version front) front more same
          (command_alone cut.header.version front c is));
      unmarked = cut.unmarked;
      placed = omega (arith, cut.placed, length-append cut.front third, length-append cut.body cut.rest);
    }))

pub doom_is_refused : DoomIsRefused
doom_is_refused bytes Empty version empty =
    absurd (omega (arith, version.0, ap (λ (b : List ℕ). slice_index b 0) empty))
doom_is_refused bytes (Version other) version h = absurd (h.2 (subst IsVersion h.1 version))
doom_is_refused bytes ShortHeader version h =
    first_refuses bytes (later.Short (length bytes) 13)
    (header_refuses bytes (later.Short (length bytes) 13) h.0 (not_255 (slice_index bytes 0) version)
    (doom_refusal bytes version ∙ doom_short (slice_index bytes 0) bytes h.2))
doom_is_refused bytes NoPlayers version h =
    let some : 0 < length bytes = omega (arith, h.0) in
    first_refuses bytes later.NoPlayers
    (header_refuses bytes later.NoPlayers some (not_255 (slice_index bytes 0) version)
    (doom_refusal bytes version ∙ doom_no_players (slice_index bytes 0) bytes h.0 h.2))
doom_is_refused bytes (NoMarker place) version cut = doom_cut bytes place cut
