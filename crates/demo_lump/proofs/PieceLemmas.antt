-- A demo that is taken piece by piece is the demo that its bytes are.
use Rattle.std.proofs.Common.{◌≡◌, ◌≢◌, ℕ, ◌+◌, Some, None, List, [], ◌∷◌, ◌++◌, length, length-append, refl, ap, sym, ◌∙◌, arith, subst, inl, inr, ◌⊎◌}
use Rattle.std.proofs.lemmas.List.{append_assoc}
use Rattle.demo_lump.specs.Pieces.{AreJoined, NoneBegins}
use Rattle.demo_lump.specs.Header.{RefusesHeader}
use Rattle.demo_lump.specs.Command.{IsCommand, command_of, command_size}
use Rattle.demo_lump.specs.Demo.{AreCommands, IsCutAt, RefusesDemo}
use Rattle.demo_lump.specs.Laws.{IsCommand109, PiecesAreDemo, PiecesAreRefused, ReadsAs109, StopsBehind}
use Rattle.demo_lump.specs.NextPiece.{AreNext, AreNextUntil, Begins, IsNext, RefusesNext, header_piece}
use Rattle.demo_lump.specs.declared.command.Command.{Command}
use Rattle.demo_lump.specs.declared.header.Header.{Header}
use Rattle.demo_lump.specs.declared.fault.DemoFault.{DemoFault}
use Rattle.demo_lump.specs.declared.fault.DemoFault.TheVariants.{Empty, Version, ShortHeader, NoPlayers, NoMarker}
use Rattle.demo_lump.proofs.DemoLemmas.{RefusesDemo-header}

module _ (version : ℕ) where
  next_of_commands : (taken : ℕ) (body rest : List ℕ) (commands : List Command)
      → AreCommands version body commands
      → AreNext version taken (body ++ 128 ∷ rest) commands rest
  next_of_commands taken body rest [] h = (128 ∷ [], ap (λ t. t ++ 128 ∷ rest) h, refl)
  next_of_commands taken body rest (c ∷ commands) h = (
    h.1 ++ 128 ∷ rest,
    (h.0, ap (λ t. t ++ 128 ∷ rest) h.2 ∙ append_assoc h.0 h.1 (128 ∷ rest), h.3),
    next_of_commands (taken + command_size version) h.1 rest commands h.4,
  )

  commands_of_next : (taken : ℕ) (bytes rest : List ℕ) (commands : List Command)
      → AreNext version taken bytes commands rest
      → (body : List ℕ) × (bytes ≡ body ++ 128 ∷ rest) × AreCommands version body commands
  commands_of_next taken bytes rest [] n = ([], n.1 ∙ ap (λ t. t ++ rest) n.2, refl)
  commands_of_next taken bytes rest (c ∷ commands) n =
      let front = n.1.0 in
      let more = commands_of_next (taken + command_size version) n.0 rest commands n.2 in (
        front ++ more.0,
        n.1.1 ∙ ap (λ t. front ++ t) more.1 ∙ sym (append_assoc front more.0 (128 ∷ rest)),
        (front, more.0, refl, n.1.2, more.2),
      )

  until_of_commands : (taken : ℕ) (body rest : List ℕ) (commands : List Command) (fault : DemoFault)
      → AreCommands version body commands
      → RefusesNext version (taken + length body) rest fault
      → AreNextUntil version taken (body ++ rest) commands fault
  until_of_commands taken body rest [] fault h r =
      let same : taken + length body ≡ taken = omega (arith, ap length h) in
      subst (λ (xs : List ℕ). RefusesNext version taken (xs ++ rest) fault) (sym h)
      (subst (λ (n : ℕ). RefusesNext version n rest fault) same r)
  until_of_commands taken body rest (c ∷ commands) fault h r =
      let same : taken + length body ≡ taken + command_size version + length h.1 =
      omega (arith, ap length h.2, length-append h.0 h.1, h.3.long) in (
        h.1 ++ rest,
        (h.0, ap (λ t. t ++ rest) h.2 ∙ append_assoc h.0 h.1 rest, h.3),
        until_of_commands (taken + command_size version) h.1 rest commands fault h.4
            (subst (λ (n : ℕ). RefusesNext version n rest fault) same r),
      )

  commands_of_until : (taken : ℕ) (bytes : List ℕ) (commands : List Command) (fault : DemoFault)
      → AreNextUntil version taken bytes commands fault
      → (body : List ℕ) × (rest : List ℕ) × (bytes ≡ body ++ rest)
      × AreCommands version body commands × RefusesNext version (taken + length body) rest fault
  commands_of_until taken bytes [] fault r =
      let same : taken ≡ taken + length {A = ℕ} [] = omega arith in
      ([], bytes, refl, refl, subst (λ (n : ℕ). RefusesNext version n bytes fault) same r)
  commands_of_until taken bytes (c ∷ commands) fault n =
      let front = n.1.0 in
      let more = commands_of_until (taken + command_size version) n.0 commands fault n.2 in
      let same : taken + command_size version + length more.0 ≡ taken + length (front ++ more.0) =
      omega (arith, length-append front more.0, n.1.2.long) in (
        front ++ more.0,
        more.1,
        n.1.1 ∙ ap (λ t. front ++ t) more.2 ∙ sym (append_assoc front more.0 more.1),
        (front, more.0, refl, n.1.2, more.3),
        subst (λ (n : ℕ). RefusesNext version n more.1 fault) same more.4,
      )

  -- where no command and no marker stands
  none_next : (rest : List ℕ) → NoneBegins (IsCommand version) rest
      → ((more : List ℕ) → rest ≢ 128 ∷ more) → NoneBegins (IsNext version) rest
  none_next rest most unmarked (Some c) front more same is = most c front more same is
  none_next rest most unmarked None front more same is =
      unmarked more (same ∙ ap (λ t. t ++ more) is)

pub pieces_are_demo : PiecesAreDemo
pieces_are_demo bytes header commands rest = (
  λ d. (
    d.body ++ 128 ∷ rest,
    (d.front, d.joined, d.begins),
    next_of_commands header.version 13 d.body rest commands d.follow,
  ),
  λ p.
      let more = commands_of_next header.version 13 p.0 rest commands p.2 in
      record {
        front = p.1.0;
        body = more.0;
        joined = p.1.1 ∙ ap (λ t. p.1.0 ++ t) more.1;
        begins = p.1.2;
        follow = more.2;
      },
)

-- the pieces up to one that is refused
abbrev Until : List ℕ → DemoFault → Type 0
Until bytes fault =
    (header : Header) × (commands : List Command) × (left : List ℕ)
    × Begins header_piece bytes header left × AreNextUntil header.version 13 left commands fault

cut_until : (bytes : List ℕ) (place : ℕ) → IsCutAt bytes place → Until bytes (NoMarker place)
cut_until bytes place cut =
    let placed : place ≡ 13 + length cut.body = omega (arith, cut.placed, cut.begins.long) in (
      cut.header,
      cut.commands,
      cut.body ++ cut.rest,
      (cut.front, cut.joined, cut.begins),
      until_of_commands cut.header.version 13 cut.body cut.rest cut.commands
          (NoMarker place) cut.follow
          (placed, none_next cut.header.version cut.rest cut.most cut.unmarked),
    )

refused_until : (bytes : List ℕ) (fault : DemoFault) → RefusesDemo bytes fault
    → RefusesHeader bytes fault ⊎ Until bytes fault
refused_until bytes Empty r = inl r
refused_until bytes (Version version) r = inl r
refused_until bytes ShortHeader r = inl r
refused_until bytes NoPlayers r = inl r
refused_until bytes (NoMarker place) r = inr (cut_until bytes place r)

until_refused : (bytes : List ℕ) (fault : DemoFault) → Until bytes fault → RefusesDemo bytes fault
until_refused bytes Empty u = absurd (commands_of_until u.0.version 13 u.2 u.1 Empty u.4).4
until_refused bytes (Version version) u =
    absurd (commands_of_until u.0.version 13 u.2 u.1 (Version version) u.4).4
until_refused bytes ShortHeader u =
    absurd (commands_of_until u.0.version 13 u.2 u.1 ShortHeader u.4).4
until_refused bytes NoPlayers u = absurd (commands_of_until u.0.version 13 u.2 u.1 NoPlayers u.4).4
until_refused bytes (NoMarker place) u =
    let more = commands_of_until u.0.version 13 u.2 u.1 (NoMarker place) u.4 in
    let none = more.4.1 in
    record {
      header = u.0;
      commands = u.1;
      front = u.3.0;
      body = more.0;
      rest = more.1;
      joined = u.3.1 ∙ ap (λ t. u.3.0 ++ t) more.2;
      begins = u.3.2;
      follow = more.3;
      most = λ c front rest same is. none (Some c) front rest same is;
      unmarked = λ others same. none None (128 ∷ []) others same refl;
      placed = omega (arith, more.4.0, u.3.2.long);
    }

pub pieces_are_refused : PiecesAreRefused
pieces_are_refused bytes fault = (
  refused_until bytes fault,
  λ either. elim either [
    | inl r ↦ RefusesDemo-header bytes fault r
    | inr u ↦ until_refused bytes fault u
  ],
)

pub stops_behind : StopsBehind
stops_behind header commands front body rest place (NoMarker at) begins follow is h = record {
  header = header;
  commands = commands;
  front = front;
  body = body;
  rest = rest;
  joined = refl;
  begins = begins;
  follow = follow;
  most = λ c piece more same k. h.1 (Some c) piece more same k;
  unmarked = λ more same. h.1 None (128 ∷ []) more same refl;
  placed = h.0 ∙ is;
}
stops_behind header commands front body rest place Empty begins follow is h = absurd h
stops_behind header commands front body rest place (Version v) begins follow is h = absurd h
stops_behind header commands front body rest place ShortHeader begins follow is h = absurd h
stops_behind header commands front body rest place NoPlayers begins follow is h = absurd h

-- bytes that are pieces of one kind are pieces of another
AreJoined-map : {A : Type 0} (P Q : List ℕ → A → Type 0)
    → ((bytes : List ℕ) (x : A) → P bytes x → Q bytes x) → (bytes : List ℕ) (xs : List A)
    → AreJoined P bytes xs → AreJoined Q bytes xs
AreJoined-map P Q change bytes [] h = h
AreJoined-map P Q change bytes (x ∷ xs) h =
    (h.0, h.1, h.2, change h.0 x h.3, AreJoined-map P Q change h.1 xs h.4)

to_109 : (version : ℕ) → version ≡ 109 → (bytes : List ℕ) (c : Command) → IsCommand version bytes c
    → IsCommand109 bytes c
unfolding command_size command_of
to_109 version e bytes c h =
    let is : IsCommand 109 bytes c = subst (λ (v : ℕ). IsCommand v bytes c) e h in
    record { long = is.long; unmarked = is.unmarked; reads = is.reads }

from_109 : (version : ℕ) → version ≡ 109 → (bytes : List ℕ) (c : Command) → IsCommand109 bytes c
    → IsCommand version bytes c
unfolding command_size command_of
from_109 version e bytes c h =
    let is : IsCommand 109 bytes c =
    record { long = h.long; unmarked = h.unmarked; reads = h.reads } in
    subst (λ (v : ℕ). IsCommand v bytes c) (sym e) is

pub reads_as_109 : ReadsAs109
reads_as_109 bytes header commands rest = (
  λ (d, version). record {
    front = d.front;
    body = d.body;
    joined = d.joined;
    long = d.begins.long;
    reads = d.begins.reads;
    version = version;
    players = d.begins.players;
    follow =
        AreJoined-map (IsCommand header.version) IsCommand109
        (to_109 header.version version) d.body commands d.follow;
  },
  λ d. (
    record {
      front = d.front;
      body = d.body;
      joined = d.joined;
      begins =
          record {
            long = d.long;
            reads = d.reads;
            version = (omega (arith, d.version), omega (arith, d.version));
            players = d.players;
          };
      follow =
          AreJoined-map IsCommand109 (IsCommand header.version)
          (from_109 header.version d.version) d.body commands d.follow;
    },
    d.version,
  ),
)
