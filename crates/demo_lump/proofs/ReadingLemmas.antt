-- Bytes have one reading as a demo, or one fault refuses them, and not both.
use Rattle.std.proofs.Common.{◌≡◌, ℕ, ◌<◌, ◌≤◌, List, [], ◌∷◌, ◌++◌, length, take, drop, slice_index, refl, sym, ap, ◌∙◌, arith, subst, length-append}
use Rattle.std.proofs.Math.Seq.{take-append_seam, drop-append_seam}
use Rattle.std.proofs.lemmas.Bool.Decides.{nat_tests}
use Rattle.std.proofs.lemmas.List.{append_assoc, take_at}
use Rattle.demo_lump.specs.Header.{IsVersion, IsHeader, header_of, players_in}
use Rattle.demo_lump.specs.Command.{IsCommand, command_size, command_of}
use Rattle.demo_lump.specs.Demo.{AreCommands, IsDemo, IsCutAt, RefusesDemo}
use Rattle.demo_lump.specs.Pieces.{NoneBegins}
use Rattle.demo_lump.specs.declared.command.Command.{Command}
use Rattle.demo_lump.specs.declared.header.Header.{Header}
use Rattle.demo_lump.specs.declared.fault.DemoFault.{DemoFault}
use Rattle.demo_lump.specs.declared.fault.DemoFault.TheVariants.{Empty, Version, ShortHeader, NoPlayers, NoMarker}

-- a command has four or five bytes
pub command_size-some : (version : ℕ) → (4 ≤ command_size version) × (command_size version ≤ 5)
unfolding command_size
command_size-some version = (grind (arith, nat_tests), grind (arith, nat_tests))

-- equal bytes that begin with pieces of one length begin with the same piece
pub same_front : (front other rest more : List ℕ) → front ++ rest ≡ other ++ more
    → length front ≡ length other → front ≡ other
same_front front other rest more same long =
    sym (take-append_seam front rest) ∙ ap (take (length front)) same
    ∙ ap (λ n. take n (other ++ more)) long ∙ take-append_seam other more

pub same_rest : (front other rest more : List ℕ) → front ++ rest ≡ other ++ more
    → length front ≡ length other → rest ≡ more
same_rest front other rest more same long =
    sym (drop-append_seam front rest) ∙ ap (drop (length front)) same
    ∙ ap (λ n. drop n (other ++ more)) long ∙ drop-append_seam other more

-- the first byte of a piece is that of the bytes that begin with it
pub first-append : (front rest : List ℕ) → 0 < length front
    → slice_index (front ++ rest) 0 ≡ slice_index front 0
first-append [] rest h = absurd (omega arith)
first-append (b ∷ front) rest h = refl

-- behind the marker's place no command stands
pub marker_stops : (version : ℕ) (more : List ℕ) → NoneBegins (IsCommand version) (128 ∷ more)
marker_stops version more c front rest same is =
    let some : 0 < length front = omega (arith, is.long, (command_size-some version).0) in
    is.unmarked (sym (first-append front rest some) ∙ ap (λ xs. slice_index xs 0) (sym same))

-- the most commands at the front of bytes are one list, and what follows them is one list
pub AreCommands-one : (version : ℕ) (body other rest more : List ℕ) (commands others : List Command)
    → AreCommands version body commands → AreCommands version other others
    → body ++ rest ≡ other ++ more → NoneBegins (IsCommand version) rest
    → NoneBegins (IsCommand version) more
    → (commands ≡ others) × (body ≡ other) × (rest ≡ more)
AreCommands-one version body other rest more [] [] h k same stops ends =
    let e : [] ++ rest ≡ [] ++ more = sym (ap (λ t. t ++ rest) h) ∙ same ∙ ap (λ t. t ++ more) k in
    (refl, h ∙ sym k, e)
AreCommands-one version body other rest more [] (d ∷ others) h k same stops ends =
    absurd (stops d k.0 (k.1 ++ more) (sym (ap (λ t. t ++ rest) h) ∙ same ∙ ap (λ t. t ++ more) k.2
    ∙ append_assoc k.0 k.1 more) k.3)
AreCommands-one version body other rest more (c ∷ commands) [] h k same stops ends =
    absurd (ends c h.0 (h.1 ++ rest) (sym (ap (λ t. t ++ more) k) ∙ sym same
    ∙ ap (λ t. t ++ rest) h.2 ∙ append_assoc h.0 h.1 rest) h.3)
AreCommands-one version body other rest more (c ∷ commands) (d ∷ others) h k same stops ends =
    let joined : h.0 ++ (h.1 ++ rest) ≡ k.0 ++ (k.1 ++ more) =
    sym (append_assoc h.0 h.1 rest) ∙ ap (λ t. t ++ rest) (sym h.2) ∙ same ∙ ap (λ t. t ++ more) k.2
    ∙ append_assoc k.0 k.1 more in
    let long : length h.0 ≡ length k.0 = h.3.long ∙ sym k.3.long in
    let first : h.0 ≡ k.0 = same_front _ _ _ _ joined long in
    let one : c ≡ d = sym h.3.reads ∙ ap (command_of version) first ∙ k.3.reads in
    let next =
    AreCommands-one version h.1 k.1 rest more commands others h.4 k.4
    (same_rest _ _ _ _ joined long) stops ends in (
      rw (one, next.0) refl,
      h.2 ∙ ap (λ t. t ++ h.1) first ∙ ap (λ t. k.0 ++ t) next.1 ∙ sym k.2,
      next.2,
    )

-- bytes have one header
pub IsHeader-one : (front other rest more : List ℕ) (header found : Header) → IsHeader front header
    → IsHeader other found → front ++ rest ≡ other ++ more → header ≡ found
IsHeader-one front other rest more header found h k same =
    sym h.reads ∙ ap header_of (same_front _ _ _ _ same (h.long ∙ sym k.long)) ∙ k.reads

-- two ways to take a header and the most commands from the same bytes are one
module _ (header found : Header) (front other body stuff rest more : List ℕ)
    (commands others : List Command)
    (h : IsHeader front header) (k : IsHeader other found)
    (same : front ++ (body ++ rest) ≡ other ++ (stuff ++ more))
    (a : AreCommands header.version body commands) (b : AreCommands found.version stuff others)
    (stops : NoneBegins (IsCommand header.version) rest)
    (ends : NoneBegins (IsCommand found.version) more) where
  one_header : header ≡ found
  one_header = IsHeader-one front other (body ++ rest) (stuff ++ more) header found h k same

  pub most_one : (header ≡ found) × (commands ≡ others) × (body ≡ stuff) × (rest ≡ more)
  most_one =
      let follow : AreCommands header.version stuff others = rw one_header b in
      let none : NoneBegins (IsCommand header.version) more = rw one_header ends in
      let next =
      AreCommands-one header.version body stuff rest more commands others a follow
      (same_rest _ _ _ _ same (h.long ∙ sym k.long)) stops none in
      (one_header, next.0, next.1, next.2)

pub IsDemo-one : (bytes : List ℕ) (header other : Header) (commands others : List Command)
    (rest more : List ℕ)
    → IsDemo bytes header commands rest → IsDemo bytes other others more
    → (header ≡ other) × (commands ≡ others) × (rest ≡ more)
IsDemo-one bytes header other commands others rest more d e =
    let one =
    most_one header other d.front e.front d.body e.body (128 ∷ rest)
    (128 ∷ more) commands others d.begins e.begins (sym d.joined ∙ e.joined)
    d.follow e.follow (marker_stops header.version rest) (marker_stops other.version more) in
    let after : rest ≡ more = let e = one.3 in cc in
    (one.0, one.1, after)

-- what bytes that begin with a header say of the refusals 1 to 4
pub not_refused_before : (front rest : List ℕ) (header : Header) (fault : DemoFault)
    → IsHeader front header → RefusesDemo (front ++ rest) fault
    → (place : ℕ) × (fault ≡ NoMarker place) × IsCutAt (front ++ rest) place
not_refused_before front rest header Empty h r =
    absurd (omega (arith, h.long, length-append front rest, ap length r))
not_refused_before front rest header (Version v) h r =
    let some : 0 < length front = omega (arith, h.long) in
    let first : header.version ≡ v =
    ap (λ (x : Header). x.version) (sym h.reads) ∙ sym (first-append front rest some) ∙ r.1 in
    absurd (r.2 (subst IsVersion first h.version))
not_refused_before front rest header ShortHeader h r =
    absurd (omega (arith, h.long, length-append front rest, r.2))
not_refused_before front rest header NoPlayers h r =
    let whole : header ≡ header_of (take 13 (front ++ rest)) =
    sym h.reads ∙ ap header_of (sym (take_at front rest 13 h.long)) in
    absurd (omega (arith, h.players, ap (λ (x : Header). players_in x.players) whole, r.2))
not_refused_before front rest header (NoMarker place) h r = (place, refl, r)

pub IsDemo-not_refused : (bytes : List ℕ) (header : Header) (commands : List Command)
    (rest : List ℕ) (fault : DemoFault)
    → IsDemo bytes header commands rest → RefusesDemo bytes fault → ⊥
IsDemo-not_refused bytes header commands rest fault d r =
    let cut =
    (not_refused_before d.front (d.body ++ 128 ∷ rest) header fault d.begins
    (subst (λ (b : List ℕ). RefusesDemo b fault) d.joined r)).2 in
    let one =
    most_one header cut.header d.front cut.front d.body cut.body
    (128 ∷ rest) cut.rest commands cut.commands d.begins cut.begins cut.joined
    d.follow cut.follow (marker_stops header.version rest) cut.most in
    cut.unmarked rest (sym one.3)

-- one place where bytes are cut
IsCutAt-one : (bytes : List ℕ) (place other : ℕ) → IsCutAt bytes place → IsCutAt bytes other
    → place ≡ other
IsCutAt-one bytes place other r s =
    let one =
    most_one r.header s.header r.front s.front r.body s.body r.rest s.rest r.commands s.commands
    r.begins s.begins (sym r.joined ∙ s.joined)
    r.follow s.follow r.most s.most in
    omega (arith, r.placed, s.placed, ap length one.2, r.begins.long, s.begins.long)

-- a fault that isn't the last, of bytes that are cut
early : (bytes : List ℕ) (place : ℕ) (fault : DemoFault) → IsCutAt bytes place
    → RefusesDemo bytes fault → fault ≡ NoMarker place
early bytes place fault cut r =
    let late =
    not_refused_before cut.front (cut.body ++ cut.rest) cut.header fault cut.begins
    (subst (λ (b : List ℕ). RefusesDemo b fault) cut.joined r) in
    late.1
    ∙ ap NoMarker (IsCutAt-one bytes late.0 place
    (subst (λ (b : List ℕ). IsCutAt b late.0) (sym cut.joined) late.2) cut)

pub RefusesDemo-one : (bytes : List ℕ) (fault other : DemoFault) → RefusesDemo bytes fault
    → RefusesDemo bytes other → fault ≡ other
RefusesDemo-one bytes fault (NoMarker place) r s = early bytes place fault s r
RefusesDemo-one bytes (NoMarker place) other r s = sym (early bytes place other r s)
RefusesDemo-one bytes Empty Empty r s = refl
RefusesDemo-one bytes Empty (Version v) r s = absurd (omega (arith, ap length r, s.0))
RefusesDemo-one bytes Empty ShortHeader r s = absurd (omega (arith, ap length r, s.0))
RefusesDemo-one bytes Empty NoPlayers r s = absurd (omega (arith, ap length r, s.0))
RefusesDemo-one bytes (Version v) Empty r s = absurd (omega (arith, ap length s, r.0))
RefusesDemo-one bytes (Version v) (Version w) r s = ap Version (sym r.1 ∙ s.1)
RefusesDemo-one bytes (Version v) ShortHeader r s = absurd (r.2 (subst IsVersion r.1 s.1))
RefusesDemo-one bytes (Version v) NoPlayers r s = absurd (r.2 (subst IsVersion r.1 s.1))
RefusesDemo-one bytes ShortHeader Empty r s = absurd (omega (arith, ap length s, r.0))
RefusesDemo-one bytes ShortHeader (Version v) r s = absurd (s.2 (subst IsVersion s.1 r.1))
RefusesDemo-one bytes ShortHeader ShortHeader r s = refl
RefusesDemo-one bytes ShortHeader NoPlayers r s = absurd (omega (arith, r.2, s.0))
RefusesDemo-one bytes NoPlayers Empty r s = absurd (omega (arith, ap length s, r.0))
RefusesDemo-one bytes NoPlayers (Version v) r s = absurd (s.2 (subst IsVersion s.1 r.1))
RefusesDemo-one bytes NoPlayers ShortHeader r s = absurd (omega (arith, s.2, r.0))
RefusesDemo-one bytes NoPlayers NoPlayers r s = refl
