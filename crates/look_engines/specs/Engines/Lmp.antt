-- The command `lmp`: what it does between the demo that it reads and the listing that it writes (ours).
use Rattle.std.specs.Prelude.{◌≡◌, ◌⊎◌, ℕ, ◌+◌, ◌-◌, ◌≤◌, Bool, true, false, List, [], ◌∷◌, ◌++◌, length, take, Result, OnOk, IfOk, IfErr, IfSome}
use Rattle.std.specs.Io.KnownBytes.{Appends, Consumes, IsAtEnd}
use Rattle.demo_lump.specs.Command.{IsCommand}
use Rattle.demo_lump.specs.Demo.{AreCommands, Demo, IsRead, RefusesDemo}
use Rattle.demo_lump.specs.Header.{IsHeader}
use Rattle.demo_lump.specs.DemoReader.{DemoReader}
use Rattle.demo_lump.specs.NextPiece.{IsNext, RefusesNext}
use Rattle.demo_lump.specs.Pieces.{NoneBegins}
use Rattle.demo_lump.specs.declared.command.Command.{Command}
use Rattle.demo_lump.specs.declared.header.Header.{Header}
use Rattle.le_rec.specs.Sink.{SinkState}
use Rattle.le_rec.specs.Source.{SourceState}
use Rattle.line_io.specs.Writes.{TakesFront}
use Rattle.look_engines.specs.Listing.{ticcmd_line, ticcmds_text, header_line, listing, totals_text}
use Rattle.look_engines.specs.Turn.{PlayerTurn, player_of, tic_of}
use Rattle.look_engines.specs.declared.fault.RunFault.{RunFault}
use Rattle.look_engines.specs.declared.fault.RunFault.TheVariants as fault

-- the lines that bytes begin with: the header's, and those of the most whole tic commands that follow it
pub record HasLines (bytes text : List ℕ) : Type 0 where
  pub header : Header
  pub commands : List Command
  pub front : List ℕ
  pub body : List ℕ
  pub rest : List ℕ
  pub joined : bytes ≡ front ++ (body ++ rest)
  pub begins : IsHeader front header
  pub follow : AreCommands header.version body commands
  pub most : NoneBegins (IsCommand header.version) rest
  pub is : text ≡ header_line header ++ ticcmds_text header.players 0 commands

-- none where they begin with no header
abbrev pub AreLines : List ℕ → List ℕ → Type 0
AreLines bytes text = (NoneBegins IsHeader bytes × (text ≡ [])) ⊎ HasLines bytes text

-- the text for an input: a demo's listing, and else the lines that it begins with
abbrev pub IsText : List ℕ → List ℕ → Type 0
IsText bytes text = ((demo : Demo) × IsRead bytes demo × (text ≡ listing demo)) ⊎ (((demo : Demo) → ¬ IsRead bytes demo) × AreLines bytes text)

-- `Read` comes only where the source has failed, `Write` only where the sink has, `TooLong` only where the byte past the
-- limit was given, and a demo's fault is the input's; the other end hasn't failed, and no other fault comes
abbrev pub LmpFault : ℕ → SourceState → Bool → Bool → ℕ → RunFault → Type 0
LmpFault limit source failed sink_failed taken (fault.Demo why) =
    (failed ≡ false) × (sink_failed ≡ false) × (taken ≤ limit) × IfSome source.left (λ left. RefusesDemo left why)
LmpFault limit source failed sink_failed taken fault.Read = (failed ≡ true) × (sink_failed ≡ false) × (taken ≤ limit)
LmpFault limit source failed sink_failed taken fault.TooLong = (failed ≡ false) × (sink_failed ≡ false) × (taken ≡ limit + 1)
LmpFault limit source failed sink_failed taken fault.Write = (failed ≡ false) × (sink_failed ≡ true)
LmpFault limit source failed sink_failed taken _ = ⊥

-- the sink took all of `whole` and then a front of `line`
abbrev pub StopsIn : SinkState → SinkState → List ℕ → List ℕ → Type 0
StopsIn out out' whole line = (between : SinkState) × Appends out.taken between.taken whole × TakesFront between out' line

-- the sink failed in a tic command's line, the last that was read
pub record StopsInTiccmd (header : Header) (commands : List Command) (out out' : SinkState) : Type 0 where
  pub told : List Command
  pub last : Command
  pub are : commands ≡ told ++ last ∷ []
  pub stops : StopsIn out out' (ticcmds_text header.players 0 told)
      (ticcmd_line (tic_of header.players (length told)) (player_of header.players (length told)) last)

-- the bytes read are no more than the line needs in which the sink failed: the header's, a tic command's, or the totals'
pub data StopsAt (read : List ℕ) (out out' : SinkState) : Type 0 where
  in_header : (header : Header) → IsHeader read header → TakesFront out out' (header_line header) → StopsAt read out out'
  in_ticcmd : (header : Header) (commands : List Command) (front body : List ℕ) (between : SinkState)
      → read ≡ front ++ body → IsHeader front header → AreCommands header.version body commands
      → Appends out.taken between.taken (header_line header) → StopsInTiccmd header commands between out'
      → StopsAt read out out'
  in_totals : (demo : Demo) → IsRead read demo
      → StopsIn out out' (header_line demo.header ++ ticcmds_text demo.header.players 0 demo.commands)
      (totals_text demo.header.players (length demo.commands) demo.after)
      → StopsAt read out out'

-- after `Write` a front of the input's text was written, and no byte was read behind the line that stopped; after the other
-- faults exactly the lines of the bytes that were read within the limit were written
abbrev pub LeavesLines : ℕ → SourceState → SinkState → SinkState → List ℕ → RunFault → Type 0
LeavesLines limit source out out' read fault.Write =
    IfSome source.left (λ left. (text : List ℕ) × IsText left text × TakesFront out out' text) × StopsAt read out out'
LeavesLines limit source out out' read _ =
    (text : List ℕ) × AreLines (take limit read) text × Appends out.taken out'.taken text

-- listing the demo that is the whole input, of at most `limit` bytes
pub record ListsDemo (limit : ℕ) (source source' : SourceState) (out out' : SinkState) (result : Result (Unit {0}) RunFault) : Type 0 where
  -- what the source gave
  pub read : List ℕ
  pub given : Consumes source.left source'.left read
  -- at Ok that is the whole input, within its limit, and its listing was written
  pub whole : OnOk result ((demo : Demo) × IsRead read demo × Appends out.taken out'.taken (listing demo))
  pub all_read : OnOk result (IsAtEnd source'.left)
  pub within : OnOk result (length read ≤ limit)
  pub sound : OnOk result ((source'.failed ≡ false) × (out'.failed ≡ false))
  -- at Err
  pub bounded : length read ≤ limit + 1
  pub fault : IfErr result (LmpFault limit source source'.failed out'.failed (length read))
  pub lines : IfErr result (LeavesLines limit source out out' read)

-- a run over a source and a sink, by their states
abbrev pub RunsLmp : {S W : Type 0} → (S → SourceState) → (W → SinkState) → ℕ → S → S → W → W → Result (Unit {0}) RunFault → Type 0
RunsLmp source sink limit input input' out out' result = ListsDemo limit (source input) (source input') (sink out) (sink out') result

-- what stopped the listing of tic commands; `tail` was read last, and is no whole piece. After `Write` a front of the commands' lines was written, all but
-- the last whole; after the other faults all of them were
abbrev pub TiccmdsFault : Header → ℕ → SourceState → Bool → SinkState → SinkState → List ℕ → List ℕ → ℕ → ℕ → List Command → RunFault → Type 0
TiccmdsFault header limit source failed out out' body tail place taken commands fault.Write =
    ((failed ≡ false) × (out'.failed ≡ true)) × (tail ≡ []) × (taken ≤ limit) × TakesFront out out' (ticcmds_text header.players 0 commands)
    × StopsInTiccmd header commands out out'
TiccmdsFault header limit source failed out out' body tail place taken commands fault.Read =
    ((failed ≡ true) × (out'.failed ≡ false) × (taken ≤ limit)) × NoneBegins (IsNext header.version) (take (limit - place) tail)
    × Appends out.taken out'.taken (ticcmds_text header.players 0 commands)
TiccmdsFault header limit source failed out out' body tail place taken commands fault.TooLong =
    ((failed ≡ false) × (out'.failed ≡ false) × (taken ≡ limit + 1)) × NoneBegins (IsNext header.version) (take (limit - place) tail)
    × Appends out.taken out'.taken (ticcmds_text header.players 0 commands)
TiccmdsFault header limit source failed out out' body tail place taken commands (fault.Demo why) =
    ((failed ≡ false) × (out'.failed ≡ false) × (taken ≤ limit)
    × IfSome source.left (λ left. (more : List ℕ) × (left ≡ body ++ more) × RefusesNext header.version place more why))
    × NoneBegins (IsNext header.version) (take (limit - place) tail)
    × Appends out.taken out'.taken (ticcmds_text header.players 0 commands)
TiccmdsFault header limit source failed out out' body tail place taken commands _ = ⊥

-- the tic commands are listed, by a reader that has read the header; the result says whose turn it would be at the marker
pub record ListsCommands (header : Header) (limit : ℕ) (source source' : SourceState) (out out' : SinkState) (old new : DemoReader) (result : Result PlayerTurn RunFault) : Type 0 where
  pub commands : List Command
  pub body : List ℕ
  pub tail : List ℕ
  pub given : Consumes source.left source'.left (body ++ tail)
  pub counted : new.taken ≡ old.taken + length body + length tail
  pub follow : AreCommands header.version body commands
  pub room : old.taken + length body ≤ limit
  -- at Ok
  pub marked : OnOk result (tail ≡ 128 ∷ [])
  pub wrote : OnOk result (Appends out.taken out'.taken (ticcmds_text header.players 0 commands))
  pub turn : IfOk result (λ turn. turn ≡ record { players = header.players; index = length commands })
  pub state : OnOk result (new ≡ record old { taken = new.taken; ended = true })
  pub within : OnOk result (new.taken ≤ limit)
  pub sound : OnOk result ((source'.failed ≡ false) × (out'.failed ≡ false))
  -- at Err
  pub fault : IfErr result (TiccmdsFault header limit source source'.failed out out' body tail (old.taken + length body) new.taken commands)
