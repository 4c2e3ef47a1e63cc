-- The nodes of a level of files have directions that 16 bits hold.
use Rattle.std.proofs.Common.{◌≡◌, ℕ, suc, ◌+◌, ◌*◌, pos, List, [], ◌∷◌, length, drop, Some, sym, subst, arith}
use Rattle.std.specs.Prelude.{FitsSigned, All}
use Rattle.std.specs.Int.{w16}
use Rattle.std.specs.List.{slice_get}
use Rattle.std.proofs.lemmas.List.Elements.{All-nil, All-append, All-map}
use Rattle.std.proofs.lemmas.Option.{slice_get_within, get_or_from_slice_get}
use Rattle.le_rec.specs.Bytes.{AreBytes}
use Rattle.le_rec.specs.Record.{node}
use Rattle.le_rec.specs.Table.{piece, records_of}
use Rattle.le_rec.specs.declared.records.Node.{Node}
use Rattle.le_rec.proofs.BytesLemmas.{AreBytes-take, AreBytes-drop, AreBytes-nil}
use Rattle.le_rec.proofs.NumberLemmas.{FitsSigned-signed16}
use Rattle.wad_dir.specs.Wad.{Wad}
use Rattle.wad_dir.specs.Entries.{Listed, listed_in, joined_from, joined}
use Rattle.wad_dir.specs.Slice.{IsLump}
use Rattle.wad_dir.specs.Standing.{StandsAt}
use Rattle.wad_dir.proofs.StandingLemmas.{StandsAt-is}
use Rattle.map_level.specs.Level.{Level, lump_of}
use Rattle.map_level.specs.Opening.{IsLevelAt}
use Rattle.map_level.specs.declared.reading.Reading.{Reading}

-- each entry of the files' list has the bytes of its file
listed_bytes : (n : ℕ) (files : List Wad) → All (λ (file : Wad). AreBytes file.bytes) files
    → All (λ (l : Listed). AreBytes l.bytes) (joined_from n files)
listed_bytes n [] are = All-nil _
listed_bytes n (file ∷ files) are =
    All-append (λ (l : Listed). AreBytes l.bytes) (listed_in n file) (joined_from (n + 1) files)
    (All-map (λ (l : Listed). AreBytes l.bytes) _ file.entries
    (λ k d below. are 0 file (omega arith)))
    (listed_bytes (n + 1) files (λ k d below. are (suc k) d (omega (arith, below))))

-- a lump of files of bytes
lump_bytes : (files : List Wad) (g : ℕ) (lump : List ℕ)
    → All (λ (file : Wad). AreBytes file.bytes) files → IsLump files g lump → AreBytes lump
lump_bytes files g [] are is = AreBytes-nil
lump_bytes files g (b ∷ lump) are is =
    let within = slice_get_within (joined files) g is.listed is.numbered in
    let bytes : AreBytes is.listed.bytes =
    subst (λ (l : Listed). AreBytes l.bytes)
    (get_or_from_slice_get (joined files) g is.listed is.listed is.numbered)
    (listed_bytes 1 files are g is.listed within) in
    let at = is.slice.stands (omega arith) in
    let here : StandsAt is.listed.bytes (pos (length at.before)) (b ∷ lump) =
    subst (λ place. StandsAt is.listed.bytes place (b ∷ lump)) (sym at.placed) at in
    subst AreBytes (sym (StandsAt-is is.listed.bytes (b ∷ lump) (length at.before) here))
    (AreBytes-take (length (b ∷ lump)) (drop (length at.before) is.listed.bytes)
    (AreBytes-drop (length at.before) is.listed.bytes bytes))

-- the direction of each node of a table of bytes
abbrev HasStep : Node → Type 0
HasStep found = FitsSigned w16 found.dx × FitsSigned w16 found.dy

pub piece_bytes : (size : ℕ) (bytes : List ℕ) (index : ℕ) → AreBytes bytes
    → AreBytes (piece size bytes index)
piece_bytes size bytes index are =
    AreBytes-take size (drop (index * size) bytes) (AreBytes-drop (index * size) bytes are)

step_of_bytes : (bytes : List ℕ) → AreBytes bytes → HasStep (node bytes)
step_of_bytes bytes are = (
  FitsSigned-signed16 _ _ (are.each 4) (are.each 5),
  FitsSigned-signed16 _ _ (are.each 6) (are.each 7),
)

have_steps : (bytes : List ℕ) → AreBytes bytes → All HasStep (records_of 28 node bytes)
have_steps bytes are =
    All-map HasStep (λ index. node (piece 28 bytes index)) _
    (λ k d below. step_of_bytes _ (piece_bytes 28 bytes _ are))

-- each node has one
abbrev pub HaveSteps : List Node → Type 0
HaveSteps nodes = (n : ℕ) (found : Node) → slice_get nodes n ≡ Some found → HasStep found

each_has_step : (nodes : List Node) → All HasStep nodes → HaveSteps nodes
each_has_step nodes all n found e =
    subst HasStep (get_or_from_slice_get nodes n found found e)
    (all n found (slice_get_within nodes n found e))

pub level_has_steps : (files : List Wad) (label : ℕ) (reading : Reading) (level : Level)
    → All (λ (file : Wad). AreBytes file.bytes) files → IsLevelAt files label reading level
    → HaveSteps level.nodes.records
level_has_steps files label reading level are at =
    let lump = lump_of at.lumps 7 in
    let bytes : AreBytes lump =
    lump_bytes files (label + 7) lump are (at.stand.each 7 (omega arith) (omega arith)) in
    subst (λ (l : Level). HaveSteps l.nodes.records) (sym at.is)
    (each_has_step (records_of 28 node lump) (have_steps lump bytes))
