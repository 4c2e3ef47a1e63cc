-- The linedefs of files of bytes have sides that a signed word can hold.
use Rattle.std.proofs.Common.{◌≡◌, ℕ, zero, suc, ◌+◌, ◌*◌, ◌<◌, ◌≤◌, inl, inr, List, [], ◌∷◌, ◌++◌, length, take, drop, map, get_or, Some, refl, sym, ap, ◌∙◌, subst, arith}
use Rattle.std.specs.Prelude.{FitsSigned, All, Contains}
use Rattle.std.specs.Int.{w16}
use Rattle.std.specs.List.{slice_get}
use Rattle.std.proofs.lemmas.Bool.{cases_lt}
use Rattle.std.proofs.lemmas.List.{take_at, drop_at}
use Rattle.std.proofs.lemmas.List.Elements.{All-contains, Contains-append_cases}
use Rattle.std.proofs.lemmas.Option.{slice_get_within, same_Some, get_or_from_slice_get}
use Rattle.le_rec.specs.Bytes.{AreBytes}
use Rattle.le_rec.specs.Record.{linedef}
use Rattle.le_rec.specs.Table.{piece, records_of}
use Rattle.le_rec.specs.declared.records.Entry.{Entry}
use Rattle.le_rec.specs.declared.records.LineDef.{LineDef}
use Rattle.le_rec.proofs.BytesLemmas.{AreBytes-take, AreBytes-drop, AreBytes-nil}
use Rattle.le_rec.proofs.NumberLemmas.{FitsSigned-signed16}
use Rattle.le_rec.proofs.TableLemmas.{length-records_of, slice_get-records_of}
use Rattle.wad_dir.specs.Wad.{Wad}
use Rattle.wad_dir.specs.Entries.{Listed, listed_in, joined_from, joined}
use Rattle.wad_dir.specs.Slice.{IsLump}
use Rattle.map_audit.specs.Readings.{AreFiles}

-- the sides of a linedef that was read from bytes
pub sides_fit : (bytes : List ℕ) → AreBytes bytes → (k : ℕ) (l : LineDef)
    → slice_get (records_of 14 linedef bytes) k ≡ Some l
    → FitsSigned w16 l.side0 × FitsSigned w16 l.side1
sides_fit bytes are k l is =
    let within = slice_get_within (records_of 14 linedef bytes) k l is in
    let read =
    slice_get-records_of 14 linedef bytes k
    (omega (arith, within, length-records_of 14 linedef bytes)) in
    let same : linedef (piece 14 bytes k) ≡ l = same_Some _ _ (sym read ∙ is) in
    let ok : AreBytes (piece 14 bytes k) =
    AreBytes-take 14 (drop (k * 14) bytes) (AreBytes-drop (k * 14) bytes are) in
    subst (λ (r : LineDef). FitsSigned w16 r.side0 × FitsSigned w16 r.side1) same (
      FitsSigned-signed16 _ _ (ok.each 10) (ok.each 11),
      FitsSigned-signed16 _ _ (ok.each 12) (ok.each 13),
    )

-- each entry of one file's list has its bytes
abbrev listed_as : ℕ → List ℕ → Entry → Listed
listed_as n bytes entry = record { file = n; bytes = bytes; entry = entry }

file_bytes : (n : ℕ) (bytes : List ℕ) (entries : List Entry) → AreBytes bytes
    → (k : ℕ) (d : Listed) → k < length (map (listed_as n bytes) entries)
    → AreBytes (get_or (map (listed_as n bytes) entries) k d).bytes
file_bytes n bytes [] are k d below = absurd (omega (arith, below))
file_bytes n bytes (e ∷ entries) are zero d below = are
file_bytes n bytes (e ∷ entries) are (suc k) d below =
    file_bytes n bytes entries are k d (omega (arith, below))

-- an entry of a file's list has that file's bytes
listed_bytes : (n : ℕ) (files : List Wad) → AreFiles files → (listed : Listed)
    → Contains (joined_from n files) listed → AreBytes listed.bytes
listed_bytes n [] are listed there = absurd (omega (arith, there.1))
listed_bytes n (file ∷ files) are listed there =
    elim (Contains-append_cases (listed_in n file) (joined_from (n + 1) files) listed there) [
      | inl here ↦
          let from : All (λ (l : Listed). AreBytes l.bytes) (listed_in n file) =
          file_bytes n file.bytes file.entries (are 0 file (omega arith)) in
          All-contains (λ (l : Listed). AreBytes l.bytes) (listed_in n file) listed from here
      | inr later ↦
          listed_bytes (n + 1) files
          (λ k d below. are (suc k) d (omega (arith, below))) listed later
    ]

no_bytes : (lump : List ℕ) → length lump ≤ 0 → AreBytes lump
no_bytes [] none = AreBytes-nil
no_bytes (b ∷ lump) none = absurd (omega (arith, none))

-- a lump of files of bytes
pub lump_bytes : (files : List Wad) → AreFiles files → (g : ℕ) (lump : List ℕ) → IsLump files g lump
    → AreBytes lump
lump_bytes files are g lump is =
    let within = slice_get_within (joined files) g is.listed is.numbered in
    let same = get_or_from_slice_get (joined files) g is.listed is.listed is.numbered in
    let bytes = listed_bytes 1 files are is.listed (g, within, same) in
    elim (cases_lt 0 (length lump)) [
      | inl some ↦
          let at = is.slice.stands some in
          let part : take (length lump) (drop (length at.before) is.listed.bytes) ≡ lump =
          ap (λ bytes. take (length lump) (drop (length at.before) bytes)) at.joined
          ∙ ap (take (length lump)) (drop_at at.before (lump ++ at.after) (length at.before) refl)
          ∙ take_at lump at.after (length lump) refl in
          subst AreBytes part (AreBytes-take (length lump) _
          (AreBytes-drop (length at.before) is.listed.bytes bytes))
      | inr none ↦ no_bytes lump none
    ]
