-- Bytes behind a marker tell one thing.
use Rattle.std.proofs.Common.{◌≡◌, ◌≢◌, ℕ, ◌+◌, ◌≤◌, Option, Some, None, List, length, subst, sym, refl, ap, ◌∙◌, arith}
use Rattle.std.proofs.lemmas.Int.{ints}
use Rattle.std.proofs.lemmas.Option.{same_Some}
use Rattle.std.specs.List.{slice_get}
use Rattle.le_rec.specs.Name.{name_of}
use Rattle.le_rec.specs.declared.records.Entry.{Entry}
use Rattle.wad_dir.specs.Directory.{HasDirectory, IsDirectory}
use Rattle.wad_dir.specs.Entries.{names_in}
use Rattle.wad_dir.specs.Refusal.{RefusesWad}
use Rattle.wad_dir.specs.Slice.{IsSlice}
use Rattle.wad_dir.specs.Wad.{IsRead, Wad}
use Rattle.wad_dir.specs.declared.header.Kind.{Kind}
use Rattle.wad_dir.specs.declared.wad.WadFault.{WadFault}
use Rattle.wad_dir.specs.declared.wad.WadFault.TheVariants.{Short, Magic, Count, Directory}
use Rattle.wad_dir.proofs.LumpLemmas.{IsSlice-one}
use Rattle.wad_dir.proofs.OneDirectoryLemmas.{IsDirectory-one}
use Rattle.wad_dir.proofs.WinnerLemmas.{NoneFrom, Wins-one, named_at, wins_here}
use Rattle.later_demos.specs.Footer.{Footer, HoldsText, IsFooter, IsNamed, IsWadFooter, IsWinner, lines_footer, text_of}
use Rattle.later_demos.specs.Footer.IsFooter.{of_text, of_wad}

-- an entry with a name, where none behind it has the name, is the winner
pub winner_here : (file : Wad) (name : List ℕ) (i n : ℕ) → n ≡ i + 1 → NoneFrom (names_in file) name n
    → (entry : Entry) → slice_get file.entries i ≡ Some entry → name_of entry.name ≡ name
    → IsWinner file name entry
winner_here file name i n next later entry at named = record {
  at = i;
  wins = wins_here (names_in file) name i n next later (named_at file i entry at ∙ ap (λ t. Some t) named);
  listed = at;
}

-- a name has one winner, and so one lump
IsWinner-one : (file : Wad) (name : List ℕ) (entry other : Entry) → IsWinner file name entry
    → IsWinner file name other → entry ≡ other
IsWinner-one file name entry other w v =
    same_Some _ _ (sym w.listed ∙ ap (slice_get file.entries) (Wins-one (names_in file) name w.at v.at w.wins v.wins) ∙ v.listed)

IsNamed-one : (file : Wad) (name lump other : List ℕ) → IsNamed file name lump
    → IsNamed file name other → lump ≡ other
IsNamed-one file name lump other h k =
    let same = IsWinner-one file name h.entry k.entry h.winner k.winner in
    IsSlice-one file.bytes k.entry lump other (subst (λ (e : Entry). IsSlice file.bytes e lump) same h.slice) k.slice

-- what is told where no entry has the name, where the lump isn't inside the file, and else
pub no_entry : (file : Wad) (name : List ℕ) → ((at : ℕ) → slice_get (names_in file) at ≢ Some name)
    → HoldsText file name None
no_entry file name none lump h = none h.winner.at h.winner.wins.named

pub no_lump : (file : Wad) (name : List ℕ) (entry : Entry) → IsWinner file name entry
    → ((lump : List ℕ) → IsSlice file.bytes entry lump → ⊥) → HoldsText file name None
no_lump file name entry wins none lump h =
    let same = IsWinner-one file name h.entry entry h.winner wins in
    none lump (subst (λ (e : Entry). IsSlice file.bytes e lump) same h.slice)

pub some_text : (file : Wad) (name : List ℕ) (entry : Entry) (lump : List ℕ) → IsWinner file name entry
    → IsSlice file.bytes entry lump → HoldsText file name (Some (text_of lump))
some_text file name entry lump wins slice =
    (lump, record { entry = entry; winner = wins; slice = slice }, refl)

HoldsText-one : (file : Wad) (name : List ℕ) (text other : Option (List ℕ)) → HoldsText file name text
    → HoldsText file name other → text ≡ other
HoldsText-one file name None None h k = refl
HoldsText-one file name None (Some other) h k = absurd (h k.0 k.1)
HoldsText-one file name (Some text) None h k = absurd (k h.0 h.1)
HoldsText-one file name (Some text) (Some other) h k =
    ap (λ t. Some t) (sym h.2 ∙ ap text_of (IsNamed-one file name h.0 k.0 h.1 k.1) ∙ k.2)

-- bytes are one WAD file
same_files : (file other : Wad) → file.bytes ≡ other.bytes → file.kind ≡ other.kind
    → file.entries ≡ other.entries → file ≡ other
same_files file other bytes kinds lists =
    ap (λ (b : List ℕ). record file { bytes = b }) bytes
    ∙ ap (λ (k : Kind). record file { bytes = other.bytes; kind = k }) kinds
    ∙ ap (λ (es : List Entry). record other { entries = es }) lists

one_file : (rest : List ℕ) (file other : Wad) → file.bytes ≡ rest → IsRead file → other.bytes ≡ rest
    → IsRead other → file ≡ other
one_file rest file other of_rest read also_rest also =
    let same : file.bytes ≡ other.bytes = of_rest ∙ sym also_rest in
    let one =
    IsDirectory-one other.bytes file.kind other.kind file.entries other.entries
    (subst (λ (b : List ℕ). IsDirectory b file.kind file.entries) same read) also in
    same_files file other same one.0 one.1

has_directory : (rest : List ℕ) (file : Wad) → file.bytes ≡ rest → IsRead file → HasDirectory rest
has_directory rest file of_rest read =
    (file.kind, file.entries, subst (λ (b : List ℕ). IsDirectory b file.kind file.entries) of_rest read)

-- a file that has a directory isn't refused
pub refused_directory : (rest : List ℕ) (fault : WadFault) → RefusesWad rest fault → HasDirectory rest → ⊥
refused_directory rest Short refused has = omega (arith, has.2.header)
refused_directory rest Magic refused has = refused.1 has.0 has.2.begins
refused_directory rest Count refused has = omega (arith, ints, has.2.counted, refused.1)
refused_directory rest Directory refused has =
    let same : length has.1 ≡ refused.1.0 = omega (arith, ints, has.2.counted, refused.1.2) in
    refused.1.3 has.1 same (has.2.listed (omega arith))

same_footers : (footer other : Footer) → footer.port ≡ other.port → footer.words ≡ other.words → footer ≡ other
same_footers footer other port words =
    ap (λ (p : Option (List ℕ)). record footer { port = p }) port
    ∙ ap (λ (w : Option (List ℕ)). record other { words = w }) words

pub IsFooter-one : (rest : List ℕ) (footer other : Footer) → IsFooter rest footer → IsFooter rest other
    → footer ≡ other
IsFooter-one rest footer other (of_wad _ h) (of_wad _ k) =
    let same = one_file rest h.file k.file h.of_rest h.read k.of_rest k.read in
    same_footers footer other
    (HoldsText-one k.file _ footer.port other.port (subst (λ (f : Wad). HoldsText f _ footer.port) same h.port) k.port)
    (HoldsText-one k.file _ footer.words other.words (subst (λ (f : Wad). HoldsText f _ footer.words) same h.words) k.words)
IsFooter-one rest footer _ (of_wad _ h) (of_text none) =
    absurd (none (has_directory rest h.file h.of_rest h.read))
IsFooter-one rest _ other (of_text none) (of_wad _ k) =
    absurd (none (has_directory rest k.file k.of_rest k.read))
IsFooter-one rest _ _ (of_text none) (of_text also) = refl
