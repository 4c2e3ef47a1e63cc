-- Bytes have at most one directory, and those of a file that was read have one.
use Rattle.std.proofs.Common.{◌≡◌, ℕ, ◌<◌, List, [], ◌∷◌, length, map, slice_index, refl, sym, ap, ◌∙◌, subst, arith}
use Rattle.std.specs.List.{All}
use Rattle.std.proofs.lemmas.Int.{ints}
use Rattle.le_rec.specs.declared.records.Entry.{Entry}
use Rattle.wad_dir.specs.declared.header.Kind.{Kind}
use Rattle.wad_dir.specs.declared.header.Kind.TheVariants.{Iwad, Pwad}
use Rattle.wad_dir.specs.Directory.{HasDirectory, HasTable, IsDirectory}
use Rattle.wad_dir.specs.Header.{magic_of}
use Rattle.wad_dir.specs.Wad.{IsRead, Wad}
use Rattle.wad_dir.proofs.DirectoryLemmas.{HasTable-one}

magic_of-one : (kind other : Kind) → magic_of kind ≡ magic_of other → kind ≡ other
magic_of-one Iwad Iwad h = refl
magic_of-one Pwad Pwad h = refl
magic_of-one Iwad Pwad h =
    absurd (let first : ◌≡◌ {A = ℕ} 73 80 = ap (λ xs. slice_index xs 0) h in omega arith)
magic_of-one Pwad Iwad h =
    absurd (let first : ◌≡◌ {A = ℕ} 80 73 = ap (λ xs. slice_index xs 0) h in omega arith)

same_entries : (bytes : List ℕ) (entries others : List Entry) → length entries ≡ length others
    → (0 < length entries → HasTable bytes entries) → (0 < length others → HasTable bytes others)
    → entries ≡ others
same_entries bytes [] [] same h k = refl
same_entries bytes [] (o ∷ others) same h k = absurd (omega arith)
same_entries bytes (e ∷ entries) others same h k =
    HasTable-one bytes (e ∷ entries) others (h (omega arith)) (k (omega arith)) same

-- bytes have at most one directory
pub IsDirectory-one : (bytes : List ℕ) (kind other : Kind) (entries others : List Entry)
    → IsDirectory bytes kind entries → IsDirectory bytes other others
    → (kind ≡ other) × (entries ≡ others)
IsDirectory-one bytes kind other entries others d e =
    let same : length entries ≡ length others = omega (arith, ints, d.counted, e.counted) in (
      magic_of-one kind other (sym d.begins ∙ e.begins),
      same_entries bytes entries others same d.listed e.listed,
    )

-- a file that was read has a directory
pub has_directory : (bytes : List ℕ) (file : Wad) → file.bytes ≡ bytes → IsRead file → HasDirectory bytes
has_directory bytes file of_bytes read =
    (file.kind, file.entries, subst (λ (b : List ℕ). IsDirectory b file.kind file.entries) of_bytes read)

-- and so has the one file of some that were read
pub one-has_directory : (bytes : List ℕ) (files : List Wad) → map (λ file. file.bytes) files ≡ bytes ∷ []
    → All IsRead files → HasDirectory bytes
one-has_directory bytes [] of_bytes read = absurd (cc)
one-has_directory bytes (file ∷ files) of_bytes read = has_directory bytes file (cc) (read 0 file (omega arith))
