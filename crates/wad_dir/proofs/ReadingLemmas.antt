-- Bytes have one directory, or one fault refuses them, and not both.
use Rattle.std.proofs.Common.{◌≡◌, ℕ, ◌*◌, ◌<◌, ◌≤◌, ◌↔◌, pos, List, length, Result, Ok, Err, refl, sym, ap, ◌∙◌, arith, subst}
use Rattle.std.proofs.lemmas.Int.{ints}
use Rattle.le_rec.specs.declared.records.Entry.{Entry}
use Rattle.wad_dir.specs.declared.header.Kind.{Kind}
use Rattle.wad_dir.specs.declared.wad.WadFault.{WadFault}
use Rattle.wad_dir.specs.declared.wad.WadFault.TheVariants.{Short, Magic, Count, Directory}
use Rattle.wad_dir.specs.Directory.{IsDirectory}
use Rattle.wad_dir.specs.Header.{header_of, magic_of}
use Rattle.wad_dir.specs.Wad.{Wad, IsRead}
use Rattle.wad_dir.specs.Refusal.{RefusesWad, HasKind}
use Rattle.le_rec.specs.Record.{entry}
use Rattle.le_rec.specs.Table.{records_of}
use Rattle.wad_dir.specs.Standing.{StandsAt}
use Rattle.wad_dir.proofs.DirectoryLemmas.{AreRecords-records_of, AreRecords-length}
use Rattle.wad_dir.proofs.OneDirectoryLemmas.{IsDirectory-one}

-- a file whose directory was read isn't refused
pub IsDirectory-not_refused : (bytes : List ℕ) (kind : Kind) (entries : List Entry)
    (fault : WadFault)
    → IsDirectory bytes kind entries → RefusesWad bytes fault → ⊥
IsDirectory-not_refused bytes kind entries Short d r = omega (arith, d.header)
IsDirectory-not_refused bytes kind entries Magic d r = r.1 kind d.begins
IsDirectory-not_refused bytes kind entries Count d r = omega (arith, ints, d.counted, r.1)
IsDirectory-not_refused bytes kind entries Directory d r =
    let same : length entries ≡ r.1.0 = omega (arith, ints, d.counted, r.1.2) in
    r.1.3 entries same (d.listed (omega arith))

-- one fault refuses bytes
pub RefusesWad-one : (bytes : List ℕ) (fault other : WadFault) → RefusesWad bytes fault
    → RefusesWad bytes other → fault ≡ other
RefusesWad-one bytes Short Short r s = refl
RefusesWad-one bytes Short Magic r s = absurd (omega (arith, r, s.0))
RefusesWad-one bytes Short Count r s = absurd (omega (arith, r, s.0.0))
RefusesWad-one bytes Short Directory r s = absurd (omega (arith, r, s.0.0))
RefusesWad-one bytes Magic Short r s = absurd (omega (arith, r.0, s))
RefusesWad-one bytes Magic Magic r s = refl
RefusesWad-one bytes Magic Count r s = absurd (r.1 s.0.1.0 s.0.1.1)
RefusesWad-one bytes Magic Directory r s = absurd (r.1 s.0.1.0 s.0.1.1)
RefusesWad-one bytes Count Short r s = absurd (omega (arith, r.0.0, s))
RefusesWad-one bytes Count Magic r s = absurd (s.1 r.0.1.0 r.0.1.1)
RefusesWad-one bytes Count Count r s = refl
RefusesWad-one bytes Count Directory r s = absurd (omega (arith, ints, r.1, s.1.2))
RefusesWad-one bytes Directory Short r s = absurd (omega (arith, r.0.0, s))
RefusesWad-one bytes Directory Magic r s = absurd (s.1 r.0.1.0 r.0.1.1)
RefusesWad-one bytes Directory Count r s = absurd (omega (arith, ints, s.1, r.1.2))
RefusesWad-one bytes Directory Directory r s = refl

-- the file that was read from bytes whose conditions all hold
pub IsRead-from_table : (bytes table : List ℕ) (kind : Kind) (count : ℕ) → 12 ≤ length bytes
    → (header_of bytes).magic ≡ magic_of kind → (header_of bytes).count ≡ pos count
    → length table ≡ 16 * count → (0 < count → StandsAt bytes (header_of bytes).offset table)
    → IsRead (record { bytes = bytes; kind = kind; entries = records_of 16 entry table })
IsRead-from_table bytes table kind count header begins counted long stands =
    let records = AreRecords-records_of count table long in
    let same : length (records_of 16 entry table) ≡ count =
    omega (arith, AreRecords-length table (records_of 16 entry table) records) in
    record {
      header = header;
      begins = begins;
      counted = counted ∙ ap pos (sym same);
      listed = λ some. record { table = table; records = records; stands = stands (omega arith) };
    }

pub refused_by_table : (bytes : List ℕ) (count : ℕ) → HasKind bytes
    → (header_of bytes).count ≡ pos count
    → (0 < count)
    × ((table : List ℕ) → length table ≡ 16 * count
    → StandsAt bytes (header_of bytes).offset table → ⊥)
    → RefusesWad bytes Directory
refused_by_table bytes count kind counted h = (
  kind,
  (
    count,
    h.0,
    counted,
    λ entries same has. h.1 has.table (AreRecords-length has.table entries has.records
        ∙ ap (λ n. 16 * n) same) has.stands,
  ),
)

same_files : (file other : Wad) → file.bytes ≡ other.bytes → file.kind ≡ other.kind
    → file.entries ≡ other.entries → file ≡ other
same_files file other bytes kinds lists =
    ap (λ (b : List ℕ). record file { bytes = b }) bytes
    ∙ ap (λ (k : Kind). record file { bytes = other.bytes; kind = k }) kinds
    ∙ ap (λ (es : List Entry). record other { entries = es }) lists

-- what a reading or a refusal says of each file and each fault
module _ (bytes : List ℕ) where
  pub only_file : (found : Wad) → found.bytes ≡ bytes → IsRead found → (file : Wad)
      → (◌≡◌ {A = Result Wad WadFault} (Ok found) (Ok file)) ↔ ((file.bytes ≡ bytes) × IsRead file)
  only_file found same read file = (
    λ e. let is : found ≡ file = cc in subst (λ (f : Wad). (f.bytes ≡ bytes)
        × IsRead f) is (same, read),
    λ h.
        let other : IsDirectory found.bytes file.kind file.entries =
        subst (λ (b : List ℕ). IsDirectory b file.kind file.entries) (h.0 ∙ sym same) h.1 in
        let one =
        IsDirectory-one found.bytes found.kind file.kind found.entries file.entries read
        other in
        ap (λ f. Ok f) (same_files found file (same ∙ sym h.0) one.0 one.1),
  )

  pub no_fault : (found : Wad) → found.bytes ≡ bytes → IsRead found → (fault : WadFault)
      → (◌≡◌ {A = Result Wad WadFault} (Ok found) (Err fault)) ↔ RefusesWad bytes fault
  no_fault found same read fault = (
    λ e. absurd (let f : ⊥ = cc in f),
    λ r. absurd (IsDirectory-not_refused bytes found.kind found.entries fault
        (subst (λ (b : List ℕ). IsDirectory b found.kind found.entries) same read) r),
  )

  pub no_file : (fault : WadFault) → RefusesWad bytes fault → (file : Wad)
      → (◌≡◌ {A = Result Wad WadFault} (Err fault) (Ok file)) ↔ ((file.bytes ≡ bytes) × IsRead file)
  no_file fault refused file = (
    λ e. absurd (let f : ⊥ = cc in f),
    λ h. absurd (IsDirectory-not_refused bytes file.kind file.entries fault
        (subst (λ (b : List ℕ). IsDirectory b file.kind file.entries) h.0 h.1) refused),
  )

  pub only_fault : (fault : WadFault) → RefusesWad bytes fault → (other : WadFault)
      → (◌≡◌ {A = Result Wad WadFault} (Err fault) (Err other)) ↔ RefusesWad bytes other
  only_fault fault refused other = (
    λ e. let is : fault ≡ other = cc in subst (RefusesWad bytes) is refused,
    λ r. ap (λ f. Err f) (RefusesWad-one bytes fault other refused r),
  )
