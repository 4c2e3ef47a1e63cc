-- Bytes are read as a demo or refused.
use Rattle.std.proofs.Common.{◌≡◌, ℕ, zero, suc, ◌+◌, ◌-◌, ◌≤◌, ◌⊎◌, inl, inr, List, [], ◌∷◌, length, take, drop, slice_index, refl, ap, arith, length-drop}
use Rattle.std.proofs.lemmas.Bool.{cases_eq, cases_lt}
use Rattle.std.proofs.lemmas.List.{length-take-le}
use Rattle.demo_lump.specs.Header.{IsVersion, IsHeader, header_of, players_in}
use Rattle.demo_lump.specs.Command.{command_size}
use Rattle.demo_lump.specs.Demo.{Demo, IsRead, RefusesDemo}
use Rattle.demo_lump.specs.Laws.{ReadOrRefused}
use Rattle.demo_lump.specs.Scanning.{Follows, Scans}
use Rattle.demo_lump.specs.declared.header.Header.{Header}
use Rattle.demo_lump.specs.declared.fault.DemoFault.{DemoFault}
use Rattle.demo_lump.specs.declared.fault.DemoFault.TheVariants.{Empty, Version, ShortHeader, NoPlayers, NoMarker}
use Rattle.demo_lump.proofs.CommandLemmas.{Follows-none, Follows-more, Scans-of}
use Rattle.demo_lump.proofs.DemoLemmas.{IsRead-scan, RefusesDemo-scan}
use Rattle.demo_lump.proofs.ReadingLemmas.{command_size-some}

cases_version : (version : ℕ) → IsVersion version ⊎ ¬ IsVersion version
cases_version version = elim (cases_lt version 109) [
  | inl below ↦ inr (λ is. omega (arith, is.0))
  | inr low ↦
      elim (cases_lt 111 version) [
        | inl above ↦ inr (λ is. omega (arith, is.1))
        | inr high ↦ inl (low, high)
      ]
]

-- the most commands that bytes begin with, once some were found
scan_on : (most version : ℕ) (bytes : List ℕ) (count : ℕ) (rest : List ℕ) → length rest ≤ most
    → Follows version bytes count rest
    → (n : ℕ) × (more : List ℕ) × Scans version bytes n more
scan_on zero version bytes count rest fits f = (
  count,
  rest,
  Scans-of version bytes count rest f (inl (omega (arith, (command_size-some version).0))),
)
scan_on (suc most) version bytes count rest fits f =
    elim (cases_lt (length rest) (command_size version)) [
      | inl short ↦ (count, rest, Scans-of version bytes count rest f (inl short))
      | inr room ↦ elim (cases_eq (slice_index rest 0) 128) [
        | inl marked ↦ (count, rest, Scans-of version bytes count rest f (inr marked))
        | inr unmarked ↦
            let fewer : length (drop (command_size version) rest) ≤ most =
            omega (arith, length-drop {A = ℕ}, (command_size-some version).0) in
            scan_on most version bytes (count + 1) (drop (command_size version) rest) fewer
            (Follows-more version bytes count rest f room unmarked)
      ]
    ]

-- behind a header and the most commands stands the marker or not
module _ (bytes : List ℕ) (header : Header) (begins : IsHeader (take 13 bytes) header)
    (count : ℕ) where
  decided_at : (rest : List ℕ) → Scans header.version (drop 13 bytes) count rest
      → ((demo : Demo) × IsRead bytes demo) ⊎ ((fault : DemoFault) × RefusesDemo bytes fault)
  decided_at [] scan =
      inr (
        NoMarker
            (length bytes - length {A = ℕ} []),
        RefusesDemo-scan bytes header count [] begins scan
            (λ more e. let no : ⊥ = cc in no),
      )
  decided_at (b ∷ more) scan = elim (cases_eq b 128) [
    | inl marked ↦
        inl (
          _,
          IsRead-scan bytes header count (b ∷ more) begins scan more
              (ap (λ (x : ℕ). x ∷ more) marked),
        )
    | inr unmarked ↦
        inr (
          NoMarker (length bytes - length (b ∷ more)),
          RefusesDemo-scan bytes header count
              (b ∷ more) begins scan (λ others e. let same : b ≡ 128 = cc in unmarked same),
        )
  ]

pub read_or_refused : ReadOrRefused
read_or_refused [] = inr (Empty, refl)
read_or_refused (b ∷ bytes) = elim (cases_version b) [
  | inr other ↦ inr (Version b, (omega arith, refl, other))
  | inl version ↦ elim (cases_lt (length (b ∷ bytes)) 13) [
    | inl short ↦ inr (ShortHeader, (omega arith, version, short))
    | inr long ↦ elim (cases_lt 0 (players_in (header_of (take 13 (b ∷ bytes))).players)) [
      | inr none ↦ inr (NoPlayers, (long, version, omega arith))
      | inl some ↦
          let begins : IsHeader (take 13 (b ∷ bytes)) (header_of (take 13 (b ∷ bytes))) = record {
            long = length-take-le 13 (b ∷ bytes) long;
            reads = refl;
            version = version;
            players = some;
          } in
          let scan =
          scan_on (length (drop 13 (b ∷ bytes))) b (drop 13 (b ∷ bytes)) 0 (drop 13 (b ∷ bytes))
          (omega arith) (Follows-none b (drop 13 (b ∷ bytes))) in
          decided_at (b ∷ bytes) (header_of (take 13 (b ∷ bytes))) begins scan.0 scan.1 scan.2
    ]
  ]
]
