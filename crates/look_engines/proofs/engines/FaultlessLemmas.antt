-- The findings on a name have no fault exactly where there is a level of the name of which no F code holds.
use Rattle.std.proofs.Common.{◌≡◌, ◌↔◌, inl, inr, ℕ, suc, IsTrue, List, [], ◌∷◌, length, refl, sym, ap, ◌∙◌, arith}
use Rattle.le_rec.specs.Name.{query_of}
use Rattle.map_audit.proofs.ReportLemmas.{faults_counted}
use Rattle.map_audit.specs.Findings.{AuditHolds}
use Rattle.map_level.specs.Findings.{is_fault}
use Rattle.map_level.specs.Level.{Level}
use Rattle.map_level.specs.Opening.{RefusesLevel}
use Rattle.map_level.specs.declared.finding.Code.{Code}
use Rattle.map_level.specs.declared.finding.Finding.{Finding}
use Rattle.map_level.specs.declared.level.LevelFault.{LevelFault}
use Rattle.map_level.specs.declared.level.LevelFault.TheVariants.{Missing, Outside}
use Rattle.map_level.specs.declared.reading.Reading.{Reading}
use Rattle.map_level.proofs.LevelLemmas.{IsLevel-one, RefusesLevel-no_level}
use Rattle.wad_dir.specs.Wad.{Wad, IsRead}
use Rattle.wad_dir.proofs.OneDirectoryLemmas.{IsDirectory-one}
use Rattle.look_engines.specs.Engines.Audit.{AreLevelFindings, IsLumpFinding, fault_count}
use Rattle.look_engines.specs.Laws.{FaultlessIsNoFault}
use Rattle.look_engines.specs.Opening.{AreRead, IsOpened}

-- files are read in one way
one_wad : (a b : Wad) → a.bytes ≡ b.bytes → IsRead a → IsRead b → a ≡ b
one_wad a b same p q =
    let one = IsDirectory-one b.bytes a.kind b.kind a.entries b.entries (rw same at p) q in
    ap (λ bytes. let w : Wad = record { bytes = bytes; kind = a.kind; entries = a.entries } in w) same
    ∙ ap (λ kind. let w : Wad = record { bytes = b.bytes; kind = kind; entries = a.entries } in w) one.0
    ∙ ap (λ entries. let w : Wad = record { bytes = b.bytes; kind = b.kind; entries = entries } in w) one.1

AreRead-tail : (b : List ℕ) (bytes : List (List ℕ)) (f : Wad) (files : List Wad) → AreRead (b ∷ bytes) (f ∷ files) → AreRead bytes files
AreRead-tail b bytes f files p = record { of_bytes = let whole = p.of_bytes in cc; each = λ k d below. p.each (suc k) d (omega (arith, below)) }

AreRead-one : (bytes : List (List ℕ)) (a b : List Wad) → AreRead bytes a → AreRead bytes b → a ≡ b
AreRead-one [] [] [] p q = refl
AreRead-one [] (f ∷ a) b p q = absurd (let none = ap length p.of_bytes in omega (arith, none))
AreRead-one [] [] (g ∷ b) p q = absurd (let none = ap length q.of_bytes in omega (arith, none))
AreRead-one (x ∷ bytes) [] b p q = absurd (let none = ap length p.of_bytes in omega (arith, none))
AreRead-one (x ∷ bytes) (f ∷ a) [] p q = absurd (let none = ap length q.of_bytes in omega (arith, none))
AreRead-one (x ∷ bytes) (f ∷ a) (g ∷ b) p q =
    let first_p : f.bytes ≡ x = let whole = p.of_bytes in cc in
    let first_q : g.bytes ≡ x = let whole = q.of_bytes in cc in
    ap (λ w. w ∷ a) (one_wad f g (first_p ∙ sym first_q) (p.each 0 f (omega arith)) (q.each 0 g (omega arith)))
    ∙ ap (λ rest. g ∷ rest) (AreRead-one bytes a b (AreRead-tail x bytes f a p) (AreRead-tail x bytes g b q))

module _ (bytes : List (List ℕ)) (asked : List ℕ) (reading : Reading) (findings : List Finding) where
  abbrev NoFault : Type 0
  NoFault = (level : Level) × IsOpened bytes asked reading level × ((code : Code) (i : ℕ) → IsTrue (is_fault code) → ¬ AuditHolds level code i)

  of_level : AreLevelFindings bytes asked reading findings → (fault_count findings ≡ 0) ↔ NoFault
  of_level a =
      let counted = faults_counted (AuditHolds a.level) findings a.are in (
        λ zeros. (a.level, a.opened, counted.0 zeros),
        λ none.
            let files = AreRead-one bytes none.1.files a.opened.files none.1.read a.opened.read in
            let same : none.0 ≡ a.level = IsLevel-one a.opened.files (query_of asked) reading none.0 a.level (rw files at none.1.opened) a.opened.opened in
            counted.1 (λ code i fault holds. none.2 code i fault (rw (← same) at holds)),
      )

  no_level : (files : List Wad) (why : LevelFault) → AreRead bytes files → RefusesLevel files (query_of asked) why → NoFault → ⊥
  no_level files why read refuses none =
      let same = AreRead-one bytes none.1.files files none.1.read read in
      RefusesLevel-no_level files (query_of asked) reading why none.0 refuses (rw same at none.1.opened)

  of_lump : IsLumpFinding bytes asked findings → (fault_count findings ≡ 0) ↔ NoFault
  of_lump l = elim l.lacks [
    | inl missing ↦ (
      (λ zeros. absurd (let one = rw missing.1 at zeros in omega (arith, one))),
      λ none. absurd (no_level l.files (Missing l.k) l.read missing.0 none),
    )
    | inr outside ↦ (
      (λ zeros. absurd (let one = rw outside.1 at zeros in omega (arith, one))),
      λ none. absurd (no_level l.files (Outside l.k) l.read outside.0 none),
    )
  ]

pub faultless_is_no_fault : FaultlessIsNoFault
faultless_is_no_fault bytes asked reading findings (inl of) = of_level bytes asked reading findings of
faultless_is_no_fault bytes asked reading findings (inr of) = of_lump bytes asked reading findings of
