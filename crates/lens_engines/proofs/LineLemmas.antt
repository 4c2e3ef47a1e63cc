-- The lines of a level's findings, code by code, are those of its report in their order.
use Rattle.std.proofs.Common.{◌≡◌, ℕ, zero, suc, ◌+◌, ◌-◌, ◌≤◌, inl, inr, Bool, List, [], ◌∷◌, ◌++◌, length, take, get_or, refl, sym, ap, ◌∙◌, subst, arith, add-one, append_assoc, append-nil}
use Rattle.std.specs.Prelude.{AllPairs, Contains, if◌then◌else◌, nat_lt, ◌==◌}
use Rattle.std.specs.List.{flat_map}
use Rattle.std.proofs.lemmas.Bool.{cases_eq, cases_order, eq-eqb, le-ltb, lt-ltb, ne_eqb}
use Rattle.std.proofs.lemmas.List.{take_all, take_more}
use Rattle.std.proofs.lemmas.List.Concat.{flat_map-append}
use Rattle.map_audit.specs.Findings.{AuditHolds}
use Rattle.map_level.proofs.FindingLemmas.{rank_at, rank-below, same_from_rank}
use Rattle.map_level.proofs.OneListLemmas.{pairs-head, pairs-tail}
use Rattle.map_level.specs.Findings.{StandsBefore, rank}
use Rattle.map_level.specs.declared.finding.Code.{Code}
use Rattle.map_level.specs.declared.finding.Code.TheVariants.{F1}
use Rattle.map_level.specs.declared.finding.Finding.{Finding}
use Rattle.map_level.specs.declared.search.TheConstants.{CODE_COUNT}
use Rattle.lens_engines.specs.Counts.{finding_order}
use Rattle.level_codes.specs.declared.code.ReportCode.{ReportCode}
use Rattle.lens_texts.specs.LevelText.{finding_text, left_text, remark_text}
use Rattle.lens_texts.specs.declared.remark.Remark.{Remark}
use Rattle.lens_engines.specs.Laws.{LinesAreOfTheReport}
use Rattle.lens_engines.specs.LevelLines.{code_lines, code_part, findings_part}
use Rattle.lens_engines.proofs.ReportLemmas.{indexes_of_report, pick}

module _ (line : Finding → List ℕ) where
  -- the lines of the findings whose code's rank passes a test
  abbrev lines_where : (ℕ → Bool) → List Finding → List ℕ
  lines_where test [] = []
  lines_where test (f ∷ found) = if test (rank f.code) then line f ++ lines_where test found else lines_where test found

  abbrev lines_below : ℕ → List Finding → List ℕ
  lines_below n found = lines_where (λ p. nat_lt p n) found

  abbrev lines_at : ℕ → List Finding → List ℕ
  lines_at n found = lines_where (λ p. p == n) found

  none_below : (n : ℕ) (found : List Finding) → ((f : Finding) → Contains found f → n ≤ rank f.code) → lines_below n found ≡ []
  none_below n [] above = refl
  none_below n (f ∷ found) above =
      let here : n ≤ rank f.code = above f (0, omega arith, refl) in
      rw (le-ltb (rank f.code) n here) (none_below n found (λ g there. above g (suc there.0, omega (arith, there.1), there.2)))

  -- the findings of one rank more
  lines_more : (n : ℕ) (found : List Finding) → AllPairs StandsBefore found → lines_below (n + 1) found ≡ lines_below n found ++ lines_at n found
  lines_more n [] pairs = refl
  lines_more n (f ∷ found) pairs =
      let rest = lines_more n found (pairs-tail StandsBefore f found pairs) in
      elim (cases_order (rank f.code) n) [
        | inl same ↦
            let none = none_below n found (λ g there. elim (pairs-head StandsBefore f found g pairs there) [
              | inl less ↦ omega (arith, less, same)
              | inr stands ↦ omega (arith, ap rank stands.0, same)
            ]) in
            rw (lt-ltb (rank f.code) (n + 1) (omega arith), le-ltb (rank f.code) n (omega arith), eq-eqb (rank f.code) n same) (rw (rest, none) refl)
        | inr other ↦ elim other [
          | inl less ↦
              rw (lt-ltb (rank f.code) (n + 1) (omega arith), lt-ltb (rank f.code) n less, ne_eqb (rank f.code) n (λ e. omega arith))
              (rw rest (sym (append_assoc (line f) (lines_below n found) (lines_at n found))))
          | inr more ↦
              rw (le-ltb (rank f.code) (n + 1) (omega arith), le-ltb (rank f.code) n (omega arith), ne_eqb (rank f.code) n (λ e. omega arith)) rest
        ]
      ]

  -- a code's lines, by the indexes of its findings
  abbrev pub lines_by : Code → List ℕ → List ℕ
  lines_by code indexes = flat_map (λ i. line (record { code = code; index = i })) indexes

  lines_at-picked : (code : Code) (found : List Finding) → lines_at (rank code) found ≡ lines_by code (pick code found)
  lines_at-picked code [] = refl
  lines_at-picked code (f ∷ found) =
      let rest = lines_at-picked code found in
      elim (cases_eq (rank f.code) (rank code)) [
        | inl same ↦
            let one : line f ≡ line (record { code = code; index = f.index }) =
            ap (λ c. line (record { code = c; index = f.index })) (same_from_rank f.code code same) in
            rw (eq-eqb (rank f.code) (rank code) same) (rw (one, rest) refl)
        | inr differs ↦ rw (ne_eqb (rank f.code) (rank code) differs) rest
      ]

  -- those of the first codes are those of the findings below a rank
  lines_of_first : (found : List Finding) → AllPairs StandsBefore found → (n : ℕ) → n ≤ CODE_COUNT
      → flat_map (λ code. lines_by code (pick code found)) (take n finding_order) ≡ lines_below n found
  lines_of_first found pairs zero within = sym (none_below 0 found (λ f there. omega arith))
  lines_of_first found pairs (suc n) within =
      let code = get_or finding_order n F1 in
      let at : rank code ≡ n = rank_at n F1 (omega arith) in
      let here : lines_at n found ≡ lines_by code (pick code found) = subst (λ p. lines_at p found ≡ lines_by code (pick code found)) at (lines_at-picked code found) in
      let before = lines_of_first found pairs n (omega arith) in
      let cut : take (n + 1) finding_order ≡ take n finding_order ++ code ∷ [] = take_more finding_order n F1 (omega arith) in
      subst (λ k. flat_map (λ code. lines_by code (pick code found)) (take k finding_order) ≡ lines_below k found) (add-one n) (
      ap (flat_map (λ code. lines_by code (pick code found))) cut
      ∙ flat_map-append (λ code. lines_by code (pick code found)) (take n finding_order) (code ∷ [])
      ∙ ap (λ text. text ++ (lines_by code (pick code found) ++ [])) before
      ∙ ap (λ text. lines_below n found ++ text) (append-nil (lines_by code (pick code found)) ∙ sym here)
      ∙ sym (lines_more n found pairs))

  lines_of_all : (found : List Finding) → lines_below CODE_COUNT found ≡ flat_map line found
  lines_of_all [] = refl
  lines_of_all (f ∷ found) = rw (lt-ltb (rank f.code) CODE_COUNT (rank-below f.code)) (ap (λ text. line f ++ text) (lines_of_all found))

  -- and those of all codes those of the report
  pub lines_of_report : (found : List Finding) → AllPairs StandsBefore found
      → flat_map (λ code. lines_by code (pick code found)) finding_order ≡ flat_map line found
  lines_of_report found pairs = lines_of_first found pairs CODE_COUNT (omega arith) ∙ lines_of_all found

-- where as many of a code's findings are shown as there are, none is left out
whole_part : (text : Remark → List ℕ) (left : ReportCode → ℕ → List ℕ) (code : Code) (most : ℕ) (indexes : List ℕ) → length indexes ≤ most
    → code_part text left most code indexes ≡ code_lines text code indexes
whole_part text left code most indexes shown =
    let all : take most indexes ≡ indexes = take_all most indexes shown in
    let none : length indexes - most ≡ 0 = omega (arith, shown) in
    rw (all, none) (append-nil (code_lines text code indexes))

whole_parts : (text : Remark → List ℕ) (left : ReportCode → ℕ → List ℕ) (most : ℕ) (told other : Code → List ℕ) → ((code : Code) → length (told code) ≤ most)
    → ((code : Code) → told code ≡ other code) → (codes : List Code)
    → flat_map (λ code. code_part text left most code (told code)) codes ≡ flat_map (λ code. code_lines text code (other code)) codes
whole_parts text left most told other shown same [] = refl
whole_parts text left most told other shown same (code ∷ codes) =
    let part : code_part text left most code (told code) ≡ code_lines text code (other code) =
    whole_part text left code most (told code) (shown code) ∙ ap (code_lines text code) (same code) in
    ap (λ t. t ++ flat_map (λ code. code_part text left most code (told code)) codes) part
    ∙ ap (λ t. code_lines text code (other code) ++ t) (whole_parts text left most told other shown same codes)

pub law_lines_are_of_the_report : LinesAreOfTheReport
unfolding findings_part
law_lines_are_of_the_report head level found told are told_are most shown =
    let same : (code : Code) → told code ≡ pick code found =
    λ code. indexes_of_report (AuditHolds level) found code (told code) are (told_are code).ascending (told_are code).exact in
    whole_parts (remark_text head level) (left_text head) most told (λ code. pick code found) shown same finding_order
    ∙ lines_of_report (finding_text head level) found are.ascending
