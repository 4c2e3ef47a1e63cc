-- How what is told of warnings is written and put together.
use Rattle.std.proofs.Common.{◌≡◌, ℕ, zero, suc, ◌+◌, ◌<◌, ◌≤◌, List, [], Option, ◌∷◌, ◌++◌, length, map, drop, take, Some, true, false, refl, sym, ap, ◌∙◌, arith}
use Rattle.std.specs.Prelude.{All}
use Rattle.std.proofs.lemmas.Bool.{true≢false}
use Rattle.std.specs.List.{flat_map, slice_get}
use Rattle.std.proofs.lemmas.List.{drop_all, map-append, take_all}
use Rattle.std.proofs.lemmas.List.Elements.{All-push}
use Rattle.std.proofs.lemmas.Option.{same_Some}
use Rattle.map_warnings.specs.Holds.{IsWarning}
use Rattle.map_warnings.specs.Warnings.{Cut, Tells}
use Rattle.level_codes.specs.declared.code.WarningCode.{WarningCode}
use Rattle.level_codes.proofs.CodeLemmas.{code_rank-at}
use Rattle.level_codes.specs.Codes.{code_at, code_rank, report_order}
use Rattle.level_codes.specs.declared.table.TheConstants.{REPORT_COUNT}
use Rattle.map_level.proofs.FindingLemmas.{rank-below}
use Rattle.map_level.specs.Level.{Level}
use Rattle.map_level.specs.declared.finding.Code.{Code}
use Rattle.map_level.specs.declared.search.TheConstants.{CODE_COUNT}
use Rattle.wad_dir.specs.Wad.{Wad}
use Rattle.level_codes.specs.declared.code.ReportCode.TheVariants as report
use Rattle.lens_engines.specs.Ignored.{WarnsUnlessIgnored, ignores}
use Rattle.lens_engines.specs.Warned.{AddsWarned, IsWarned, Warned}
use Rattle.level_codes.specs.declared.set.CodeSet.{CodeSet}
use Rattle.lens_engines.proofs.OrderLemmas.{order-length, warnings-more}

-- the parts from a place on begin with the one there
pub parts-drop : {X : Type 0} (part : X → List ℕ) (xs : List X) (i : ℕ) (x : X) → slice_get xs i ≡ Some x
    → flat_map part (drop i xs) ≡ part x ++ flat_map part (drop (i + 1) xs)
parts-drop part [] i x at = absurd (let f : ⊥ = cc in f)
parts-drop part (y ∷ xs) zero x at = let same : y ≡ x = same_Some y x at in rw same refl
parts-drop part (y ∷ xs) (suc i) x at = let next : suc i + 1 ≡ suc (i + 1) = omega arith in rw next (parts-drop part xs i x at)

-- and from the end on there are none
pub parts-end : {X : Type 0} (part : X → List ℕ) (xs : List X) (i : ℕ) → length xs ≤ i → flat_map part (drop i xs) ≡ []
parts-end part [] zero past = refl
parts-end part [] (suc i) past = refl
parts-end part (x ∷ xs) zero past = absurd (omega (arith, past))
parts-end part (x ∷ xs) (suc i) past = parts-end part xs i (omega (arith, past))

-- what is told of the first codes
pub record AreWarnedTo (ignored : CodeSet) (files : Option (List Wad)) (level : Level) (most rank : ℕ) (all : List Warned) : Type 0 where
  pub codes : map (λ (w : Warned). report.Warning w.code) all ≡ drop CODE_COUNT (take rank report_order)
  pub each : All (IsWarned ignored files level most) all

pub warned_none : (ignored : CodeSet) (files : Option (List Wad)) (level : Level) (most : ℕ) → AreWarnedTo ignored files level most CODE_COUNT []
warned_none ignored files level most = record {
  codes = sym (drop_all CODE_COUNT (take CODE_COUNT report_order) (omega (arith, order-length CODE_COUNT (omega arith))));
  each = λ k d below. absurd (omega (arith, below));
}

-- of an ignored code nothing is told
pub none_ignored : (ignored : CodeSet) (files : Option (List Wad)) (level : Level) (most : ℕ) (code : WarningCode) → ignores ignored (report.Warning code) ≡ true
    → Tells (WarnsUnlessIgnored ignored files level code) (record { most = most; first = []; count = 0 })
none_ignored ignored files level most code is = record {
  all = [];
  are = record {
    ascending = λ i j d before below. absurd (omega (arith, below));
    exact = λ w. (λ there. absurd (omega (arith, there.1)), λ told. absurd (true≢false (sym is ∙ told.0)));
  };
  is = record { first = sym (take_all most [] (omega arith)); count = refl };
}

-- of another what holds
pub all_kept : (ignored : CodeSet) (files : Option (List Wad)) (level : Level) (code : WarningCode) (cut : Cut) → ignores ignored (report.Warning code) ≡ false
    → Tells (IsWarning files level code) cut → Tells (WarnsUnlessIgnored ignored files level code) cut
all_kept ignored files level code cut is tells = record {
  all = tells.all;
  are = record {
    ascending = tells.are.ascending;
    exact = λ w. (λ there. (is, (tells.are.exact w).0 there), λ told. (tells.are.exact w).1 told.1);
  };
  is = tells.is;
}

-- one more
pub warned_more : (ignored : CodeSet) (files : Option (List Wad)) (level : Level) (most rank : ℕ) (code : WarningCode) (old new : List Warned)
    → CODE_COUNT ≤ rank → rank < REPORT_COUNT → code_at rank ≡ report.Warning code
    → AreWarnedTo ignored files level most rank old → AddsWarned ignored files level most code old new → AreWarnedTo ignored files level most (rank + 1) new
warned_more ignored files level most rank code old new behind below is before adds =
    let coded = λ (w : Warned). report.Warning w.code in
    record {
      codes = ap (map coded) adds.is ∙ map-append coded old (adds.warned ∷ [])
          ∙ ap (λ xs. xs ++ report.Warning adds.warned.code ∷ []) before.codes ∙ ap (λ c. drop CODE_COUNT (take rank report_order) ++ report.Warning c ∷ []) adds.of_code
          ∙ ap (λ c. drop CODE_COUNT (take rank report_order) ++ c ∷ []) (sym is) ∙ sym (warnings-more rank behind below);
      each = rw adds.is (All-push (IsWarned ignored files level most) old adds.warned before.each adds.told);
    }

-- a code behind those of findings is none of them
pub no_finding_behind : (rank : ℕ) (code : Code) → CODE_COUNT ≤ rank → rank < REPORT_COUNT → code_at rank ≡ report.Finding code → ⊥
no_finding_behind rank code behind below is = omega (arith, behind, rank-below code, ap code_rank is, code_rank-at rank below)
