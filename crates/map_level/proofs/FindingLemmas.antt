-- Facts about findings: the order of codes, and the findings so far as a search goes on.
use Rattle.std.proofs.Common.{◌≡◌, ℕ, suc, zero, ◌+◌, ◌<◌, ◌≤◌, ◌⊎◌, inl, inr, List, [], ◌∷◌, ◌++◌, length, get_or, refl, sym, ap, ◌∙◌, subst, arith}
use Rattle.std.specs.Prelude.{◌↔◌, Bool, true, false, Contains, IsTrue}
use Rattle.std.proofs.lemmas.List.Quantifiers.{all_pairs_push}
use Rattle.std.proofs.lemmas.List.Elements.{Contains-push, Contains-push_cases, Contains-append_left, Contains-get_or}
use Rattle.std.proofs.lemmas.Bool.{cases_eq, cases_lt, iff_false}
use Rattle.map_level.specs.declared.finding.Code.{Code}
use Rattle.map_level.specs.declared.finding.Code.TheVariants.{F1, F2, F3, F4, F5, F6, F7, F8, F9, F10, F11, F12, F13, F14, F15, F16, F17, F18, N1, N2, N3, N4, N5, N6, N7, N8, N9, N10, N11, N12}
use Rattle.map_level.specs.declared.finding.Finding.{Finding}
use Rattle.map_level.specs.declared.search.TheConstants.{CODE_COUNT}
use Rattle.map_level.specs.Findings.{rank, StandsBefore, AreFindings, AreFindingsBelow}

-- all codes in their order
abbrev pub all_codes : List Code
all_codes = F1 ∷ F2 ∷ F3 ∷ F4 ∷ F5 ∷ F6 ∷ F7 ∷ F8 ∷ F9 ∷ F10 ∷ F11 ∷ F12 ∷ F13 ∷ F14 ∷ F15 ∷ F16 ∷ F17 ∷ F18 ∷ N1 ∷ N2 ∷ N3 ∷ N4 ∷ N5 ∷ N6 ∷ N7 ∷ N8 ∷ N9 ∷ N10 ∷ N11 ∷ N12 ∷ []

-- the codes of a list stand at the ranks from n on
abbrev StandFrom : ℕ → List Code → Type 0
StandFrom n [] = Unit {0}
StandFrom n (c ∷ cs) = (rank c ≡ n) × StandFrom (n + 1) cs

StandFrom-at : (n : ℕ) (cs : List Code) → StandFrom n cs → (k : ℕ) (d : Code) → k < length cs → rank (get_or cs k d) ≡ n + k
StandFrom-at n [] s k d h = absurd (omega arith)
StandFrom-at n (c ∷ cs) s zero d h = omega (arith, s.0)
StandFrom-at n (c ∷ cs) s (suc k) d h = omega (arith, StandFrom-at (n + 1) cs s.1 k d (omega arith))

all_stand : StandFrom 0 all_codes
all_stand = (refl, (refl, (refl, (refl, (refl, (refl, (refl, (refl, (refl, (refl, (refl, (refl, (refl, (refl, (refl, (refl, (refl, (refl, (refl, (refl, (refl, (refl, (refl, (refl, (refl, (refl, (refl, (refl, (refl, (refl, tt))))))))))))))))))))))))))))))

-- the code at a rank of the order
pub rank_at : (k : ℕ) (d : Code) → k < CODE_COUNT → rank (get_or all_codes k d) ≡ k
rank_at k d h = omega (arith, StandFrom-at 0 all_codes all_stand k d h)

-- a code is known by its rank
pub rank-below : (c : Code) → rank c < CODE_COUNT
rank-below F1 = omega arith
rank-below F2 = omega arith
rank-below F3 = omega arith
rank-below F4 = omega arith
rank-below F5 = omega arith
rank-below F6 = omega arith
rank-below F7 = omega arith
rank-below F8 = omega arith
rank-below F9 = omega arith
rank-below F10 = omega arith
rank-below F11 = omega arith
rank-below F12 = omega arith
rank-below F13 = omega arith
rank-below F14 = omega arith
rank-below F15 = omega arith
rank-below F16 = omega arith
rank-below F17 = omega arith
rank-below F18 = omega arith
rank-below N1 = omega arith
rank-below N2 = omega arith
rank-below N3 = omega arith
rank-below N4 = omega arith
rank-below N5 = omega arith
rank-below N6 = omega arith
rank-below N7 = omega arith
rank-below N8 = omega arith
rank-below N9 = omega arith
rank-below N10 = omega arith
rank-below N11 = omega arith
rank-below N12 = omega arith

code_at : (c : Code) → c ≡ get_or all_codes (rank c) F1
code_at F1 = refl
code_at F2 = refl
code_at F3 = refl
code_at F4 = refl
code_at F5 = refl
code_at F6 = refl
code_at F7 = refl
code_at F8 = refl
code_at F9 = refl
code_at F10 = refl
code_at F11 = refl
code_at F12 = refl
code_at F13 = refl
code_at F14 = refl
code_at F15 = refl
code_at F16 = refl
code_at F17 = refl
code_at F18 = refl
code_at N1 = refl
code_at N2 = refl
code_at N3 = refl
code_at N4 = refl
code_at N5 = refl
code_at N6 = refl
code_at N7 = refl
code_at N8 = refl
code_at N9 = refl
code_at N10 = refl
code_at N11 = refl
code_at N12 = refl

pub same_from_rank : (c d : Code) → rank c ≡ rank d → c ≡ d
same_from_rank c d h = code_at c ∙ ap (λ k. get_or all_codes k F1) h ∙ sym (code_at d)

pub same_finding : (f g : Finding) → f.code ≡ g.code → f.index ≡ g.index → f ≡ g
same_finding f g code index =
    ap (λ c. let x : Finding = record { code = c; index = f.index } in x) code ∙ ap (λ i. let x : Finding = record { code = g.code; index = i } in x) index

-- one finding more
pub found_more : (holds : Code → ℕ → Type 0) (found : List Finding) (f : Finding) → AreFindingsBelow holds (rank f.code) f.index found
    → holds f.code f.index → AreFindingsBelow holds (rank f.code) (f.index + 1) (found ++ f ∷ [])
found_more holds found f before here =
    record {
      ascending = all_pairs_push StandsBefore found f before.ascending (λ k d below.
          let told = ((before.exact (get_or found k d)).0 (Contains-get_or found k d below)).1 in
          elim told [
            | inl less ↦ inl less
            | inr same ↦ inr (same_from_rank (get_or found k d).code f.code same.0, same.1)
          ]);
      exact = λ h. (
        (λ there. elim (Contains-push_cases found f h there) [
          | inl old ↦ let told = (before.exact h).0 old in (told.0, elim told.1 [ inl less ↦ inl less | inr same ↦ inr (same.0, omega (arith, same.1)) ])
          | inr is ↦ subst (λ (g : Finding). holds g.code g.index × ((rank g.code < rank f.code) ⊎ ((rank g.code ≡ rank f.code) × (g.index < f.index + 1)))) is (here, inr (refl, omega arith))
        ]),
        (λ told. elim told.1 [
          | inl less ↦ Contains-append_left found (f ∷ []) h ((before.exact h).1 (told.0, inl less))
          | inr same ↦ elim (cases_eq h.index f.index) [
            | inl equal ↦
                let is : h ≡ f = same_finding h f (same_from_rank h.code f.code same.0) equal in
                subst (λ (g : Finding). Contains (found ++ f ∷ []) g) (sym is) (Contains-push found f)
            | inr other ↦ Contains-append_left found (f ∷ []) h ((before.exact h).1 (told.0, inr (same.0, omega (arith, same.1, other))))
          ]
        ]),
      );
    }

-- indexes at which the code doesn't hold
pub found_no_more : (holds : Code → ℕ → Type 0) (found : List Finding) (c : Code) (from to : ℕ) → AreFindingsBelow holds (rank c) from found → from ≤ to
    → ((i : ℕ) → from ≤ i → i < to → ¬ holds c i) → AreFindingsBelow holds (rank c) to found
found_no_more holds found c from to before le none =
    record {
      ascending = before.ascending;
      exact = λ h. (
        (λ there. let told = (before.exact h).0 there in (told.0, elim told.1 [ inl less ↦ inl less | inr same ↦ inr (same.0, omega (arith, same.1, le)) ])),
        (λ told. (before.exact h).1 (
          told.0,
          elim told.1 [
            | inl less ↦ inl less
            | inr same ↦ elim (cases_lt h.index from) [
              | inl below ↦ inr (same.0, below)
              | inr past ↦ absurd (none h.index (omega (arith, past)) same.1 (subst (λ d. holds d h.index) (same_from_rank h.code c same.0) told.0))
            ]
          ],
        )),
      );
    }

-- after a code's last index
pub found_code : (holds : Code → ℕ → Type 0) (found : List Finding) (c : Code) (n : ℕ) → AreFindingsBelow holds (rank c) n found
    → ((i : ℕ) → holds c i → i < n) → AreFindingsBelow holds (rank c + 1) 0 found
found_code holds found c n before all =
    record {
      ascending = before.ascending;
      exact = λ h. (
        (λ there. let told = (before.exact h).0 there in (told.0, elim told.1 [ inl less ↦ inl (omega (arith, less)) | inr same ↦ inl (omega (arith, same.0)) ])),
        (λ told. (before.exact h).1 (
          told.0,
          elim told.1 [
            | inl less ↦ elim (cases_eq (rank h.code) (rank c)) [
              | inl equal ↦ inr (equal, all h.index (subst (λ d. holds d h.index) (same_from_rank h.code c equal) told.0))
              | inr other ↦ inl (omega (arith, less, other))
            ]
            | inr same ↦ absurd (omega (arith, same.1))
          ],
        )),
      );
    }

-- after the last code
pub found_all : (holds : Code → ℕ → Type 0) (found : List Finding) → AreFindingsBelow holds CODE_COUNT 0 found → AreFindings holds found
found_all holds found before = record {
  ascending = before.ascending;
  exact = λ h. ((λ there. ((before.exact h).0 there).0), (λ told. (before.exact h).1 (told, inl (rank-below h.code))));
}

-- a test of the first of two things that answers true is one of either
pub by_first : {P Q : Type 0} {a : Bool} → (IsTrue a ↔ P) → a ≡ true → IsTrue a ↔ (P ⊎ Q)
by_first first so = ((λ is. inl (first.0 is)), (λ either. so))

-- and where it answers false, a test of the second is one of either
pub by_second : {P Q : Type 0} {a b : Bool} → (IsTrue a ↔ P) → a ≡ false → (IsTrue b ↔ Q) → IsTrue b ↔ (P ⊎ Q)
by_second first not_so second = (
  (λ is. inr (second.0 is)),
  (λ either. elim either [ inl here ↦ absurd (iff_false first not_so here) | inr there ↦ second.1 there ]),
)
