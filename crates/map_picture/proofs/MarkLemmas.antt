-- The lines of findings, one code after another.
use Rattle.std.proofs.Common.{◌≡◌, ℕ, ◌+◌, ◌<◌, ◌≤◌, inl, inr, List, [], ◌∷◌, ◌++◌, map, refl, sym, ap, ◌∙◌, subst, arith}
use Rattle.std.specs.Option.{option_map_or}
use Rattle.std.specs.Prelude.{◌==◌, AllPairs, Contains, if◌then◌else◌, nat_lt}
use Rattle.std.proofs.lemmas.Bool.{cases_eq, cases_lt, cases_order, cond-false, cond-true, eq-eqb, le-ltb, lt-ltb, ne_eqb}
use Rattle.std.proofs.lemmas.List.{append_assoc}
use Rattle.le_rec.specs.Sink.{SinkState}
use Rattle.line_io.proofs.WriteProgressLemmas.{SoFar, SoFar-none}
use Rattle.map_audit.specs.Findings.{AuditHolds}
use Rattle.map_level.proofs.FindingLemmas.{rank-below, same_from_rank}
use Rattle.map_level.proofs.OneListLemmas.{cases_in, first_in, later_in, pairs-head, pairs-tail}
use Rattle.map_level.specs.Findings.{AreFindings, IsFirst, StandsBefore, rank}
use Rattle.map_level.specs.Level.{Level}
use Rattle.map_level.specs.declared.finding.Code.{Code}
use Rattle.map_level.specs.declared.finding.Finding.{Finding}
use Rattle.map_level.specs.declared.search.TheConstants.{CODE_COUNT}
use Rattle.map_picture.specs.Marks.{code_marks, code_part, mark_line, mark_part, marked_by, marks, shape_of}
use Rattle.lens_texts.specs.Parts.{joined}
use Rattle.map_picture.specs.declared.marks.Marked.{Marked}
use Rattle.map_picture.specs.declared.marks.Marked.TheVariants.{Nothing}

-- items whose texts are the same
same_texts : {X : Type 0} (g h : X → List ℕ) (xs : List X) → ((x : X) → Contains xs x → g x ≡ h x) → joined (map g xs) ≡ joined (map h xs)
same_texts g h [] same = refl
same_texts g h (x ∷ xs) same =
    ap (λ text. text ++ joined (map g xs)) (same x (first_in x xs))
    ∙ ap (λ text. h x ++ text) (same_texts g h xs (λ z there. same z (later_in x xs z there)))

-- items that have no text
no_texts : {X : Type 0} (g : X → List ℕ) (xs : List X) → ((x : X) → Contains xs x → g x ≡ []) → joined (map g xs) ≡ []
no_texts g [] none = refl
no_texts g (x ∷ xs) none =
    ap (λ text. text ++ joined (map g xs)) (none x (first_in x xs)) ∙ no_texts g xs (λ z there. none z (later_in x xs z there))

-- of items in order those before one have no text: its text comes first, and then what is left without it
first_text : {X : Type 0} (R : X → X → Type 0) (g h : X → List ℕ) (x : X) (xs : List X) → AllPairs R xs → Contains xs x → h x ≡ []
    → ((y : X) → Contains xs y → R y x → (g y ≡ []) × (h y ≡ [])) → ((y : X) → R x y → g y ≡ h y)
    → joined (map g xs) ≡ g x ++ joined (map h xs)
first_text R g h x [] pairs there none before behind = absurd (omega (arith, there.1))
first_text R g h x (y ∷ ys) pairs there none before behind = elim (cases_in y ys x there) [
  | inl is ↦
      let others : joined (map g ys) ≡ joined (map h ys) =
      same_texts g h ys (λ z later. behind z (subst (λ w. R w z) (sym is) (pairs-head R y ys z pairs later))) in
      let gone : h y ≡ [] = ap h (sym is) ∙ none in
      ap (λ text. text ++ joined (map g ys)) (ap g (sym is))
      ∙ ap (λ text. g x ++ text) (others ∙ sym (ap (λ text. text ++ joined (map h ys)) gone))
  | inr later ↦
      let gone = before y (first_in y ys) (pairs-head R y ys x pairs later) in
      ap (λ text. text ++ joined (map g ys)) gone.0
      ∙ first_text R g h x ys (pairs-tail R y ys pairs) later none (λ z there. before z (later_in y ys z there)) behind
      ∙ ap (λ text. g x ++ text) (sym (ap (λ text. text ++ joined (map h ys)) gone.1))
]

-- a text that belongs to the first of two parts, before both
joins_first : (text a b c rest first last : List ℕ) → a ≡ text → b ≡ text → c ≡ [] → rest ≡ first ++ last
    → a ++ rest ≡ (b ++ first) ++ (c ++ last)
joins_first text a b c rest first last is_a is_b is_c split =
    ap (λ t. t ++ rest) is_a ∙ ap (λ t. text ++ t) split ∙ sym (append_assoc text first last) ∙ sym (ap (λ t. (t ++ first) ++ last) is_b)
    ∙ sym (ap (λ t. (b ++ first) ++ (t ++ last)) is_c)

module _ (level : Level) where
  -- the lines of the findings of the codes from a rank on
  abbrev part_from : ℕ → Finding → List ℕ
  part_from at f = if nat_lt (rank f.code) at then [] else mark_part level f

  abbrev pub marks_from : ℕ → List Finding → List ℕ
  marks_from at found = joined (map (part_from at) found)

  below : (at : ℕ) (f : Finding) → rank f.code < at → part_from at f ≡ []
  below at f less = cond-true (nat_lt (rank f.code) at) [] (mark_part level f) (lt-ltb (rank f.code) at less)

  above : (at : ℕ) (f : Finding) → at ≤ rank f.code → part_from at f ≡ mark_part level f
  above at f more = cond-false (nat_lt (rank f.code) at) [] (mark_part level f) (le-ltb (rank f.code) at more)

  of_code : (code : Code) (f : Finding) → rank f.code ≡ rank code → code_part level code f ≡ mark_part level f
  of_code code f same = cond-true (rank f.code == rank code) (mark_part level f) [] (eq-eqb (rank f.code) (rank code) same)

  of_other : (code : Code) (f : Finding) → (rank f.code ≡ rank code → ⊥) → code_part level code f ≡ []
  of_other code f differs = cond-false (rank f.code == rank code) (mark_part level f) [] (ne_eqb (rank f.code) (rank code) differs)

  -- the lines from a code on begin with those of the code
  pub marks-next : (code : Code) (found : List Finding) → AllPairs StandsBefore found
      → marks_from (rank code) found ≡ code_marks level code found ++ marks_from (rank code + 1) found
  marks-next code [] pairs = refl
  marks-next code (f ∷ found) pairs =
      let split = marks-next code found (pairs-tail StandsBefore f found pairs) in
      let rest = marks_from (rank code) found in
      let own = code_marks level code found in
      let last = marks_from (rank code + 1) found in
      elim (cases_order (rank f.code) (rank code)) [
        | inl same ↦
            joins_first (mark_part level f) (part_from (rank code) f) (code_part level code f) (part_from (rank code + 1) f) rest own last
            (above (rank code) f (omega (arith, same))) (of_code code f same) (below (rank code + 1) f (omega (arith, same))) split
        | inr other ↦ elim other [
          | inl less ↦
              joins_first [] (part_from (rank code) f) (code_part level code f) (part_from (rank code + 1) f) rest own last
              (below (rank code) f less) (of_other code f (λ same. omega (arith, less, same))) (below (rank code + 1) f (omega (arith, less))) split
          | inr more ↦
              let each : (z : Finding) → Contains (f ∷ found) z → rank code < rank z.code =
              λ z there. elim (cases_in f found z there) [
                | inl is ↦ subst (λ (w : Finding). rank code < rank w.code) (sym is) more
                | inr later ↦ elim (pairs-head StandsBefore f found z pairs later) [
                  | inl behind ↦ omega (arith, more, behind)
                  | inr beside ↦ omega (arith, more, ap rank beside.0)
                ]
              ] in
              let none : code_marks level code (f ∷ found) ≡ [] =
              no_texts (code_part level code) (f ∷ found) (λ z there. of_other code z (λ same. omega (arith, each z there, same))) in
              same_texts (part_from (rank code)) (part_from (rank code + 1)) (f ∷ found) (λ z there.
              above (rank code) z (omega (arith, each z there)) ∙ sym (above (rank code + 1) z (omega (arith, each z there))))
              ∙ sym (ap (λ text. text ++ marks_from (rank code + 1) (f ∷ found)) none)
        ]
      ]

  -- none is written yet
  pub marks-none : (found : List Finding) (before : SinkState) → SoFar (marks level found) before before (marks_from 0 found)
  marks-none found before =
      subst (λ (text : List ℕ). SoFar text before before (marks_from 0 found))
      (same_texts (part_from 0) (mark_part level) found (λ f there. above 0 f (omega arith))) (SoFar-none (marks_from 0 found) before)

  -- all are written
  pub marks-end : (at : ℕ) (found : List Finding) → CODE_COUNT ≤ at → marks_from at found ≡ []
  marks-end at found past = no_texts (part_from at) found (λ f there. below at f (omega (arith, rank-below f.code, past)))

  -- a code whose findings aren't drawn
  pub unmarked : (code : Code) (found : List Finding) → marked_by code ≡ Nothing → code_marks level code found ≡ []
  unmarked code found nothing =
      no_texts (code_part level code) found (λ f there. elim (cases_eq (rank f.code) (rank code)) [
        | inl same ↦
            of_code code f same
            ∙ ap (λ (m : Marked). option_map_or (mark_line f) (shape_of level m f.index) []) (ap marked_by (same_from_rank f.code code same) ∙ nothing)
        | inr differs ↦ of_other code f differs
      ])

  -- the lines of a code's findings from an index on
  abbrev code_part_from : Code → ℕ → Finding → List ℕ
  code_part_from code from f = if nat_lt f.index from then [] else code_part level code f

  abbrev pub code_marks_from : Code → ℕ → List Finding → List ℕ
  code_marks_from code from found = joined (map (code_part_from code from) found)

  before_it : (code : Code) (from : ℕ) (f : Finding) → f.index < from → code_part_from code from f ≡ []
  before_it code from f less = cond-true (nat_lt f.index from) [] (code_part level code f) (lt-ltb f.index from less)

  from_it : (code : Code) (from : ℕ) (f : Finding) → from ≤ f.index → code_part_from code from f ≡ code_part level code f
  from_it code from f past = cond-false (nat_lt f.index from) [] (code_part level code f) (le-ltb f.index from past)

  other_from : (code : Code) (from : ℕ) (f : Finding) → (rank f.code ≡ rank code → ⊥) → code_part_from code from f ≡ []
  other_from code from f differs = elim (cases_lt f.index from) [
    | inl less ↦ before_it code from f less
    | inr past ↦ from_it code from f past ∙ of_other code f differs
  ]

  -- none of a code's is written yet
  pub code-none : (code : Code) (found : List Finding) (before : SinkState) → SoFar (code_marks level code found) before before (code_marks_from code 0 found)
  code-none code found before =
      subst (λ (text : List ℕ). SoFar text before before (code_marks_from code 0 found))
      (same_texts (code_part_from code 0) (code_part level code) found (λ f there. from_it code 0 f (omega arith))) (SoFar-none (code_marks_from code 0 found) before)

  module _ (code : Code) (found : List Finding) (are : AreFindings (AuditHolds level) found) where
    -- a finding of the code isn't between an index and the first from there on
    not_between : (from at : ℕ) (f : Finding) → IsFirst (AuditHolds level code) from at → Contains found f → rank f.code ≡ rank code → f.index < at → f.index < from
    not_between from at f first there same less = elim (cases_lt f.index from) [
      | inl below_it ↦ below_it
      | inr past ↦ absurd (first.before f.index past less (subst (λ c. AuditHolds level c f.index) (same_from_rank f.code code same) ((are.exact f).0 there)))
    ]

    -- the lines from an index on begin with that of the first finding from there on
    pub code-next : (from at : ℕ) → IsFirst (AuditHolds level code) from at
        → code_marks_from code from found ≡ mark_part level (record { code = code; index = at }) ++ code_marks_from code (at + 1) found
    code-next from at first =
        let f : Finding = record { code = code; index = at } in
        first_text StandsBefore (code_part_from code from) (code_part_from code (at + 1)) f found are.ascending ((are.exact f).1 first.here)
        (before_it code (at + 1) f (omega arith))
        (λ g there before. elim (cases_eq (rank g.code) (rank code)) [
          | inl same ↦
              let less : g.index < at = elim before [ inl lower ↦ absurd (omega (arith, lower, same)) | inr beside ↦ beside.1 ] in
              (before_it code from g (not_between from at g first there same less), before_it code (at + 1) g (omega (arith, less)))
          | inr differs ↦ (other_from code from g differs, other_from code (at + 1) g differs)
        ])
        (λ g behind. elim behind [
          | inl higher ↦
              let differs : rank g.code ≡ rank code → ⊥ = λ same. omega (arith, higher, same) in
              other_from code from g differs ∙ sym (other_from code (at + 1) g differs)
          | inr beside ↦ from_it code from g (omega (arith, first.within, beside.1)) ∙ sym (from_it code (at + 1) g (omega (arith, beside.1)))
        ])
        ∙ ap (λ text. text ++ code_marks_from code (at + 1) found) (from_it code from f first.within ∙ of_code code f refl)

    -- all of the code's are written
    pub code-end : (from : ℕ) → ((i : ℕ) → from ≤ i → ¬ AuditHolds level code i) → code_marks_from code from found ≡ []
    code-end from none =
        no_texts (code_part_from code from) found (λ f there. elim (cases_eq (rank f.code) (rank code)) [
          | inl same ↦ elim (cases_lt f.index from) [
            | inl less ↦ before_it code from f less
            | inr past ↦ absurd (none f.index past (subst (λ c. AuditHolds level c f.index) (same_from_rank f.code code same) ((are.exact f).0 there)))
          ]
          | inr differs ↦ other_from code from f differs
        ])
