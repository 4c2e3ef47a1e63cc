-- Frames of vertexes, one vertex more at a time.
use Rattle.std.proofs.Common.{◌≡◌, ◌↔◌, ◌∙◌, ℕ, ◌+◌, ◌<◌, ℤ, ◌⊎◌, inl, inr, Option, Some, None, IsSomeAnd, length, refl, sym, subst, ap, arith}
use Rattle.std.proofs.lemmas.Bool.{cases_lt}
use Rattle.std.proofs.lemmas.Option.{slice_get_past}
use Rattle.std.specs.Prelude.{option_and_then}
use Rattle.le_rec.specs.declared.records.LineDef.{LineDef}
use Rattle.std.proofs.lemmas.Int.{ints, clamps, by_lt_z}
use Rattle.std.specs.Int.{int_min, int_max}
use Rattle.le_rec.specs.declared.records.Vertex.{Vertex}
use Rattle.map_level.specs.Level.{Level}
use Rattle.map_cells.specs.declared.ends.Ends.{Ends}
use Rattle.map_cells.specs.Ends.{ends_named, linedef_ends, IsEither, IsEnd}
use Rattle.map_cells.specs.Frame.{Frame, Encloses, frame_with, widened}

-- the bounds of some vertexes; none where there is no vertex
abbrev pub Bounds : (Vertex → Type 0) → Option Frame → Type 0
Bounds IsOne None = (v : Vertex) → ¬ IsOne v
Bounds IsOne (Some frame) = Encloses IsOne frame

int_min-either : (a b : ℤ) → (int_min a b ≡ a) ⊎ (int_min a b ≡ b)
int_min-either a b =
    by_lt_z a b (λ below. inl (omega (arith, ints, clamps, below))) (λ above. inr (omega (arith, ints, clamps, above)))

int_max-either : (a b : ℤ) → (int_max a b ≡ a) ⊎ (int_max a b ≡ b)
int_max-either a b =
    by_lt_z a b (λ below. inr (omega (arith, ints, clamps, below))) (λ above. inl (omega (arith, ints, clamps, above)))

-- a bound that was some vertex's, or is the new one's, is some vertex's
some-more : (P Q : Vertex → Type 0) (field : Vertex → ℤ) (v : Vertex) (old new : ℤ)
    → ((w : Vertex) → P w → Q w) → Q v
    → (w : Vertex) × P w × (field w ≡ old) → (new ≡ old) ⊎ (new ≡ field v)
    → (w : Vertex) × Q w × (field w ≡ new)
some-more P Q field v old new keeps has some (inl same) = (some.0, keeps some.0 some.1, some.2 ∙ sym same)
some-more P Q field v old new keeps has some (inr same) = (v, has, sym same)

-- the bounds of a vertex more
pub Bounds-more : (P Q : Vertex → Type 0) (found : Option Frame) (v : Vertex)
    → Bounds P found → ((w : Vertex) → P w → Q w) → ((w : Vertex) → Q w → P w ⊎ (w ≡ v)) → Q v
    → Encloses Q (widened found v)
Bounds-more P Q None v none keeps either has = record {
  all = λ w one. elim (either w one) [
    | inl old ↦ absurd (none w old)
    | inr same ↦ record {
      left = omega (arith, ints, ap (λ (u : Vertex). u.x) same);
      right = omega (arith, ints, ap (λ (u : Vertex). u.x) same);
      lowest = omega (arith, ints, ap (λ (u : Vertex). u.y) same);
      highest = omega (arith, ints, ap (λ (u : Vertex). u.y) same);
    }
  ];
  left = (v, has, refl);
  right = (v, has, refl);
  lowest = (v, has, refl);
  highest = (v, has, refl);
}
Bounds-more P Q (Some frame) v old keeps either has = record {
  all = λ w one. elim (either w one) [
    | inl was ↦ let inside = old.all w was in record {
      left = omega (arith, ints, clamps, inside.left);
      right = omega (arith, ints, clamps, inside.right);
      lowest = omega (arith, ints, clamps, inside.lowest);
      highest = omega (arith, ints, clamps, inside.highest);
    }
    | inr same ↦ record {
      left = omega (arith, ints, clamps, ap (λ (u : Vertex). u.x) same);
      right = omega (arith, ints, clamps, ap (λ (u : Vertex). u.x) same);
      lowest = omega (arith, ints, clamps, ap (λ (u : Vertex). u.y) same);
      highest = omega (arith, ints, clamps, ap (λ (u : Vertex). u.y) same);
    }
  ];
  left = some-more P Q (λ w. w.x) v frame.x0 (int_min frame.x0 v.x) keeps has old.left (int_min-either frame.x0 v.x);
  right = some-more P Q (λ w. w.x) v frame.x1 (int_max frame.x1 v.x) keeps has old.right (int_max-either frame.x1 v.x);
  lowest = some-more P Q (λ w. w.y) v frame.y0 (int_min frame.y0 v.y) keeps has old.lowest (int_min-either frame.y0 v.y);
  highest = some-more P Q (λ w. w.y) v frame.y1 (int_max frame.y1 v.y) keeps has old.highest (int_max-either frame.y1 v.y);
}

-- the same vertexes have the same bounds
pub Bounds-same : (P Q : Vertex → Type 0) (found : Option Frame) → ((w : Vertex) → P w ↔ Q w)
    → Bounds P found → Bounds Q found
Bounds-same P Q None same none = λ w one. none w ((same w).1 one)
Bounds-same P Q (Some frame) same old = record {
  all = λ w one. old.all w ((same w).1 one);
  left = (old.left.0, (same old.left.0).0 old.left.1, old.left.2);
  right = (old.right.0, (same old.right.0).0 old.right.1, old.right.2);
  lowest = (old.lowest.0, (same old.lowest.0).0 old.lowest.1, old.lowest.2);
  highest = (old.highest.0, (same old.highest.0).0 old.highest.1, old.highest.2);
}

frame-eq : (f g : Frame) → f.x0 ≡ g.x0 → f.y0 ≡ g.y0 → f.x1 ≡ g.x1 → f.y1 ≡ g.y1 → f ≡ g
frame-eq f g a b c d = rw (a, b, c, d) refl

-- vertexes have one frame
pub Encloses-one : (P : Vertex → Type 0) (f g : Frame) → Encloses P f → Encloses P g → f ≡ g
Encloses-one P f g p q =
    frame-eq f g
    (omega (arith, ints, (q.all p.left.0 p.left.1).left, p.left.2, (p.all q.left.0 q.left.1).left, q.left.2))
    (omega (arith, ints, (q.all p.lowest.0 p.lowest.1).lowest, p.lowest.2, (p.all q.lowest.0 q.lowest.1).lowest, q.lowest.2))
    (omega (arith, ints, (q.all p.right.0 p.right.1).right, p.right.2, (p.all q.right.0 q.right.1).right, q.right.2))
    (omega (arith, ints, (q.all p.highest.0 p.highest.1).highest, p.highest.2, (p.all q.highest.0 q.highest.1).highest, q.highest.2))

-- a vertex is an end of one of the first n linedefs
abbrev pub IsEndBelow : Level → ℕ → Vertex → Type 0
IsEndBelow level n v = (i : ℕ) × (i < n) × IsSomeAnd (linedef_ends level i) (λ ends. IsEither ends v)

-- there is no linedef past the last
linedef-below : (level : Level) (i : ℕ) (P : Ends → Type 0) → IsSomeAnd (linedef_ends level i) P
    → i < length level.linedefs.records
linedef-below level i P has = elim (cases_lt i (length level.linedefs.records)) [
  | inl within ↦ within
  | inr past ↦
      let ends : LineDef → Option Ends = λ linedef. ends_named level linedef.v1 linedef.v2 in
      absurd (subst (λ o. IsSomeAnd (option_and_then ends o) P) (slice_get_past level.linedefs.records i past) has)
]

-- a linedef more without both ends changes no vertex
ends-none : (level : Level) (n : ℕ) → linedef_ends level n ≡ None → (v : Vertex)
    → IsEndBelow level n v ↔ IsEndBelow level (n + 1) v
ends-none level n none v = (
  (λ (i, below, has). (i, omega arith, has)),
  (λ (i, below, has). elim (cases_lt i n) [
    | inl less ↦ (i, less, has)
    | inr more ↦
        let same : i ≡ n = omega arith in
        let at : IsSomeAnd (linedef_ends level n) (λ ends. IsEither ends v) =
        subst (λ k. IsSomeAnd (linedef_ends level k) (λ ends. IsEither ends v)) same has in
        absurd (subst (λ o. IsSomeAnd o (λ ends. IsEither ends v)) none at)
  ]),
)

-- and one with both ends has these two more
ends-more : (level : Level) (n : ℕ) (ends : Ends) → linedef_ends level n ≡ Some ends → (v : Vertex)
    → IsEndBelow level (n + 1) v → IsEndBelow level n v ⊎ IsEither ends v
ends-more level n ends is v (i, below, has) =
    elim (cases_lt i n) [
      | inl less ↦ inl (i, less, has)
      | inr more ↦
          let same : i ≡ n = omega arith in
          let at : IsSomeAnd (linedef_ends level n) (λ ends. IsEither ends v) =
          subst (λ k. IsSomeAnd (linedef_ends level k) (λ ends. IsEither ends v)) same has in
          inr (subst (λ o. IsSomeAnd o (λ ends. IsEither ends v)) is at)
    ]

ends-has : (level : Level) (n : ℕ) (ends : Ends) → linedef_ends level n ≡ Some ends → (v : Vertex)
    → IsEither ends v → IsEndBelow level (n + 1) v
ends-has level n ends is v either =
    (n, omega arith, subst (λ o. IsSomeAnd o (λ found. IsEither found v)) (sym is) either)

-- the bounds of the ends of a linedef more
Bounds-with : (level : Level) (n : ℕ) (found : Option Frame) (ends : Option Ends) → linedef_ends level n ≡ ends
    → Bounds (IsEndBelow level n) found → Bounds (IsEndBelow level (n + 1)) (frame_with found ends)
Bounds-with level n found None is old = Bounds-same (IsEndBelow level n) (IsEndBelow level (n + 1)) found (ends-none level n is) old
Bounds-with level n found (Some ends) is old =
    let P : Vertex → Type 0 = IsEndBelow level n in
    let M : Vertex → Type 0 = λ w. P w ⊎ (w ≡ ends.from) in
    let Q : Vertex → Type 0 = IsEndBelow level (n + 1) in
    let start : Encloses M (widened found ends.from) =
    Bounds-more P M found ends.from old (λ w one. inl one) (λ w one. one) (inr refl) in
    Bounds-more M Q (Some (widened found ends.from)) ends.to start
    (λ w one. elim one [
      | inl was ↦ (was.0, omega (arith, was.1), was.2)
      | inr same ↦ ends-has level n ends is w (inl same)
    ])
    (λ w one. elim (ends-more level n ends is w one) [
      | inl was ↦ inl (inl was)
      | inr either ↦ elim either [ inl same ↦ inl (inr same) | inr same ↦ inr same ]
    ])
    (ends-has level n ends is ends.to (inr refl))

pub Bounds-next : (level : Level) (n : ℕ) (found : Option Frame) → Bounds (IsEndBelow level n) found
    → Bounds (IsEndBelow level (n + 1)) (frame_with found (linedef_ends level n))
Bounds-next level n found old = Bounds-with level n found (linedef_ends level n) refl old

-- of no linedef
pub Bounds-none : (level : Level) → Bounds (IsEndBelow level 0) None
Bounds-none level = λ v (i, below, has). omega arith

-- of all linedefs
pub Bounds-all : (level : Level) (found : Option Frame)
    → Bounds (IsEndBelow level (length level.linedefs.records)) found → Bounds (IsEnd level) found
Bounds-all level found old =
    Bounds-same (IsEndBelow level (length level.linedefs.records)) (IsEnd level) found
    (λ v. (
      (λ (i, below, has). (i, has)),
      (λ (i, has). (i, linedef-below level i (λ ends. IsEither ends v) has, has)),
    )) old

-- the frame that has the bounds is the one that encloses the vertexes
pub Bounds-frame : (P : Vertex → Type 0) (found : Option Frame) → Bounds P found → (frame : Frame)
    → (found ≡ Some frame) ↔ Encloses P frame
Bounds-frame P None none frame = ((λ e. cc), (λ encloses. absurd (none encloses.left.0 encloses.left.1)))
Bounds-frame P (Some f) old frame = (
  (λ e. let same : f ≡ frame = cc in subst (Encloses P) same old),
  (λ encloses. ap Some (Encloses-one P f frame old encloses)),
)

-- and there is none exactly where there is no vertex
pub Bounds-no_frame : (P : Vertex → Type 0) (found : Option Frame) → Bounds P found
    → (found ≡ None) ↔ ((v : Vertex) → ¬ P v)
Bounds-no_frame P None none = ((λ e. none), (λ h. refl))
Bounds-no_frame P (Some f) old = ((λ e. cc), (λ none. absurd (none old.left.0 old.left.1)))
