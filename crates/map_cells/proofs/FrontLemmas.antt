-- The columns of a row that are in front of segs.
use Rattle.std.proofs.Common.{◌≡◌, ◌≢◌, ◌∙◌, ◌↔◌, inl, inr, ℕ, ◌+◌, ◌-◌, ◌<◌, ◌≤◌, ℤ, pos, ◌<ℤ◌, Option, Some, IsSomeAnd, Bool, true, false, refl, sym, subst, arith}
use Rattle.std.proofs.lemmas.Bool.{cases_lt}
use Rattle.std.proofs.lemmas.Int.{ints}
use Rattle.std.specs.Prelude.{int_lt}
use Rattle.map_level.specs.Level.{Level}
use Rattle.map_cells.specs.Ends.{line_ends}
use Rattle.map_cells.specs.Front.{IsCutBy, IsFrontOf, IsFrontOfRange, IsFrontOfSegs, IsIn, IsOneOf, IsThose}
use Rattle.map_cells.specs.Row.{Row, point_of}
use Rattle.map_cells.specs.Shown.{IsBehind, IsSegOf, cross}
use Rattle.map_cells.specs.declared.ends.Ends.{Ends}
use Rattle.map_cells.specs.declared.front.Span.{Span}
use Rattle.map_cells.specs.declared.shown.SegRange.{SegRange}
use Rattle.map_cells.proofs.RowLemmas.{behind_between}

-- all of a span
pub those_all : (Holds : ℕ → Type 0) (span : Span) → span.first ≤ span.end → ((i : ℕ) → IsIn span i → Holds i) → IsThose Holds span span
those_all Holds span ordered all = record {
  from = omega arith;
  ordered = ordered;
  to = omega arith;
  exact = λ i within. ((λ _. all i within), (λ _. within));
}

-- a span of one column is all of it or nothing
pub column_all : (Holds : ℕ → Type 0) (span : Span) → span.end ≡ span.first + 1 → Holds span.first → IsThose Holds span span
column_all Holds span one holds =
    those_all Holds span (omega (arith, one)) (λ i within.
    let same : span.first ≡ i = omega (arith, within.0, within.1, one) in
    subst Holds same holds)

pub column_none : (Holds : ℕ → Type 0) (span : Span) → span.end ≡ span.first + 1 → ¬ Holds span.first
    → IsThose Holds span (record { first = span.end; end = span.end })
column_none Holds span one fails = record {
  from = omega (arith, one);
  ordered = omega arith;
  to = omega arith;
  exact = λ i within. (
    (λ inside. absurd (omega (arith, inside.0, inside.1))),
    (λ holds.
        let same : i ≡ span.first = omega (arith, within.0, within.1, one) in
        absurd (fails (subst Holds same holds))),
  );
}

-- what holds of the same columns
pub those_same : (P Q : ℕ → Type 0) (span those : Span) → ((i : ℕ) → IsIn span i → P i ↔ Q i) → IsThose P span those → IsThose Q span those
those_same P Q span those same is = record {
  from = is.from;
  ordered = is.ordered;
  to = is.to;
  exact = λ i within. (
    (λ inside. (same i within).0 ((is.exact i within).0 inside)),
    (λ q. (is.exact i within).1 ((same i within).1 q)),
  );
}

-- of those, the ones of which something else holds, too
pub those_both : (P Q : ℕ → Type 0) (span those fewer : Span) → IsThose P span those → IsThose Q those fewer
    → IsThose (λ i. P i × Q i) span fewer
those_both P Q span those fewer first second = record {
  from = omega (arith, first.from, second.from);
  ordered = second.ordered;
  to = omega (arith, first.to, second.to);
  exact = λ i within. (
    (λ inside.
        let from = second.from in
        let to = second.to in
        let here : IsIn those i = (omega (arith, inside.0, from), omega (arith, inside.1, to)) in
        ((first.exact i within).0 here, (second.exact i here).0 inside)),
    (λ both.
        let here = (first.exact i within).1 both.0 in
        (second.exact i here).1 both.1),
  );
}

is_not_behind : (z : ℤ) → int_lt z (pos 0) ≡ false → ¬ (z <ℤ pos 0)
is_not_behind z e h = omega (arith, ints, e, h)

-- which of the columns of a span are cut away, where its ends are both behind or both not
pub cut_whole : (ends : Ends) (row : Row) (span : Span) (last : ℕ) → span.first < span.end → span.end ≡ last + 1
    → int_lt (cross ends (point_of row span.first)) (pos 0) ≡ false → int_lt (cross ends (point_of row last)) (pos 0) ≡ false
    → IsCutBy ends row span span
cut_whole ends row span last some wide e f =
    those_all _ span (omega (arith, some)) (λ i within.
    is_not_behind _ (behind_between ends row false span.first i last within.0 (omega (arith, within.1, wide)) e f))

pub cut_nothing : (ends : Ends) (row : Row) (span : Span) (last : ℕ) → span.first < span.end → span.end ≡ last + 1
    → int_lt (cross ends (point_of row span.first)) (pos 0) ≡ true → int_lt (cross ends (point_of row last)) (pos 0) ≡ true
    → IsCutBy ends row span (record { first = span.end; end = span.end })
cut_nothing ends row span last some wide e f = record {
  from = omega (arith, some);
  ordered = omega arith;
  to = omega arith;
  exact = λ i within. (
    (λ inside. absurd (omega (arith, inside.0, inside.1))),
    (λ front.
        let behind = behind_between ends row true span.first i last within.0 (omega (arith, within.1, wide)) e f in
        absurd (front (omega (arith, ints, behind)))),
  );
}

pub flag_differs : (b one other : Bool) → b ≡ one → one ≢ other → b ≢ other
flag_differs b one other e differ f = differ (sym e ∙ f)

not_true : (b : Bool) → b ≢ true → b ≡ false
not_true true e = absurd (e refl)
not_true false e = refl

not_false : (b : Bool) → b ≢ false → b ≡ true
not_false true e = refl
not_false false e = absurd (e refl)

-- where they differ, the front ends or begins at the column where that changes
pub cut_end : (ends : Ends) (row : Row) (span : Span) (last column : ℕ) → span.end ≡ last + 1 → span.first < column → column ≤ last
    → int_lt (cross ends (point_of row span.first)) (pos 0) ≡ false
    → int_lt (cross ends (point_of row (column - 1))) (pos 0) ≡ false → int_lt (cross ends (point_of row column)) (pos 0) ≢ false
    → int_lt (cross ends (point_of row last)) (pos 0) ≢ false
    → IsCutBy ends row span (record { first = span.first; end = column })
cut_end ends row span last column wide after to e before here f = record {
  from = omega arith;
  ordered = omega (arith, after);
  to = omega (arith, to, wide);
  exact = λ i within. (
    (λ inside.
        is_not_behind _ (behind_between ends row false span.first i (column - 1) inside.0 (omega (arith, inside.1)) e before)),
    (λ front. elim (cases_lt i column) [
      | inl less ↦ (within.0, less)
      | inr past ↦
          let behind = behind_between ends row true column i last past (omega (arith, within.1, wide)) (not_false _ here) (not_false _ f) in
          absurd (front (omega (arith, ints, behind)))
    ]),
  );
}

pub cut_begin : (ends : Ends) (row : Row) (span : Span) (last column : ℕ) → span.end ≡ last + 1 → span.first < column → column ≤ last
    → int_lt (cross ends (point_of row span.first)) (pos 0) ≡ true
    → int_lt (cross ends (point_of row (column - 1))) (pos 0) ≡ true → int_lt (cross ends (point_of row column)) (pos 0) ≢ true
    → int_lt (cross ends (point_of row last)) (pos 0) ≢ true
    → IsCutBy ends row span (record { first = column; end = span.end })
cut_begin ends row span last column wide after to e before here f = record {
  from = omega (arith, after);
  ordered = omega (arith, to, wide);
  to = omega arith;
  exact = λ i within. (
    (λ inside.
        is_not_behind _ (behind_between ends row false column i last inside.0 (omega (arith, within.1, wide)) (not_true _ here) (not_true _ f))),
    (λ front. elim (cases_lt i column) [
      | inl less ↦
          let behind = behind_between ends row true span.first i (column - 1) within.0 (omega (arith, less)) e before in
          absurd (front (omega (arith, ints, behind)))
      | inr past ↦ (past, within.1)
    ]),
  );
}

-- what the ends of a seg cut away is behind it
pub front_known : (level : Level) (k : ℕ) (ends : Ends) (row : Row) (span those : Span) → line_ends level k ≡ Some ends
    → IsCutBy ends row span those → IsFrontOf level k row span those
front_known level k ends row span those is cut =
    subst (λ (found : Option Ends). IsThose (λ i. ¬ IsSomeAnd found (λ e. cross e (point_of row i) <ℤ pos 0)) span those) (sym is) cut

-- none of some segs before one has a column's point behind it
abbrev pub IsFrontOfFirst : Level → SegRange → Row → ℕ → ℕ → Type 0
IsFrontOfFirst level segs row end i = (k : ℕ) → IsOneOf segs k → k < end → ¬ IsBehind level k (point_of row i)

pub front_none : (level : Level) (segs : SegRange) (row : Row) (span : Span) → span.first ≤ span.end
    → IsThose (IsFrontOfFirst level segs row segs.first) span span
front_none level segs row span ordered =
    those_all _ span ordered (λ i within k one before. absurd (omega (arith, one.0, before)))

pub front_more : (level : Level) (segs : SegRange) (row : Row) (span front fewer : Span) (k : ℕ) → IsOneOf segs k
    → IsThose (IsFrontOfFirst level segs row k) span front → IsFrontOf level k row front fewer
    → IsThose (IsFrontOfFirst level segs row (k + 1)) span fewer
front_more level segs row span front fewer k one so_far more =
    those_same _ _ span fewer
    (λ i within. (
      (λ both n seg before. elim (cases_lt n k) [
        | inl less ↦ both.0 n seg less
        | inr past ↦
            let same : k ≡ n = omega (arith, before, past) in
            subst (λ m. ¬ IsBehind level m (point_of row i)) same both.1
      ]),
      (λ all. ((λ n seg before. all n seg (omega (arith, before))), all k one (omega arith))),
    ))
    (those_both _ _ span front fewer so_far more)

pub front_all : (level : Level) (segs : SegRange) (row : Row) (span front : Span) (end : ℕ) → segs.end ≤ end
    → IsThose (IsFrontOfFirst level segs row end) span front → IsFrontOfRange level segs row span front
front_all level segs row span front end past is =
    those_same _ _ span front
    (λ i within. ((λ first k one. first k one (omega (arith, one.1, past))), (λ all k one before. all k one))) is

-- what none of some segs so far has in front is behind one of them
pub front_done : (level : Level) (segs : SegRange) (row : Row) (span front : Span) (end : ℕ) → front.first ≡ front.end
    → IsThose (IsFrontOfFirst level segs row end) span front → IsFrontOfRange level segs row span front
front_done level segs row span front end none is = record {
  from = is.from;
  ordered = is.ordered;
  to = is.to;
  exact = λ i within. (
    (λ inside. absurd (omega (arith, inside.0, inside.1, none))),
    (λ all. (is.exact i within).1 (λ k one before. all k one)),
  );
}

-- the segs of an ssector are those of its range
pub front_of_range : (level : Level) (t : ℕ) (segs : SegRange) (row : Row) (span front : Span) → ((k : ℕ) → IsSegOf level t k ↔ IsOneOf segs k)
    → IsFrontOfRange level segs row span front → IsFrontOfSegs level t row span front
front_of_range level t segs row span front same is =
    those_same _ _ span front
    (λ i within. ((λ all k one. all k ((same k).0 one)), (λ all k one. all k ((same k).1 one)))) is
