-- How what lies around a sector comes to be known, linedef by linedef.
use Rattle.std.proofs.Common.{◌≡◌, ◌≢◌, ℕ, ◌+◌, ◌<◌, ◌≤◌, ℤ, Bool, true, false, inl, inr, List, [], ◌∷◌, ◌++◌, length, get_or, take, Option, Some, None, refl, sym, ap, subst, ◌∙◌, arith}
use Rattle.std.specs.Prelude.{◌&&◌, count_by, fold, IfSome, IsSomeAnd, IsTrue, if◌then◌else◌}
use Rattle.std.specs.List.{slice_get}
use Rattle.std.proofs.lemmas.Bool.{and_parts, cases_lt}
use Rattle.std.proofs.lemmas.List.{get_or_append_left, get_or_push, length-append, length-take, take_all}
use Rattle.std.proofs.lemmas.List.Sums.{count_by-le-length, count_by_more_no, count_by_more_yes, fold_more}
use Rattle.std.proofs.lemmas.Option.{get_or_from_slice_get, slice_get_within}
use Rattle.map_level.specs.Level.{Level}
use Rattle.map_level.specs.Links.{sectors_of}
use Rattle.game_warnings.specs.Around.{AreAround, AreFirstLines, IsAround, LeadsElsewhereAt}
use Rattle.game_warnings.specs.First.{IsFirstBelow}
use Rattle.game_warnings.specs.Neighbours.{leads_up, lower_by}
use Rattle.game_warnings.specs.Sides.{back_alone, floor_at, is_of, sides_in, IsLineAt}
use Rattle.game_warnings.specs.declared.around.Around.{Around}
use Rattle.game_warnings.specs.declared.around.FirstLines.{FirstLines}
use Rattle.game_warnings.specs.declared.sides.Sides.{Sides}
use Rattle.game_warnings.proofs.FirstLemmas.{at_some, first_found, first_kept, first_missed, first_passed, some_at}
use Rattle.game_warnings.proofs.SideLemmas.{both_sides}

-- one linedef more
module _ (level : Level) (s n : ℕ) (sides : Sides) (at : slice_get (sides_in level) n ≡ Some sides) where
  here : get_or (sides_in level) n sides ≡ sides
  here = get_or_from_slice_get (sides_in level) n sides sides at

  inside : n < length (sides_in level)
  inside = slice_get_within (sides_in level) n sides at

  count_yes : (p : Sides → Bool) → p sides ≡ true → count_by p (take (n + 1) (sides_in level)) ≡ count_by p (take n (sides_in level)) + 1
  count_yes p is = count_by_more_yes p (sides_in level) n sides inside (ap p here ∙ is)

  count_no : (p : Sides → Bool) → p sides ≡ false → count_by p (take (n + 1) (sides_in level)) ≡ count_by p (take n (sides_in level))
  count_no p is = count_by_more_no p (sides_in level) n sides inside (ap p here ∙ is)

  fold_here : {B : Type 0} (f : B → Sides → B) (b : B) → fold f b (take (n + 1) (sides_in level)) ≡ f (fold f b (take n (sides_in level))) sides
  fold_here {B} f b = fold_more f b (sides_in level) n sides inside ∙ ap (f (fold f b (take n (sides_in level)))) here

  -- of another sector: nothing changes
  module _ (other : is_of s sides ≡ false) where
    no_line : ¬ IsLineAt level s n
    no_line h = let is : is_of s sides ≡ true = some_at (slice_get (sides_in level) n) sides (λ x. IsTrue (is_of s x)) at h in let no : false ≡ true = sym other ∙ is in absurd (let gone = no in cc)

    no_elsewhere : (behind : Option ℕ) → ¬ LeadsElsewhereAt level s behind n
    no_elsewhere behind h =
        let is = some_at (slice_get (sides_in level) n) sides (λ x. IsTrue (is_of s x) × (x.back ≢ behind)) at h in
        let no : false ≡ true = sym other ∙ is.0 in
        absurd (let gone = no in cc)

    up_no : leads_up level s sides ≡ false
    up_no = rw other refl

    lower_no : (height : ℤ) → lower_by level s height sides ≡ height
    lower_no height = rw other refl

    lines_kept : (lines : FirstLines) → AreFirstLines level s n lines → AreFirstLines level s (n + 1) lines
    lines_kept lines are = record {
      first = first_passed (IsLineAt level s) n lines.first are.first no_line;
      behind = are.behind;
      other = first_passed (LeadsElsewhereAt level s lines.behind) n lines.other are.other (no_elsewhere lines.behind);
    }

    pub around_kept : (around : Around) → IsAround level s n around → IsAround level s (n + 1) around
    around_kept around is = record {
      linedefs = is.linedefs ∙ sym (count_no (is_of s) other);
      higher = is.higher ∙ sym (count_no (leads_up level s) up_no);
      lowest = is.lowest ∙ sym (fold_here (lower_by level s) (floor_at level s) ∙ lower_no (fold (lower_by level s) (floor_at level s) (take n (sides_in level))));
      lines = lines_kept around.lines is.lines;
    }

  -- of the sector
  module _ (own : is_of s sides ≡ true) where
    a_line : IsLineAt level s n
    a_line = at_some (slice_get (sides_in level) n) sides (λ x. IsTrue (is_of s x)) at own

    -- the first one
    pub lines_first : (lines : FirstLines) → lines.first ≡ None → AreFirstLines level s n lines
        → AreFirstLines level s (n + 1) (record { first = Some n; behind = sides.back; other = None })
    lines_first lines none are =
        let no : (k : ℕ) → k < n → ¬ IsLineAt level s k = subst (λ (o : Option ℕ). IsFirstBelow (IsLineAt level s) n o) none are.first in
        record {
          first = first_found (IsLineAt level s) n no a_line;
          behind = at_some (slice_get (sides_in level) n) sides (λ x. x.back ≡ sides.back) at refl;
          other = first_missed (LeadsElsewhereAt level s sides.back) n (λ k less h. no k less (elsewhere-line k sides.back h)) (λ h.
              let is = some_at (slice_get (sides_in level) n) sides (λ x. IsTrue (is_of s x) × (x.back ≢ sides.back)) at h in is.1 refl);
        }
      where
        line-of : (o : Option Sides) (behind : Option ℕ) → IsSomeAnd o (λ x. IsTrue (is_of s x) × (x.back ≢ behind)) → IsSomeAnd o (λ x. IsTrue (is_of s x))
        line-of (Some x) behind h = h.0
        line-of None behind h = h

        elsewhere-line : (k : ℕ) (behind : Option ℕ) → LeadsElsewhereAt level s behind k → IsLineAt level s k
        elsewhere-line k behind h = line-of (slice_get (sides_in level) k) behind h

    -- a later one, with the same behind it, or with another one known
    pub lines_same : (lines : FirstLines) (f : ℕ) → lines.first ≡ Some f → sides.back ≡ lines.behind → AreFirstLines level s n lines → AreFirstLines level s (n + 1) lines
    lines_same lines f is same are = record {
      first = later lines f is are;
      behind = are.behind;
      other = first_passed (LeadsElsewhereAt level s lines.behind) n lines.other are.other (λ h.
          let told = some_at (slice_get (sides_in level) n) sides (λ x. IsTrue (is_of s x) × (x.back ≢ lines.behind)) at h in told.1 same);
    }
      where
        later : (lines : FirstLines) (f : ℕ) → lines.first ≡ Some f → AreFirstLines level s n lines → IsFirstBelow (IsLineAt level s) (n + 1) lines.first
        later lines f is are = rw is (first_kept (IsLineAt level s) n f (subst (λ (o : Option ℕ). IsFirstBelow (IsLineAt level s) n o) is are.first))

    pub lines_known : (lines : FirstLines) (f m : ℕ) → lines.first ≡ Some f → lines.other ≡ Some m → AreFirstLines level s n lines → AreFirstLines level s (n + 1) lines
    lines_known lines f m is known are = record {
      first = rw is (first_kept (IsLineAt level s) n f (subst (λ (o : Option ℕ). IsFirstBelow (IsLineAt level s) n o) is are.first));
      behind = are.behind;
      other = rw known (first_kept (LeadsElsewhereAt level s lines.behind) n m (subst (λ (o : Option ℕ). IsFirstBelow (LeadsElsewhereAt level s lines.behind) n o) known are.other));
    }

    -- or the first one with something else behind it
    pub lines_other : (lines : FirstLines) (f : ℕ) → lines.first ≡ Some f → lines.other ≡ None → sides.back ≢ lines.behind → AreFirstLines level s n lines
        → AreFirstLines level s (n + 1) (record { first = lines.first; behind = lines.behind; other = Some n })
    lines_other lines f is none differs are = record {
      first = rw is (first_kept (IsLineAt level s) n f (subst (λ (o : Option ℕ). IsFirstBelow (IsLineAt level s) n o) is are.first));
      behind = are.behind;
      other = first_found (LeadsElsewhereAt level s lines.behind) n (subst (λ (o : Option ℕ). IsFirstBelow (LeadsElsewhereAt level s lines.behind) n o) none are.other)
          (at_some (slice_get (sides_in level) n) sides (λ x. IsTrue (is_of s x) × (x.back ≢ lines.behind)) at (own, differs));
    }

    count_up : (b : Bool) → b ≡ leads_up level s sides → count_by (leads_up level s) (take (n + 1) (sides_in level))
        ≡ count_by (leads_up level s) (take n (sides_in level)) + (if b then 1 else 0)
    count_up true is = count_yes (leads_up level s) (sym is)
    count_up false is = let same = count_no (leads_up level s) (sym is) in omega (arith, same)

    pub around_more : (around grown : Around) (up : Bool) → IsAround level s n around → grown.linedefs ≡ around.linedefs + 1 → up ≡ leads_up level s sides
        → grown.higher ≡ around.higher + (if up then 1 else 0) → grown.lowest ≡ lower_by level s around.lowest sides → AreFirstLines level s (n + 1) grown.lines
        → IsAround level s (n + 1) grown
    around_more around grown up is linedefs leads higher lowest lines = record {
      linedefs = linedefs ∙ ap (λ k. k + 1) is.linedefs ∙ sym (count_yes (is_of s) own);
      higher = higher ∙ ap (λ k. k + (if up then 1 else 0)) is.higher ∙ sym (count_up up leads);
      lowest = lowest ∙ ap (λ h. lower_by level s h sides) is.lowest ∙ sym (fold_here (lower_by level s) (floor_at level s));
      lines = lines;
    }

-- all sectors, with one linedef more
pub are_around_more : (level : Level) (n : ℕ) (sides : Sides) (old mid new : List Around) → slice_get (sides_in level) n ≡ Some sides → length new ≡ length old
    → ((s : ℕ) (d : Around) → sides.front ≡ Some s → IsAround level s (n + 1) (get_or mid s d))
    → ((s : ℕ) (d : Around) → (¬ (sides.front ≡ Some s)) → get_or mid s d ≡ get_or old s d)
    → ((s : ℕ) (d : Around) → back_alone sides ≡ Some s → IsAround level s (n + 1) (get_or new s d))
    → ((s : ℕ) (d : Around) → (¬ (back_alone sides ≡ Some s)) → get_or new s d ≡ get_or mid s d)
    → AreAround level n old → AreAround level (n + 1) new
are_around_more level n sides old mid new at same front unfront back unback are = record {
  long = same ∙ are.long;
  each = λ s d below.
      both_sides sides s (IsAround level s (n + 1)) (get_or old s d) (get_or mid s d) (get_or new s d) (front s d) (unfront s d) (back s d) (unback s d)
      (λ other. around_kept level s n sides at other (get_or old s d) (are.each s d below));
}

-- before any linedef
pub record AreBare (level : Level) (n : ℕ) (around : List Around) : Type 0 where
  pub long : length around ≡ n
  pub each : (s : ℕ) (d : Around) → s < n → IsAround level s 0 (get_or around s d)

pub bare_none : (level : Level) → AreBare level 0 []
bare_none level = record { long = refl; each = λ s d below. absurd (omega (arith, below)) }

pub bare_more : (level : Level) (n : ℕ) (around : List Around) (next : Around) → AreBare level n around → IsAround level n 0 next → AreBare level (n + 1) (around ++ next ∷ [])
bare_more level n around next are is = record {
  long = omega (arith, length-append around (next ∷ []), are.long);
  each = λ s d below. elim (cases_lt s n) [
    | inl less ↦
        let here : s < length around = omega (arith, less, are.long) in
        subst (IsAround level s 0) (sym (get_or_append_left around (next ∷ []) d s here)) (are.each s d less)
    | inr past ↦
        let here : s ≡ length around = omega (arith, past, below, are.long) in
        let own : s ≡ n = omega (arith, past, below) in
        subst (IsAround level s 0) (sym (get_or_push around next d s (sym here))) (subst (λ k. IsAround level k 0 next) (sym own) is)
  ];
}

pub bare_all : (level : Level) (n : ℕ) (around : List Around) → n ≡ length (sectors_of level) → AreBare level n around → AreAround level 0 around
bare_all level n around all are = record {
  long = are.long ∙ all;
  each = λ s d below. are.each s d (omega (arith, below, all));
}

-- a count of so many linedefs is at most so many
pub few_below : (p : Sides → Bool) (level : Level) (n count : ℕ) → count ≡ count_by p (take n (sides_in level)) → count ≤ n
few_below p level n count is = omega (arith, is, count_by-le-length p (take n (sides_in level)), length-take n (sides_in level))
