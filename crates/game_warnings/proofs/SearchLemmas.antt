-- How the searches for a neighbour go on, linedef by linedef.
use Rattle.std.proofs.Common.{◌≡◌, ℕ, ◌+◌, ◌<◌, ◌≤◌, Bool, true, false, inl, inr, List, [], ◌∷◌, ◌++◌, length, get_or, take, Some, refl, sym, ap, subst, ◌∙◌, arith}
use Rattle.std.specs.Prelude.{count_by, fold, if◌then◌else◌}
use Rattle.std.specs.List.{slice_get}
use Rattle.std.proofs.lemmas.List.{get_or_append_left, get_or_push, length-append, take_all}
use Rattle.std.proofs.lemmas.List.Sums.{fold_more}
use Rattle.std.proofs.lemmas.Option.{get_or_from_slice_get, slice_get_within}
use Rattle.map_level.specs.Level.{Level}
use Rattle.map_level.specs.Links.{sectors_of}
use Rattle.game_warnings.specs.Around.{AreAround, AreSearches, IsAround}
use Rattle.game_warnings.specs.Change.{begun, ended, look, look_on}
use Rattle.game_warnings.specs.Neighbours.{higher_count, leads_up, line_count, lower_by, lowest_floor}
use Rattle.game_warnings.specs.Sides.{back_alone, floor_at, is_of, sides_in}
use Rattle.game_warnings.specs.declared.around.Around.{Around}
use Rattle.game_warnings.specs.declared.search.Search.{Search}
use Rattle.game_warnings.specs.declared.search.Search.TheVariants.{Going}
use Rattle.std.proofs.lemmas.Bool.{cases_lt}
use Rattle.game_warnings.specs.declared.sides.Sides.{Sides}
use Rattle.game_warnings.proofs.SideLemmas.{both_sides, not_in_front}

-- what is known of all linedefs
whole : (level : Level) → take (length (sides_in level)) (sides_in level) ≡ sides_in level
whole level = take_all (length (sides_in level)) (sides_in level) (omega arith)

module _ (level : Level) (s : ℕ) (around : Around) (is : IsAround level s (length (sides_in level)) around) where
  pub whole_lines : around.linedefs ≡ line_count level s
  whole_lines = is.linedefs ∙ ap (count_by (is_of s)) (whole level)

  pub whole_higher : around.higher ≡ higher_count level s
  whole_higher = is.higher ∙ ap (count_by (leads_up level s)) (whole level)

  pub whole_lowest : around.lowest ≡ lowest_floor level s
  whole_lowest = is.lowest ∙ ap (fold (lower_by level s) (floor_at level s)) (whole level)

pub whole_search : (level : Level) (s : ℕ) (search : Search) → search ≡ fold (look level s) (begun level s) (take (length (sides_in level)) (sides_in level)) → search ≡ ended level s
whole_search level s search is = is ∙ ap (fold (look level s) (begun level s)) (whole level)

-- at a linedef of another sector nothing happens
look_other : (level : Level) (s : ℕ) (search : Search) (sides : Sides) → is_of s sides ≡ false → look level s search sides ≡ search
look_other level s search sides other = rw other refl

-- all searches, with one linedef more
pub are_searches_more : (level : Level) (n : ℕ) (sides : Sides) (old mid new : List Search) → slice_get (sides_in level) n ≡ Some sides → length new ≡ length old
    → ((s : ℕ) (d : Search) → sides.front ≡ Some s → get_or mid s d ≡ look level s (get_or old s d) sides)
    → ((s : ℕ) (d : Search) → (¬ (sides.front ≡ Some s)) → get_or mid s d ≡ get_or old s d)
    → ((s : ℕ) (d : Search) → back_alone sides ≡ Some s → get_or new s d ≡ look level s (get_or mid s d) sides)
    → ((s : ℕ) (d : Search) → (¬ (back_alone sides ≡ Some s)) → get_or new s d ≡ get_or mid s d)
    → AreSearches level n old → AreSearches level (n + 1) new
are_searches_more level n sides old mid new at same front unfront back unback are = record {
  long = same ∙ are.long;
  each = λ s d below.
      let before = are.each s d below in
      let here : get_or (sides_in level) n sides ≡ sides = get_or_from_slice_get (sides_in level) n sides sides at in
      let step : fold (look level s) (begun level s) (take (n + 1) (sides_in level)) ≡ look level s (fold (look level s) (begun level s) (take n (sides_in level))) sides =
      fold_more (look level s) (begun level s) (sides_in level) n sides (slice_get_within (sides_in level) n sides at)
      ∙ ap (look level s (fold (look level s) (begun level s) (take n (sides_in level)))) here in
      let looked : get_or new s d ≡ look level s (get_or old s d) sides =
      both_sides sides s (λ search. search ≡ look level s (get_or old s d) sides) (get_or old s d) (get_or mid s d) (get_or new s d) (front s d) (unfront s d)
      (λ is. back s d is ∙ ap (λ search. look level s search sides) (unfront s d (not_in_front sides s is))) (unback s d) (λ other. sym (look_other level s (get_or old s d) sides other)) in
      looked ∙ ap (λ search. look level s search sides) before ∙ sym step;
}

-- before any linedef
pub record AreBegun (level : Level) (n : ℕ) (searches : List Search) : Type 0 where
  pub long : length searches ≡ n
  pub each : (s : ℕ) (d : Search) → s < n → get_or searches s d ≡ begun level s

pub begun_none : (level : Level) → AreBegun level 0 []
begun_none level = record { long = refl; each = λ s d below. absurd (omega (arith, below)) }

pub begun_more : (level : Level) (n count : ℕ) (searches : List Search) → AreBegun level n searches → count ≡ line_count level n
    → AreBegun level (n + 1) (searches ++ Going 0 count ∷ [])
begun_more level n count searches are is = record {
  long = omega (arith, length-append searches (Going 0 count ∷ []), are.long);
  each = λ s d below. elim (cases_lt s n) [
    | inl less ↦
        let here : s < length searches = omega (arith, less, are.long) in
        get_or_append_left searches (Going 0 count ∷ []) d s here ∙ are.each s d less
    | inr past ↦
        let here : s ≡ length searches = omega (arith, past, below, are.long) in
        let own : n ≡ s = omega (arith, past, below) in
        get_or_push searches (Going 0 count) d s (sym here) ∙ ap (Going 0) (is ∙ ap (line_count level) own)
  ];
}

pub begun_all : (level : Level) (n : ℕ) (searches : List Search) → n ≡ length (sectors_of level) → AreBegun level n searches → AreSearches level 0 searches
begun_all level n searches all are = record {
  long = are.long ∙ all;
  each = λ s d below. are.each s d (omega (arith, below, all));
}

-- the search at a linedef of the sector
pub look_own : (level : Level) (s : ℕ) (search : Search) (sides : Sides) → is_of s sides ≡ true → look level s search sides ≡ look_on level s search sides
look_own level s search sides own = rw own refl
