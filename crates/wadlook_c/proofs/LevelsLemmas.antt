-- The levels of a file, as they are told one after another.
use Rattle.std.proofs.Common.{◌≡◌, ◌↔◌, ℕ, zero, suc, ◌+◌, ◌<◌, ◌≤◌, List, [], ◌∷◌, ◌++◌, length, drop, set, get_or, Some, inl, inr, refl, sym, ap, subst, ◌∙◌, arith}
use Rattle.std.specs.Prelude.{AllPairs, Contains, IsSomeAnd}
use Rattle.std.specs.List.{slice_get}
use Rattle.std.proofs.lemmas.Bool.{cases_eq, cases_lt}
use Rattle.std.proofs.lemmas.List.{drop-set-lt, length-map, length_push}
use Rattle.std.proofs.lemmas.List.Elements.{Contains-append_left, Contains-get_or, Contains-push, Contains-push_cases}
use Rattle.std.proofs.lemmas.List.Quantifiers.{all_pairs_push}
use Rattle.std.proofs.Math.Numerals.{suc-eq-add-one}
use Rattle.level_starts.proofs.StartLemmas.{start_within}
use Rattle.level_starts.specs.Starts.{LevelStartsAt}
use Rattle.wad_dir.specs.Entries.{joined, listed_name, names}
use Rattle.wad_dir.specs.Wad.{Wad}
use Rattle.wadlook_c.specs.Levels.{PutsStart, TellsLevel, TellsLevels}
use Rattle.wadlook_c.specs.declared.levels.WadlookLevel.{WadlookLevel}
use Rattle.wadlook_c.proofs.SliceLemmas.{slice_get-set_other, slice_get-set_same}

-- the levels that start below an entry are told, as far as there is room
pub record ToldBelow (files : List Wad) (from : ℕ) (old out : List WadlookLevel) (count : ℕ) : Type 0 where
  pub starts : List ℕ
  pub ascending : AllPairs (λ a b. a < b) starts
  pub exact : (g : ℕ) → Contains starts g ↔ (LevelStartsAt (names files) g × (g < from))
  pub many : count ≡ length starts
  pub few : count ≤ from
  pub front : (k : ℕ) → k < length starts → k < length out → IsSomeAnd (slice_get starts k) (λ g. IsSomeAnd (slice_get out k) (TellsLevel files g))
  pub behind : drop count out ≡ drop count old

slice_get-append_left : {X : Type 0} (xs ys : List X) (k : ℕ) → k < length xs → slice_get (xs ++ ys) k ≡ slice_get xs k
slice_get-append_left [] ys k within = absurd (omega arith)
slice_get-append_left (x ∷ xs) ys zero within = refl
slice_get-append_left (x ∷ xs) ys (suc k) within = slice_get-append_left xs ys k (omega arith)

slice_get-push_same : {X : Type 0} (xs : List X) (x : X) → slice_get (xs ++ x ∷ []) (length xs) ≡ Some x
slice_get-push_same [] x = refl
slice_get-push_same (y ∷ xs) x = slice_get-push_same xs x

drop_next : {X : Type 0} (n : ℕ) (xs : List X) → drop (suc n) xs ≡ drop 1 (drop n xs)
drop_next zero xs = refl
drop_next (suc n) [] = refl
drop_next (suc n) (x ∷ xs) = drop_next n xs

-- what lies behind a place lies behind the next one, too
behind_more : {X : Type 0} (n : ℕ) (xs ys : List X) → drop n xs ≡ drop n ys → drop (n + 1) xs ≡ drop (n + 1) ys
behind_more n xs ys same = rw (sym (suc-eq-add-one n)) (drop_next n xs ∙ ap (drop 1) same ∙ sym (drop_next n ys))

module _ (files : List Wad) where
  -- none is told yet
  pub told_none : (out : List WadlookLevel) → ToldBelow files 0 out out 0
  told_none out = record {
    starts = [];
    ascending = λ i j d before below. absurd (omega (arith, below));
    exact = λ g. (λ there. absurd (omega (arith, there.1)), λ starts. absurd (omega (arith, starts.1)));
    many = refl;
    few = omega arith;
    front = λ k there room. absurd (omega (arith, there));
    behind = refl;
  }

  -- none starts at the entry
  pub told_same : (g : ℕ) (old out : List WadlookLevel) (count : ℕ) → ¬ LevelStartsAt (names files) g → ToldBelow files g old out count → ToldBelow files (g + 1) old out count
  told_same g old out count none told = record {
    starts = told.starts;
    ascending = told.ascending;
    exact = λ h. (
      (λ there. let found = (told.exact h).0 there in (found.0, omega (arith, found.1))),
      (λ found. elim (cases_eq h g) [
        | inl same ↦ absurd (none (subst (LevelStartsAt (names files)) same found.0))
        | inr other ↦ (told.exact h).1 (found.0, omega (arith, found.1))
      ]),
    );
    many = told.many;
    few = omega (arith, told.few);
    front = told.front;
    behind = told.behind;
  }

  -- the starts and one more
  ascending_more : (g : ℕ) (old out : List WadlookLevel) (count : ℕ) (told : ToldBelow files g old out count) → AllPairs (λ a b. a < b) (told.starts ++ g ∷ [])
  ascending_more g old out count told =
      all_pairs_push (λ a b. a < b) told.starts g told.ascending (λ k d within. ((told.exact (get_or told.starts k d)).0 (Contains-get_or told.starts k d within)).1)

  exact_more : (g : ℕ) (old out : List WadlookLevel) (count : ℕ) (told : ToldBelow files g old out count) → LevelStartsAt (names files) g
      → (h : ℕ) → Contains (told.starts ++ g ∷ []) h ↔ (LevelStartsAt (names files) h × (h < g + 1))
  exact_more g old out count told starts h = (
    (λ there. elim (Contains-push_cases told.starts g h there) [
      | inl before ↦ let found = (told.exact h).0 before in (found.0, omega (arith, found.1))
      | inr same ↦ subst (λ n. LevelStartsAt (names files) n × (n < g + 1)) same (starts, omega arith)
    ]),
    (λ found. elim (cases_eq h g) [
      | inl same ↦ subst (Contains (told.starts ++ g ∷ [])) (sym same) (Contains-push told.starts g)
      | inr other ↦ Contains-append_left told.starts (g ∷ []) h ((told.exact h).1 (found.0, omega (arith, found.1)))
    ]),
  )

  -- one starts at the entry, and there is no room for it
  pub told_past : (g : ℕ) (old out : List WadlookLevel) (count : ℕ) → LevelStartsAt (names files) g → length out ≤ count → ToldBelow files g old out count
      → ToldBelow files (g + 1) old out (count + 1)
  told_past g old out count starts full told =
      let long = length_push told.starts g in
      record {
        starts = told.starts ++ g ∷ [];
        ascending = ascending_more g old out count told;
        exact = exact_more g old out count told starts;
        many = omega (arith, told.many, long);
        few = omega (arith, told.few);
        front = λ k there room.
            let before : k < length told.starts = omega (arith, told.many, full, room) in
            rw (slice_get-append_left told.starts (g ∷ []) k before) (told.front k before room);
        behind = behind_more count out old told.behind;
      }

  -- there is room
  pub told_more : (g : ℕ) (old out : List WadlookLevel) (count : ℕ) (level : WadlookLevel) → LevelStartsAt (names files) g → count < length out → TellsLevel files g level
      → ToldBelow files g old out count → ToldBelow files (g + 1) old (set out count level) (count + 1)
  told_more g old out count level starts room tells told =
      let long = length_push told.starts g in
      record {
        starts = told.starts ++ g ∷ [];
        ascending = ascending_more g old out count told;
        exact = exact_more g old out count told starts;
        many = omega (arith, told.many, long);
        few = omega (arith, told.few);
        front = λ k there within. front k (omega (arith, there, long));
        behind = drop-set-lt (count + 1) out count level (omega arith) ∙ behind_more count out old told.behind;
      }
    where
      front : (k : ℕ) → k < length told.starts + 1 → IsSomeAnd (slice_get (told.starts ++ g ∷ []) k) (λ h. IsSomeAnd (slice_get (set out count level) k) (TellsLevel files h))
      front k there = elim (cases_eq k (length told.starts)) [
        | inl same ↦ rw (same, slice_get-push_same told.starts g, sym told.many, slice_get-set_same out count level room) tells
        | inr other ↦
            let before : k < length told.starts = omega (arith, there, other) in
            rw (slice_get-append_left told.starts (g ∷ []) k before, slice_get-set_other out count k level (λ e. other (e ∙ told.many)))
            (told.front k before (omega (arith, before, told.many, room)))
      ]

  -- one of the two
  pub told_next : (g : ℕ) (old out out' : List WadlookLevel) (count : ℕ) (level : WadlookLevel) → LevelStartsAt (names files) g → TellsLevel files g level
      → (count < length out → out' ≡ set out count level) → (length out ≤ count → out' ≡ out) → ToldBelow files g old out count
      → ToldBelow files (g + 1) old out' (count + 1)
  told_next g old out out' count level starts tells room full told = elim (cases_lt count (length out)) [
    | inl here ↦ rw (room here) (told_more g old out count level starts here tells told)
    | inr past ↦ rw (full past) (told_past g old out count starts past told)
  ]

  -- as an entry was looked at
  pub told_step : (g : ℕ) (old out out' : List WadlookLevel) (count n : ℕ) → PutsStart files g count out out' n → ToldBelow files g old out count
      → ToldBelow files (g + 1) old out' (count + n)
  told_step g old out out' count n puts told = elim puts [
    | inl none ↦
        let same : count + n ≡ count = omega (arith, none.nothing) in
        rw (same, none.untouched) (told_same g old out count none.none told)
    | inr found ↦ rw found.one (told_next g old out out' count found.level found.starts found.tells found.room found.full told)
  ]

  -- all are told
  pub told_all : (total : ℕ) (old out : List WadlookLevel) (count : ℕ) → total ≡ length (joined files) → ToldBelow files total old out count → TellsLevels files out count
  told_all total old out count is told = record {
    starts = told.starts;
    all = record {
      ascending = told.ascending;
      exact = λ g. (
        (λ there. (((told.exact g).0 there).0, omega arith)),
        (λ starts. (told.exact g).1 (starts.0, omega (arith, start_within (names files) g starts.0, length-map (joined files) listed_name, is))),
      );
    };
    many = told.many;
    front = told.front;
  }
