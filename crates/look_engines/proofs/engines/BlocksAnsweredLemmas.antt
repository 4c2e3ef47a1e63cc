-- Every content is told an answer of `blocks`: each point has one block or none, and each block a list or why it has none.
use Rattle.std.proofs.Common.{◌≡◌, ◌≢◌, ◌⊎◌, inl, inr, ℕ, suc, zero, ◌+◌, ◌/◌, ℤ, pos, negsuc, ◌-ℤ◌, List, [], ◌∷◌, ◌++◌, length, drop, Option, Some, None, refl, sym, ap, ◌∙◌, subst, arith}
use Rattle.std.specs.Prelude.{Contains}
use Rattle.std.specs.List.{slice_get}
use Rattle.std.proofs.lemmas.Bool.{cases_lt}
use Rattle.std.proofs.lemmas.Int.{ints}
use Rattle.std.proofs.lemmas.List.{length-append, length-drop}
use Rattle.line_io.proofs.NumberAnswersLemmas.{decide_two, some_answers, two_texts}
use Rattle.map_geo.specs.Point.{Point, point_at}
use Rattle.map_level.proofs.LinkedLemmas.{is_same}
use Rattle.map_tables.specs.BlockMap.{BlockMap, IsBlockAlong, IsBlockOf, block_number, count_of}
use Rattle.map_tables.specs.Words.{HasNoEnd, HasOffset, IsBlockList, IsListAt, IsOffsetOutside, Words}
use Rattle.map_tables.proofs.ListLemmas.{one_block_list}
use Rattle.look_engines.specs.Engines.Blocks.{AnswersBlock, block_text, fault_text, lines_text, no_block_text}
use Rattle.look_engines.specs.Laws.{BlocksAreAnswered}
use Rattle.look_engines.proofs.ContentsLemmas.{coordinates_or_not}

-- the column or the row of a coordinate
along : (origin z : ℤ) → ((k : ℕ) × IsBlockAlong origin z k) ⊎ ((k : ℕ) → ¬ IsBlockAlong origin z k)
along origin z = go (z -ℤ origin) refl
  where
    go : (d : ℤ) → z -ℤ origin ≡ d → ((k : ℕ) × IsBlockAlong origin z k) ⊎ ((k : ℕ) → ¬ IsBlockAlong origin z k)
    go (pos n) is = inl (n / 128, record { first = omega (arith, ints, is); last = omega (arith, ints, is) })
    go (negsuc n) is = inr (λ k at. omega (arith, ints, is, at.first))

one_along : (origin z : ℤ) (k j : ℕ) → IsBlockAlong origin z k → IsBlockAlong origin z j → k ≡ j
one_along origin z k j a b = omega (arith, ints, a.first, a.last, b.first, b.last)

-- the block of a point
block_at : (map : BlockMap) (point : Point) → ((bx : ℕ) × (by : ℕ) × IsBlockOf map point bx by) ⊎ ((bx by : ℕ) → ¬ IsBlockOf map point bx by)
block_at map point = elim (along map.x point.x) [
  | inr none ↦ inr (λ bx by at. none bx at.column)
  | inl column ↦ elim (along map.y point.y) [
    | inr none ↦ inr (λ bx by at. none by at.row)
    | inl row ↦ elim (cases_lt column.0 (count_of map.width)) [
      | inr past ↦ inr (λ bx by at. let same = one_along map.x point.x bx column.0 at.column column.1 in omega (arith, past, same, at.in_width))
      | inl in_width ↦ elim (cases_lt row.0 (count_of map.height)) [
        | inr past ↦ inr (λ bx by at. let same = one_along map.y point.y by row.0 at.row row.1 in omega (arith, past, same, at.in_height))
        | inl in_height ↦ inl (column.0, row.0, record { column = column.1; row = row.1; in_width = in_width; in_height = in_height })
      ]
    ]
  ]
]

-- the words before the first end word, if there is one
abbrev HasEnd : ℤ → List ℤ → Type 0
HasEnd end words = (list : List ℤ) × (after : List ℤ) × (words ≡ list ++ end ∷ after) × (¬ Contains list end)

abbrev NoEnd : ℤ → List ℤ → Type 0
NoEnd end words = (list after : List ℤ) → words ≡ list ++ end ∷ after → ⊥

end_behind : (end x : ℤ) (words : List ℤ) → x ≢ end → HasEnd end words ⊎ NoEnd end words → HasEnd end (x ∷ words) ⊎ NoEnd end (x ∷ words)
end_behind end x words other (inl (list, after, is, none)) = inl (x ∷ list, after, ap (λ ws. x ∷ ws) is, not_there)
  where
    not_there : ¬ Contains (x ∷ list) end
    not_there (zero, below, at) = other at
    not_there (suc k, below, at) = none (k, omega (arith, below), at)
end_behind end x words other (inr none) = inr no_end
  where
    no_end : NoEnd end (x ∷ words)
    no_end [] after is = other cc
    no_end (y ∷ list) after is = none list after cc

first_end : (end : ℤ) (words : List ℤ) → HasEnd end words ⊎ NoEnd end words
first_end end [] = inr (λ list after is. let long = ap length is ∙ length-append list (end ∷ after) in omega (arith, long))
first_end end (x ∷ words) = elim (is_same x end) [
  | inl here ↦ inl ([], words, rw here refl, λ there. omega (arith, there.1))
  | inr other ↦ end_behind end x words other (first_end end words)
]

-- a list has a place in the lump, so its offset is inside, and it isn't without an end
list_inside : (words : Words) (n : ℕ) (list : List ℤ) → IsBlockList words n list → ¬ IsOffsetOutside words n
list_inside words n list is outside =
    let past = outside is.place is.offset in
    let long = ap length is.list_at.stands ∙ length-append list (words.end ∷ is.list_at.after) in
    omega (arith, past, long, length-drop is.place words.numbers)

same_place : (words : Words) (n p q : ℕ) → HasOffset words n p → HasOffset words n q → p ≡ q
same_place words n p q a b = let both : Some (pos p) ≡ Some (pos q) = sym a ∙ b in cc

list_has_end : (words : Words) (n : ℕ) (list : List ℤ) → IsBlockList words n list → ¬ HasNoEnd words n
list_has_end words n list is endless =
    endless.no_list list (subst (λ (p : ℕ). IsListAt words p list) (same_place words n is.place endless.place is.offset endless.offset) is.list_at)

inside_has_no_end : (words : Words) (n : ℕ) → HasNoEnd words n → ¬ IsOffsetOutside words n
inside_has_no_end words n endless outside = omega (arith, endless.inside, outside endless.place endless.offset)

-- what block n has
Lists : Words → ℕ → Type 0
Lists words n = ((list : List ℤ) × IsBlockList words n list) ⊎ (IsOffsetOutside words n ⊎ HasNoEnd words n)

lists_at : (words : Words) (n place : ℕ) → HasOffset words n place → Lists words n
unfolding Lists
lists_at words n place offset = elim (cases_lt place (length words.numbers)) [
  | inr past ↦ inr (inl (λ p other. let same = same_place words n place p offset other in omega (arith, past, same)))
  | inl inside ↦ elim (first_end words.end (drop place words.numbers)) [
    | inl found ↦ inl (found.0, record { place = place; offset = offset; list_at = record { after = found.1; stands = found.2; endless = found.3 } })
    | inr none ↦ inr (inr (record { place = place; offset = offset; inside = inside; no_list = λ list at. none list at.after at.stands }))
  ]
]

lists_of : (words : Words) (n : ℕ) → Lists words n
unfolding Lists
lists_of words n = go (slice_get words.numbers (4 + n)) refl
  where
    go : (o : Option ℤ) → slice_get words.numbers (4 + n) ≡ o → Lists words n
    go None is = inr (inl (λ place offset. absurd (let both : None ≡ Some (pos place) = sym is ∙ offset in cc)))
    go (Some (negsuc k)) is = inr (inl (λ place offset. absurd (let both : Some (negsuc k) ≡ Some (pos place) = sym is ∙ offset in cc)))
    go (Some (pos place)) is = lists_at words n place is

-- the text of a point's block
module _ (map : BlockMap) (x y : ℤ) (bx by : ℕ) (block : IsBlockOf map (point_at x y) bx by) where
  -- it is the only one
  same_block : (P : ℕ → ℕ → Type 0) (cx cy : ℕ) → IsBlockOf map (point_at x y) cx cy → P cx cy → P bx by
  same_block P cx cy other holds =
      let column = one_along map.x (point_at x y).x cx bx other.column block.column in
      let row = one_along map.y (point_at x y).y cy by other.row block.row in
      rw (column, row) at holds

  same_text : (rest : List ℕ) (cx cy : ℕ) → IsBlockOf map (point_at x y) cx cy → block_text x y bx by rest ≡ block_text x y cx cy rest
  same_text rest cx cy other =
      let column = one_along map.x (point_at x y).x cx bx other.column block.column in
      let row = one_along map.y (point_at x y).y cy by other.row block.row in
      rw (column, row) refl

  abbrev number : ℕ
  number = block_number map bx by

  answer_lists : Lists map.words number → (text : List ℕ) × AnswersBlock map x y text
  unfolding Lists
  answer_lists (inl (list, is)) = (
    block_text x y bx by (lines_text list),
    record {
      none = λ none. absurd (none bx by block);
      lines = λ cx cy words other there.
          let same = one_block_list map.words number list words is (same_block (λ a b. IsBlockList map.words (block_number map a b) words) cx cy other there) in
          ap (λ ws. block_text x y bx by (lines_text ws)) same ∙ same_text (lines_text words) cx cy other;
      outside = λ cx cy other there. absurd (list_inside map.words number list is (same_block (λ a b. IsOffsetOutside map.words (block_number map a b)) cx cy other there));
      no_end = λ cx cy other there. absurd (list_has_end map.words number list is (same_block (λ a b. HasNoEnd map.words (block_number map a b)) cx cy other there));
    },
  )
  answer_lists (inr (inl is)) = (
    block_text x y bx by (fault_text 1),
    record {
      none = λ none. absurd (none bx by block);
      lines = λ cx cy words other there. absurd (list_inside map.words number words (same_block (λ a b. IsBlockList map.words (block_number map a b) words) cx cy other there) is);
      outside = λ cx cy other there. same_text (fault_text 1) cx cy other;
      no_end = λ cx cy other there. absurd (inside_has_no_end map.words number (same_block (λ a b. HasNoEnd map.words (block_number map a b)) cx cy other there) is);
    },
  )
  answer_lists (inr (inr is)) = (
    block_text x y bx by (fault_text 2),
    record {
      none = λ none. absurd (none bx by block);
      lines = λ cx cy words other there. absurd (list_has_end map.words number words (same_block (λ a b. IsBlockList map.words (block_number map a b) words) cx cy other there) is);
      outside = λ cx cy other there. absurd (inside_has_no_end map.words number is (same_block (λ a b. IsOffsetOutside map.words (block_number map a b)) cx cy other there));
      no_end = λ cx cy other there. same_text (fault_text 2) cx cy other;
    },
  )

block_answer : (map : BlockMap) (x y : ℤ) → (text : List ℕ) × AnswersBlock map x y text
block_answer map x y = elim (block_at map (point_at x y)) [
  | inl at ↦ answer_lists map x y at.0 at.1 at.2 (lists_of map.words (block_number map at.0 at.1))
  | inr none ↦ (
    no_block_text x y,
    record {
      none = λ _. refl;
      lines = λ bx by words other there. absurd (none bx by other);
      outside = λ bx by other there. absurd (none bx by other);
      no_end = λ bx by other there. absurd (none bx by other);
    },
  )
]

pub blocks_are_answered : BlocksAreAnswered
blocks_are_answered map = some_answers (decide_two coordinates_or_not) (two_texts (λ x y both. block_answer map x y))
