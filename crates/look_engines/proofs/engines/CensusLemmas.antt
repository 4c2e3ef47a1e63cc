-- The rectangle of a content, how a census's line goes on, and what `census` answers to a content.
use Rattle.std.proofs.Common.{◌≡◌, ℕ, ◌+◌, ℤ, pos, List, [], ◌∷◌, ◌++◌, length, map, get_or, drop, Some, ◌⊎◌, refl, ap, append_assoc, arith}
use Rattle.std.specs.List.{slice_get, flat_map}
use Rattle.line_io.specs.Numbers.{HasForm, nearest}
use Rattle.line_io.specs.NumberAnswers.{RefusesContent}
use Rattle.line_io.proofs.NumberAnswersLemmas.{some_answers}
use Rattle.line_io.specs.declared.refusal.LineRefusal.TheVariants.{Range}
use Rattle.map_geo.specs.Point.{Point}
use Rattle.map_geo.specs.Rect.{Rect, IsRect, rect_at}
use Rattle.map_level.specs.Level.{Level}
use Rattle.map_tree.specs.Areas.{AreAreas}
use Rattle.map_tree.specs.PlainCount.{TellsSectors, plain_count}
use Rattle.map_tree.specs.Sound.{IsSound}
use Rattle.map_tree.proofs.CountedLemmas.{one_list_of_pairs, some_counts}
use Rattle.map_tree.proofs.LawLemmas.{law_sectors}
use Rattle.look_engines.specs.Engines.Census.{AreRect, TellsCensus, TellsCounts, count_text, counts_text, rect_text}
use Rattle.look_engines.proofs.ContentsLemmas.{coordinates_near, rect_or_not}
use Rattle.line_io.proofs.RestLemmas.{drop-at}

-- the nearest `i32`s of numbers, as a rectangle
abbrev near_rect : List ℤ → Rect
near_rect values = rect_at (get_or values 0 (pos 0)) (get_or values 1 (pos 0)) (get_or values 2 (pos 0)) (get_or values 3 (pos 0))

-- four numbers that were read are a rectangle's where their nearest `i32`s are
pub read_rect : (content : List ℕ) (exact values : List ℤ) → HasForm 4 content exact → values ≡ map nearest exact → IsRect (near_rect values)
    → HasForm 4 content (get_or values 0 (pos 0) ∷ get_or values 1 (pos 0) ∷ get_or values 2 (pos 0) ∷ get_or values 3 (pos 0) ∷ [])
read_rect content [] values form are rect = absurd (omega (arith, form.counted))
read_rect content (a ∷ []) values form are rect = absurd (omega (arith, form.counted))
read_rect content (a ∷ b ∷ []) values form are rect = absurd (omega (arith, form.counted))
read_rect content (a ∷ b ∷ c ∷ []) values form are rect = absurd (omega (arith, form.counted))
read_rect content (a ∷ b ∷ c ∷ d ∷ []) values form are rect =
    let near : IsRect (rect_at (nearest a) (nearest b) (nearest c) (nearest d)) = rw are at rect in
    let a_is = coordinates_near.exact a near.columns.first_in in
    let b_is = coordinates_near.exact b near.rows.first_in in
    let c_is = coordinates_near.exact c near.columns.last_in in
    let d_is = coordinates_near.exact d near.rows.last_in in
    rw (are, a_is, b_is, c_is, d_is) form
read_rect content (a ∷ b ∷ c ∷ d ∷ e ∷ more) values form are rect = absurd (omega (arith, form.counted))

-- and aren't where those aren't
pub not_rect : (content : List ℕ) (exact values : List ℤ) → HasForm 4 content exact → values ≡ map nearest exact → ¬ IsRect (near_rect values)
    → RefusesContent 4 AreRect content Range
not_rect content [] values form are not = absurd (omega (arith, form.counted))
not_rect content (a ∷ []) values form are not = absurd (omega (arith, form.counted))
not_rect content (a ∷ b ∷ []) values form are not = absurd (omega (arith, form.counted))
not_rect content (a ∷ b ∷ c ∷ []) values form are not = absurd (omega (arith, form.counted))
not_rect content (a ∷ b ∷ c ∷ d ∷ []) values form are not = (
  a ∷ b ∷ c ∷ d ∷ [],
  form,
  λ (rect : IsRect (rect_at a b c d)).
      let a_is = coordinates_near.near a rect.columns.first_in in
      let b_is = coordinates_near.near b rect.rows.first_in in
      let c_is = coordinates_near.near c rect.columns.last_in in
      let d_is = coordinates_near.near d rect.rows.last_in in
      not (rw (are, a_is, b_is, c_is, d_is) rect),
)
not_rect content (a ∷ b ∷ c ∷ d ∷ e ∷ more) values form are not = absurd (omega (arith, form.counted))

-- the pairs from a place on
pub counts-drop : (pairs : List (ℕ × ℕ)) (i : ℕ) (pair : ℕ × ℕ) → slice_get pairs i ≡ Some pair
    → flat_map count_text (drop i pairs) ≡ count_text pair ++ flat_map count_text (drop (i + 1) pairs)
counts-drop pairs i pair at = rw (drop-at pairs i pair at) refl

-- a rectangle's line before what follows
pub rect_text-before : (rect : Rect) (rest : List ℕ) → rect_text rect rest ≡ rect_text rect [] ++ rest
rect_text-before rect rest = simp append_assoc

-- a rectangle that was read is told its areas
pub told_counts : {level : Level} {answer : List ℕ → List ℕ} {content : List ℕ} {pairs : List (ℕ × ℕ)} (rect : Rect) → TellsCensus level answer
    → HasForm 4 content (rect.x0 ∷ rect.y0 ∷ rect.x1 ∷ rect.y1 ∷ []) → IsRect rect → AreAreas level rect pairs → answer content ≡ counts_text rect pairs
told_counts {content = content} {pairs = pairs} rect told form allowed areas =
    told.answers.told content (rect.x0 ∷ rect.y0 ∷ rect.x1 ∷ rect.y1 ∷ []) form.read form.counted allowed pairs (areas.counted told.sector told.tells)

-- over a sound level every content is told an answer
rect_decided : (numbers : List ℤ) → length numbers ≡ 4 → AreRect numbers ⊎ (¬ AreRect numbers)
rect_decided [] four = absurd (omega (arith, four))
rect_decided (a ∷ []) four = absurd (omega (arith, four))
rect_decided (a ∷ b ∷ []) four = absurd (omega (arith, four))
rect_decided (a ∷ b ∷ c ∷ []) four = absurd (omega (arith, four))
rect_decided (a ∷ b ∷ c ∷ d ∷ []) four = rect_or_not (rect_at a b c d)
rect_decided (a ∷ b ∷ c ∷ d ∷ e ∷ more) four = absurd (omega (arith, four))

module _ (level : Level) (sound : IsSound level) where
  told : (sector : Point → ℕ) → TellsSectors level sector → (numbers : List ℤ) → length numbers ≡ 4 → AreRect numbers → (text : List ℕ) × TellsCounts sector numbers text
  told sector tells [] four rect = absurd rect
  told sector tells (a ∷ []) four rect = absurd rect
  told sector tells (a ∷ b ∷ []) four rect = absurd rect
  told sector tells (a ∷ b ∷ c ∷ []) four rect = absurd rect
  told sector tells (a ∷ b ∷ c ∷ d ∷ []) four rect =
      let pairs = some_counts level sector (rect_at a b c d) sound tells in
      (counts_text (rect_at a b c d) pairs.0, λ other are. ap (counts_text (rect_at a b c d)) (one_list_of_pairs (λ s. plain_count sector s (rect_at a b c d)) pairs.0 other pairs.1 are))
  told sector tells (a ∷ b ∷ c ∷ d ∷ e ∷ more) four rect = absurd rect

  pub census_is_answered : (answer : List ℕ → List ℕ) × TellsCensus level answer
  census_is_answered =
      let sectors = law_sectors level sound in
      let answers = some_answers rect_decided (told sectors.0 sectors.1) in
      (answers.0, record { sector = sectors.0; tells = sectors.1; answers = answers.1 })
