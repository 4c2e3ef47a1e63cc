-- What `points` answers to a content, by its numbers.
use Rattle.std.proofs.Common.{◌≡◌, ◌+◌, ◌-◌, ◌≤◌, ℕ, ℤ, pos, negsuc, List, [], ◌∷◌, ◌++◌, length, take, get_or, Result, Some, refl, sym, ap, ◌∙◌, subst, arith, FitsSigned, w64, length-append}
use Rattle.le_rec.specs.Sink.{SinkState}
use Rattle.line_io.specs.LineAnswers.{answers_from, line_answer}
use Rattle.line_io.specs.Lines.{TakesLines, last_from, lines}
use Rattle.line_io.specs.Writes.{TakesFront, TakesText}
use Rattle.line_io.specs.declared.fault.IoFault.{IoFault}
use Rattle.line_io.proofs.BlockLemmas.{Answered}
use Rattle.line_io.proofs.FrontLemmas.{BeginsWith-then, answers_of_front}
use Rattle.line_io.specs.Numbers.{printed}
use Rattle.line_io.proofs.LineLemmas.{answers_from-append, line_answer_short}
use Rattle.line_io.proofs.NumberAnswersLemmas.{decide_two, some_answers, two_texts}
use Rattle.line_io.proofs.PrintedLemmas.{printed_are_read, printed_content, printed_lines}
use Rattle.line_io.proofs.WriteLemmas.{TakesFront-longer}
use Rattle.map_geo.specs.Point.{IsInRange, Point, point_at}
use Rattle.map_level.specs.Level.{Level}
use Rattle.map_level.specs.Links.{ssectors_of}
use Rattle.map_level.specs.SectorOf.{sector_of}
use Rattle.map_level.proofs.LinkedLemmas.{linked_sector}
use Rattle.map_tree.specs.Leaf.{Each, IsLeaf, LiesIn}
use Rattle.map_tree.specs.Sound.{IsSound}
use Rattle.map_tree.proofs.DescentLemmas.{leaf_within}
use Rattle.map_tree.proofs.LeafLemmas.{one_leaf, some_leaf}
use Rattle.map_tree.proofs.SoundLemmas.{linked_from_sound}
use Rattle.std.specs.Prelude.{◌<◌}
use Rattle.std.proofs.lemmas.Int.{ints}
use Rattle.std.proofs.lemmas.List.{length-map}
use Rattle.std.proofs.lemmas.Option.{same_Some}
use Rattle.std.specs.Fmt.{signed_decimal}
use Rattle.std.specs.Io.KnownBytes.{Appends}
use Rattle.std.specs.List.{AllByRecursion, flat_map}
use Rattle.std.proofs.Math.Seq.{take-append_seam}
use Rattle.look_engines.proofs.ContentsLemmas.{coordinates_or_not}
use Rattle.map_level.proofs.IndexTextLemmas.{signed_decimal-short}
use Rattle.look_engines.specs.Laws.{EachPointIsAnswered, LinesNameTheLeaf, NamesTheLeaf}
use Rattle.look_engines.specs.Engines.Points.{AnswersPoints, AreLeaves, TellsPoints, point_text}
use Rattle.look_engines.specs.NamedPoints.{NamesPoint, NamesPoints, told_point}
use Rattle.look_engines.specs.declared.contents.NamedPoint.{NamedPoint}
use Rattle.look_engines.specs.declared.engines.points.Leaf.{Leaf}

answered_at : (leaf_of : Point → Leaf) → (answer : List ℕ → List ℕ) × AnswersPoints leaf_of answer
answered_at leaf_of = some_answers (decide_two coordinates_or_not) (two_texts (λ x y both. (point_text x y (leaf_of (point_at x y)), refl)))

-- the leaf of a point of a sound level, with its sector
module _ (level : Level) (sound : IsSound level) where
  leaf_at : (point : Point) → (leaf : Leaf) × IsLeaf level point leaf.ssector × (sector_of level leaf.ssector ≡ Some leaf.sector)
  leaf_at point =
      let some = some_leaf level point sound in
      let there : some.0 < length (ssectors_of level) = rw length-map (leaf_within level point some.0 sound some.1) in
      let sector = linked_sector level (linked_from_sound level sound) some.0 there in
      (record { ssector = some.0; sector = sector.0 }, some.1, sector.1)

  pub points_are_answered : (answer : List ℕ → List ℕ) × TellsPoints level answer
  points_are_answered =
      let leaf_of : Point → Leaf = λ point. (leaf_at point).0 in
      let told = answered_at leaf_of in
      (told.0, record { leaf_of = leaf_of; are_leaves = λ point. ((leaf_at point).1, (leaf_at point).2); answers = told.1 })

pub lines_name_the_leaf : LinesNameTheLeaf
lines_name_the_leaf level answer sound told content x y are x_in y_in =
    let point = point_at x y in
    let leaf = told.leaf_of point in
    let lies = told.are_leaves point in
    (leaf.ssector, leaf.sector, told.answers.told content (x ∷ y ∷ []) are refl (x_in, y_in), lies.0, (λ u other. one_leaf level point u leaf.ssector other lies.0), lies.1)

coordinate-fits : (z : ℤ) → IsInRange z → FitsSigned w64 z
coordinate-fits (pos n) h = let greatest = h.greatest in record { sfits = omega (arith, ints) }
coordinate-fits (negsuc n) h = let least = h.least in record { sfits = omega (arith, ints) }

coordinate-short : (z : ℤ) → IsInRange z → length (signed_decimal z) ≤ 6
coordinate-short z h = let least = h.least in let greatest = h.greatest in signed_decimal-short z (omega (arith, ints)) (omega (arith, ints))

-- two coordinates as they are printed
module _ (x y : ℤ) (x_in : IsInRange x) (y_in : IsInRange y) where
  both_fit : AllByRecursion (FitsSigned w64) (x ∷ y ∷ [])
  both_fit = (coordinate-fits x x_in, (coordinate-fits y y_in, tt))

  pub points_are_lines : lines (printed (x ∷ y ∷ []) ++ 10 ∷ []) ≡ printed (x ∷ y ∷ []) ∷ []
  points_are_lines = printed_lines (x ∷ y ∷ []) both_fit

  point_is_answered : (answer : List ℕ → List ℕ) → line_answer answer (printed (x ∷ y ∷ [])) ≡ answer (printed (x ∷ y ∷ []))
  point_is_answered answer =
      let same = printed_content (x ∷ y ∷ []) both_fit in
      let long = length-append (signed_decimal x) (32 ∷ signed_decimal y) in
      let short : length (printed (x ∷ y ∷ [])) ≤ 64 = omega (arith, coordinate-short x x_in, coordinate-short y y_in) in
      line_answer_short answer (printed (x ∷ y ∷ [])) (rw same short) ∙ ap answer same

pub each_point_is_answered : EachPointIsAnswered
each_point_is_answered level answer sound told x y x_in y_in =
    let are = printed_are_read (x ∷ y ∷ []) (both_fit x y x_in y_in) in
    subst (NamesTheLeaf level x y) (sym (point_is_answered x y x_in y_in answer))
    (lines_name_the_leaf level answer sound told (printed (x ∷ y ∷ [])) x y are x_in y_in)

same_leaf : {t s : ℕ} {leaf : Leaf} → t ≡ leaf.ssector → s ≡ leaf.sector → (record { ssector = t; sector = s }) ≡ leaf
same_leaf {s = s} {leaf = leaf} e f =
    let by_ssector : ℕ → Leaf = λ n. record { ssector = n; sector = s } in
    let by_sector : ℕ → Leaf = λ m. record { ssector = leaf.ssector; sector = m } in
    ap by_ssector e ∙ ap by_sector f

-- a leaf that was found, with its sector, is that of each way to tell leaves
pub leaf_told : (level : Level) (leaf_of : Point → Leaf) (point : Point) (t s : ℕ) → AreLeaves level leaf_of
    → ((u : ℕ) → IsLeaf level point u → u ≡ t) → sector_of level t ≡ Some s → (record { ssector = t; sector = s }) ≡ leaf_of point
leaf_told level leaf_of point t s are_leaves only sector_is =
    let lies = are_leaves point in
    let same : t ≡ (leaf_of point).ssector = sym (only (leaf_of point).ssector lies.0) in
    same_leaf same (same_Some s (leaf_of point).sector (sym sector_is ∙ ap (sector_of level) same ∙ lies.1))

-- so is one that lies there
pub leaf_is : (level : Level) (leaf_of : Point → Leaf) (point : Point) (found : ℕ × ℕ) (leaf : Leaf) → AreLeaves level leaf_of
    → LiesIn level point found → leaf.ssector ≡ found.0 → leaf.sector ≡ found.1 → leaf ≡ leaf_of point
leaf_is level leaf_of point found leaf are_leaves lies e f =
    leaf_told level leaf_of point leaf.ssector leaf.sector are_leaves
    (λ u other. one_leaf level point u found.0 other lies.0 ∙ sym e)
    (ap (sector_of level) e ∙ lies.1 ∙ ap Some (sym f))

-- what is written of it is the answer to the point
pub told_takes : {T : Type 0} (level : Level) (leaf_of : Point → Leaf) (named : NamedPoint) (found : ℕ × ℕ) (leaf : Leaf) {before after : SinkState} {result : Result T IoFault}
    → AreLeaves level leaf_of → LiesIn level named.point found → leaf.ssector ≡ found.0 → leaf.sector ≡ found.1
    → TakesText before after (point_text named.pair.x named.pair.y leaf) result → TakesText before after (told_point leaf_of named) result
told_takes level leaf_of named found leaf {before} {after} {result} are_leaves lies e f takes =
    subst (λ (lies_in : Leaf). TakesText before after (point_text named.pair.x named.pair.y lies_in) result)
    (leaf_is level leaf_of named.point found leaf are_leaves lies e f) takes

-- where each of four points lies
pub four_lie : (level : Level) (p q r s : Point) (founds : List (ℕ × ℕ)) (d e f g : ℕ × ℕ) → Each (LiesIn level) (p ∷ q ∷ r ∷ s ∷ []) founds
    → LiesIn level p (get_or founds 0 d) × LiesIn level q (get_or founds 1 e) × LiesIn level r (get_or founds 2 f) × LiesIn level s (get_or founds 3 g)
four_lie level p q r s [] d e f g each = absurd each
four_lie level p q r s (t ∷ []) d e f g each = absurd each.1
four_lie level p q r s (t ∷ u ∷ []) d e f g each = absurd each.1.1
four_lie level p q r s (t ∷ u ∷ v ∷ []) d e f g each = absurd each.1.1.1
four_lie level p q r s (t ∷ u ∷ v ∷ w ∷ []) d e f g each = (each.0, each.1.0, each.1.1.0, each.1.1.1.0)
four_lie level p q r s (t ∷ u ∷ v ∷ w ∷ more ∷ founds) d e f g each = absurd each.1.1.1.1

-- contents that name points are answered by those
pub points_told : (leaf_of : Point → Leaf) (answer : List ℕ → List ℕ) (contents : List (List ℕ)) (named : List NamedPoint)
    → AnswersPoints leaf_of answer → Each NamesPoint contents named → flat_map answer contents ≡ flat_map (told_point leaf_of) named
points_told leaf_of answer [] [] answers each = refl
points_told leaf_of answer [] (point ∷ named) answers each = absurd each
points_told leaf_of answer (content ∷ contents) [] answers each = absurd each
points_told leaf_of answer (content ∷ contents) (point ∷ named) answers each =
    let is = each.0 in
    let x = point.pair.x in
    let y = point.pair.y in
    let told : answer content ≡ told_point leaf_of point =
    answers.told content (x ∷ y ∷ []) is.read.read refl is.allowed ∙ ap (λ p. point_text x y (leaf_of p)) (sym is.point) in
    ap (λ t. t ++ flat_map answer contents) told
    ∙ ap (λ t. told_point leaf_of point ++ t) (points_told leaf_of answer contents named answers each.1)

each_append : {A B : Type 0} (R : A → B → Type 0) (xs ws : List A) (ys zs : List B) → Each R xs ys → Each R ws zs → Each R (xs ++ ws) (ys ++ zs)
each_append R [] ws [] zs one other = other
each_append R [] ws (y ∷ ys) zs one other = absurd one
each_append R (x ∷ xs) ws [] zs one other = absurd one
each_append R (x ∷ xs) ws (y ∷ ys) zs one other = (one.0, each_append R xs ws ys zs one.1 other)

-- some points, and others behind them
pub names_then : (bytes : List ℕ) (some : List NamedPoint) (rest : List ℕ) (more : List NamedPoint) (behind : List ℕ)
    → NamesPoints bytes some rest → NamesPoints rest more behind → NamesPoints bytes (some ++ more) behind
names_then bytes some rest more behind a b = record {
  contents = a.contents ++ b.contents;
  begins = BeginsWith-then bytes a.contents rest b.contents behind a.begins b.begins;
  each = each_append NamesPoint a.contents b.contents some more a.each b.each;
}

-- lines that name points are answered by those
module _ (level : Level) (f : List ℕ → List ℕ) (told : TellsPoints level f) (bytes : List ℕ) (points : List NamedPoint) (rest : List ℕ)
    (names : NamesPoints bytes points rest) where
  pub lines_told : answers_from f [] names.begins.done ≡ flat_map (told_point told.leaf_of) points
  lines_told =
      answers_of_front f bytes names.contents rest names.begins
      ∙ points_told told.leaf_of f names.contents points told.answers names.each

  -- a front of those answers is one of the answers to all lines of the bytes
  pub front_of_lines : {before after : SinkState} → TakesFront before after (flat_map (told_point told.leaf_of) points)
      → TakesFront before after (answers_from f [] bytes)
  front_of_lines {before} {after} front =
      let done = names.begins.done in
      let more = answers_from f (last_from [] done) rest in
      subst (TakesFront before after)
      (sym (ap (answers_from f []) names.begins.joined ∙ answers_from-append f [] done rest ∙ ap (λ t. t ++ more) lines_told))
      (TakesFront-longer more front)

-- lines of a block that are answered, by how many bytes are left
module _ {Answers : (List ℕ → List ℕ) → Type 0} {block : List ℕ} {before : SinkState} {rest : List ℕ} {after : SinkState}
    (so_far : Answered Answers [] block before [] rest after) where
  done_is : take (length block - length rest) block ≡ so_far.done
  done_is =
      let long : length block ≡ length so_far.done + length rest = ap length so_far.joined ∙ length-append so_far.done rest in
      let count : length block - length rest ≡ length so_far.done = omega (arith, long) in
      ap (λ n. take n block) count ∙ ap (take (length so_far.done)) so_far.joined ∙ take-append_seam so_far.done rest

  pub done_whole : TakesLines block (length block - length rest)
  done_whole = record { within = omega arith; whole = ap (last_from []) done_is ∙ so_far.last }

  pub done_written : (f : List ℕ → List ℕ) → Answers f
      → Appends before.taken after.taken (answers_from f [] (take (length block - length rest) block))
  done_written f told = rw done_is (so_far.written f told)
