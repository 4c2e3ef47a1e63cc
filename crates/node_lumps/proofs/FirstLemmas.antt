-- The first segs of ssectors, from the numbers of their segs.
use Rattle.std.proofs.Common.{◌≡◌, ℕ, ◌+◌, ◌*◌, ◌/◌, ◌^◌, ◌<◌, ◌≤◌, inl, inr, true, false, List, [], ◌∷◌, ◌++◌, length, take, slice_index, Some, None, refl, sym, ap, ◌∙◌, subst, arith, length-append}
use Rattle.std.specs.List.{slice_get, sum}
use Rattle.std.proofs.lemmas.Bool.{cases_Bool, cases_eq, cond-false, cond-true}
use Rattle.std.proofs.lemmas.List.{get_or_append_left, get_or_push, take_all}
use Rattle.std.proofs.lemmas.List.FromFn.{get_or-map-range_with_len, length-map-range_with_len}
use Rattle.std.proofs.lemmas.List.Sums.{sum_by_more, sum_by_more_le}
use Rattle.std.proofs.lemmas.Option.{get_or_from_slice_get, slice_get-get_or, slice_get_past, slice_get_within}
use Rattle.node_lumps.specs.Format.{is_counted}
use Rattle.le_rec.specs.Table.{records_of}
use Rattle.le_rec.proofs.TableLemmas.{length-records_of}
use Rattle.node_lumps.specs.Later.{AreFirsts, counted_ssector, counted_ssectors, counts_in, counts_of, ssectors_of}
use Rattle.node_lumps.specs.Number.{unsigned32_at}
use Rattle.node_lumps.specs.Records.{deep_ssector}
use Rattle.node_lumps.specs.declared.format.NodeFormat.{NodeFormat}
use Rattle.node_lumps.specs.declared.records.LaterSsector.{LaterSsector}

-- one count more
pub sum_more : (counts : List ℕ) (t count : ℕ) → slice_get counts t ≡ Some count
    → sum (take (t + 1) counts) ≡ sum (take t counts) + count
sum_more counts t count is =
    sum_by_more (λ x. x) counts t 0 (slice_get_within counts t count is)
    ∙ ap (λ n. sum (take t counts) + n) (get_or_from_slice_get counts t count 0 is)

-- the sum so far and one count more are within the whole sum
pub sum_within : (counts : List ℕ) (t count : ℕ) → slice_get counts t ≡ Some count
    → sum (take t counts) + count ≤ sum counts
sum_within counts t count is =
    omega (
      arith,
      sum_by_more_le (λ x. x) counts t 0 (slice_get_within counts t count is),
      get_or_from_slice_get counts t count 0 is,
    )

pub sum_all : (counts : List ℕ) (t : ℕ) → length counts ≤ t → sum (take t counts) ≡ sum counts
sum_all counts t past = ap sum (take_all t counts past)

-- how many segs the first t ssectors have
pub record IsSummed (counts : List ℕ) (t segs : ℕ) : Type 0 where
  pub is : segs ≡ sum (take t counts)
  pub few : segs ≤ t * 4294967295

pub IsSummed-none : (counts : List ℕ) → IsSummed counts 0 0
IsSummed-none counts = record { is = refl; few = omega arith }

pub IsSummed-more : (counts : List ℕ) (t segs count : ℕ) → IsSummed counts t segs
    → slice_get counts t ≡ Some count → count ≤ 4294967295 → IsSummed counts (t + 1) (segs + count)
IsSummed-more counts t segs count so_far read small = record {
  is = ap (λ n. n + count) so_far.is ∙ sym (sum_more counts t count read);
  few = omega (arith, so_far.few, small);
}

pub IsSummed-all : (counts : List ℕ) (t segs : ℕ) → IsSummed counts t segs → length counts ≤ t
    → segs ≡ sum counts
IsSummed-all counts t segs all past = all.is ∙ sum_all counts t past

-- the first segs of the first t ssectors and that of ssector t
pub firsts_more : (counts firsts : List ℕ) (t u first : ℕ) → length firsts ≡ t
    → ((v : ℕ) → v < t → slice_get firsts v ≡ Some (sum (take v counts)))
    → first ≡ sum (take t counts) → u < t + 1
    → slice_get (firsts ++ first ∷ []) u ≡ Some (sum (take u counts))
firsts_more counts firsts t u first long each is within =
    let there : u < length (firsts ++ first ∷ []) = simp length-append (omega arith) in
    let read = slice_get-get_or (firsts ++ first ∷ []) u 0 there in
    elim (cases_eq u t) [
      | inl same ↦
          read
          ∙ ap Some (get_or_push firsts first 0 u (omega arith) ∙ is ∙ ap (λ n. sum (take n counts)) (sym same))
      | inr other ↦
          let before : u < length firsts = omega arith in
          read ∙ ap Some (get_or_append_left firsts (first ∷ []) 0 u before)
          ∙ sym (slice_get-get_or firsts u 0 before) ∙ each u (omega arith)
    ]

-- the first segs of the first t ssectors, and how many segs these have
pub record AreFirstsTo (counts firsts : List ℕ) (t first : ℕ) : Type 0 where
  pub long : length firsts ≡ t
  pub each : (u : ℕ) → u < t → slice_get firsts u ≡ Some (sum (take u counts))
  pub is : first ≡ sum (take t counts)

pub AreFirstsTo-none : (counts : List ℕ) → AreFirstsTo counts [] 0 0
AreFirstsTo-none counts = record { long = refl; each = λ u h. absurd (omega arith); is = refl }

pub AreFirstsTo-more : (counts firsts : List ℕ) (t first count : ℕ) → AreFirstsTo counts firsts t first
    → slice_get counts t ≡ Some count → AreFirstsTo counts (firsts ++ first ∷ []) (t + 1) (first + count)
AreFirstsTo-more counts firsts t first count so_far read = record {
  long = omega (arith, so_far.long, length-append firsts (first ∷ []));
  each = λ u h. firsts_more counts firsts t u first so_far.long so_far.each so_far.is h;
  is = ap (λ n. n + count) so_far.is ∙ sym (sum_more counts t count read);
}

pub AreFirstsTo-all : (counts firsts : List ℕ) (t first : ℕ) → AreFirstsTo counts firsts t first
    → t ≡ length counts → AreFirsts counts firsts
AreFirstsTo-all counts firsts t first all past = record {
  long = all.long ∙ past;
  each = λ u h. all.each u (omega arith);
}

-- the ssector of a number
pub counted_found : (counts firsts : List ℕ) (t first count : ℕ) → AreFirsts counts firsts
    → first ≡ slice_index firsts t → slice_get counts t ≡ Some count
    → Some (let ssector : LaterSsector = record { first = first; count = count } in ssector)
    ≡ slice_get (counted_ssectors counts) t
counted_found counts firsts t first count are read is =
    let within : t < length counts = slice_get_within counts t count is in
    let there : t < length firsts = omega (arith, are.long) in
    let begun : first ≡ sum (take t counts) =
    read ∙ get_or_from_slice_get firsts t (sum (take t counts)) 0 (are.each t within) in
    let counted : count ≡ slice_index counts t = sym (get_or_from_slice_get counts t count 0 is) in
    let long : length (counted_ssectors counts) ≡ length counts =
    length-map-range_with_len (counted_ssector counts) 0 (length counts) in
    let listed =
    slice_get-get_or (counted_ssectors counts) t (counted_ssector counts t) (omega (arith, long))
    ∙ ap Some (get_or-map-range_with_len (counted_ssector counts) 0 (length counts) t t (counted_ssector counts t) within (omega arith)) in
    ap (λ (n : ℕ). Some (let ssector : LaterSsector = record { first = n; count = count } in ssector)) begun
    ∙ ap (λ (n : ℕ). Some (let ssector : LaterSsector = record { first = sum (take t counts); count = n } in ssector)) counted
    ∙ sym listed

pub counted_none : (counts : List ℕ) (t : ℕ) → length counts ≤ t
    → None ≡ slice_get (counted_ssectors counts) t
counted_none counts t past =
    let long : length (counted_ssectors counts) ≡ length counts =
    length-map-range_with_len (counted_ssector counts) 0 (length counts) in
    sym (slice_get_past (counted_ssectors counts) t (omega (arith, long)))

-- how many counts there are
pub length-counts_of : (bytes : List ℕ) → length (counts_of bytes) ≡ length bytes / 4
length-counts_of bytes = length-records_of 4 (λ piece. unsigned32_at piece 0) bytes

-- no first segs follow from no counts
pub AreFirsts-nil : AreFirsts [] []
AreFirsts-nil = record { long = refl; each = λ t h. absurd (omega arith) }

-- the counts of a format are those of its bytes, or none
pub sum_in : (format : NodeFormat) (bytes : List ℕ) → sum (counts_in format bytes) ≤ sum (counts_of bytes)
sum_in format bytes = elim (cases_Bool (is_counted format)) [
  | inl some ↦ omega (arith, ap sum (cond-true (is_counted format) (counts_of bytes) [] some))
  | inr none ↦ omega (arith, ap sum (cond-false (is_counted format) (counts_of bytes) [] none))
]

-- the tables of both kinds of formats
module _ (format : NodeFormat) (bytes : List ℕ) where
  pub ssectors_counted : is_counted format ≡ true
      → ssectors_of format bytes ≡ counted_ssectors (counts_of bytes)
  ssectors_counted some =
      cond-true (is_counted format) (counted_ssectors (counts_of bytes)) (records_of 6 deep_ssector bytes) some

  pub ssectors_given : is_counted format ≡ false → ssectors_of format bytes ≡ records_of 6 deep_ssector bytes
  ssectors_given none =
      cond-false (is_counted format) (counted_ssectors (counts_of bytes)) (records_of 6 deep_ssector bytes) none

  pub counts_counted : is_counted format ≡ true → counts_in format bytes ≡ counts_of bytes
  counts_counted some = cond-true (is_counted format) (counts_of bytes) [] some

  pub counts_none : is_counted format ≡ false → counts_in format bytes ≡ []
  counts_none none = cond-false (is_counted format) (counts_of bytes) [] none

  pub few_counted : is_counted format ≡ true → sum (counts_in format bytes) < 2 ^ 32
      → sum (counts_of bytes) < 2 ^ 32
  few_counted some few = subst (λ (counts : List ℕ). sum counts < 2 ^ 32) (counts_counted some) few

  pub firsts_counted : (firsts : List ℕ) → is_counted format ≡ true → AreFirsts (counts_of bytes) firsts
      → AreFirsts (counts_in format bytes) firsts
  firsts_counted firsts some are =
      subst (λ (counts : List ℕ). AreFirsts counts firsts) (sym (counts_counted some)) are

  pub firsts_given : is_counted format ≡ false → AreFirsts (counts_in format bytes) []
  firsts_given none = subst (λ (counts : List ℕ). AreFirsts counts []) (sym (counts_none none)) AreFirsts-nil

  -- how many ssectors there are
  pub length_counted : is_counted format ≡ true → length bytes / 4 ≡ length (ssectors_of format bytes)
  length_counted some =
      sym (length-records_of 4 (λ piece. unsigned32_at piece 0) bytes)
      ∙ sym (length-map-range_with_len (counted_ssector (counts_of bytes)) 0 (length (counts_of bytes)))
      ∙ sym (ap length (ssectors_counted some))

  pub length_given : is_counted format ≡ false → length bytes / 6 ≡ length (ssectors_of format bytes)
  length_given none =
      sym (length-records_of 6 deep_ssector bytes) ∙ sym (ap length (ssectors_given none))
