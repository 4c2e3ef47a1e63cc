-- A key frame is what bytes behind a header begin with, whatever follows it.
use Rattle.std.proofs.Common.{◌≡◌, ℕ, ◌+◌, ◌≤◌, false, Option, Some, None, List, [], ◌++◌, length, take, drop, refl, sym, ap, ◌∙◌, inl, inr, arith, length-append, length-drop, subst, ltb}
use Rattle.std.proofs.lemmas.Bool.{and_left, and_right, and_cases, cases_Bool, cond-false, cond-true, le-ltb, ltb-false, or_from, or_parts, true≢false}
use Rattle.std.proofs.lemmas.List.{drop-append-le, drop-take, drop_at, length-take-le, take-append-drop, take_at}
use Rattle.later_demos.specs.Demo.{IsKeyFrame}
use Rattle.later_demos.specs.Numbers.{little32_at}
use Rattle.later_demos.specs.Refusal.{behind_frame, frame_of, is_cut_frame, key_frame_refusal}
use Rattle.later_demos.specs.Wrapper.{has_key_frame}
use Rattle.later_demos.specs.declared.wrapper.Wrapper.{Wrapper}
use Rattle.later_demos.proofs.FrontLemmas.{little32_left, passed}

-- what bytes that begin with a key frame, or with none, say of it
pub frames : (wrapper : Option Wrapper) (frame more : List ℕ) (kept : Option (List ℕ))
    → IsKeyFrame wrapper frame kept
    → (key_frame_refusal wrapper (frame ++ more) ≡ None) × (frame_of wrapper (frame ++ more) ≡ kept)
    × (behind_frame wrapper (frame ++ more) ≡ more)
unfolding key_frame_refusal frame_of behind_frame
frames wrapper frame more None (none, empty) = (
  cond-false _ _ _ (and_left _ _ none),
  cond-false _ _ _ none,
  cond-false _ _ _ none ∙ ap (λ f. f ++ more) empty,
)
frames wrapper frame more (Some kept) (some, is) =
    let count : little32_at (frame ++ more) 0 ≡ length kept =
    little32_left frame more 0 (omega (arith, is.long)) ∙ is.counted in
    let whole : is_cut_frame (frame ++ more) ≡ false =
    or_from _ _ (le-ltb (length (frame ++ more)) 4 (omega (arith, length-append frame more, is.long)))
    (le-ltb (length (frame ++ more)) (4 + little32_at (frame ++ more) 0) (omega (arith, length-append frame more, is.long, count))) in
    let behind : drop 4 (frame ++ more) ≡ kept ++ more =
    drop-append-le 4 frame more (omega (arith, is.long)) ∙ ap (λ t. t ++ more) is.reads in (
      cond-false _ _ _ (and_right _ _ whole),
      cond-true _ _ _ some
          ∙ ap (λ (t : List ℕ). Some t) (ap (take (little32_at (frame ++ more) 0)) behind ∙ take_at kept more _ (sym count)),
      cond-true _ _ _ some ∙ drop_at frame more _ (omega (arith, is.long, count)),
    )

-- bytes that aren't refused for a key frame begin with one, or with none
pub unframes : (wrapper : Option Wrapper) (bytes : List ℕ) → key_frame_refusal wrapper bytes ≡ None
    → (frame : List ℕ) × (bytes ≡ frame ++ behind_frame wrapper bytes)
    × IsKeyFrame wrapper frame (frame_of wrapper bytes)
unfolding key_frame_refusal frame_of behind_frame
unframes wrapper bytes h = elim (cases_Bool (has_key_frame wrapper)) [
  | inr none ↦ (
    [],
    sym (cond-false _ _ _ none),
    subst (IsKeyFrame wrapper []) (sym (cond-false _ _ _ none)) (none, refl),
  )
  | inl some ↦
      let count = little32_at bytes 0 in
      let whole : is_cut_frame bytes ≡ false = elim (and_cases _ _ (passed _ _ _ h).0) [
        | inl none ↦ absurd (true≢false (sym some ∙ none))
        | inr whole ↦ whole
      ] in
      let fits : 4 + count ≤ length bytes = ltb-false (length bytes) (4 + count) (or_parts (ltb (length bytes) 4) (ltb (length bytes) (4 + count)) whole).1 in
      let split : take (4 + count) bytes ++ drop (4 + count) bytes ≡ bytes = take-append-drop (4 + count) bytes in
      let long : length (take (4 + count) bytes) ≡ 4 + count = length-take-le (4 + count) bytes fits in
      let kept : length (take count (drop 4 bytes)) ≡ count =
      length-take-le count (drop 4 bytes) (omega (arith, length-drop 4 bytes)) in
      let same : little32_at (take (4 + count) bytes) 0 ≡ count =
      sym (little32_left (take (4 + count) bytes) (drop (4 + count) bytes) 0 (omega (arith, long)))
      ∙ ap (λ b. little32_at b 0) split in (
        take (4 + count) bytes,
        sym split ∙ ap (λ t. take (4 + count) bytes ++ t) (sym (cond-true _ _ _ some)),
        subst (IsKeyFrame wrapper (take (4 + count) bytes)) (sym (cond-true _ _ _ some)) (
          some,
          record {
            long = long ∙ ap (λ n. 4 + n) (sym kept);
            counted = same ∙ sym kept;
            reads = drop-take 4 count bytes;
          },
        ),
      )
]
