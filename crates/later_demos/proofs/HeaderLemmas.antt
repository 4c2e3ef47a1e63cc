-- A header is what bytes begin with, whatever follows it.
use Rattle.std.proofs.Common.{◌≡◌, ℕ, ◌+◌, ◌≤◌, ◌<◌, true, nat_eq, Some, None, List, ◌++◌, length, take, drop, slice_index, sym, ap, ◌∙◌, arith, length-append, length-drop, subst}
use Rattle.std.specs.List.{starts_with}
use Rattle.std.proofs.lemmas.Bool.{cond-false, eqb-false, le-ltb, ltb-false, ne_eqb, not-false, not_from_true}
use Rattle.std.proofs.lemmas.List.{drop_at, get_or-take, length-take-le, take-append-drop, take_at}
use Rattle.demo_lump.specs.Header.{players_in}
use Rattle.later_demos.specs.Header.{IsHeader, header_refusal, header_size, options_in, players_at, players_of, refusal_by, refusal_of}
use Rattle.later_demos.specs.Layout.{layout_of, signature_of}
use Rattle.later_demos.specs.Refusal.{behind_header, header_of, size_by}
use Rattle.later_demos.specs.declared.layout.Layout.{Layout}
use Rattle.later_demos.proofs.FrontLemmas.{left_index, part_left, passed}
use Rattle.later_demos.proofs.LayoutLemmas.{IsSound, layout_sound, options_left}
use Rattle.later_demos.proofs.WrapperLemmas.{self_starts, whole_start}

-- what no row refuses
refusal_none : (layout : Layout) (before : ℕ) (bytes : List ℕ)
    → take (length (signature_of layout.engine)) (drop 1 bytes) ≡ signature_of layout.engine
    → options_in layout.engine bytes ≤ 25 → header_size layout bytes ≤ length bytes
    → 0 < players_in (players_of layout bytes) → refusal_by layout before bytes ≡ None
unfolding refusal_by
refusal_none layout before bytes signature options fits players =
    cond-false _ _ _ (not_from_true _ (ap (starts_with nat_eq (signature_of layout.engine)) signature ∙ self_starts (signature_of layout.engine)))
    ∙ cond-false _ _ _ (le-ltb 25 (options_in layout.engine bytes) options)
    ∙ cond-false _ _ _ (le-ltb (length bytes) (header_size layout bytes) fits)
    ∙ cond-false _ _ _ (ne_eqb (players_in (players_of layout bytes)) 0 (λ e. omega (arith, e)))

-- and what that says of bytes
record IsAllowed (layout : Layout) (bytes : List ℕ) : Type 0 where
  signature : starts_with nat_eq (signature_of layout.engine) (take (length (signature_of layout.engine)) (drop 1 bytes)) ≡ true
  options : options_in layout.engine bytes ≤ 25
  fits : header_size layout bytes ≤ length bytes
  players : 0 < players_in (players_of layout bytes)

some_players : (n : ℕ) → (n ≡ 0 → ⊥) → 0 < n
some_players n none = omega (arith, none)

none_refused : (layout : Layout) (before : ℕ) (bytes : List ℕ) → refusal_by layout before bytes ≡ None
    → IsAllowed layout bytes
unfolding refusal_by
none_refused layout before bytes h =
    let first = passed _ _ _ h in
    let second = passed _ _ _ first.1 in
    let third = passed _ _ _ second.1 in
    let fourth = passed _ _ _ third.1 in
    record {
      signature = not-false _ first.0;
      options = ltb-false 25 (options_in layout.engine bytes) second.0;
      fits = ltb-false (length bytes) (header_size layout bytes) third.0;
      players = some_players (players_in (players_of layout bytes)) (eqb-false (players_in (players_of layout bytes)) 0 fourth.0);
    }

-- a header, and what follows it
module _ (header more : List ℕ) (layout : Layout) (is : IsHeader header layout) where
  sound : IsSound layout
  sound = layout_sound (slice_index header 0) layout is.version

  fits : layout.size ≤ length header
  fits = omega (arith, is.long)

  pub some_header : 0 < length header
  some_header = omega (arith, fits, sound.least)

  pub version_left : layout_of (slice_index (header ++ more) 0) ≡ Some layout
  version_left = ap layout_of (left_index header more 0 some_header) ∙ is.version

  options_same : options_in layout.engine (header ++ more) ≡ options_in layout.engine header
  options_same = options_left layout.engine layout.size header more sound.counted fits

  size_left : header_size layout (header ++ more) ≡ length header
  size_left = omega (arith, options_same, is.long)

  players_same : players_of layout (header ++ more) ≡ players_of layout header
  players_same =
      ap (λ n. take 4 (drop (layout.players + n) (header ++ more))) options_same
      ∙ part_left header more (players_at layout header) 4 (omega (arith, is.long, sound.players))

  pub allowed_left : (before : ℕ) → header_refusal before (header ++ more) ≡ None
  allowed_left before =
      ap (λ o. refusal_of o before (header ++ more)) version_left
      ∙ refusal_none layout before (header ++ more)
      (part_left header more 1 (length (signature_of layout.engine)) (omega (arith, fits, sound.signed)) ∙ is.signature)
      (omega (arith, options_same, is.options))
      (omega (arith, size_left, length-append header more))
      (subst (λ ps. 0 < players_in ps) (sym players_same) is.players)

  sized : size_by (layout_of (slice_index (header ++ more) 0)) (header ++ more) ≡ length header
  sized = ap (λ o. size_by o (header ++ more)) version_left ∙ size_left

  pub header_left : header_of (header ++ more) ≡ header
  unfolding header_of
  header_left = take_at header more _ (sym sized)

  pub more_left : behind_header (header ++ more) ≡ more
  unfolding behind_header
  more_left = drop_at header more _ (sym sized)

-- bytes that no row refuses begin with a header
module _ (before : ℕ) (bytes : List ℕ) (layout : Layout)
    (version : layout_of (slice_index bytes 0) ≡ Some layout)
    (allowed : header_refusal before bytes ≡ None) where
  found : IsSound layout
  found = layout_sound (slice_index bytes 0) layout version

  rows : IsAllowed layout bytes
  rows = none_refused layout before bytes (ap (λ o. refusal_of o before bytes) (sym version) ∙ allowed)

  abbrev size : ℕ
  size = header_size layout bytes

  split : take size bytes ++ drop size bytes ≡ bytes
  split = take-append-drop size bytes

  long : length (take size bytes) ≡ size
  long = length-take-le size bytes rows.fits

  room : layout.size ≤ length (take size bytes)
  room = omega (arith, long)

  counted : options_in layout.engine (take size bytes) ≡ options_in layout.engine bytes
  counted =
      sym (options_left layout.engine layout.size (take size bytes) (drop size bytes) found.counted room)
      ∙ ap (options_in layout.engine) split

  part_same : (at k : ℕ) → at + k ≤ size → take k (drop at (take size bytes)) ≡ take k (drop at bytes)
  part_same at k inside =
      sym (part_left (take size bytes) (drop size bytes) at k (omega (arith, long)))
      ∙ ap (λ b. take k (drop at b)) split

  taken : header_of bytes ≡ take size bytes
  unfolding header_of
  taken = ap (λ o. take (size_by o bytes) bytes) version

  dropped : behind_header bytes ≡ drop size bytes
  unfolding behind_header
  dropped = ap (λ o. drop (size_by o bytes) bytes) version

  pub heads : IsHeader (header_of bytes) layout
  heads =
      let signed : length (take (length (signature_of layout.engine)) (drop 1 bytes)) ≡ length (signature_of layout.engine) =
      length-take-le _ (drop 1 bytes) (omega (arith, length-drop 1 bytes, rows.fits, found.signed)) in
      subst (λ h. IsHeader h layout) (sym taken) (record {
        version = ap layout_of (get_or-take size bytes 0 0 (omega (arith, found.least))) ∙ version;
        long = long ∙ ap (λ n. layout.size + n) (sym counted);
        signature =
            part_same 1 (length (signature_of layout.engine)) (omega (arith, found.signed))
            ∙ whole_start _ (signature_of layout.engine) signed rows.signature;
        options = omega (arith, counted, rows.options);
        players =
            subst (λ ps. 0 < players_in ps)
            (sym (ap (λ n. take 4 (drop (layout.players + n) (take size bytes))) counted
            ∙ part_same (players_at layout bytes) 4 (omega (arith, found.players)))) rows.players;
      })

  pub header_joined : bytes ≡ header_of bytes ++ behind_header bytes
  header_joined = sym split ∙ ap (λ h. h ++ drop size bytes) (sym taken) ∙ ap (λ t. header_of bytes ++ t) (sym dropped)
