-- What stands before the commands of a listing tells the header of its demo.
use Rattle.std.specs.Prelude.{nat_le}
use Rattle.std.proofs.Common.{◌≡◌, ◌⊎◌, ℕ, zero, suc, ◌+◌, ◌-◌, ◌^◌, ◌<◌, ◌≤◌, ◌==◌, Bool, true, false, if◌then◌else◌, Option, Some, None, List, [], ◌∷◌, ◌++◌, find, length, map, take, drop, slice_index, refl, sym, ap, ◌∙◌, inl, inr, subst, arith, codes}
use Rattle.std.proofs.lemmas.Bool.{and_cases, and_parts, cases_Bool, cases_lt, cond-false, cond-true, leb-true, ltb-true, or_parts, true≢false}
use Rattle.std.proofs.Math.Dec.{eqb-suc-zero, leb-zero}
use Rattle.std.proofs.lemmas.Bool.Decides.{nat_tests}
use Rattle.std.proofs.lemmas.Grind.{same_number_lists}
use Rattle.std.proofs.lemmas.List.{append_assoc, append_cancel_left, get_or-drop, get_or-take, length-drop, length-take}
use Rattle.std.proofs.lemmas.Option.{none-some, same_Some}
use Rattle.std.specs.Fmt.{decimal}
use Rattle.std.specs.List.{AllByRecursion, list_any, range_with_len}
use Rattle.std.specs.Option.{option_map, option_map_or}
use Rattle.demo_engines.proofs.HeaderLineLemmas.{header_fields, labels, same_numbers}
use Rattle.demo_engines.proofs.ListingLemmas.{end_stops}
use Rattle.demo_engines.proofs.RunLemmas.{same_number}
use Rattle.demo_engines.specs.Laws.{FrontTellsHeader}
use Rattle.demo_engines.specs.Parts.{Stops, numbers_of}
use Rattle.demo_engines.specs.Parts.Stops.{other}
use Rattle.later_demos.specs.Demo.{Demo, IsDemo}
use Rattle.later_demos.specs.Field.{comp_of, field_row, number_at, number_in, place_of}
use Rattle.later_demos.specs.Game.{byte_in, game_of}
use Rattle.later_demos.specs.Header.{IsHeader, header_size, options_in, players_at, players_of}
use Rattle.later_demos.specs.Laws.{HeadersHavePlayers}
use Rattle.later_demos.specs.Layout.{layout_of, signature_of}
use Rattle.later_demos.specs.Numbers.{big16_at, big32_at}
use Rattle.later_demos.specs.Part.{all_fields, comp_at, field_or_unread, is_in, part_of, stands_at, stands_from}
use Rattle.later_demos.specs.declared.field.Field.{Field}
use Rattle.later_demos.specs.declared.field.Field.TheVariants as field
use Rattle.later_demos.specs.declared.layout.Engine.{Engine}
use Rattle.later_demos.specs.declared.layout.Engine.TheVariants as engine
use Rattle.later_demos.specs.declared.layout.Layout.{Layout}
use Rattle.later_demos.specs.declared.part.Part.{Part}
use Rattle.later_demos.specs.declared.part.Part.TheVariants as part
use Rattle.later_demos.specs.declared.wrapper.Wrapper.{Wrapper}
use Rattle.le_rec.proofs.BytesLemmas.{AreBytes-cons, AreBytes-drop, AreBytes-nil, AreBytes-tail, AreBytes-take}
use Rattle.le_rec.proofs.NumberLemmas.{bytes32-unsigned32}
use Rattle.le_rec.specs.Bytes.{AreBytes}
use Rattle.le_rec.specs.Number.{bytes32, unsigned16, unsigned32}
use Rattle.line_io.specs.Numbers.{IsDigit}
use Rattle.look_engines.specs.Listing.{header_line}
use Rattle.lens_texts.specs.Parts.{joined}
use Rattle.demo_listings.proofs.ByteLemmas.{back_bytes, front_bytes, high_one, low_one}
use Rattle.demo_listings.specs.Listing.{byte_text, comp_text, has_options, is_left_over, is_no_part, labelled, numbers_text, option_text, options, options_line, unread_line, wrapper_line}

-- ---- Numbers behind labels ----

no_space : ¬ IsDigit 32
no_space is = let low = is.0 in omega (arith, low)

no_colon : ¬ IsDigit 58
no_colon is = let high = is.1 in omega (arith, high)

big16_small : (h : List ℕ) (at : ℕ) → AreBytes h → big16_at h at < 2 ^ 64
unfolding unsigned16
big16_small h at are =
    let low = are.each (at + 1) in
    let high = are.each at in
    omega (arith, low, high)

big32_small : (h : List ℕ) (at : ℕ) → AreBytes h → big32_at h at < 2 ^ 64
unfolding unsigned32
big32_small h at are =
    let first = are.each at in
    let second = are.each (at + 1) in
    let third = are.each (at + 2) in
    let fourth = are.each (at + 3) in
    omega (arith, first, second, third, fourth)

number_small : (size : ℕ) (h : List ℕ) (at : ℕ) → AreBytes h → number_at size h at < 2 ^ 64
number_small size h at are = elim (size == 1) as (λ t. (if t then slice_index h at else (if size == 2 then big16_at h at else big32_at h at)) < 2 ^ 64) [
  | true ↦ let byte = are.each at in omega (arith, byte)
  | false ↦ elim (size == 2) as (λ t. (if t then big16_at h at else big32_at h at) < 2 ^ 64) [
    | true ↦ big16_small h at are
    | false ↦ big32_small h at are
  ]
]

-- a number behind a space, its label and another space
abbrev number_behind : List ℕ → ℕ → List ℕ
number_behind name n = codes " " ++ labelled name n

abbrev option_behind : List ℕ → Option ℕ → List ℕ
option_behind name o = option_map_or (number_behind name) o []

spread_number : (name : List ℕ) (n : ℕ) (t : List ℕ) → number_behind name n ++ t ≡ 32 ∷ (name ++ (32 ∷ (decimal n ++ t)))
spread_number name n t = ap (λ (u : List ℕ). 32 ∷ u) (append_assoc name (codes " " ++ decimal n) t)

option_stops : (name : List ℕ) (o : Option ℕ) (t : List ℕ) → Stops IsDigit t → Stops IsDigit (option_behind name o ++ t)
option_stops name None t stops = stops
option_stops name (Some n) t stops = subst (Stops IsDigit) (sym (spread_number name n t)) (other 32 (name ++ (32 ∷ (decimal n ++ t))) no_space)

same_option : (p : Option ℕ) (size : ℕ) (name ha hb x y : List ℕ) → AreBytes ha → AreBytes hb → Stops IsDigit x → Stops IsDigit y
    → option_behind name (option_map (number_at size ha) p) ++ x ≡ option_behind name (option_map (number_at size hb) p) ++ y
    → (option_map (number_at size ha) p ≡ option_map (number_at size hb) p) × (x ≡ y)
same_option None size name ha hb x y are also stop_x stop_y same = (refl, same)
same_option (Some at) size name ha hb x y are also stop_x stop_y same =
    let plain : name ++ (32 ∷ (decimal (number_at size ha at) ++ x)) ≡ name ++ (32 ∷ (decimal (number_at size hb at) ++ y)) =
    ap (drop 1) (sym (spread_number name (number_at size ha at) x) ∙ same ∙ spread_number name (number_at size hb at) y) in
    let behind : decimal (number_at size ha at) ++ x ≡ decimal (number_at size hb at) ++ y =
    ap (drop 1) (append_cancel_left name (32 ∷ (decimal (number_at size ha at) ++ x)) (32 ∷ (decimal (number_at size hb at) ++ y)) plain) in
    let is = same_number (number_at size ha at) (number_at size hb at) x y (number_small size ha at are) (number_small size hb at also) stop_x stop_y behind in
    (ap (λ (n : ℕ). Some n) is.0, is.1)

-- ---- Compatibility options ----

told_stops : (c t : List ℕ) → Stops IsDigit (numbers_text c ++ 10 ∷ t)
told_stops [] t = end_stops t
told_stops (x ∷ c) t = other 32 ((decimal x ++ numbers_text c) ++ 10 ∷ t) no_space

same_bytes_told : (c d t u : List ℕ) → AreBytes c → AreBytes d → numbers_text c ++ 10 ∷ t ≡ numbers_text d ++ 10 ∷ u → (c ≡ d) × (t ≡ u)
same_bytes_told [] [] t u are also same = (refl, ap (drop 1) same)
same_bytes_told [] (y ∷ d) t u are also same = let e : 10 ≡ 32 = ap (λ (l : List ℕ). slice_index l 0) same in absurd (omega (arith, e))
same_bytes_told (x ∷ c) [] t u are also same = let e : 32 ≡ 10 = ap (λ (l : List ℕ). slice_index l 0) same in absurd (omega (arith, e))
same_bytes_told (x ∷ c) (y ∷ d) t u are also same =
    let behind : decimal x ++ (numbers_text c ++ 10 ∷ t) ≡ decimal y ++ (numbers_text d ++ 10 ∷ u) =
    ap (drop 1) (sym (append_assoc (codes " " ++ decimal x) (numbers_text c) (10 ∷ t)) ∙ same ∙ append_assoc (codes " " ++ decimal y) (numbers_text d) (10 ∷ u)) in
    let small_x = are.each 0 in
    let small_y = also.each 0 in
    let is = same_number x y (numbers_text c ++ 10 ∷ t) (numbers_text d ++ 10 ∷ u) (omega (arith, small_x)) (omega (arith, small_y)) (told_stops c t) (told_stops d u) behind in
    let rest = same_bytes_told c d t u (AreBytes-tail x c are) (AreBytes-tail y d also) is.1 in
    (ap (λ (b : ℕ). b ∷ c) is.0 ∙ ap (λ (bs : List ℕ). y ∷ bs) rest.0, rest.1)

comp_shown : (x : ℕ) (c : List ℕ) → comp_text (x ∷ c) ≡ codes " comp" ++ numbers_text (x ∷ c)
comp_shown x c = cond-false (length (x ∷ c) == 0) [] (codes " comp" ++ numbers_text (x ∷ c)) (eqb-suc-zero (length c))

comp_stops : (c t : List ℕ) → Stops IsDigit (comp_text c ++ 10 ∷ t)
comp_stops [] t = end_stops t
comp_stops (x ∷ c) t = subst (λ (s : List ℕ). Stops IsDigit (s ++ 10 ∷ t)) (sym (comp_shown x c)) (other 32 _ no_space)

same_comp : (c d t u : List ℕ) → AreBytes c → AreBytes d → comp_text c ++ 10 ∷ t ≡ comp_text d ++ 10 ∷ u → (c ≡ d) × (t ≡ u)
same_comp [] [] t u are also same = (refl, ap (drop 1) same)
same_comp [] (y ∷ d) t u are also same =
    let e : 10 ≡ 32 = ap (λ (l : List ℕ). slice_index l 0) (same ∙ ap (λ (s : List ℕ). s ++ 10 ∷ u) (comp_shown y d)) in absurd (omega (arith, e))
same_comp (x ∷ c) [] t u are also same =
    let e : 32 ≡ 10 = ap (λ (l : List ℕ). slice_index l 0) (sym (ap (λ (s : List ℕ). s ++ 10 ∷ t) (comp_shown x c)) ∙ same) in absurd (omega (arith, e))
same_comp (x ∷ c) (y ∷ d) t u are also same =
    same_bytes_told (x ∷ c) (y ∷ d) t u are also
    (append_cancel_left (codes " comp") (numbers_text (x ∷ c) ++ 10 ∷ t) (numbers_text (y ∷ d) ++ 10 ∷ u)
    (sym (ap (λ (s : List ℕ). s ++ 10 ∷ t) (comp_shown x c) ∙ append_assoc (codes " comp") (numbers_text (x ∷ c)) (10 ∷ t)) ∙ same
    ∙ ap (λ (s : List ℕ). s ++ 10 ∷ u) (comp_shown y d) ∙ append_assoc (codes " comp") (numbers_text (y ∷ d)) (10 ∷ u)))

-- ---- Bytes that belong to nothing ----

module _ (layout : Layout) where
  -- what is told of so many places from one on
  abbrev told_from : List ℕ → ℕ → ℕ → List ℕ
  told_from h k n = joined (map (byte_text layout h) (range_with_len k n)) ++ 10 ∷ []

  -- a place of which nothing is told
  skipped : (h : List ℕ) (k n : ℕ) → is_left_over layout h k ≡ false → told_from h k (suc n) ≡ told_from h (k + 1) n
  skipped h k n none =
      ap (λ (t : List ℕ). (t ++ joined (map (byte_text layout h) (range_with_len (k + 1) n))) ++ 10 ∷ []) (cond-false (is_left_over layout h k) _ _ none)

  -- one that is told
  shown : (h : List ℕ) (k n : ℕ) → is_left_over layout h k ≡ true
      → told_from h k (suc n) ≡ 32 ∷ (decimal k ++ (58 ∷ (decimal (slice_index h k) ++ told_from h (k + 1) n)))
  shown h k n some =
      let behind = joined (map (byte_text layout h) (range_with_len (k + 1) n)) in
      let text = labelled [] k ++ (codes ":" ++ decimal (slice_index h k)) in
      ap (λ (t : List ℕ). (t ++ behind) ++ 10 ∷ []) (cond-true (is_left_over layout h k) text [] some)
      ∙ append_assoc text behind (10 ∷ [])
      ∙ append_assoc (labelled [] k) (codes ":" ++ decimal (slice_index h k)) (behind ++ 10 ∷ [])

  from_stops : (h : List ℕ) (n k : ℕ) → Stops IsDigit (told_from h k n)
  from_stops h zero k = end_stops []
  from_stops h (suc n) k = elim (cases_Bool (is_left_over layout h k)) [
    | inl some ↦ subst (Stops IsDigit) (sym (shown h k n some)) (other 32 (decimal k ++ (58 ∷ (decimal (slice_index h k) ++ told_from h (k + 1) n))) no_space)
    | inr none ↦ subst (Stops IsDigit) (sym (skipped h k n none)) (from_stops h n (k + 1))
  ]

  -- no place before these is told
  none_before : (h : List ℕ) (n k p : ℕ) (t : List ℕ) → p < k → k + n < 2 ^ 64 → told_from h k n ≡ 32 ∷ (decimal p ++ (58 ∷ t)) → ⊥
  none_before h zero k p t before small same = let e : 10 ≡ 32 = ap (λ (l : List ℕ). slice_index l 0) same in omega (arith, e)
  none_before h (suc n) k p t before small same = elim (cases_Bool (is_left_over layout h k)) [
    | inr none ↦ none_before h n (k + 1) p t (omega (arith, before)) (omega (arith, small)) (sym (skipped h k n none) ∙ same)
    | inl some ↦
        let is = same_number k p _ _ (omega (arith, small)) (omega (arith, before, small)) (other 58 (decimal (slice_index h k) ++ told_from h (k + 1) n) no_colon) (other 58 t no_colon)
        (ap (drop 1) (sym (shown h k n some) ∙ same)) in
        let one = is.0 in
        omega (arith, before, one)
  ]

  not_told : (h : List ℕ) (i : ℕ) → is_no_part (part_of layout h i) ≡ true → is_left_over layout h i ≡ false → slice_index h i ≡ 0
  not_told h i unread none = elim (and_cases _ _ none) [
    | inl has ↦ absurd (true≢false (sym unread ∙ has))
    | inr is_zero ↦ grind (arith, nat_tests)
  ]

  -- of equal texts the bytes that belong to nothing are equal
  same_left : (a b : List ℕ) → AreBytes a → AreBytes b → ((i : ℕ) → part_of layout a i ≡ part_of layout b i) → (n k : ℕ) → k + n < 2 ^ 64
      → told_from a k n ≡ told_from b k n → (i : ℕ) → k ≤ i → i < k + n → is_no_part (part_of layout a i) ≡ true → slice_index a i ≡ slice_index b i
  same_left a b are also parts zero k small same i from to unread = absurd (omega (arith, from, to))
  same_left a b are also parts (suc n) k small same i from to unread = elim (cases_Bool (is_left_over layout a k)) [
    | inl some_a ↦ elim (cases_Bool (is_left_over layout b k)) [
      | inl some_b ↦
          let behind = append_cancel_left (decimal k) _ _ (ap (drop 1) (sym (shown a k n some_a) ∙ same ∙ shown b k n some_b)) in
          let byte_a = are.each k in
          let byte_b = also.each k in
          let is = same_number (slice_index a k) (slice_index b k) (told_from a (k + 1) n) (told_from b (k + 1) n) (omega (arith, byte_a)) (omega (arith, byte_b))
          (from_stops a n (k + 1)) (from_stops b n (k + 1)) (ap (drop 1) behind) in
          elim (cases_lt k i) [
            | inl behind_k ↦ same_left a b are also parts n (k + 1) (omega (arith, small)) is.1 i (omega (arith, behind_k)) (omega (arith, to)) unread
            | inr at ↦
                let same_place : k ≡ i = omega (arith, from, at) in
                subst (λ (j : ℕ). slice_index a j ≡ slice_index b j) same_place is.0
          ]
      | inr none_b ↦ absurd (none_before b n (k + 1) k _ (omega arith) (omega (arith, small)) (sym (skipped b k n none_b) ∙ sym same ∙ shown a k n some_a))
    ]
    | inr none_a ↦ elim (cases_Bool (is_left_over layout b k)) [
      | inl some_b ↦ absurd (none_before a n (k + 1) k _ (omega arith) (omega (arith, small)) (sym (skipped a k n none_a) ∙ same ∙ shown b k n some_b))
      | inr none_b ↦ elim (cases_lt k i) [
        | inl behind ↦ same_left a b are also parts n (k + 1) (omega (arith, small)) (sym (skipped a k n none_a) ∙ same ∙ skipped b k n none_b) i (omega (arith, behind)) (omega (arith, to)) unread
        | inr at ↦
            let is : k ≡ i = omega (arith, from, at) in
            subst (λ (j : ℕ). is_no_part (part_of layout a j) ≡ true → slice_index a j ≡ slice_index b j) is
            (λ nothing. not_told a k nothing none_a ∙ sym (not_told b k (ap is_no_part (sym (parts k)) ∙ nothing) none_b)) unread
      ]
    ]
  ]

-- ---- Two headers of a version ----

-- the numbers of the first line are bytes
field_small : (f : Field) (layout : Layout) (h : List ℕ) → AreBytes h → byte_in f layout h < 256
field_small f layout h are = go (place_of f (slice_index h 0) layout.engine)
  where
    go : (p : Option ℕ) → option_map_or (slice_index h) p 0 < 256
    go None = omega arith
    go (Some at) = are.each at

first_line : (layout : Layout) (h : List ℕ) → AreBytes h → AreBytes (numbers_of (game_of layout h))
first_line layout h are =
    let players = AreBytes-take 4 (drop (players_at layout h) h) (AreBytes-drop (players_at layout h) h are) in
    AreBytes-cons _ _ (are.each 0) (AreBytes-cons _ _ (field_small field.Skill layout h are) (AreBytes-cons _ _ (field_small field.Episode layout h are)
    (AreBytes-cons _ _ (field_small field.Map layout h are) (AreBytes-cons _ _ (field_small field.Deathmatch layout h are) (AreBytes-cons _ _ (field_small field.Respawn layout h are)
    (AreBytes-cons _ _ (field_small field.Fast layout h are) (AreBytes-cons _ _ (field_small field.NoMonsters layout h are) (AreBytes-cons _ _ (field_small field.Viewpoint layout h are)
    (AreBytes-cons _ _ (players.each 0) (AreBytes-cons _ _ (players.each 1) (AreBytes-cons _ _ (players.each 2) (AreBytes-cons _ _ (players.each 3) AreBytes-nil))))))))))))

same_first_line : (l m : Layout) (a b x y : List ℕ) → AreBytes a → AreBytes b → header_line (game_of l a) ++ x ≡ header_line (game_of m b) ++ y
    → (numbers_of (game_of l a) ≡ numbers_of (game_of m b)) × (x ≡ y)
same_first_line l m a b x y are also same =
    let is = same_numbers labels (numbers_of (game_of l a)) (numbers_of (game_of m b)) (10 ∷ x) (10 ∷ y) refl refl refl (first_line l a are) (first_line m b also)
    (end_stops x) (end_stops y) (sym (header_fields (game_of l a) x) ∙ same ∙ header_fields (game_of m b) y) in
    (is.0, ap (drop 1) is.1)

-- numbers of so many bytes
abbrev IsSize : ℕ → Type 0
IsSize size = (size ≡ 1) ⊎ ((size ≡ 2) ⊎ (size ≡ 4))

sized : (f : Field) → IsSize (field_row f).size
sized field.Version = inl refl
sized field.Compatibility = inl refl
sized field.Skill = inl refl
sized field.Episode = inl refl
sized field.Map = inl refl
sized field.Deathmatch = inl refl
sized field.Viewpoint = inl refl
sized field.MonstersRemember = inl refl
sized field.VariableFriction = inl refl
sized field.WeaponRecoil = inl refl
sized field.AllowPushers = inl refl
sized field.PlayerBobbing = inl refl
sized field.Respawn = inl refl
sized field.Fast = inl refl
sized field.NoMonsters = inl refl
sized field.DemoInsurance = inl refl
sized field.RngSeed = inr (inr refl)
sized field.MonsterInfighting = inl refl
sized field.Dogs = inl refl
sized field.DistFriend = inr (inl refl)
sized field.MonsterBacking = inl refl
sized field.MonsterAvoidHazards = inl refl
sized field.MonsterFriction = inl refl
sized field.HelpFriends = inl refl
sized field.DogJumping = inl refl
sized field.Monkeys = inl refl
sized field.Comps = inl refl
sized field.ForceOldBsp = inl refl

-- of equal numbers each byte is equal
byte_of_number : (size at i : ℕ) (a b : List ℕ) → AreBytes a → AreBytes b → IsSize size → number_at size a at ≡ number_at size b at
    → is_in at size i ≡ true → slice_index a i ≡ slice_index b i
byte_of_number size at i a b are also (inl one) same inside =
    let is : at ≡ i = grind (arith, nat_tests) in
    subst (λ (j : ℕ). slice_index a j ≡ slice_index b j) is (subst (λ (s : ℕ). number_at s a at ≡ number_at s b at) one same)
byte_of_number size at i a b are also (inr (inl two)) same inside = elim (cases_lt at i) [
  | inr first ↦
      let is : at ≡ i = grind (arith, nat_tests) in
      subst (λ (j : ℕ). slice_index a j ≡ slice_index b j) is (high_one _ _ _ _ (are.each (at + 1)) (are.each at) (also.each (at + 1)) (also.each at) numbers)
  | inl second ↦
      let is : at + 1 ≡ i = grind (arith, nat_tests) in
      subst (λ (j : ℕ). slice_index a j ≡ slice_index b j) is (low_one _ _ _ _ (are.each (at + 1)) (are.each at) (also.each (at + 1)) (also.each at) numbers)
]
  where
    numbers : big16_at a at ≡ big16_at b at
    numbers = subst (λ (s : ℕ). number_at s a at ≡ number_at s b at) two same
byte_of_number size at i a b are also (inr (inr four)) same inside =
    let numbers : big32_at a at ≡ big32_at b at = subst (λ (s : ℕ). number_at s a at ≡ number_at s b at) four same in
    let lists = sym (bytes32-unsigned32 _ _ _ _ (are.each (at + 3)) (are.each (at + 2)) (are.each (at + 1)) (are.each at)) ∙ ap bytes32 numbers
    ∙ bytes32-unsigned32 _ _ _ _ (also.each (at + 3)) (also.each (at + 2)) (also.each (at + 1)) (also.each at) in
    let each = λ (k : ℕ). ap (λ (l : List ℕ). slice_index l k) lists in
    elim (cases_lt (at + 1) i) [
      | inr low ↦ elim (cases_lt at i) [
        | inr first ↦
            let is : at ≡ i = grind (arith, nat_tests) in
            subst (λ (j : ℕ). slice_index a j ≡ slice_index b j) is (each 3)
        | inl second ↦
            let is : at + 1 ≡ i = grind (arith, nat_tests) in
            subst (λ (j : ℕ). slice_index a j ≡ slice_index b j) is (each 2)
      ]
      | inl high ↦ elim (cases_lt (at + 2) i) [
        | inr third ↦
            let is : at + 2 ≡ i = grind (arith, nat_tests) in
            subst (λ (j : ℕ). slice_index a j ≡ slice_index b j) is (each 1)
        | inl fourth ↦
            let is : at + 3 ≡ i = grind (arith, nat_tests) in
            subst (λ (j : ℕ). slice_index a j ≡ slice_index b j) is (each 0)
      ]
    ]

-- equal slices of lists have equal items
in_slice : (from n m i : ℕ) (a b : List ℕ) → take n (drop from a) ≡ take m (drop from b) → is_in from (length (take n (drop from a))) i ≡ true
    → slice_index a i ≡ slice_index b i
in_slice from n m i a b same inside =
    let parts = and_parts _ _ inside in
    let least : from ≤ i = leb-true _ _ parts.0 in
    let below : i - from < length (take n (drop from a)) = ltb-true _ _ parts.1 in
    let is : from + (i - from) ≡ i = omega (arith, least) in
    let in_a : i - from < n = omega (arith, below, length-take n (drop from a)) in
    let in_b : i - from < m = omega (arith, below, ap length same, length-take m (drop from b)) in
    sym (at n a is in_a) ∙ ap (λ (l : List ℕ). slice_index l (i - from)) same ∙ at m b is in_b
  where
    at : (k : ℕ) (l : List ℕ) → from + (i - from) ≡ i → i - from < k → slice_index (take k (drop from l)) (i - from) ≡ slice_index l i
    at k l is below = get_or-take k (drop from l) (i - from) 0 below ∙ get_or-drop from l (i - from) 0 ∙ ap (slice_index l) is

-- a field that is found stands there
found : (version i : ℕ) (e : Engine) (fs : List Field) (f : Field) → find (λ g. stands_at g version e i) fs ≡ Some f → stands_at f version e i ≡ true
found version i e [] f is = absurd (none-some f is)
found version i e (g ∷ fs) f is = elim (cases_Bool (stands_at g version e i)) [
  | inl here ↦ subst (λ (h : Field). stands_at h version e i ≡ true) (same_Some _ _ (sym (cond-true _ _ _ here) ∙ is)) here
  | inr not_here ↦ found version i e fs f (sym (cond-false _ _ _ not_here) ∙ is)
]

comp_bytes : (e : Engine) (h : List ℕ) → AreBytes h → AreBytes (comp_of e h)
comp_bytes engine.Early h are = AreBytes-nil
comp_bytes engine.Doom h are = AreBytes-nil
comp_bytes engine.Boom h are = AreBytes-nil
comp_bytes engine.Mbf h are = AreBytes-take 32 (drop 39 h) (AreBytes-drop 39 h are)
comp_bytes engine.PrBoom h are = AreBytes-take 32 (drop 39 h) (AreBytes-drop 39 h are)
comp_bytes engine.Mbf21 h are = AreBytes-take (slice_index h 32) (drop 33 h) (AreBytes-drop 33 h are)

-- what an engine says of two headers whose numbers are the same
module _ (a b : List ℕ) where
  abbrev AlikeIn : Engine → Field → Type 0
  AlikeIn e f =
      option_map (number_at (field_row f).size a) (place_of f (slice_index a 0) e) ≡ option_map (number_at (field_row f).size b) (place_of f (slice_index b 0) e)

  -- every version has the field
  from_first : slice_index a 0 ≡ slice_index b 0 → AlikeIn engine.Boom field.Version
  from_first is =
      ap (option_map (number_at (field_row field.Version).size a)) (cond-true (nat_le 0 (slice_index a 0)) (Some 0) None (leb-zero (slice_index a 0)))
      ∙ ap (λ (n : ℕ). Some n) is
      ∙ sym (ap (option_map (number_at (field_row field.Version).size b)) (cond-true (nat_le 0 (slice_index b 0)) (Some 0) None (leb-zero (slice_index b 0))))

  version_alike : (e : Engine) → slice_index a 0 ≡ slice_index b 0 → AlikeIn e field.Version
  version_alike engine.Early is = ap (λ (n : ℕ). Some n) is
  version_alike engine.Doom is = ap (λ (n : ℕ). Some n) is
  version_alike engine.Boom is = from_first is
  version_alike engine.Mbf is = from_first is
  version_alike engine.PrBoom is = from_first is
  version_alike engine.Mbf21 is = ap (λ (n : ℕ). Some n) is

  counts_alike : (e : Engine) → AlikeIn e field.Comps → options_in e a ≡ options_in e b
  counts_alike engine.Early is = refl
  counts_alike engine.Doom is = refl
  counts_alike engine.Boom is = refl
  counts_alike engine.Mbf is = refl
  counts_alike engine.PrBoom is = refl
  counts_alike engine.Mbf21 is = same_Some _ _ is

  -- Doom's have no options
  none_alike : (e : Engine) → has_options e ≡ false → AllByRecursion (AlikeIn e) options × (comp_of e a ≡ comp_of e b)
  none_alike engine.Early none = ((refl, (refl, (refl, (refl, (refl, (refl, (refl, (refl, (refl, (refl, (refl, (refl, (refl, (refl, (refl, (refl, (refl, (refl, (refl, tt))))))))))))))))))), refl)
  none_alike engine.Doom none = ((refl, (refl, (refl, (refl, (refl, (refl, (refl, (refl, (refl, (refl, (refl, (refl, (refl, (refl, (refl, (refl, (refl, (refl, (refl, tt))))))))))))))))))), refl)
  none_alike engine.Boom none = absurd (true≢false none)
  none_alike engine.Mbf none = absurd (true≢false none)
  none_alike engine.PrBoom none = absurd (true≢false none)
  none_alike engine.Mbf21 none = absurd (true≢false none)

  comp_byte : (e : Engine) (i : ℕ) → comp_of e a ≡ comp_of e b → is_in (comp_at e) (length (comp_of e a)) i ≡ true → slice_index a i ≡ slice_index b i
  comp_byte engine.Early i same inside =
      let parts = and_parts _ _ inside in
      let below : i - comp_at engine.Early < 0 = ltb-true _ _ parts.1 in
      absurd (omega (arith, below))
  comp_byte engine.Doom i same inside =
      let parts = and_parts _ _ inside in
      let below : i - comp_at engine.Doom < 0 = ltb-true _ _ parts.1 in
      absurd (omega (arith, below))
  comp_byte engine.Boom i same inside =
      let parts = and_parts _ _ inside in
      let below : i - comp_at engine.Boom < 0 = ltb-true _ _ parts.1 in
      absurd (omega (arith, below))
  comp_byte engine.Mbf i same inside = in_slice 39 32 32 i a b same inside
  comp_byte engine.PrBoom i same inside = in_slice 39 32 32 i a b same inside
  comp_byte engine.Mbf21 i same inside = in_slice 33 (slice_index a 32) (slice_index b 32) i a b same inside

module _ (layout : Layout) (a b : List ℕ) (are : AreBytes a) (also : AreBytes b) (of_a : IsHeader a layout) (of_b : IsHeader b layout)
    (first : numbers_of (game_of layout a) ≡ numbers_of (game_of layout b)) where
  version_same : slice_index b 0 ≡ slice_index a 0
  version_same = ap (λ (ns : List ℕ). slice_index ns 0) (sym first)

  place_same : (f : Field) → place_of f (slice_index b 0) layout.engine ≡ place_of f (slice_index a 0) layout.engine
  place_same f = ap (λ (v : ℕ). place_of f v layout.engine) version_same

  -- the number of a field in B, at the place that A has it
  number_moved : (f : Field) → number_in f layout b ≡ option_map (number_at (field_row f).size b) (place_of f (slice_index a 0) layout.engine)
  number_moved f = ap (option_map (number_at (field_row f).size b)) (place_same f)

  options_stop : (h : List ℕ) (fs : List Field) (t : List ℕ) → Stops IsDigit t → Stops IsDigit (joined (map (option_text layout h) fs) ++ t)
  options_stop h [] t stops = stops
  options_stop h (f ∷ fs) t stops =
      subst (Stops IsDigit) (sym (append_assoc (option_text layout h f) (joined (map (option_text layout h) fs)) t))
      (option_stops (field_row f).name (number_in f layout h) (joined (map (option_text layout h) fs) ++ t) (options_stop h fs t stops))

  abbrev SameNumber : Field → Type 0
  SameNumber f = number_in f layout a ≡ number_in f layout b

  same_options : (fs : List Field) (x y : List ℕ) → Stops IsDigit x → Stops IsDigit y
      → joined (map (option_text layout a) fs) ++ x ≡ joined (map (option_text layout b) fs) ++ y → AllByRecursion SameNumber fs × (x ≡ y)
  same_options [] x y stop_x stop_y same = (tt, same)
  same_options (f ∷ fs) x y stop_x stop_y same =
      let rest_a = joined (map (option_text layout a) fs) ++ x in
      let rest_b = joined (map (option_text layout b) fs) ++ y in
      let one = same_option (place_of f (slice_index a 0) layout.engine) (field_row f).size (field_row f).name a b rest_a rest_b are also
      (options_stop a fs x stop_x) (options_stop b fs y stop_y)
      (sym (append_assoc (option_text layout a f) (joined (map (option_text layout a) fs)) x) ∙ same
      ∙ append_assoc (option_text layout b f) (joined (map (option_text layout b) fs)) y
      ∙ ap (λ (o : Option ℕ). option_behind (field_row f).name o ++ rest_b) (number_moved f)) in
      let more = same_options fs x y stop_x stop_y one.1 in
      ((one.0 ∙ sym (number_moved f), more.0), more.1)

  -- a field of the first line
  from_byte : (f : Field) → (field_row f).size ≡ 1 → byte_in f layout a ≡ byte_in f layout b → SameNumber f
  from_byte f one same = go (place_of f (slice_index a 0) layout.engine) (same ∙ ap (λ (p : Option ℕ). option_map_or (slice_index b) p 0) (place_same f)) ∙ sym (number_moved f)
    where
      go : (p : Option ℕ) → option_map_or (slice_index a) p 0 ≡ option_map_or (slice_index b) p 0
          → option_map (number_at (field_row f).size a) p ≡ option_map (number_at (field_row f).size b) p
      go None e = refl
      go (Some at) e = ap (λ (n : ℕ). Some n) (subst (λ (s : ℕ). number_at s a at ≡ number_at s b at) (sym one) e)

  at_number : (k : ℕ) → slice_index (numbers_of (game_of layout a)) k ≡ slice_index (numbers_of (game_of layout b)) k
  at_number k = ap (λ (ns : List ℕ). slice_index ns k) first

  options_spread : (h : List ℕ) → has_options layout.engine ≡ true
      → options_line layout h ++ unread_line layout h
      ≡ codes "options" ++ (joined (map (option_text layout h) options) ++ (comp_text (comp_of layout.engine h) ++ 10 ∷ unread_line layout h))
  options_spread h some =
      let all = joined (map (option_text layout h) options) in
      let comp = comp_text (comp_of layout.engine h) in
      let unread = unread_line layout h in
      ap (λ (t : List ℕ). t ++ unread) (cond-true (has_options layout.engine) (codes "options" ++ (all ++ (comp ++ 10 ∷ []))) [] some)
      ∙ append_assoc (codes "options") (all ++ (comp ++ 10 ∷ [])) unread
      ∙ ap (λ (t : List ℕ). codes "options" ++ t) (append_assoc all (comp ++ 10 ∷ []) unread ∙ ap (λ (t : List ℕ). all ++ t) (append_assoc comp (10 ∷ []) unread))

  -- what the lines behind the first one tell
  abbrev AreAlike : Type 0
  AreAlike = AllByRecursion SameNumber options × ((comp_of layout.engine a ≡ comp_of layout.engine b) × (unread_line layout a ≡ unread_line layout b))

  alike : options_line layout a ++ unread_line layout a ≡ options_line layout b ++ unread_line layout b → AreAlike
  alike same = elim (cases_Bool (has_options layout.engine)) [
    | inl some ↦
        let told = append_cancel_left (codes "options") _ _ (sym (options_spread a some) ∙ same ∙ options_spread b some) in
        let numbers = same_options options _ _ (comp_stops (comp_of layout.engine a) (unread_line layout a)) (comp_stops (comp_of layout.engine b) (unread_line layout b)) told in
        let comp = same_comp (comp_of layout.engine a) (comp_of layout.engine b) _ _ (comp_bytes layout.engine a are) (comp_bytes layout.engine b also) numbers.1 in
        (numbers.0, comp)
    | inr none ↦
        let nothing = λ (h : List ℕ). ap (λ (t : List ℕ). t ++ unread_line layout h) (cond-false (has_options layout.engine) (codes "options" ++ (joined (map (option_text layout h) options) ++ (comp_text (comp_of layout.engine h) ++ 10 ∷ []))) [] none) in
        let is = none_alike a b layout.engine none in
        (is.0, (is.1, sym (nothing a) ∙ same ∙ nothing b))
  ]

module _ (layout : Layout) (a b : List ℕ) (are : AreBytes a) (also : AreBytes b) (of_a : IsHeader a layout) (of_b : IsHeader b layout)
    (first : numbers_of (game_of layout a) ≡ numbers_of (game_of layout b)) (told : AreAlike layout a b are also of_a of_b first)
    (table : HeadersHavePlayers) where
  -- every field has the same number
  same_number_of : (f : Field) → SameNumber layout a b are also of_a of_b first f
  same_number_of field.Version = version_alike a b layout.engine (at_number layout a b are also of_a of_b first 0)
  same_number_of field.Skill = from_byte layout a b are also of_a of_b first field.Skill refl (at_number layout a b are also of_a of_b first 1)
  same_number_of field.Episode = from_byte layout a b are also of_a of_b first field.Episode refl (at_number layout a b are also of_a of_b first 2)
  same_number_of field.Map = from_byte layout a b are also of_a of_b first field.Map refl (at_number layout a b are also of_a of_b first 3)
  same_number_of field.Deathmatch = from_byte layout a b are also of_a of_b first field.Deathmatch refl (at_number layout a b are also of_a of_b first 4)
  same_number_of field.Respawn = from_byte layout a b are also of_a of_b first field.Respawn refl (at_number layout a b are also of_a of_b first 5)
  same_number_of field.Fast = from_byte layout a b are also of_a of_b first field.Fast refl (at_number layout a b are also of_a of_b first 6)
  same_number_of field.NoMonsters = from_byte layout a b are also of_a of_b first field.NoMonsters refl (at_number layout a b are also of_a of_b first 7)
  same_number_of field.Viewpoint = from_byte layout a b are also of_a of_b first field.Viewpoint refl (at_number layout a b are also of_a of_b first 8)
  same_number_of field.Compatibility = told.0.0
  same_number_of field.MonstersRemember = told.0.1.0
  same_number_of field.VariableFriction = told.0.1.1.0
  same_number_of field.WeaponRecoil = told.0.1.1.1.0
  same_number_of field.AllowPushers = told.0.1.1.1.1.0
  same_number_of field.PlayerBobbing = told.0.1.1.1.1.1.0
  same_number_of field.DemoInsurance = told.0.1.1.1.1.1.1.0
  same_number_of field.RngSeed = told.0.1.1.1.1.1.1.1.0
  same_number_of field.MonsterInfighting = told.0.1.1.1.1.1.1.1.1.0
  same_number_of field.Dogs = told.0.1.1.1.1.1.1.1.1.1.0
  same_number_of field.DistFriend = told.0.1.1.1.1.1.1.1.1.1.1.0
  same_number_of field.MonsterBacking = told.0.1.1.1.1.1.1.1.1.1.1.1.0
  same_number_of field.MonsterAvoidHazards = told.0.1.1.1.1.1.1.1.1.1.1.1.1.0
  same_number_of field.MonsterFriction = told.0.1.1.1.1.1.1.1.1.1.1.1.1.1.0
  same_number_of field.HelpFriends = told.0.1.1.1.1.1.1.1.1.1.1.1.1.1.1.0
  same_number_of field.DogJumping = told.0.1.1.1.1.1.1.1.1.1.1.1.1.1.1.1.0
  same_number_of field.Monkeys = told.0.1.1.1.1.1.1.1.1.1.1.1.1.1.1.1.1.0
  same_number_of field.Comps = told.0.1.1.1.1.1.1.1.1.1.1.1.1.1.1.1.1.1.0
  same_number_of field.ForceOldBsp = told.0.1.1.1.1.1.1.1.1.1.1.1.1.1.1.1.1.1.1.0

  counts_same : options_in layout.engine a ≡ options_in layout.engine b
  counts_same = counts_alike a b layout.engine (same_number_of field.Comps)

  long_same : length a ≡ length b
  long_same = of_a.long ∙ ap (λ (n : ℕ). layout.size + n) counts_same ∙ sym of_b.long

  -- each place belongs to the same
  part_same : (i : ℕ) → part_of layout a i ≡ part_of layout b i
  unfolding part_of
  part_same i =
      ap (λ (n : ℕ). if is_in 1 (length (signature_of layout.engine)) i then part.Signature
      else (if is_in (layout.players + n) 4 i then part.Players
      else (if is_in (comp_at layout.engine) (length (comp_of layout.engine a)) i then part.Comp (i - comp_at layout.engine)
      else field_or_unread (find (λ f. stands_at f (slice_index a 0) layout.engine i) all_fields)))) counts_same
      ∙ ap (λ (c : List ℕ). if is_in 1 (length (signature_of layout.engine)) i then part.Signature
      else (if is_in (players_at layout b) 4 i then part.Players
      else (if is_in (comp_at layout.engine) (length c) i then part.Comp (i - comp_at layout.engine)
      else field_or_unread (find (λ f. stands_at f (slice_index a 0) layout.engine i) all_fields)))) told.1.0
      ∙ ap (λ (v : ℕ). if is_in 1 (length (signature_of layout.engine)) i then part.Signature
      else (if is_in (players_at layout b) 4 i then part.Players
      else (if is_in (comp_at layout.engine) (length (comp_of layout.engine b)) i then part.Comp (i - comp_at layout.engine)
      else field_or_unread (find (λ f. stands_at f v layout.engine i) all_fields)))) (at_number layout a b are also of_a of_b first 0)

  none_told : (h : List ℕ) (n k : ℕ) → list_any (is_left_over layout h) (range_with_len k n) ≡ false → told_from layout h k n ≡ 10 ∷ []
  none_told h zero k none = refl
  none_told h (suc n) k none =
      let parts = or_parts _ _ none in
      skipped layout h k n parts.0 ∙ none_told h n (k + 1) parts.1

  abbrev any_left : List ℕ → Bool
  any_left h = list_any (is_left_over layout h) (range_with_len 0 (length h))

  all_left : told_from layout a 0 (length a) ≡ told_from layout b 0 (length b)
  all_left = elim (cases_Bool (any_left a)) [
    | inl some_a ↦ elim (cases_Bool (any_left b)) [
      | inl some_b ↦ append_cancel_left (codes "unread") _ _ (sym (cond-true (any_left a) _ [] some_a) ∙ told.1.1 ∙ cond-true (any_left b) _ [] some_b)
      | inr none_b ↦
          let is : 117 ≡ 0 = ap (λ (t : List ℕ). slice_index t 0)
          (sym (cond-true (any_left a) (codes "unread" ++ told_from layout a 0 (length a)) [] some_a) ∙ told.1.1 ∙ cond-false (any_left b) _ [] none_b) in
          absurd (omega (arith, is))
    ]
    | inr none_a ↦ elim (cases_Bool (any_left b)) [
      | inl some_b ↦
          let is : 0 ≡ 117 = ap (λ (t : List ℕ). slice_index t 0)
          (sym (cond-false (any_left a) _ [] none_a) ∙ told.1.1 ∙ cond-true (any_left b) (codes "unread" ++ told_from layout b 0 (length b)) [] some_b) in
          absurd (omega (arith, is))
      | inr none_b ↦ none_told a (length a) 0 none_a ∙ sym (none_told b (length b) 0 none_b)
    ]
  ]

  sound : (layout.players + 4 ≤ layout.size) × (layout.size ≤ 301)
  sound = table (slice_index a 0) layout of_a.version

  short : length a < 2 ^ 64
  short = let most = sound.1 in let few = of_a.options in omega (arith, of_a.long, most, few)

  unread_same : (i : ℕ) → i < length a → is_no_part (part_of layout a i) ≡ true → slice_index a i ≡ slice_index b i
  unread_same i small unread =
      same_left layout a b are also part_same (length a) 0 (omega (arith, short))
      (all_left ∙ ap (told_from layout b 0) (sym long_same)) i (omega arith) (omega (arith, small)) unread

  players_long : (h : List ℕ) → IsHeader h layout → length (players_of layout h) ≡ 4
  players_long h of_h =
      let fit = sound.0 in
      omega (arith, length-take 4 (drop (players_at layout h) h), length-drop (players_at layout h) h, of_h.long, fit)

  players_same : players_of layout a ≡ players_of layout b
  players_same = same_number_lists (players_of layout a) (players_of layout b) (players_long a of_a ∙ sym (players_long b of_b)) each
    where
      each : (k : ℕ) → k < length (players_of layout a) → slice_index (players_of layout a) k ≡ slice_index (players_of layout b) k
      each zero small = at_number layout a b are also of_a of_b first 9
      each (suc zero) small = at_number layout a b are also of_a of_b first 10
      each (suc (suc zero)) small = at_number layout a b are also of_a of_b first 11
      each (suc (suc (suc zero))) small = at_number layout a b are also of_a of_b first 12
      each (suc (suc (suc (suc k)))) small = absurd (omega (arith, small, players_long a of_a))

  player_byte : (i : ℕ) → is_in (players_at layout a) 4 i ≡ true → slice_index a i ≡ slice_index b i
  player_byte i inside =
      in_slice (players_at layout a) 4 4 i a b
      (players_same ∙ ap (λ (n : ℕ). take 4 (drop (layout.players + n) b)) (sym counts_same))
      (subst (λ (n : ℕ). is_in (players_at layout a) n i ≡ true) (sym (players_long a of_a)) inside)

  signed_byte : (i : ℕ) → is_in 1 (length (signature_of layout.engine)) i ≡ true → slice_index a i ≡ slice_index b i
  signed_byte i inside =
      let count = length (signature_of layout.engine) in
      in_slice 1 count count i a b (of_a.signature ∙ sym of_b.signature)
      (subst (λ (n : ℕ). is_in 1 n i ≡ true) (ap length (sym of_a.signature)) inside)

  field_byte : (f : Field) (i : ℕ) → stands_at f (slice_index a 0) layout.engine i ≡ true → slice_index a i ≡ slice_index b i
  field_byte f i inside = go (place_of f (slice_index a 0) layout.engine) inside (same_number_of f ∙ number_moved layout a b are also of_a of_b first f)
    where
      go : (p : Option ℕ) → stands_from p f i ≡ true → option_map (number_at (field_row f).size a) p ≡ option_map (number_at (field_row f).size b) p
          → slice_index a i ≡ slice_index b i
      go None inside same = absurd (true≢false (sym inside))
      go (Some at) inside same = byte_of_number (field_row f).size at i a b are also (sized f) (same_Some _ _ same) inside

  byte_same : (i : ℕ) → i < length a → slice_index a i ≡ slice_index b i
  unfolding part_of
  byte_same i small = elim (cases_Bool (is_in 1 (length (signature_of layout.engine)) i)) [
    | inl signature ↦ signed_byte i signature
    | inr unsigned ↦ elim (cases_Bool (is_in (players_at layout a) 4 i)) [
      | inl players ↦ player_byte i players
      | inr others ↦ elim (cases_Bool (is_in (comp_at layout.engine) (length (comp_of layout.engine a)) i)) [
        | inl comp ↦ comp_byte a b layout.engine i told.1.0 comp
        | inr behind ↦ by_find (find (λ f. stands_at f (slice_index a 0) layout.engine i) all_fields) refl unsigned others behind
      ]
    ]
  ]
    where
      by_find : (o : Option Field) → find (λ f. stands_at f (slice_index a 0) layout.engine i) all_fields ≡ o
          → is_in 1 (length (signature_of layout.engine)) i ≡ false → is_in (players_at layout a) 4 i ≡ false
          → is_in (comp_at layout.engine) (length (comp_of layout.engine a)) i ≡ false → slice_index a i ≡ slice_index b i
      by_find (Some f) is unsigned others behind = field_byte f i (found (slice_index a 0) i layout.engine all_fields f is)
      by_find None is unsigned others behind =
          unread_same i small
          (ap is_no_part (cond-false _ _ _ unsigned ∙ cond-false _ _ _ others ∙ cond-false _ _ _ behind ∙ ap field_or_unread is))

  header_same : a ≡ b
  header_same = same_number_lists a b long_same byte_same

pub front_tells : HeadersHavePlayers → FrontTellsHeader
front_tells table of_a of_b a b is second are also bare_a bare_b same =
    let bytes_a = header_bytes of_a a is are in
    let bytes_b = header_bytes of_b b second also in
    let plain = λ (d : Demo) (e : d.wrapper ≡ None). ap (λ (w : Option Wrapper). header_line (game_of d.layout d.header)
    ++ (wrapper_line w d.key_frame ++ (options_line d.layout d.header ++ unread_line d.layout d.header))) e in
    let lines = same_first_line a.layout b.layout a.header b.header (options_line a.layout a.header ++ unread_line a.layout a.header)
    (options_line b.layout b.header ++ unread_line b.layout b.header) bytes_a bytes_b (sym (plain a bare_a) ∙ same ∙ plain b bare_b) in
    let layout : a.layout ≡ b.layout =
    same_Some _ _ (sym is.begins.version ∙ ap (λ (ns : List ℕ). layout_of (slice_index ns 0)) lines.0 ∙ second.begins.version) in
    let begins : IsHeader b.header a.layout = subst (IsHeader b.header) (sym layout) second.begins in
    let first = lines.0 ∙ ap (λ (l : Layout). numbers_of (game_of l b.header)) (sym layout) in
    let rest = lines.1 ∙ ap (λ (l : Layout). options_line l b.header ++ unread_line l b.header) (sym layout) in
    header_same a.layout a.header b.header bytes_a bytes_b is.begins begins first (alike a.layout a.header b.header bytes_a bytes_b is.begins begins first rest) table
  where
    header_bytes : (bytes : List ℕ) (demo : Demo) → (is : IsDemo bytes demo) → AreBytes bytes → AreBytes demo.header
    header_bytes bytes demo is are =
        front_bytes demo.header (is.frame ++ (is.body ++ 128 ∷ demo.rest))
        (back_bytes is.front (demo.header ++ (is.frame ++ (is.body ++ 128 ∷ demo.rest))) (subst AreBytes is.joined are))
