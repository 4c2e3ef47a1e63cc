-- The header's line of a listing, from its labels and numbers.
use Rattle.std.proofs.Common.{◌≡◌, ℕ, zero, suc, get_or, take, drop, replicate, drop-cons, set, add-one, length-set, ◌+◌, ◌<◌, ◌≤◌, Bool, true, false, not, ◌&&◌, List, [], ◌∷◌, ◌++◌, length, All, refl, sym, ap, ◌∙◌, arith, codes, nat_le}
use Rattle.std.proofs.lemmas.Bool.{and_parts}
use Rattle.std.proofs.lemmas.Bool.Decides.{nat_tests}
use Rattle.std.proofs.Common.{get_or-set_same}
use Rattle.std.proofs.lemmas.List.{append_assoc, append_cancel_left, take-set, take_more}
use Rattle.std.proofs.lemmas.List.Elements.{All-cons, All-nil}
use Rattle.std.specs.Fmt.{decimal}
use Rattle.demo_lump.proofs.WritingLemmas.{IsHeader-written}
use Rattle.demo_lump.specs.Header.{header_of}
use Rattle.demo_lump.specs.declared.header.Header.{Header}
use Rattle.le_rec.specs.Bytes.{AreBytes}
use Rattle.le_rec.proofs.BytesLemmas.{AreBytes-cons, AreBytes-nil, AreBytes-tail}
use Rattle.line_io.specs.Numbers.{IsDigit}
use Rattle.demo_engines.specs.Parts.{FitsHeader, Stops, fields, numbers_of}
use Rattle.demo_engines.specs.Parts.Stops.{other}
use Rattle.look_engines.specs.Listing.{header_line}
use Rattle.demo_engines.proofs.ListingLemmas.{end_stops}
use Rattle.demo_engines.proofs.RunLemmas.{same_number}

-- a label has no digits
abbrev pub has_no_digit : List ℕ → Bool
has_no_digit [] = true
has_no_digit (b ∷ label) = not (nat_le 48 b && nat_le b 57) && has_no_digit label

abbrev pub is_label : List ℕ → Bool
is_label [] = false
is_label (b ∷ label) = has_no_digit (b ∷ label)

abbrev pub are_labels : List (List ℕ) → Bool
are_labels [] = true
are_labels (label ∷ labels) = is_label label && are_labels labels

no_digit : (b : ℕ) → not (nat_le 48 b && nat_le b 57) ≡ true → ¬ IsDigit b
no_digit b is digit =
    let low = digit.0 in
    let high = digit.1 in
    grind (arith, nat_tests)

pub without_digits : (label : List ℕ) → has_no_digit label ≡ true → All (λ b. ¬ IsDigit b) label
without_digits [] is = All-nil _
without_digits (b ∷ label) is =
    let parts = and_parts (not (nat_le 48 b && nat_le b 57)) (has_no_digit label) is in
    All-cons (λ b. ¬ IsDigit b) b label (no_digit b parts.0) (without_digits label parts.1)

label_stops : (label text : List ℕ) → is_label label ≡ true → Stops IsDigit (label ++ text)
label_stops [] text is = absurd (let f : ⊥ = cc in f)
label_stops (b ∷ label) text is =
    let parts = and_parts (not (nat_le 48 b && nat_le b 57)) (has_no_digit label) is in
    other b (label ++ text) (no_digit b parts.0)

pub fields_stop : (labels : List (List ℕ)) (numbers end : List ℕ) → are_labels labels ≡ true → Stops IsDigit end → Stops IsDigit (fields labels numbers end)
fields_stop [] numbers end are stops = stops
fields_stop (label ∷ labels) [] end are stops = stops
fields_stop (label ∷ labels) (n ∷ numbers) end are stops = label_stops label (decimal n ++ fields labels numbers end) (and_parts (is_label label) (are_labels labels) are).0

pub same_numbers : (labels : List (List ℕ)) (ns ms x y : List ℕ) → are_labels labels ≡ true → length ns ≡ length labels → length ms ≡ length labels → AreBytes ns → AreBytes ms → Stops IsDigit x → Stops IsDigit y
    → fields labels ns x ≡ fields labels ms y → (ns ≡ ms) × (x ≡ y)
same_numbers [] [] [] x y are long_n long_m bytes_n bytes_m stop_x stop_y same = (refl, same)
same_numbers [] (n ∷ ns) ms x y are long_n long_m bytes_n bytes_m stop_x stop_y same = absurd (omega (arith, long_n))
same_numbers [] [] (m ∷ ms) x y are long_n long_m bytes_n bytes_m stop_x stop_y same = absurd (omega (arith, long_m))
same_numbers (label ∷ labels) [] ms x y are long_n long_m bytes_n bytes_m stop_x stop_y same = absurd (omega (arith, long_n))
same_numbers (label ∷ labels) (n ∷ ns) [] x y are long_n long_m bytes_n bytes_m stop_x stop_y same = absurd (omega (arith, long_m))
same_numbers (label ∷ labels) (n ∷ ns) (m ∷ ms) x y are long_n long_m bytes_n bytes_m stop_x stop_y same =
    let parts = and_parts (is_label label) (are_labels labels) are in
    let small_n : n < 256 = bytes_n.each 0 in
    let small_m : m < 256 = bytes_m.each 0 in
    let behind = append_cancel_left label _ _ same in
    let one = same_number n m (fields labels ns x) (fields labels ms y) (omega arith) (omega arith) (fields_stop labels ns x parts.1 stop_x) (fields_stop labels ms y parts.1 stop_y) behind in
    let rest = same_numbers labels ns ms x y parts.1 (omega (arith, long_n)) (omega (arith, long_m)) (AreBytes-tail n ns bytes_n) (AreBytes-tail m ms bytes_m) stop_x stop_y one.1 in
    (ap (λ k. k ∷ ns) one.0 ∙ ap (λ ks. m ∷ ks) rest.0, rest.1)

-- what stands before the numbers of a header
abbrev pub labels : List (List ℕ)
labels =
    codes "demo version " ∷ codes " skill " ∷ codes " episode " ∷ codes " map " ∷ codes " deathmatch " ∷ codes " respawn " ∷ codes " fast "
    ∷ codes " nomonsters " ∷ codes " viewpoint " ∷ codes " players " ∷ codes " " ∷ codes " " ∷ codes " " ∷ []

pub header_fields : (h : Header) (x : List ℕ) → header_line h ++ x ≡ fields labels (numbers_of h) (10 ∷ x)
unfolding header_line
header_fields h x = simp append_assoc

pub same_header : (g h : Header) (x y : List ℕ) → FitsHeader g → FitsHeader h → header_line g ++ x ≡ header_line h ++ y → (g ≡ h) × (x ≡ y)
same_header g h x y of_g of_h same =
    let fields_same = sym (header_fields g x) ∙ same ∙ header_fields h y in
    let is = same_numbers labels (numbers_of g) (numbers_of h) (10 ∷ x) (10 ∷ y) refl refl refl of_g.numbers of_h.numbers (end_stops x) (end_stops y) fields_same in
    let is_rest = is.1 in
    (sym (IsHeader-written g of_g.long of_g.version of_g.some).reads ∙ ap header_of is.0 ∙ (IsHeader-written h of_h.long of_h.version of_h.some).reads, cc)

-- the labels and numbers from one on
labels_drop : (i : ℕ) (ls : List (List ℕ)) → are_labels ls ≡ true → are_labels (drop i ls) ≡ true
labels_drop zero ls are = are
labels_drop (suc i) [] are = refl
labels_drop (suc i) (l ∷ ls) are = labels_drop i ls (and_parts (is_label l) (are_labels ls) are).1

label_at : (i : ℕ) (ls : List (List ℕ)) → i < length ls → are_labels ls ≡ true → has_no_digit (get_or ls i []) ≡ true
label_at i [] there are = absurd (omega (arith, there))
label_at zero ([] ∷ ls) there are = absurd (let f : ⊥ = cc in f)
label_at zero ((b ∷ l) ∷ ls) there are = (and_parts (has_no_digit (b ∷ l)) (are_labels ls) are).0
label_at (suc i) (l ∷ ls) there are = label_at i ls (omega (arith, there)) (and_parts (is_label l) (are_labels ls) are).1

fields_at : (i : ℕ) (ls : List (List ℕ)) (ns end : List ℕ) → i < length ls → i < length ns
    → fields (drop i ls) (drop i ns) end ≡ get_or ls i [] ++ (decimal (get_or ns i 0) ++ fields (drop (i + 1) ls) (drop (i + 1) ns) end)
fields_at i ls ns end there_l there_n = rw (add-one, drop-cons ls i [] there_l, drop-cons ns i 0 there_n) refl

take_set : (xs ys : List ℕ) (i v : ℕ) → i < length xs → i < length ys → take i xs ≡ take i ys → v ≡ get_or ys i 0 → take (i + 1) (set xs i v) ≡ take (i + 1) ys
take_set xs ys i v there_x there_y same is =
    let long : i < length (set xs i v) = omega (arith, length-set xs i v) in
    take_more (set xs i v) i 0 long
    ∙ ap (λ t. t ++ get_or (set xs i v) i 0 ∷ []) (take-set xs i v ∙ same)
    ∙ ap (λ w. take i ys ++ w ∷ []) (get_or-set_same xs i v 0 there_x ∙ is)
    ∙ sym (take_more ys i 0 there_y)

-- the numbers of a header, guessed one more
pub guessed_more : (text rest behind numbers : List ℕ) (i number : ℕ) → i < 13 → length numbers ≡ 13
    → ((label more : List ℕ) (n : ℕ) → n < 256 → All (λ byte. ¬ IsDigit byte) label → Stops IsDigit more → rest ≡ label ++ (decimal n ++ more) → (number ≡ n) × (behind ≡ more))
    → ((h : Header) (end : List ℕ) → FitsHeader h → text ≡ header_line h ++ end
    → (take i numbers ≡ take i (numbers_of h)) × (rest ≡ fields (drop i labels) (drop i (numbers_of h)) (10 ∷ end)))
    → (h : Header) (end : List ℕ) → FitsHeader h → text ≡ header_line h ++ end
    → (take (i + 1) (set numbers i number) ≡ take (i + 1) (numbers_of h)) × (behind ≡ fields (drop (i + 1) labels) (drop (i + 1) (numbers_of h)) (10 ∷ end))
guessed_more text rest behind numbers i number there long guess so_far h end fits same =
    let before = so_far h end fits same in
    let thirteen : length (numbers_of h) ≡ 13 = refl in
    let found = guess (get_or labels i []) (fields (drop (i + 1) labels) (drop (i + 1) (numbers_of h)) (10 ∷ end)) (get_or (numbers_of h) i 0) (fits.numbers.each i)
    (without_digits (get_or labels i []) (label_at i labels there refl)) (fields_stop (drop (i + 1) labels) (drop (i + 1) (numbers_of h)) (10 ∷ end) (labels_drop (i + 1) labels refl) (end_stops end))
    (before.1 ∙ fields_at i labels (numbers_of h) (10 ∷ end) there there) in
    (take_set numbers (numbers_of h) i number (omega (arith, long)) there before.0 found.0, found.1)

-- and so the header
pub guessed_header : (h : Header) → FitsHeader h → header_of (numbers_of h) ≡ h
guessed_header h fits = (IsHeader-written h fits.long fits.version fits.some).reads

-- thirteen bytes are the numbers of a header
pub header_bytes : (ns : List ℕ) → ((i : ℕ) → get_or ns i 0 < 256) → AreBytes (
    get_or ns 0 0 ∷ get_or ns 1 0 ∷ get_or ns 2 0 ∷ get_or ns 3 0 ∷ get_or ns 4 0 ∷ get_or ns 5 0 ∷ get_or ns 6 0 ∷ get_or ns 7 0 ∷ get_or ns 8 0
    ∷ get_or ns 9 0 ∷ get_or ns 10 0 ∷ get_or ns 11 0 ∷ get_or ns 12 0 ∷ [])
header_bytes ns are =
    AreBytes-cons _ _ (are 0) (AreBytes-cons _ _ (are 1) (AreBytes-cons _ _ (are 2) (AreBytes-cons _ _ (are 3) (AreBytes-cons _ _ (are 4)
    (AreBytes-cons _ _ (are 5) (AreBytes-cons _ _ (are 6) (AreBytes-cons _ _ (are 7) (AreBytes-cons _ _ (are 8) (AreBytes-cons _ _ (are 9)
    (AreBytes-cons _ _ (are 10) (AreBytes-cons _ _ (are 11) (AreBytes-cons _ _ (are 12) AreBytes-nil))))))))))))

zero_at : (n k : ℕ) → get_or (replicate n 0) k 0 < 256
zero_at zero k = omega arith
zero_at (suc n) zero = omega arith
zero_at (suc n) (suc k) = zero_at n k

pub no_number : (k : ℕ) → get_or (replicate 13 0) k 0 < 256
no_number k = zero_at 13 k

pub small_set : (ns : List ℕ) (i v : ℕ) → v < 256 → ((k : ℕ) → get_or ns k 0 < 256) → (k : ℕ) → get_or (set ns i v) k 0 < 256
small_set [] i v small all k = all k
small_set (n ∷ ns) zero v small all zero = small
small_set (n ∷ ns) zero v small all (suc k) = all (suc k)
small_set (n ∷ ns) (suc i) v small all zero = all zero
small_set (n ∷ ns) (suc i) v small all (suc k) = small_set ns i v small (λ j. all (suc j)) k

whole_take : (i : ℕ) (xs : List ℕ) → length xs ≤ i → take i xs ≡ xs
whole_take zero [] long = refl
whole_take zero (x ∷ xs) long = absurd (omega (arith, long))
whole_take (suc i) [] long = refl
whole_take (suc i) (x ∷ xs) long = ap (λ t. x ∷ t) (whole_take i xs (omega (arith, long)))

pub all_taken : (xs ys : List ℕ) (i : ℕ) → 13 ≤ i → length xs ≡ 13 → length ys ≡ 13 → take i xs ≡ take i ys → xs ≡ ys
all_taken xs ys i there long_x long_y same = sym (whole_take i xs (omega (arith, long_x))) ∙ same ∙ whole_take i ys (omega (arith, long_y))
