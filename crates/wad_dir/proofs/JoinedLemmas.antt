-- The one list of several files' entries.
use Rattle.std.proofs.Common.{◌≡◌, ℕ, zero, suc, ◌+◌, ◌<◌, List, [], ◌∷◌, ◌++◌, length, take, drop, get_or, refl, sym, ap, ◌∙◌, arith}
use Rattle.std.specs.List.{slice_get}
use Rattle.std.proofs.lemmas.List.{append_assoc, length-append, length-map, length-take-le, take-append-drop, drop_more, take_more}
use Rattle.wad_dir.specs.Wad.{Wad}
use Rattle.wad_dir.specs.Entries.{listed_in, joined_from, joined}

-- an item of two joined lists
pub slice_get-append_left : {X : Type 0} (xs ys : List X) (i : ℕ) → i < length xs
    → slice_get (xs ++ ys) i ≡ slice_get xs i
slice_get-append_left [] ys i h = absurd (omega arith)
slice_get-append_left (x ∷ xs) ys zero h = refl
slice_get-append_left (x ∷ xs) ys (suc i) h = slice_get-append_left xs ys i (omega arith)

pub slice_get-append_right : {X : Type 0} (xs ys : List X) (i : ℕ)
    → slice_get (xs ++ ys) (length xs + i) ≡ slice_get ys i
slice_get-append_right [] ys i = let none : 0 + i ≡ i = omega arith in ap (slice_get ys) none
slice_get-append_right (x ∷ xs) ys i =
    let next : suc (length xs) + i ≡ suc (length xs + i) = omega arith in
    ap (slice_get (x ∷ (xs ++ ys))) next ∙ slice_get-append_right xs ys i

pub joined_from-append : (n : ℕ) (front back : List Wad)
    → joined_from n (front ++ back) ≡ joined_from n front ++ joined_from (n + length front) back
joined_from-append n [] back =
    let none : n ≡ n + 0 = omega arith in ap (λ k. joined_from k back) none
joined_from-append n (file ∷ front) back =
    let next : n + 1 + length front ≡ n + suc (length front) = omega arith in
    ap (λ xs. listed_in n file ++ xs) (joined_from-append (n + 1) front back
    ∙ ap (λ k. joined_from (n + 1) front ++ joined_from k back) next)
    ∙ sym (append_assoc (listed_in n file) (joined_from (n + 1) front)
    (joined_from (n + suc (length front)) back))

module _ (files : List Wad) (file : Wad) (i : ℕ) (within : i < length files)
    (at : file ≡ get_or files i file) where
  -- the list is that of the files before, the entries of the file, and those of the files after
  joined_around : joined files
      ≡ joined (take i files)
      ++ (listed_in (i + 1) file ++ joined_from (i + 1 + 1) (drop (i + 1) files))
  joined_around =
      let split : files ≡ take i files ++ (file ∷ drop (i + 1) files) =
      sym (take-append-drop i files)
      ∙ ap (λ xs. take i files ++ xs)
      (drop_more files i file within ∙ ap (λ f. f ∷ drop (i + 1) files) (sym at)) in
      let number : 1 + length (take i files) ≡ i + 1 =
      omega (arith, length-take-le i files (omega arith)) in
      ap joined split
      ∙ joined_from-append 1 (take i files) (file ∷ drop (i + 1) files)
      ∙ ap (λ n. joined (take i files) ++ joined_from n (file ∷ drop (i + 1) files)) number

  -- with one more file there are its entries more
  pub length-joined_more : length (joined (take (i + 1) files))
      ≡ length (joined (take i files)) + length file.entries
  length-joined_more =
      let entry_count : length (listed_in (1 + length (take i files)) file) ≡ length file.entries =
      length-map file.entries _ in
      let split : joined (take (i + 1) files)
      ≡ joined (take i files) ++ joined_from (1 + length (take i files)) (file ∷ []) =
      ap joined (take_more files i file within ∙ ap (λ f. take i files ++ f ∷ []) (sym at))
      ∙ joined_from-append 1 (take i files) (file ∷ []) in
      ap length split
      ∙ omega (
        arith,
        length-append (joined (take i files))
            (listed_in (1 + length (take i files)) file ++ []),
        length-append
            (listed_in (1 + length (take i files)) file) [],
      )

  pub length-joined_to : (n : ℕ) → n ≡ i + 1
      → length (joined (take n files)) ≡ length (joined (take i files)) + length file.entries
  length-joined_to n next = ap (λ k. length (joined (take k files))) next ∙ length-joined_more

  -- an entry of the file, by its number in the list
  pub listed_at : (j : ℕ) → j < length file.entries
      → slice_get (joined files) (length (joined (take i files)) + j)
      ≡ slice_get (listed_in (i + 1) file) j
  listed_at j below =
      let counted : length (listed_in (i + 1) file) ≡ length file.entries =
      length-map file.entries _ in
      let rest = joined_from (i + 1 + 1) (drop (i + 1) files) in
      ap (λ all. slice_get all (length (joined (take i files)) + j)) joined_around
      ∙ slice_get-append_right (joined (take i files)) (listed_in (i + 1) file ++ rest) j
      ∙ slice_get-append_left (listed_in (i + 1) file) rest j (omega arith)
