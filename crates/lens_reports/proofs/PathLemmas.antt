-- The paths that a list's parts give.
use Rattle.std.proofs.Common.{◌≡◌, ℕ, ◌+◌, ◌<◌, length, take, get_or, Bool, true, false, Bor, List, [], ◌∷◌, ◌++◌, map, filter, refl, sym, ap, ◌∙◌}
use Rattle.std.proofs.lemmas.List.{append_assoc, append-nil, map_push, take_more}
use Rattle.std.proofs.lemmas.List.Elements.{filter-append}

kept_one : (p : List ℕ → Bool) (x : List ℕ) → p x ≡ true → filter p (x ∷ []) ≡ x ∷ []
kept_one p x kept = rw kept refl

dropped_one : (p : List ℕ → Bool) (x : List ℕ) → p x ≡ false → filter p (x ∷ []) ≡ []
dropped_one p x none = rw none refl

module _ (p : List ℕ → Bool) (before items parts : List (Bor (List ℕ))) (part : Bor (List ℕ)) where
  -- one path more
  pub part_kept : map (λ path. path.now) items ≡ map (λ path. path.now) before ++ filter p (map (λ path. path.now) parts) → p part.now ≡ true
      → map (λ path. path.now) (items ++ part ∷ []) ≡ map (λ path. path.now) before ++ filter p (map (λ path. path.now) (parts ++ part ∷ []))
  part_kept so_far kept =
      map_push (λ path. path.now) items part ∙ ap (λ paths. paths ++ part.now ∷ []) so_far
      ∙ append_assoc (map (λ path. path.now) before) (filter p (map (λ path. path.now) parts)) (part.now ∷ [])
      ∙ ap (λ paths. map (λ path. path.now) before ++ paths)
      (ap (λ paths. filter p (map (λ path. path.now) parts) ++ paths) (sym (kept_one p part.now kept))
      ∙ sym (filter-append p (map (λ path. path.now) parts) (part.now ∷ []))
      ∙ ap (filter p) (sym (map_push (λ path. path.now) parts part)))

  -- an empty one
  pub part_dropped : map (λ path. path.now) items ≡ map (λ path. path.now) before ++ filter p (map (λ path. path.now) parts) → p part.now ≡ false
      → map (λ path. path.now) items ≡ map (λ path. path.now) before ++ filter p (map (λ path. path.now) (parts ++ part ∷ []))
  part_dropped so_far none =
      so_far
      ∙ ap (λ paths. map (λ path. path.now) before ++ paths)
      (sym (append-nil (filter p (map (λ path. path.now) parts)))
      ∙ ap (λ paths. filter p (map (λ path. path.now) parts) ++ paths) (sym (dropped_one p part.now none))
      ∙ sym (filter-append p (map (λ path. path.now) parts) (part.now ∷ []))
      ∙ ap (filter p) (sym (map_push (λ path. path.now) parts part)))

-- the paths of one word more
pub word_more : (paths files : List (Bor (List ℕ))) (path : Bor (List ℕ)) (i : ℕ) (d : Bor (List ℕ)) → i < length files
    → map (λ path. path.now) paths ≡ map (λ file. file.now) (take i files) → path.now ≡ (get_or files i d).now
    → map (λ path. path.now) (paths ++ path ∷ []) ≡ map (λ file. file.now) (take (i + 1) files)
word_more paths files path i d within so_far same =
    map_push (λ path. path.now) paths path ∙ ap (λ texts. texts ++ path.now ∷ []) so_far
    ∙ ap (λ text. map (λ file. file.now) (take i files) ++ text ∷ []) same
    ∙ sym (map_push (λ file. file.now) (take i files) (get_or files i d))
    ∙ ap (map (λ file. file.now)) (sym (take_more files i d within))
