-- Files as they are read one after another.
use Rattle.std.proofs.Common.{◌≡◌, ℕ, ◌+◌, ◌-◌, ◌<◌, ◌≤◌, ◌⊎◌, inl, inr, List, [], ◌∷◌, ◌++◌, length, take, drop, map, min, get_or, sym, ap, ◌∙◌, arith, subst, Option, Some, IfSome, None, Bool, true, false, nat_lt, refl}
use Rattle.std.specs.Io.KnownBytes.{Keeps}
use Rattle.std.proofs.lemmas.Bool.{ltb-false, ltb-true}
use Rattle.std.proofs.lemmas.List.Sums.{sum_by_push}
use Rattle.std.proofs.lemmas.Option.{slice_get-get_or, slice_get-map}
use Rattle.std.specs.List.{slice_get}
use Rattle.std.specs.Option.{option_map}
use Rattle.std.specs.Prelude.{IfErr, Result, Ok, Err}
use Rattle.std.proofs.lemmas.List.{take_more, drop_more, take-append-drop, map_push, map-append, length-map, length-take-le}
use Rattle.line_io.specs.Storage.{AreHeld, IsAnswered, IsHeld, IsOpenedFault, IsReached, RefusesFile, RefusesFiles, RefusesNext, total_length}
use Rattle.line_io.specs.declared.input.TheConstants.{MAX_READ}
use Rattle.line_io.specs.declared.storage.StorageFault.{StorageFault}
use Rattle.line_io.specs.declared.storage.StorageFault.TheVariants.{Unopened, Unread, TooLong, Memory}

-- one more file
AreHeld-push : (held : List ℕ → Option (List ℕ)) (paths files : List (List ℕ)) (path file : List ℕ) → AreHeld held paths files
    → IsHeld MAX_READ (held path) file → AreHeld held (paths ++ path ∷ []) (files ++ file ∷ [])
AreHeld-push held [] [] path file all one = (one, tt)
AreHeld-push held (p ∷ paths) (f ∷ files) path file all one = (all.0, AreHeld-push held paths files path file all.1 one)
AreHeld-push held [] (f ∷ files) path file all one = absurd all
AreHeld-push held (p ∷ paths) [] path file all one = absurd all

-- a file that is held within a limit is held within a greater one
pub held_within : (held : Option (List ℕ)) (limit left : ℕ) (file : List ℕ) → limit ≡ min left MAX_READ → IsHeld limit held file → IsHeld MAX_READ held file
held_within held limit left file is held_file = record { keeps = held_file.keeps; few = omega (arith, is, held_file.few) }

-- what is too long for the limit is larger than any file, or than what is left
pub next_refused : (most left limit : ℕ) (files : List (List ℕ)) (held : Option (List ℕ)) (fault : StorageFault) → limit ≡ min left MAX_READ
    → total_length files + left ≡ most → RefusesFile limit held fault → RefusesNext most files held fault
next_refused most left limit files held Unopened is all refused = tt
next_refused most left limit files held Unread is all refused = tt
next_refused most left limit files held Memory is all refused = tt
next_refused most left limit files None TooLong is all refused = tt
next_refused most left limit files (Some file) TooLong is all refused = go (nat_lt MAX_READ (length file)) refl
  where
    go : (large : Bool) → nat_lt MAX_READ (length file) ≡ large → (MAX_READ < length file) ⊎ (most < total_length files + length file)
    go true e = inl (ltb-true MAX_READ (length file) e)
    go false e = inr (omega (arith, is, all, refused, ltb-false MAX_READ (length file) e))

-- what is left behind one more file
pub total_length-push : (files : List (List ℕ)) (file : List ℕ) (left most : ℕ) → total_length files + left ≡ most → length file ≤ left
    → total_length (files ++ file ∷ []) + (left - length file) ≡ most
total_length-push files file left most all fits = let e = sum_by_push length files file in omega arith

module _ {P : Type 0} (held : List ℕ → Option (List ℕ)) (path_of : P → List ℕ) (paths : List P) (path : P) (i : ℕ) (within : i < length paths) (at : path ≡ get_or paths i path) where
  pub held_more : (files : List (List ℕ)) (file : List ℕ) → AreHeld held (map path_of (take i paths)) files → IsHeld MAX_READ (held (path_of path)) file
      → AreHeld held (map path_of (take (i + 1) paths)) (files ++ file ∷ [])
  held_more files file so_far one =
      let e : map path_of (take i paths) ++ path_of path ∷ [] ≡ map path_of (take (i + 1) paths) =
      ap (λ p. map path_of (take i paths) ++ path_of p ∷ []) at
      ∙ sym (map_push path_of (take i paths) (get_or paths i path)) ∙ ap (map path_of) (sym (take_more paths i path within)) in
      subst (λ ps. AreHeld held ps (files ++ file ∷ [])) e (AreHeld-push held (map path_of (take i paths)) files (path_of path) file so_far one)

  abbrev reached : (most : ℕ) (files : List (List ℕ)) → AreHeld held (map path_of (take i paths)) files → total_length files ≤ most → IsReached most held (map path_of paths) i
  reached most files so_far fits = record {
    before = map path_of (take i paths);
    path = path_of path;
    after = map path_of (drop (i + 1) paths);
    stands =
        ap (map path_of) (sym (take-append-drop i paths) ∙ ap (λ xs. take i paths ++ xs) (drop_more paths i path within))
        ∙ map-append path_of (take i paths) (get_or paths i path ∷ drop (i + 1) paths)
        ∙ ap (λ p. map path_of (take i paths) ++ (p ∷ map path_of (drop (i + 1) paths))) (ap path_of (sym at));
    placed = sym (length-map (take i paths) path_of ∙ length-take-le i paths (omega arith));
    files = files;
    read = so_far;
    fits = fits;
  }

  -- the next file isn't read
  pub refused_at : (most : ℕ) (files : List (List ℕ)) (fault : StorageFault) → AreHeld held (map path_of (take i paths)) files → total_length files ≤ most
      → RefusesNext most files (held (path_of path)) fault → RefusesFiles most held (map path_of paths) (record { place = i; fault = fault })
  refused_at most files fault so_far fits why = record { reached = reached most files so_far fits; why = why }

-- an opened file is what was answered where it isn't read
pub opened_first : {File V : Type 0} (remaining : File → Option (List ℕ)) (held : Option (List ℕ)) (refused : Type 0) (result : Result V StorageFault) (file : File)
    → Keeps held (remaining file) → IfErr result IsOpenedFault → IfErr result (IsAnswered remaining held refused)
opened_first remaining held refused (Ok v) file keeps opened = tt
opened_first remaining held refused (Err Unopened) file keeps opened = absurd opened
opened_first remaining held refused (Err Unread) file keeps opened = (file, keeps)
opened_first remaining held refused (Err TooLong) file keeps opened = (file, keeps)
opened_first remaining held refused (Err Memory) file keeps opened = tt

-- what holds of the path at a place, by its bytes
pub holds_at : {P : Type 0} (path_of : P → List ℕ) (paths : List P) (path : P) (i : ℕ) → i < length paths → path ≡ get_or paths i path → (holds : List ℕ → Type 0)
    → holds (path_of path) → IfSome (slice_get (map path_of paths) i) holds
holds_at path_of paths path i within at holds told =
    let found : slice_get (map path_of paths) i ≡ Some (path_of path) =
    slice_get-map path_of paths i ∙ ap (option_map path_of) (slice_get-get_or paths i path within) ∙ ap (λ p. Some (path_of p)) (sym at) in
    subst (λ o. IfSome o holds) (sym found) told
