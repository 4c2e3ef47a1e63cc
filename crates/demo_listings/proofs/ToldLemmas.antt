-- From what is found of two demos, where they first differ.
use Rattle.std.specs.Prelude.{MatchBool, codes}
use Rattle.std.proofs.Common.{◌≡◌, ◌≢◌, ℕ, Bool, true, false, List, [], length, slice_index, sym, subst}
use Rattle.later_demos.specs.Demo.{Demo}
use Rattle.later_demos.specs.Part.{part_of}
use Rattle.demo_listings.specs.Differences.{DifferAt, HeadsDiffer, SameWrappers, flags_of, frame_of, in_flags, in_frame, in_frame_size, in_header, in_map_name, in_version, in_wrapper, map_name_of, number_text, part_line, told, version_of, wrapper_text}
use Rattle.demo_listings.specs.Listing.{labelled, numbers_text}

-- two values are compared, and where they differ a line is told
abbrev pub Found : {X : Type 0} → X → X → List ℕ → List ℕ → Bool → Type 0
Found x y told line result = MatchBool result ((x ≢ y) × (line ≡ told)) ((x ≡ y) × (line ≡ []))

pub differs : {X : Type 0} (x y : X) (told line : List ℕ) (result : Bool) → Found x y told line result → result ≡ true → (x ≢ y) × (line ≡ told)
differs x y told line true found is = found
differs x y told line false found is = absurd (let f : ⊥ = cc in f)

pub agrees : {X : Type 0} (x y : X) (told line : List ℕ) (result : Bool) → Found x y told line result → result ≡ false → (x ≡ y) × (line ≡ [])
agrees x y told line true found is = absurd (let f : ⊥ = cc in f)
agrees x y told line false found is = found

-- a first of two comparisons tells, or the next does
abbrev pub Told : Demo → Demo → List ℕ → Bool → Type 0 → Type 0
Told a b line result Same = MatchBool result (HeadsDiffer a b line) (Same × (line ≡ []))

module _ (a b : Demo) where
  pub kind_told : (line : List ℕ) → (wrapper_text a.wrapper ≢ wrapper_text b.wrapper)
      × (line ≡ told (codes "wrapper") (wrapper_text a.wrapper) (wrapper_text b.wrapper)) → HeadsDiffer a b line
  kind_told line p = subst (HeadsDiffer a b) (sym p.1) (in_wrapper p.0)

  pub flags_told : (line : List ℕ) → wrapper_text a.wrapper ≡ wrapper_text b.wrapper → (flags_of a.wrapper ≢ flags_of b.wrapper)
      × (line ≡ told (codes "flags") (number_text (flags_of a.wrapper)) (number_text (flags_of b.wrapper))) → HeadsDiffer a b line
  flags_told line kind p = subst (HeadsDiffer a b) (sym p.1) (in_flags kind p.0)

  pub map_names_told : (line : List ℕ) (result : Bool) → wrapper_text a.wrapper ≡ wrapper_text b.wrapper → flags_of a.wrapper ≡ flags_of b.wrapper
      → Found (map_name_of a.wrapper) (map_name_of b.wrapper) (told (codes "map name") (numbers_text (map_name_of a.wrapper)) (numbers_text (map_name_of b.wrapper))) line result
      → MatchBool result (HeadsDiffer a b line) (SameWrappers a b × (line ≡ []))
  map_names_told line true kind flags p = subst (HeadsDiffer a b) (sym p.1) (in_map_name kind flags p.0)
  map_names_told line false kind flags p = (record { kind = kind; flags = flags; map_name = p.0 }, p.1)

  pub version_told : (line : List ℕ) → SameWrappers a b → (version_of a ≢ version_of b)
      × (line ≡ told (codes "version") (number_text (version_of a)) (number_text (version_of b))) → HeadsDiffer a b line
  version_told line wrappers p = subst (HeadsDiffer a b) (sym p.1) (in_version wrappers p.0)

  pub part_told : (line : List ℕ) (place : ℕ) → SameWrappers a b → version_of a ≡ version_of b → DifferAt a.header b.header place
      → line ≡ part_line (part_of a.layout a.header place) a b place → HeadsDiffer a b line
  part_told line place wrappers version differ is = subst (HeadsDiffer a b) (sym is) (in_header place wrappers version differ)

  pub size_told : (line : List ℕ) → SameWrappers a b → a.header ≡ b.header → (length (frame_of a) ≢ length (frame_of b))
      × (line ≡ told (codes "key frame") (number_text (length (frame_of a))) (number_text (length (frame_of b)))) → HeadsDiffer a b line
  size_told line wrappers header p = subst (HeadsDiffer a b) (sym p.1) (in_frame_size wrappers header p.0)

  pub frame_told : (line : List ℕ) (place : ℕ) → SameWrappers a b → a.header ≡ b.header → length (frame_of a) ≡ length (frame_of b)
      → DifferAt (frame_of a) (frame_of b) place
      → line ≡ told (labelled (codes "key frame byte") place) (number_text (slice_index (frame_of a) place)) (number_text (slice_index (frame_of b) place))
      → HeadsDiffer a b line
  frame_told line place wrappers header long differ is = subst (HeadsDiffer a b) (sym is) (in_frame place wrappers header long differ)

-- what one comparison says of the whole
pub first_differs : (a b : Demo) (line : List ℕ) (result : Bool) (Same : Type 0) → Told a b line result Same → result ≡ true → HeadsDiffer a b line
first_differs a b line true Same found is = found
first_differs a b line false Same found is = absurd (let f : ⊥ = cc in f)

pub first_agrees : (a b : Demo) (line : List ℕ) (result : Bool) (Same : Type 0) → Told a b line result Same → result ≡ false → Same × (line ≡ [])
first_agrees a b line true Same found is = absurd (let f : ⊥ = cc in f)
first_agrees a b line false Same found is = found
