-- Bytes are read as a demo or refused.
use Rattle.std.proofs.Common.{◌≡◌, ℕ, Option, Some, None, List, [], ◌∷◌, slice_index, ◌⊎◌, inl, inr, refl, sym, ap, ◌∙◌}
use Rattle.std.proofs.lemmas.Bool.{cases_eq}
use Rattle.later_demos.specs.Command.{left_in}
use Rattle.later_demos.specs.Demo.{Demo, IsDemo}
use Rattle.later_demos.specs.Header.{refusal_of}
use Rattle.later_demos.specs.Laws.{ReadOrRefused}
use Rattle.later_demos.specs.Refusal.{RefusesDemo, behind_frame, behind_header, behind_wrapper, first_refusal, form_of, frame_of, header_of, layout_in}
use Rattle.later_demos.specs.Wrapper.{size_of, wrapper_of}
use Rattle.later_demos.specs.declared.fault.LaterFault.{LaterFault}
use Rattle.later_demos.specs.declared.layout.Layout.{Layout}
use Rattle.later_demos.proofs.DemoLemmas.{cut_demo, first_passed, first_refuses, found_demo, inner_passed}

-- an option is none, or has something
cases_of : {A : Type 0} (o : Option A) → (o ≡ None) ⊎ ((x : A) × (o ≡ Some x))
cases_of None = inl refl
cases_of (Some x) = inr (x, refl)

-- bytes that no reason refuses before the commands have a version that is read
version_read : (bytes : List ℕ) → first_refusal bytes ≡ None → (layout : Layout) × (layout_in bytes ≡ Some layout)
version_read bytes allowed =
    let header = (inner_passed (wrapper_of bytes) (behind_wrapper bytes) (first_passed bytes allowed).1).0 in
    elim (cases_of (layout_in bytes)) [
      | inr found ↦ found
      | inl none ↦
          let no_header =
          sym (ap (λ o. refusal_of o (size_of (wrapper_of bytes)) (behind_wrapper bytes)) none) ∙ header in
          absurd (let f : ⊥ = cc in f)
    ]

-- behind the most commands stands the marker or not
module _ (bytes : List ℕ) (layout : Layout) (allowed : first_refusal bytes ≡ None)
    (version : layout_in bytes ≡ Some layout) where
  abbrev header : List ℕ
  header = header_of (behind_wrapper bytes)

  abbrev behind : List ℕ
  behind = behind_header (behind_wrapper bytes)

  abbrev commands : List ℕ
  commands = behind_frame (wrapper_of bytes) behind

  decided : (left : List ℕ) → left_in (form_of layout (wrapper_of bytes)) commands ≡ left
      → ((demo : Demo) × IsDemo bytes demo) ⊎ ((fault : LaterFault) × RefusesDemo bytes fault)
  decided [] is =
      inr (
        _,
        cut_demo bytes (wrapper_of bytes) layout header commands (frame_of (wrapper_of bytes) behind) allowed refl version refl refl refl
            (λ more e. let no_byte = sym is ∙ e in let f : ⊥ = cc in f),
      )
  decided (b ∷ more) is = elim (cases_eq b 128) [
    | inl marked ↦
        inl (
          _,
          found_demo bytes (wrapper_of bytes) layout header commands (frame_of (wrapper_of bytes) behind) allowed refl version refl refl refl more
              (is ∙ ap (λ (x : ℕ). x ∷ more) marked),
        )
    | inr unmarked ↦
        inr (
          _,
          cut_demo bytes (wrapper_of bytes) layout header commands (frame_of (wrapper_of bytes) behind) allowed refl version refl refl refl
              (λ others e. let same = sym is ∙ e in let marked : b ≡ 128 = ap (λ bytes. slice_index bytes 0) same in unmarked marked),
        )
  ]

pub read_or_refused : ReadOrRefused
read_or_refused bytes = elim (cases_of (first_refusal bytes)) [
  | inr first ↦ inr (first.0, first_refuses bytes first.0 first.1)
  | inl allowed ↦
      let version = version_read bytes allowed in
      decided bytes version.0 allowed version.1 _ refl
]
