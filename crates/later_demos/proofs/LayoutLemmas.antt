-- The table of versions is sound: its places are inside its headers.
use Rattle.std.proofs.Common.{◌≡◌, ◌≢◌, ℕ, ◌+◌, ◌≤◌, Option, Some, None, IfSome, List, [], ◌∷◌, ◌++◌, find, length, option_map, refl, sym, ap, ◌∙◌, subst, arith, lit≤}
use Rattle.std.proofs.lemmas.Bool.{cond_both}
use Rattle.std.proofs.lemmas.Option.{none-some}
use Rattle.later_demos.specs.Header.{options_in}
use Rattle.later_demos.specs.Layout.{covers, layout_of, signature_of, versions}
use Rattle.later_demos.specs.declared.layout.Engine.{Engine}
use Rattle.later_demos.specs.declared.layout.Engine.TheVariants.{Early, Doom, Boom, Mbf, PrBoom, Mbf21}
use Rattle.later_demos.specs.declared.layout.Layout.{Layout}
use Rattle.later_demos.specs.declared.layout.VersionRow.{VersionRow}
use Rattle.later_demos.proofs.FrontLemmas.{left_index}

-- the place of the count of options is inside a header that has one
abbrev pub CountsWithin : Engine → ℕ → Type 0
CountsWithin Mbf21 size = 33 ≤ size
CountsWithin _ size = Unit {0}

pub record IsSound (layout : Layout) : Type 0 where
  pub least : 13 ≤ layout.size
  pub most : layout.size ≤ 301
  pub players : layout.players + 4 ≤ layout.size
  pub few : layout.players ≤ 269
  pub signed : 1 + length (signature_of layout.engine) ≤ layout.size
  pub counted : CountsWithin layout.engine layout.size

-- what holds of each row holds of the one that covers a version
abbrev AllSound : List VersionRow → Type 0
AllSound [] = Unit {0}
AllSound (row ∷ rows) = IsSound row.layout × AllSound rows

row_sound : (version : ℕ) (rows : List VersionRow) → AllSound rows
    → IfSome (option_map (λ row. row.layout) (find (covers version) rows)) IsSound
row_sound version [] all = tt
row_sound version (row ∷ rows) all =
    cond_both (covers version row) (Some row) (find (covers version) rows)
    (λ o. IfSome (option_map (λ one. one.layout) o) IsSound)
    (λ _. all.0) (λ _. row_sound version rows all.1)

rows_sound : AllSound versions
rows_sound = (
  record { least = lit≤ tt; most = lit≤ tt; players = lit≤ tt; few = lit≤ tt; signed = lit≤ tt; counted = tt },
  (
    record { least = lit≤ tt; most = lit≤ tt; players = lit≤ tt; few = lit≤ tt; signed = lit≤ tt; counted = tt },
    (
      record { least = lit≤ tt; most = lit≤ tt; players = lit≤ tt; few = lit≤ tt; signed = lit≤ tt; counted = tt },
      (
        record { least = lit≤ tt; most = lit≤ tt; players = lit≤ tt; few = lit≤ tt; signed = lit≤ tt; counted = tt },
        (
          record { least = lit≤ tt; most = lit≤ tt; players = lit≤ tt; few = lit≤ tt; signed = lit≤ tt; counted = tt },
          (
            record { least = lit≤ tt; most = lit≤ tt; players = lit≤ tt; few = lit≤ tt; signed = lit≤ tt; counted = tt },
            (
              record { least = lit≤ tt; most = lit≤ tt; players = lit≤ tt; few = lit≤ tt; signed = lit≤ tt; counted = tt },
              (
                record { least = lit≤ tt; most = lit≤ tt; players = lit≤ tt; few = lit≤ tt; signed = lit≤ tt; counted = tt },
                (
                  record { least = lit≤ tt; most = lit≤ tt; players = lit≤ tt; few = lit≤ tt; signed = lit≤ tt; counted = lit≤ tt },
                  tt,
                ),
              ),
            ),
          ),
        ),
      ),
    ),
  ),
)

pub layout_sound : (version : ℕ) (layout : Layout) → layout_of version ≡ Some layout → IsSound layout
unfolding layout_of
layout_sound version layout is =
    let P : Option Layout → Type 0 = λ o. IfSome o IsSound in
    subst P is (row_sound version versions rows_sound)

-- headers are short
pub row_small : (version : ℕ) (row : VersionRow) → find (covers version) versions ≡ Some row
    → (row.layout.size ≤ 301) × (row.layout.players ≤ 269)
unfolding layout_of
row_small version row is =
    let sound = layout_sound version row.layout (ap (λ o. option_map (λ (one : VersionRow). one.layout) o) is) in
    (sound.most, sound.few)

-- a wrapper's first byte is no version
no_255 : layout_of 255 ≡ None
unfolding layout_of
no_255 = refl

pub not_255 : (version : ℕ) (layout : Layout) → layout_of version ≡ Some layout → version ≢ 255
not_255 version layout is same = none-some layout (sym no_255 ∙ ap layout_of (sym same) ∙ is)

-- how many options there are doesn't depend on what follows
pub options_left : (engine : Engine) (size : ℕ) (front more : List ℕ) → CountsWithin engine size
    → size ≤ length front → options_in engine (front ++ more) ≡ options_in engine front
options_left Mbf21 size front more within fits = left_index front more 32 (omega arith)
options_left Early size front more within fits = refl
options_left Doom size front more within fits = refl
options_left Boom size front more within fits = refl
options_left Mbf size front more within fits = refl
options_left PrBoom size front more within fits = refl
