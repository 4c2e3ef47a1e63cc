-- How the last entry of each name comes to be known.
use Rattle.std.proofs.Common.{◌≡◌, ◌≢◌, ◌↔◌, Bool, true, false, ℕ, ◌+◌, ◌<◌, ◌≤◌, inl, inr, List, length, Option, Some, None, IsSome, refl, sym, ap, subst, ◌∙◌, arith}
use Rattle.std.specs.Prelude.{codes, IfNone, IfSome, IsTrue}
use Rattle.std.specs.BTreeMap.{BTreeMap, Updates}
use Rattle.std.specs.Cmp.Lexicographic.{slice_cmp}
use Rattle.std.specs.List.{slice_get}
use Rattle.std.specs.Ordering.{nat_cmp}
use Rattle.std.proofs.lemmas.Bool.{cases_eq}
use Rattle.std.proofs.lemmas.Option.{none-some, slice_get_within}
use Rattle.le_rec.specs.Name.{name_of, padded}
use Rattle.level_starts.specs.Holders.{holder_at, AreHolders, HasName, PutsHolder}
use Rattle.level_starts.proofs.HolderLemmas.{puts_from_updates, AreHolders-less, AreHolders-move, HasNames-put}
use Rattle.wad_dir.specs.Entries.{names}
use Rattle.wad_dir.specs.Wad.{Wad}
use Rattle.wad_dir.specs.Winner.{Wins}
use Rattle.wad_dir.proofs.WinnerLemmas.{Wins-one}
use Rattle.game_warnings.specs.Misplaced.{HasFlatEnds, HaveFlatEnds, IsOutside}
use Rattle.game_warnings.specs.declared.flats.FlatEnds.{FlatEnds}
use Rattle.game_warnings.specs.Winners.{AreWinners, AreWinnersBelow}

-- one entry more
module _ (all : List (List ℕ)) (g : ℕ) (bytes : List ℕ) (at : slice_get all g ≡ Some (name_of bytes)) (stored : bytes ≡ padded (name_of bytes)) where
  pub winners_more : (before after : BTreeMap (List ℕ) ℕ) → Updates (slice_cmp nat_cmp) before after bytes (Some g) → AreWinnersBelow all g before
      → AreWinnersBelow all (g + 1) after
  winners_more before after updates are =
      let puts = puts_from_updates {before = before} {after = after} updates in
      record {
        last = AreHolders-move all g bytes at stored puts are.last;
        named = λ h name below named. elim (cases_eq h g) [
          | inl here ↦
              let both : Some (name_of bytes) ≡ Some name = sym at ∙ subst (λ k. slice_get all k ≡ Some name) here named in
              let one : name_of bytes ≡ name = cc in
              let is : padded name ≡ bytes = ap padded (sym one) ∙ sym stored in
              rw (is, puts.put) refl
          | inr other ↦ HasNames-put puts (padded name) (are.named h name (omega (arith, below, other)) named)
        ];
      }

-- past the last entry
pub winners_all : (all : List (List ℕ)) (n : ℕ) (winners : BTreeMap (List ℕ) ℕ) → length all ≤ n → AreWinnersBelow all n winners → AreWinners all winners
winners_all all n winners past are = record {
  last = AreHolders-less all n (length all) winners past are.last;
  named = λ g name below named. are.named g name (omega (arith, past, below)) named;
}

-- one number more, past the last entry
pub winners_past : (all : List (List ℕ)) (n : ℕ) (winners : BTreeMap (List ℕ) ℕ) → length all ≤ n → AreWinnersBelow all n winners → AreWinnersBelow all (n + 1) winners
winners_past all n winners past are = record {
  last = λ bytes holder is.
      let held = are.last bytes holder is in
      record {
        stored = held.stored;
        named = held.named;
        last = λ h above below same. held.last h above (omega (arith, past, slice_get_within all h (name_of bytes) same)) same;
      };
  named = λ g name below named. are.named g name (omega (arith, past, slice_get_within all g name named)) named;
}

-- no entry so far
pub winners_none : (all : List (List ℕ)) (winners : BTreeMap (List ℕ) ℕ) → ((bytes : List ℕ) → holder_at winners bytes ≡ None) → AreWinnersBelow all 0 winners
winners_none all winners none = record {
  last = λ bytes holder is. absurd (none-some holder (sym (none bytes) ∙ is));
  named = λ g name below named. absurd (omega (arith, below));
}

-- what is known of a name
module _ (all : List (List ℕ)) (winners : BTreeMap (List ℕ) ℕ) (are : AreWinners all winners) (name bytes : List ℕ) (is : bytes ≡ padded name) (own : name_of bytes ≡ name) where
  pub winner_some : (g : ℕ) → holder_at winners bytes ≡ Some g → Wins all name g
  winner_some g at =
      let holder = are.last bytes g at in
      record {
        named = holder.named ∙ ap Some own;
        last = λ h above same. holder.last h above (slice_get_within all h name same) (same ∙ ap Some (sym own));
      }

  pub winner_none : holder_at winners bytes ≡ None → (g : ℕ) → slice_get all g ≢ Some name
  winner_none none g named =
      let there = are.named g name (slice_get_within all g name named) named in
      let gone : holder_at winners (padded name) ≡ None = subst (λ b. holder_at winners b ≡ None) is none in
      absurd (let no = rw gone at there in cc)

-- an entry is outside where it isn't between the ends that are known
pub outside_is : (files : List Wad) (name : List ℕ) (ends : FlatEnds) (g : ℕ) (b : Bool) → HaveFlatEnds files ends.start ends.end → Wins (names files) name g
    → IsTrue b ↔ (¬ ((ends.start < g) × (g < ends.end))) → IsTrue b ↔ IsOutside files name
outside_is files name ends g b have wins is = (
  λ t. record { start = ends.start; end = ends.end; ends = have; g = g; wins = wins; out = is.0 t },
  λ out.
      let from : out.start ≡ ends.start = Wins-one (names files) (codes "F_START") out.start ends.start out.ends.starts have.starts in
      let to : out.end ≡ ends.end = Wins-one (names files) (codes "F_END") out.end ends.end out.ends.ends have.ends in
      let own : out.g ≡ g = Wins-one (names files) name out.g g out.wins wins in
      is.1 (λ between. out.out (omega (arith, between.0, from, own), omega (arith, between.1, to, own))),
)

pub outside_none : (files : List Wad) (name : List ℕ) → ((g : ℕ) → slice_get (names files) g ≢ Some name) → IsTrue false ↔ IsOutside files name
outside_none files name none = (λ no. absurd (let gone = no in cc), λ out. absurd (none out.g out.wins.named))

pub outside_unknown : (files : List Wad) (name : List ℕ) → (¬ HasFlatEnds files) → IsTrue false ↔ IsOutside files name
outside_unknown files name none = (λ no. absurd (let gone = no in cc), λ out. absurd (none (out.start, out.end, out.ends)))
