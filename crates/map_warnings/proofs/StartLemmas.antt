-- Facts about starts: each level lacks one of a first player, and has one count of deathmatch starts.
use Rattle.std.proofs.Common.{◌≡◌, ℕ, ◌<◌, pos, inl, inr, None, refl, ap, arith}
use Rattle.std.proofs.lemmas.Bool.{cases_eq, cases_lt}
use Rattle.map_level.specs.Level.{Level}
use Rattle.map_warnings.specs.Starts.{IsOfKind, HasNone, IsWithoutStart, deathmatch_starts}
use Rattle.map_warnings.specs.declared.warning.Warning.{Warning}
use Rattle.map_warnings.specs.declared.warning.Warning.TheVariants.{NoStart, FewStarts, Game}
use Rattle.level_codes.specs.declared.code.WarningCode.TheVariants.{W7, W8}
use Rattle.map_warnings.specs.Holds.{HoldsOf}
use Rattle.map_warnings.proofs.GameLemmas.{game_only}

one_without : (level : Level) (a b : ℕ) → IsWithoutStart level a → IsWithoutStart level b → a ≡ b
one_without level a b p q = elim (cases_lt a b) [
  | inl less ↦ let there = q.first a p.from less in absurd (p.none there.0 there.1)
  | inr past ↦ elim (cases_eq a b) [
    | inl same ↦ same
    | inr other ↦ let there = p.first b q.from (omega (arith, past, other)) in absurd (q.none there.0 there.1)
  ]
]

pub start_alone : (level : Level) (player : ℕ) → IsWithoutStart level player → (w : Warning) → HoldsOf level W7 w → w ≡ NoStart player
start_alone level player is (NoStart other) h = ap NoStart (one_without level other player h.1 is)
start_alone level player is (Game w) h = absurd (game_only None level W7 w refl h)
start_alone level player is v h = absurd (let other = h.0 in cc)

pub start_none : (level : Level) → ((player : ℕ) → ¬ IsWithoutStart level player) → (w : Warning) → ¬ HoldsOf level W7 w
start_none level none (NoStart player) h = none player h.1
start_none level none (Game w) h = game_only None level W7 w refl h
start_none level none v h = let other = h.0 in cc

pub few_alone : (level : Level) (w : Warning) → HoldsOf level W8 w → w ≡ FewStarts (deathmatch_starts level)
few_alone level (FewStarts starts) h = ap FewStarts h.1.0
few_alone level (Game w) h = absurd (game_only None level W8 w refl h)
few_alone level v h = absurd (let other = h.0 in cc)

pub few_below : (level : Level) (w : Warning) → HoldsOf level W8 w → deathmatch_starts level < 4
few_below level (FewStarts starts) h = omega (arith, h.1.0, h.1.1)
few_below level (Game w) h = absurd (game_only None level W8 w refl h)
few_below level v h = absurd (let other = h.0 in cc)

pub without_four : (level : Level) → ((k : ℕ) × IsOfKind level (pos 2) k) → ((k : ℕ) × IsOfKind level (pos 3) k) → HasNone level (pos 4)
    → IsWithoutStart level 4
without_four level two three none = record {
  from = omega arith;
  to = omega arith;
  none = none;
  first = λ e from below. elim (cases_eq e 2) [
    | inl is ↦ rw is two
    | inr other ↦ let is : e ≡ 3 = omega (arith, from, below, other) in rw is three
  ];
}
