-- Two sides that agree, and the rectangle that they decide.
use Rattle.std.proofs.Common.{ℤ, pos, ◌≡◌, ◌↔◌, ◌⊎◌, inl, inr, sym, ap, ◌&&◌, Option, Some, None, IsNone, IfSome, rules, refl, arith}
use Rattle.std.proofs.lemmas.Int.{ints}
use Rattle.std.specs.Bool.{then_some}
use denote.Enum.Bare.{sameb}
use Rattle.map_geo.specs.contracts.sides.Side.{the_type}
use Rattle.map_geo.specs.declared.sides.Side.{Side}
use Rattle.map_geo.specs.declared.sides.Side.TheVariants.{Front, Back}
use Rattle.map_geo.specs.Point.{point_at}
use Rattle.map_geo.specs.Partition.{Partition}
use Rattle.map_geo.specs.Side.{side_of}
use Rattle.map_geo.specs.Rect.{Rect, IsRect, AreCornersOn, IsWholeSide}
use Rattle.map_geo.proofs.AlongLemmas.{column_stays, sides_by_corners}

-- what the code's `(a == b & a == c & a == d).then_some(a)` gives
pub some_of_four : (a b c d s : Side)
    → (then_some (sameb the_type a b && sameb the_type a c && sameb the_type a d) a ≡ Some s) ↔ (a ≡ s) × (b ≡ s) × (c ≡ s) × (d ≡ s)
some_of_four Front Front Front Front s = (λ h. (cc, cc, cc, cc), λ h. cc)
some_of_four Front Front Front Back s = (λ h. cc, λ h. cc)
some_of_four Front Front Back d s = (λ h. cc, λ h. cc)
some_of_four Front Back c d s = (λ h. cc, λ h. cc)
some_of_four Back Back Back Back s = (λ h. (cc, cc, cc, cc), λ h. cc)
some_of_four Back Back Back Front s = (λ h. cc, λ h. cc)
some_of_four Back Back Front d s = (λ h. cc, λ h. cc)
some_of_four Back Front c d s = (λ h. cc, λ h. cc)

-- what the code's `(a == b).then_some(a)` gives
pub some_of_two : (a b s : Side) → (then_some (sameb the_type a b) a ≡ Some s) ↔ (a ≡ s) × (b ≡ s)
some_of_two Front Front s = (λ h. (cc, cc), λ h. cc)
some_of_two Front Back s = (λ h. cc, λ h. cc)
some_of_two Back Front s = (λ h. cc, λ h. cc)
some_of_two Back Back s = (λ h. (cc, cc), λ h. cc)

-- the highest row has the sides of the lowest
pub high_as_low : (rect : Rect) (partition : Partition) → (rect.y0 ≡ rect.y1) ⊎ (partition.dx ≡ pos 0) → (x : ℤ)
    → side_of partition (point_at x rect.y1) ≡ side_of partition (point_at x rect.y0)
high_as_low rect partition (inl flat) x = sym (ap (λ y. side_of partition (point_at x y)) flat)
high_as_low rect partition (inr upright) x = column_stays partition x rect.y1 rect.y0 upright

none_or_some : (answer : Option Side) → ((s : Side) → ¬ (answer ≡ Some s)) ↔ IsNone answer
none_or_some None = (λ h. refl, λ e s f. cc)
none_or_some (Some s) = (λ h. absurd (h s refl), λ e. cc)

if_some : (answer : Option Side) (P : Side → Type 0) → ((s : Side) → answer ≡ Some s → P s)
    → IfSome answer P
if_some None P h = search rules
if_some (Some s) P h = h s refl

-- an answer that is the side of the four corners, and their side that of the whole rectangle
module _ (rect : Rect) (partition : Partition) (is_rect : IsRect rect) (answer : Option Side)
    (corners : (s : Side) → (answer ≡ Some s) ↔ AreCornersOn rect partition s) where
  corners_from_whole : (s : Side) → IsWholeSide rect partition s → AreCornersOn rect partition s
  corners_from_whole s whole =
      let across = is_rect.columns.ordered in
      let up = is_rect.rows.ordered in
      record {
        low_left =
            whole _ (record {
              left = omega (arith, ints);
              right = across;
              lowest = omega (arith, ints);
              highest = up;
            });
        low_right =
            whole _ (record {
              left = across;
              right = omega (arith, ints);
              lowest = omega (arith, ints);
              highest = up;
            });
        high_left =
            whole _ (record {
              left = omega (arith, ints);
              right = across;
              lowest = up;
              highest = omega (arith, ints);
            });
        high_right =
            whole _ (record {
              left = across;
              right = omega (arith, ints);
              lowest = up;
              highest = omega (arith, ints);
            });
      }

  some_from_corners : (s : Side) → (answer ≡ Some s) ↔ IsWholeSide rect partition s
  some_from_corners s = (
    λ e. sides_by_corners rect partition s ((corners s).0 e),
    λ whole. (corners s).1 (corners_from_whole s whole),
  )

  pub whole_from_corners : IfSome answer (IsWholeSide rect partition)
  whole_from_corners = if_some answer _ (λ s e. (some_from_corners s).0 e)

  pub only_from_corners : (s : Side) → IsWholeSide rect partition s → answer ≡ Some s
  only_from_corners s whole = (some_from_corners s).1 whole

  pub none_from_corners : IsNone answer ↔ ((s : Side) → ¬ IsWholeSide rect partition s)
  none_from_corners = (
    λ e s whole. (none_or_some answer).1 e s ((some_from_corners s).1 whole),
    λ h. (none_or_some answer).0 (λ s e. h s ((some_from_corners s).0 e)),
  )
