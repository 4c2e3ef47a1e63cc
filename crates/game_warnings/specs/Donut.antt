-- W17: donuts (special 9) that read what isn't there (EV_DoDonut of p_spec.c).
use Rattle.std.specs.Prelude.{◌≡◌, ◌&&◌, ℕ, Bool, Option, Some, None, not, if◌then◌else◌, IsSomeAnd, IsTrue}
use Rattle.std.specs.List.{slice_get}
use Rattle.map_level.specs.Level.{Level}
use Rattle.game_warnings.specs.First.{IsFirst}
use Rattle.game_warnings.specs.Sides.{across, is_of, is_sector, sides_in, IsLineAt}
use Rattle.game_warnings.specs.declared.sides.Sides.{Sides}

-- the ring across a linedef from pillar p
abbrev pub ring_across : ℕ → Sides → Option ℕ
ring_across p sides = if sides.is_two_sided then across p sides else None

-- linedef k is one of ring r, and another sector than pillar p is behind it, or none
abbrev pub leads_off : ℕ → ℕ → Sides → Bool
leads_off p r sides = is_of r sides && not (is_sector sides.back p)

abbrev pub LeadsOffAt : Level → ℕ → ℕ → ℕ → Type 0
LeadsOffAt level p r k = IsSomeAnd (slice_get (sides_in level) k) (λ sides. IsTrue (leads_off p r sides))

-- a pillar without a linedef
abbrev pub HasNoLine : Level → ℕ → Type 0
HasNoLine level p = (k : ℕ) → ¬ IsLineAt level p k

-- a pillar whose first linedef has no other side
pub record HasNoRing (level : Level) (p linedef : ℕ) : Type 0 where
  pub first : IsFirst (IsLineAt level p) linedef
  pub none : IsSomeAnd (slice_get (sides_in level) linedef) (λ sides. ring_across p sides ≡ None)

-- a pillar with a ring, whose linedefs are gone through while the pillar is behind them, up to one that has no back
pub record HasOpenRing (level : Level) (p linedef ring : ℕ) : Type 0 where
  pub n : ℕ
  pub first : IsFirst (IsLineAt level p) n
  pub ring_is : IsSomeAnd (slice_get (sides_in level) n) (λ sides. ring_across p sides ≡ Some ring)
  pub off : IsFirst (LeadsOffAt level p ring) linedef
  pub none : IsSomeAnd (slice_get (sides_in level) linedef) (λ sides. sides.back ≡ None)
