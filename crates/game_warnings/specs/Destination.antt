-- W16: teleporters without a destination (EV_Teleport of p_telept.c).
use Rattle.std.specs.Prelude.{◌≡◌, ℕ, ℤ, pos, IsSomeAnd, IsTrue}
use Rattle.std.specs.List.{slice_get}
use Rattle.le_rec.specs.declared.records.LineDef.{LineDef}
use Rattle.le_rec.specs.declared.records.Thing.{Thing}
use Rattle.game_numbers.specs.Number.{is_one_of}
use Rattle.game_numbers.specs.Specials.{teleport}
use Rattle.map_geo.specs.Point.{IsInRange, point_at}
use Rattle.map_level.specs.Level.{Level}
use Rattle.map_level.specs.Links.{linedefs_of, things_of}
use Rattle.map_tree.specs.Leaf.{LiesIn}
use Rattle.map_tree.specs.Sound.{IsSound}
use Rattle.game_warnings.specs.Crossing.{Bars}
use Rattle.game_warnings.specs.Skill.{is_placed}
use Rattle.game_warnings.specs.Tags.{HasTag, IsSectorTag}
use Rattle.game_warnings.specs.declared.warning.Barrier.{Barrier}

-- a place is in range and lies in a sector: that of its point's leaf
pub record StandsIn (level : Level) (x y : ℤ) (s : ℕ) : Type 0 where
  pub column : IsInRange x
  pub row : IsInRange y
  pub ssector : ℕ
  pub lies : LiesIn level (point_at x y) (ssector, s)

-- a place stands in one sector
pub record StandsInOne (level : Level) (x y : ℤ) (s : ℕ) : Type 0 where
  pub stands : StandsIn level x y s
  pub only : (other : ℕ) → StandsIn level x y other → other ≡ s

-- a place stands in none
pub record StandsInNone (level : Level) (x y : ℤ) : Type 0 where
  pub none : (s : ℕ) → ¬ StandsIn level x y s

-- a thing is a destination (kind 14, MT_TELEPORTMAN of info.c) that some skill places, in a sector that has a tag
pub record LeadsTo (level : Level) (tag : ℤ) (thing : Thing) : Type 0 where
  pub kind : thing.kind ≡ pos 14
  pub placed : IsTrue (is_placed thing)
  pub sector : ℕ
  pub stands : StandsIn level thing.x thing.y sector
  pub tagged : HasTag level sector tag

-- thing k is such a thing
abbrev pub IsDestination : Level → ℕ → ℤ → Type 0
IsDestination level k tag = IsSomeAnd (slice_get (things_of level) k) (LeadsTo level tag)

-- some thing is
abbrev pub HasDestination : Level → ℤ → Type 0
HasDestination level tag = (k : ℕ) × IsDestination level k tag

-- a linedef takes to a thing in a sector of its tag, and there is such a sector, and none such thing
pub record LeadsNowhere (level : Level) (linedef : LineDef) : Type 0 where
  pub teleports : IsTrue (is_one_of teleport linedef.special)
  pub passed : (barrier : Barrier) → ¬ Bars level linedef barrier
  pub there : IsSectorTag level linedef.tag
  pub none : ¬ HasDestination level linedef.tag

-- linedef i of a sound level does so
abbrev pub HasNoDestination : Level → ℕ → Type 0
HasNoDestination level i = IsSound level × IsSomeAnd (slice_get (linedefs_of level) i) (LeadsNowhere level)
