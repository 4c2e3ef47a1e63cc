-- The points that lines name (ours).
use Rattle.std.specs.Prelude.{◌≡◌, ℕ, List, [], ◌∷◌}
use Rattle.line_io.specs.Lines.{BeginsWith}
use Rattle.line_io.specs.Numbers.{HasForm}
use Rattle.map_geo.specs.Point.{Point, point_at}
use Rattle.map_tree.specs.Leaf.{Each}
use Rattle.look_engines.specs.Contents.{AreCoordinates}
use Rattle.look_engines.specs.Engines.Points.{point_text}
use Rattle.look_engines.specs.declared.contents.NamedPoint.{NamedPoint}
use Rattle.look_engines.specs.declared.engines.points.Leaf.{Leaf}

-- a content names a point, by its coordinates
pub record NamesPoint (content : List ℕ) (named : NamedPoint) : Type 0 where
  pub point : named.point ≡ point_at named.pair.x named.pair.y
  pub read : HasForm 2 content (named.pair.x ∷ named.pair.y ∷ [])
  pub allowed : AreCoordinates named.pair.x named.pair.y

-- the lines with which bytes begin name these points, and `rest` are the bytes behind them
pub record NamesPoints (bytes : List ℕ) (points : List NamedPoint) (rest : List ℕ) : Type 0 where
  pub contents : List (List ℕ)
  pub begins : BeginsWith bytes contents rest
  pub each : Each NamesPoint contents points

-- the answer to a point that a content names
abbrev pub told_point : (Point → Leaf) → NamedPoint → List ℕ
told_point leaf_of named = point_text named.pair.x named.pair.y (leaf_of named.point)
