-- W1: sectors whose sides don't close (ours).
use Rattle.std.specs.Prelude.{◌≢◌, ℕ, ℤ, ◌==◌, ◌&&◌, List, ◌++◌, length, count_by, Option, Some, option_to_list}
use Rattle.std.specs.List.{flat_map}
use Rattle.le_rec.specs.declared.records.LineDef.{LineDef}
use Rattle.map_level.specs.Level.{Level}
use Rattle.map_level.specs.Links.{linedefs_of, sectors_of, vertexes_of, ◌>>=◌}
use Rattle.map_level.specs.SectorOf.{number_named, sidedef_named}
use Rattle.map_warnings.specs.declared.closing.SideRun.{SideRun}

-- a side that runs from one vertex to another, where the sidedef, its sector and the vertexes are there
abbrev pub run_of : Level → ℤ → ℤ → ℤ → Option SideRun
run_of level side start end = do
  sidedef ← sidedef_named level side
  sector ← number_named (length (sectors_of level)) sidedef.sector
  from ← number_named (length (vertexes_of level)) start
  to ← number_named (length (vertexes_of level)) end
  Some (record { sector = sector; from = from; to = to })

-- the sides of a linedef: the front runs from its start to its end, the back from its end to its start
abbrev pub runs_of_linedef : Level → LineDef → List SideRun
runs_of_linedef level linedef =
    option_to_list (run_of level linedef.side0 linedef.v1 linedef.v2) ++ option_to_list (run_of level linedef.side1 linedef.v2 linedef.v1)

-- the sides of all linedefs
abbrev pub runs_of : Level → List SideRun
runs_of level = flat_map (runs_of_linedef level) (linedefs_of level)

-- how many sides in a sector leave a vertex
abbrev pub leaving : Level → ℕ → ℕ → ℕ
leaving level s v = count_by (λ run. (run.sector == s) && (run.from == v)) (runs_of level)

-- and how many reach it
abbrev pub reaching : Level → ℕ → ℕ → ℕ
reaching level s v = count_by (λ run. (run.sector == s) && (run.to == v)) (runs_of level)

-- a sector isn't closed at a vertex: the number of its sides that leave the vertex isn't that of those that reach it
abbrev pub IsUnclosed : Level → ℕ → ℕ → Type 0
IsUnclosed level s v = leaving level s v ≢ reaching level s v
