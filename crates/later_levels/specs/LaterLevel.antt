-- A level whose nodes stand in a later format: what it has besides its nodes, and the nodes (P_SetupLevel of dsda-doom's p_setup.c).
use Rattle.map_level.specs.Level.{Level}
use Rattle.node_lumps.specs.Later.{Later}

pub record LaterLevel : Type 0 where
  pub level : Level
  pub later : Later
