-- Lines of partitions (node_t of r_defs.h).
use Rattle.map_geo.specs.Partition.{Partition}
use Rattle.node_tree.specs.declared.forked.Line.{Line}

-- the partition of a line
abbrev pub line_partition : Line → Partition
line_partition line = record { x = line.x; y = line.y; dx = line.dx; dy = line.dy }
