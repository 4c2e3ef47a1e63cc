use Rattle.std.proofs.Common.{arith, ap, length, map, ◌∙◌}
use Rattle.map_level.specs.Level.{bare_of, level_of, lump_of}
use Rattle.map_level.specs.Level as level
use Rattle.map_level.proofs.BareLemmas.{bare_is, vertex_bytes}
use Rattle.map_level.proofs.level.Level.bare.Goals as goal

pub bare_lumps-requires-clause-there : goal.bare_lumps-requires-clause-there
bare_lumps-requires-clause-there c =
    vertex_bytes (lump_of (map (λ lump. lump.now) c.self.inside.lumps) 4) c.args.vertexes
    (omega (arith, c.requires, ap (λ (level : level.Level). length level.vertexes.records) c.self.view_is))

pub returns : goal.returns
returns c =
    let there =
    vertex_bytes (lump_of (map (λ lump. lump.now) c.self.inside.lumps) 4) c.args.vertexes
    (omega (arith, c.requires, ap (λ (level : level.Level). length level.vertexes.records) c.self.view_is)) in
    ap (level_of c.self.inside.label c.self.inside.reading c.self.inside.names) c.bare_lumps.ensures.bytes
    ∙ bare_is c.self.inside.label c.self.inside.reading c.self.inside.names (map (λ lump. lump.now) c.self.inside.lumps) c.args.vertexes there
    ∙ ap (λ (level : level.Level). bare_of level c.args.vertexes) c.self.view_is
