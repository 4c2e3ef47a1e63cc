use Rattle.std.proofs.Common.{sym, ◌∙◌}
use Rattle.map_geo.specs.declared.sides.Side.TheVariants.{Front, Back}
use Rattle.node_tree.specs.Line.{line_partition}
use Rattle.node_tree.proofs.DescentLemmas.{line_found, line_there, origin_there, step_by, step_in}
use Rattle.node_tree.proofs.descent.place_below.Goals as goal

pub unwrap-line-requires : goal.unwrap-line-requires
unwrap-line-requires g c =
    line_there (g.T.Forked.shape c.args.tree.now) c.args.node c.line.result c.requires.there c.line.ensures

pub side_at-requires-clause-x_in : goal.side_at-requires-clause-x_in
side_at-requires-clause-x_in g c =
    let shape = g.T.Forked.shape c.args.tree.now in
    let line = c.unwrap-line.result in
    let found = line_found shape c.args.node c.line.result line c.line.ensures c.unwrap-line.ensures in
    (origin_there shape c.args.node (line_partition line) c.requires.sound c.requires.there found).0

pub side_at-requires-clause-y_in : goal.side_at-requires-clause-y_in
side_at-requires-clause-y_in g c =
    let shape = g.T.Forked.shape c.args.tree.now in
    let line = c.unwrap-line.result in
    let found = line_found shape c.args.node c.line.result line c.line.ensures c.unwrap-line.ensures in
    (origin_there shape c.args.node (line_partition line) c.requires.sound c.requires.there found).1

pub unwrap-requires : goal.unwrap-requires
unwrap-requires g c =
    step_in (g.T.Forked.shape c.args.tree.now) c.args.node Front _
    c.requires.sound c.requires.there c.children-children.ensures.front

pub unwrap-requires-in-Back : goal.unwrap-requires-in-Back
unwrap-requires-in-Back g c =
    step_in (g.T.Forked.shape c.args.tree.now) c.args.node Back _
    c.requires.sound c.requires.there c.children-children.ensures.back

pub returns-in-Front : goal.returns-in-Front
returns-in-Front g c =
    let shape = g.T.Forked.shape c.args.tree.now in
    let line = c.unwrap-line.result in
    let found = line_found shape c.args.node c.line.result line c.line.ensures c.unwrap-line.ensures in
    step_by shape c.args.point c.args.node _ Front (line_partition line) found c.in-Front.ensures
    (sym c.children-children.ensures.front ∙ c.unwrap.ensures)

pub returns-in-Back : goal.returns-in-Back
returns-in-Back g c =
    let shape = g.T.Forked.shape c.args.tree.now in
    let line = c.unwrap-line.result in
    let found = line_found shape c.args.node c.line.result line c.line.ensures c.unwrap-line.ensures in
    step_by shape c.args.point c.args.node _ Back (line_partition line) found c.in-Back.ensures
    (sym c.children-children.ensures.back ∙ c.unwrap-in-Back.ensures)
