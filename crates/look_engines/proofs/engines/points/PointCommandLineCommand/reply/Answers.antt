use Rattle.std.proofs.Common.{◌≡◌, [], ◌∷◌, refl, sym, ap, ◌∙◌}
use Rattle.line_io.proofs.NumberAnswersLemmas.{told_refusal}
use Rattle.look_engines.specs.Engines.Points.{point_text}
use Rattle.look_engines.proofs.engines.points.PointCommandLineCommand.reply.Goals as goal

pub returns-in-Ok-clause-takes : goal.returns-in-Ok-clause-takes
returns-in-Ok-clause-takes g c = λ answer told.
    let pair = c.in-Ok.named.pair in
    let leaf = c.leaf_at-leaf.ensures told.leaf_of told.are_leaves ∙ ap told.leaf_of c.in-Ok.ensures.point in
    let answered = told.answers.told c.args.content.now (pair.x ∷ pair.y ∷ []) c.in-Ok.ensures.read.read refl c.in-Ok.ensures.allowed in
    let text : point_text pair.x pair.y c.leaf_at-leaf.result ≡ answer c.args.content.now = ap (point_text pair.x pair.y) leaf ∙ sym answered in
    rw text at c.put_point.ensures.takes

pub returns-in-Err-clause-takes : goal.returns-in-Err-clause-takes
returns-in-Err-clause-takes g c = λ answer told.
    rw (told_refusal told.answers c.requires.short c.in-Err.refusal c.in-Err.ensures.refused) (rw c.text.ensures at c.emit.ensures.takes)
