use Rattle.le_rec.specs.Record.{vertex_layout}
use Rattle.look_engines.proofs.engines.ShowLemmas.{record_text-before}
use Rattle.look_engines.proofs.engines.show.VertexShown.prepend_fields.Goals as goal

pub returns-clause-text : goal.returns-clause-text
returns-clause-text c =
    rw (c.prepend_number-2.ensures.text, c.prepend_number.ensures.text)
    (record_text-before vertex_layout c.args.self.now c.args.line.now)
