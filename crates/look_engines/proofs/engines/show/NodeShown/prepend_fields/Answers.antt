use Rattle.le_rec.specs.Record.{node_layout}
use Rattle.look_engines.proofs.engines.ShowLemmas.{record_text-before}
use Rattle.look_engines.proofs.engines.show.NodeShown.prepend_fields.Goals as goal

pub returns-clause-text : goal.returns-clause-text
returns-clause-text c =
    rw (c.prepend_number-4.ensures.text, c.prepend_number-3.ensures.text, c.prepend_number-2.ensures.text, c.prepend_number.ensures.text, c.prepend_box-2.ensures.text, c.prepend_box.ensures.text, c.prepend_child-2.ensures.text, c.prepend_child.ensures.text)
    (record_text-before node_layout c.args.self.now c.args.line.now)
