use Rattle.le_rec.specs.Record.{seg_layout}
use Rattle.map_level.specs.Reading.{seg_under}
use Rattle.look_engines.proofs.engines.ShowLemmas.{record_text-before}
use Rattle.look_engines.proofs.engines.show.SegShown.prepend_fields.Goals as goal

pub returns-clause-text : goal.returns-clause-text
returns-clause-text c =
    rw (c.prepend_index-3.ensures.text, c.prepend_index-2.ensures.text, c.prepend_number-3.ensures.text, c.prepend_index.ensures.text, c.prepend_number-2.ensures.text, c.prepend_number.ensures.text)
    (record_text-before seg_layout (seg_under c.args.reading c.args.self.now) c.args.line.now)
