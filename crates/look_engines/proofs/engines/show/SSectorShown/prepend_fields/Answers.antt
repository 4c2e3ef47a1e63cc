use Rattle.le_rec.specs.Record.{ssector_layout}
use Rattle.map_level.specs.Reading.{ssector_under}
use Rattle.look_engines.proofs.engines.ShowLemmas.{record_text-before}
use Rattle.look_engines.proofs.engines.show.SSectorShown.prepend_fields.Goals as goal

pub returns-clause-text : goal.returns-clause-text
returns-clause-text c =
    rw (c.prepend_index-2.ensures.text, c.prepend_index.ensures.text)
    (record_text-before ssector_layout (ssector_under c.args.reading c.args.self.now) c.args.line.now)
