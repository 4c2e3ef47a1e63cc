use Rattle.le_rec.specs.Record.{sidedef_layout}
use Rattle.map_level.specs.Reading.{sidedef_under}
use Rattle.look_engines.proofs.engines.ShowLemmas.{record_text-before}
use Rattle.look_engines.proofs.engines.show.SideDefShown.prepend_fields.Goals as goal

pub returns-clause-text : goal.returns-clause-text
returns-clause-text c =
    rw (c.prepend_number-2.ensures.text, c.prepend_number.ensures.text, c.prepend_stored-3.ensures.text, c.prepend_stored-2.ensures.text, c.prepend_stored.ensures.text, c.prepend_index.ensures.text)
    (record_text-before sidedef_layout (sidedef_under c.args.reading c.args.self.now) c.args.line.now)
