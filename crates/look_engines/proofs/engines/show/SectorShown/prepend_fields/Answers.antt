use Rattle.le_rec.specs.Record.{sector_layout}
use Rattle.look_engines.proofs.engines.ShowLemmas.{record_text-before}
use Rattle.look_engines.proofs.engines.show.SectorShown.prepend_fields.Goals as goal

pub returns-clause-text : goal.returns-clause-text
returns-clause-text c =
    rw (c.prepend_number-5.ensures.text, c.prepend_number-4.ensures.text, c.prepend_stored-2.ensures.text, c.prepend_stored.ensures.text, c.prepend_number-3.ensures.text, c.prepend_number-2.ensures.text, c.prepend_number.ensures.text)
    (record_text-before sector_layout c.args.self.now c.args.line.now)
