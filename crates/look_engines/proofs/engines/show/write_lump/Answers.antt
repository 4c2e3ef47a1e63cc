use Rattle.look_engines.proofs.engines.show.write_lump.Goals as goal

pub returns-in-1 : goal.returns-in-1
returns-in-1 g c = rw c.in-1.is (rw (c.reading-reading.ensures, c.linedefs.ensures.is) at c.write_table-in-1.ensures)
