use Rattle.std.proofs.Common.{refl}
use Rattle.look_engines.proofs.engines.run.Goals as goal

pub returns-in-Lumps : goal.returns-in-Lumps
returns-in-Lumps g c =
    rw c.in-Lumps.is (refl, record { outcome = c.lumps.result; runs = c.lumps.ensures; ended = c.done.ensures })

pub returns-in-Levels : goal.returns-in-Levels
returns-in-Levels g c =
    rw c.in-Levels.is (refl, record { outcome = c.levels.result; runs = c.levels.ensures; ended = c.done-in-Levels.ensures })

pub returns-in-Show : goal.returns-in-Show
returns-in-Show g c =
    rw c.in-Show.is (refl, record { outcome = c.show.result; runs = rw (c.name-name.ensures, c.reading-reading.ensures, c.in-Show.is) at c.show.ensures; ended = c.done-in-Show.ensures })

pub returns-in-Audit : goal.returns-in-Audit
returns-in-Audit g c =
    rw c.in-Audit.is (refl, rw (c.name-name.ensures, c.reading-reading.ensures, c.in-Audit.is) at c.audit_text.ensures)

pub returns-in-Points : goal.returns-in-Points
returns-in-Points g c =
    rw c.in-Points.is (record { outcome = c.points.result; runs = rw (c.name-name.ensures, c.reading-reading.ensures, c.in-Points.is) at c.points.ensures; ended = c.done-in-Points.ensures })

pub returns-in-Census : goal.returns-in-Census
returns-in-Census g c =
    rw c.in-Census.is (record { outcome = c.census_text.result; runs = rw (c.name-name.ensures, c.reading-reading.ensures, c.in-Census.is) at c.census_text.ensures; ended = c.done-in-Census.ensures })

pub returns-in-Sight : goal.returns-in-Sight
returns-in-Sight g c =
    rw c.in-Sight.is (record { outcome = c.sight.result; runs = rw (c.name-name.ensures, c.in-Sight.is) at c.sight.ensures; ended = c.done-in-Sight.ensures })

pub returns-in-Blocks : goal.returns-in-Blocks
returns-in-Blocks g c =
    rw c.in-Blocks.is (record { outcome = c.blocks-in-Blocks.result; runs = rw (c.name-name.ensures, c.reading-reading.ensures, c.in-Blocks.is) at c.blocks-in-Blocks.ensures; ended = c.done-in-Blocks.ensures })

pub returns-in-Extract : goal.returns-in-Extract
returns-in-Extract g c =
    rw c.in-Extract.is (refl, record { outcome = c.extract.result; runs = rw (c.name-name.ensures, c.in-Extract.is) at c.extract.ensures; ended = c.done-in-Extract.ensures })

pub returns-in-Demo : goal.returns-in-Demo
returns-in-Demo g c =
    rw c.in-Demo.is (refl, record { outcome = c.demo_text.result; runs = rw (c.name-name.ensures, c.in-Demo.is) at c.demo_text.ensures; ended = c.done-in-Demo.ensures })

pub returns-in-Lmp : goal.returns-in-Lmp
returns-in-Lmp g c =
    rw c.in-Lmp.is (record { outcome = c.lmp.result; runs = c.lmp.ensures; ended = c.done-in-Lmp.ensures })
