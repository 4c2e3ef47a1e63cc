-- The word of a command, and the reading that a command line asks for (ours).
use Rattle.std.specs.Prelude.{ℕ, List, codes, if◌then◌else◌}
use Rattle.map_level.specs.declared.reading.Reading.{Reading}
use Rattle.map_level.specs.declared.reading.Reading.TheVariants.{Signed, Wide}
use Rattle.look_engines.specs.declared.command.Cmd.{Cmd}
use Rattle.look_engines.specs.declared.command.Cmd.TheVariants.{Lumps, Levels, Show, Audit, Points, Census, Sight, Blocks, Extract, Demo, Lmp}
use Rattle.look_engines.specs.declared.command.Job.{Job}

-- the word of a command
abbrev pub word_of : Cmd → List ℕ
word_of Lumps = codes "lumps"
word_of Levels = codes "levels"
word_of Show = codes "show"
word_of Audit = codes "audit"
word_of Points = codes "points"
word_of Census = codes "census"
word_of Sight = codes "sight"
word_of Blocks = codes "blocks"
word_of Extract = codes "extract"
word_of Demo = codes "demo"
word_of Lmp = codes "lmp"

-- the reading that the job asks for
abbrev pub reading_of : Job → Reading
reading_of job = if job.wide then Wide else Signed
