use Rattle.wad_dir.specs.declared.header.Kind.TheVariants.{Pwad}
use Rattle.look_engines.proofs.engines.ExtractedLemmas.{extracted_opens}
use Rattle.look_engines.proofs.laws.extracted_opens.Goals as goal

pub returns-clause-wad : goal.returns-clause-wad
returns-clause-wad c = λ bytes asked file was. (Pwad, was.holds.entries, was.holds.directory)

pub returns-clause-opens : goal.returns-clause-opens
returns-clause-opens c = extracted_opens
