use Rattle.lens_engines.proofs.level_lines.write_finding.Goals as goal

pub returns : goal.returns
returns g c = rw c.level.ensures at c.write_remark.ensures
