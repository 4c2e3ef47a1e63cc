use Rattle.wadlook_c.proofs.census.areas_of.Goals as goal

pub returns : goal.returns
returns c = c.areas_are_pairs.ensures.census c.args.tree.now c.args.rect c.in_ok-areas.areas c.requires c.x0-column.ensures.valid c.in_ok-areas.ensures
