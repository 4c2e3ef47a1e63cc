use Rattle.atlas_page.proofs.levels.push_row.Goals as goal

pub returns-clause-added : goal.returns-clause-added
returns-clause-added g c = record { row = c.in_ok-row.row; is = c.in_ok-push.ensures.items; exact = c.in_ok-row.ensures }
