use Rattle.atlas_page.proofs.messages.Messages.of.Goals as goal

pub write_found-requires-clause-owners : goal.write_found-requires-clause-owners
write_found-requires-clause-owners g c = rw c.deref.ensures.value (rw c.level.ensures at c.in_ok-owners.ensures)

pub returns-in-Ok : goal.returns-in-Ok
returns-in-Ok g c = λ told are counted.
    rw (c.shrink_to_fit.ensures.items, c.into_vec-items.ensures)
    (rw c.new-out.ensures.taken at (c.in-Ok.ensures.text told are counted).takes.whole)
