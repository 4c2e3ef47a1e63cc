use Rattle.std.proofs.Common.{[], inl, refl, subst}
use Rattle.later_demos.specs.Demo.{IsDemo}
use Rattle.lens_commands.proofs.given.write_given.Goals as goal

pub returns-in-Ok : goal.returns-in-Ok
returns-in-Ok g c =
    let read = subst (λ bytes. IsDemo bytes c.in-Ok.field-0) c.deref.ensures.value ((c.in-Ok.ensures.ok c.in-Ok.field-0).0 refl) in
    rw c.in-Read.is ([], inl (c.in-Ok.field-0, read, refl), c.emit.ensures)
