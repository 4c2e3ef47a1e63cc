use Rattle.std.proofs.Common.{true, ℤ, pos, ◌≡◌, sym, ap, ◌∙◌, nat_eq, FitsSigned, to_z, of_z, w32, rules}
use Rattle.std.proofs.lemmas.Bool.{eqb-true}
use Rattle.std.proofs.lemmas.Int.{to_z-of_z}
use Rattle.map_geo.specs.Partition.{Partition}
use Rattle.map_geo.proofs.partition.Partition.is_upright.Goals as goal

-- what is told of a number by its word
zero_read : (z : ℤ) → FitsSigned w32 z → nat_eq (of_z w32 z) 0 ≡ true → z ≡ pos 0
zero_read z h e = sym (to_z-of_z w32 z h) ∙ ap (to_z w32) (eqb-true _ _ e)

pub returns : goal.returns
returns c =
    let inside = c.self.inside in
    let dx : FitsSigned w32 inside.dx = search rules in
    λ e. sym (ap (λ (p : Partition). p.dx) c.self.view_is) ∙ zero_read _ dx e
