use Rattle.std.proofs.Common.{◌≡◌, None, refl, sym, subst}
use Rattle.std.specs.Prelude.{IsSomeAnd}
use Rattle.std.specs.List.{slice_get}
use Rattle.game_warnings.specs.Donut.{LeadsOffAt}
use Rattle.game_warnings.specs.Sides.{sides_in}
use Rattle.game_warnings.proofs.DonutLemmas.{back_some, harmed_open, ring_alone}
use Rattle.game_warnings.proofs.FirstLemmas.{first_one}
use Rattle.game_warnings.proofs.donut.ring_harm.Goals as goal

pub returns-then-has_back-clause-none : goal.returns-then-has_back-clause-none
returns-then-has_back-clause-none c =
    let level = c.args.level.now in
    let linedef = c.in_ok-linedef.linedef in
    ring_alone level c.args.pillar c.requires.door c.args.first c.args.ring c.requires.first c.requires.across (λ l off.
    let same : l ≡ linedef = first_one (LeadsOffAt level c.args.pillar c.args.ring) l linedef off c.in_ok-linedef.ensures.1 in
    subst (λ k. ¬ IsSomeAnd (slice_get (sides_in level) k) (λ sides. sides.back ≡ None)) (sym same) (back_some level linedef _ refl c.if-has_back.ensures))
