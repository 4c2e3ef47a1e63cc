use Rattle.std.proofs.Common.{◌≡◌, ℕ, ◌<◌, ◌≤◌, ℤ, Some, length, arith, rules}
use Rattle.std.proofs.lemmas.Int.{to_z-of_z}
use Rattle.std.specs.Prelude.{FitsSigned}
use Rattle.std.specs.Int.{w16}
use Rattle.std.specs.List.{slice_get}
use Rattle.map_level.specs.Links.{sectors_of}
use Rattle.map_level.proofs.BoundLemmas.{some_within}
use Rattle.game_warnings.specs.Tags.{AddsTags, HasTag}
use Rattle.game_warnings.proofs.TagLemmas.{adds_at, adds_same, all_marked, marks_more, none_marked}
use Rattle.game_warnings.proofs.tags.mark_sectors.Goals as goal

pub loop-s-init : goal.loop-s-init
loop-s-init c = none_marked (HasTag c.args.level.now) c.args.marks.now c.requires.long c.requires.none

pub loop-s-preserved : goal.loop-s-preserved
loop-s-preserved c =
    let level = c.args.level.now in
    let at : slice_get (sectors_of level) c.loop-s.s ≡ Some c.at.result = rw (← c.sectors-sectors.ensures.is) c.at.ensures in
    let fits : FitsSigned w16 c.at.result.tag = search rules in
    let one = simp to_z-of_z at c.mark.ensures in
    let adds : AddsTags (HasTag level c.loop-s.s) c.loop-s.marks c.mark.new.marks =
    adds_at (sectors_of level) c.loop-s.s c.at.result (λ tag sector. sector.tag ≡ tag) c.loop-s.marks c.mark.new.marks at
    (adds_same c.at.result.tag c.loop-s.marks c.mark.new.marks one) in
    marks_more (HasTag level) c.loop-s.s c.loop-s.marks c.mark.new.marks c.mark.auto.marks c.loop-s.invariant adds

pub returns : goal.returns
returns c =
    let within : (k : ℕ) (tag : ℤ) → HasTag c.args.level.now k tag → k < c.loop-s.s =
    λ k tag h.
    let all : length (sectors_of c.args.level.now) ≤ c.loop-s.s = rw (← c.sectors-sectors.ensures.is, ← c.len-s-end.ensures) c.loop-s-test.false in
    omega (arith, some_within (sectors_of c.args.level.now) k _ h, all) in
    all_marked (HasTag c.args.level.now) c.loop-s.s c.loop-s.marks within c.loop-s.invariant
