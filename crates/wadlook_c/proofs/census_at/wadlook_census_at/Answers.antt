use Rattle.std.proofs.Common.{refl, rules}
use Rattle.std.specs.Prelude.{FitsSigned}
use Rattle.std.specs.Int.{w32}
use Rattle.std.proofs.lemmas.Int.{to_z-of_z}
use Rattle.wadlook_c.proofs.census_at.wadlook_census_at.Goals as goal

pub returns-in-Err-clause-refused : goal.returns-in-Err-clause-refused
returns-in-Err-clause-refused c = λ _ _. record {
  why = c.in-Err.fault;
  number = c.entry_number_of.ensures;
  holds = rw c.reading_of.ensures at c.in-Err.ensures.err;
}

pub returns-in-Ok-clause-rect : goal.returns-in-Ok-clause-rect
returns-in-Ok-clause-rect c =
    let rect = c.args.rect.now in
    let x0 : FitsSigned w32 rect.x0 = search rules in
    let y0 : FitsSigned w32 rect.y0 = search rules in
    let x1 : FitsSigned w32 rect.x1 = search rules in
    let y1 : FitsSigned w32 rect.y1 = search rules in
    let is = rw (to_z-of_z w32 rect.x0 x0, to_z-of_z w32 rect.y0 y0, to_z-of_z w32 rect.x1 x1, to_z-of_z w32 rect.y1 y1) at c.in-Some.ensures.some in
    λ _. is.0 refl

pub returns-in-Err-clause-rect : goal.returns-in-Err-clause-rect
returns-in-Err-clause-rect c =
    let rect = c.args.rect.now in
    let x0 : FitsSigned w32 rect.x0 = search rules in
    let y0 : FitsSigned w32 rect.y0 = search rules in
    let x1 : FitsSigned w32 rect.x1 = search rules in
    let y1 : FitsSigned w32 rect.y1 = search rules in
    let is = rw (to_z-of_z w32 rect.x0 x0, to_z-of_z w32 rect.y0 y0, to_z-of_z w32 rect.x1 x1, to_z-of_z w32 rect.y1 y1) at c.in-Some.ensures.some in
    λ _. is.0 refl

pub returns-in-Ok-clause-done : goal.returns-in-Ok-clause-done
returns-in-Ok-clause-done c =
    let rect = c.args.rect.now in
    let x0 : FitsSigned w32 rect.x0 = search rules in
    let y0 : FitsSigned w32 rect.y0 = search rules in
    let x1 : FitsSigned w32 rect.x1 = search rules in
    let y1 : FitsSigned w32 rect.y1 = search rules in
    let is = rw (to_z-of_z w32 rect.x0 x0, to_z-of_z w32 rect.y0 y0, to_z-of_z w32 rect.x1 x1, to_z-of_z w32 rect.y1 y1) at c.in-Some.ensures.value in
    λ _. rw (c.reading_of.ensures, is) at c.in-Ok.ensures.ok
