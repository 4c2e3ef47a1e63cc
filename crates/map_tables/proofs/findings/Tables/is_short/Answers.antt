use Rattle.std.proofs.Common.{◌≡◌, ◌≤◌, inl, inr, length, ap, ◌∙◌, subst, sym, arith}
use Rattle.std.proofs.lemmas.Option.{MatchOption-at_some}
use Rattle.map_level.specs.Level.{Level}
use Rattle.map_tables.specs.TableFaults.{map_of, LacksOffsets}
use Rattle.map_tables.proofs.findings.Tables.is_short.Goals as goal

pub returns-then-i-eq0 : goal.returns-then-i-eq0
returns-then-i-eq0 c =
    let level = c.args.self.now in
    let held = MatchOption-at_some _ _ c.in-Some.map c.in-Some.is c.self.invariant in
    let same : c.in-Some.map ≡ map_of level = held.1 ∙ ap map_of c.self.view_is in
    let many : 8 ≤ length level.blockmap =
    subst (λ (l : Level). 8 ≤ length l.blockmap) c.self.view_is held.0 in (
      (λ t. (c.if-i-eq0.true, inr (subst LacksOffsets same (c.lacks_offsets.ensures.0 t)))),
      (λ short. elim short.1 [
        | inl few ↦ absurd (omega (arith, few, many))
        | inr lacks ↦ c.lacks_offsets.ensures.1 (subst LacksOffsets (sym same) lacks)
      ]),
    )
