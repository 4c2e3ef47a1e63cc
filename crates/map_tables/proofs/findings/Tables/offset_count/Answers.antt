use Rattle.std.proofs.Common.{◌≡◌, length, ap, ◌∙◌, subst, sym, arith}
use Rattle.std.proofs.lemmas.Option.{MatchOption-at_some, MatchOption-at_none}
use Rattle.map_level.specs.Level.{Level}
use Rattle.map_tables.specs.BlockMap.{BlockMap}
use Rattle.map_tables.specs.TableFaults.{map_of, IsFaultyBlock}
use Rattle.map_tables.proofs.TableLemmas.{no_faulty_block}
use Rattle.map_tables.proofs.findings.Tables.offset_count.Goals as goal

pub returns-in-Some : goal.returns-in-Some
returns-in-Some c = λ n faulty.
    let held = MatchOption-at_some _ _ c.in-Some.map c.in-Some.is c.self.invariant in
    let same : map_of c.args.self.now ≡ c.in-Some.map = sym (held.1 ∙ ap map_of c.self.view_is) in
    c.offset_count.ensures n (subst (λ (map : BlockMap). IsFaultyBlock map n) same faulty)

pub returns-in-None : goal.returns-in-None
returns-in-None c = λ n faulty.
    let few = MatchOption-at_none _ _ c.in-None.is c.self.invariant in
    absurd (no_faulty_block c.args.self.now n
    (omega (arith, few, ap (λ (level : Level). length level.blockmap) c.self.view_is)) faulty)
