use Rattle.std.proofs.Common.{◌≡◌, ◌∙◌, ◌-◌, Some, length, sym, ap, arith, rules}
use Rattle.std.specs.List.{slice_get}
use Rattle.std.proofs.lemmas.Bool.{false≢true}
use Rattle.wad_dir.proofs.NameLemmas.{starts_named}
use Rattle.wad_dir.proofs.WinnerLemmas.{wins_here, none_here, named_at, same_name}
use Rattle.wad_dir.proofs.wad.Wad.last_named.Goals as goal
use Rattle.wad_dir.proofs.wad.Wad.last_named.Goals.{After-at}

at_entry : (c : After-at) → slice_get c.args.self.now.entries (c.loop-i.i - 1) ≡ Some c.at.result
at_entry c =
    ap (λ entries. slice_get entries (c.loop-i.i - 1)) (sym c.entries-entries.ensures.entries)
    ∙ c.at.ensures

pub returns-then-starts_with-clause-some : goal.returns-then-starts_with-clause-some
returns-then-starts_with-clause-some c =
    let long : length c.at.result.name ≡ 8 = search rules in
    let test =
    starts_named c.through_nul-wanted.result.now c.bytes-bytes.result c.at.result.name
    c.args.name c.starts_with.result c.through_nul-wanted.ensures c.bytes-bytes.ensures.name
    long c.starts_with.ensures.value in
    let at = at_entry (goal.at.returns-then-starts_with-clause-some c).After-at in
    wins_here _ c.args.name (c.loop-i.i - 1) c.loop-i.i (omega arith) c.loop-i.invariant
    (named_at c.args.self.now (c.loop-i.i - 1) c.at.result at
    ∙ ap Some (test.0 c.if-starts_with.true))

pub loop-i-preserved : goal.loop-i-preserved
loop-i-preserved c =
    let long : length c.at.result.name ≡ 8 = search rules in
    let test =
    starts_named c.through_nul-wanted.result.now c.bytes-bytes.result c.at.result.name
    c.args.name c.starts_with.result c.through_nul-wanted.ensures c.bytes-bytes.ensures.name
    long c.starts_with.ensures.value in
    let at = at_entry (goal.at.loop-i-preserved c).After-at in
    none_here _ c.args.name (c.loop-i.i - 1) c.loop-i.i (omega arith) c.loop-i.invariant
    (λ has. false≢true (sym c.if-starts_with.false
    ∙ test.1 (same_name c.args.self.now (c.loop-i.i - 1) c.at.result c.args.name at has)))
