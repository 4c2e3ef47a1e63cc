use Rattle.std.proofs.Common.{◌≡◌, ◌∙◌, ◌-◌, Some, sym, ap, arith}
use Rattle.std.proofs.lemmas.Bool.{false≢true}
use Rattle.std.specs.List.{slice_get}
use Rattle.wad_dir.proofs.WinnerLemmas.{none_here, same_name}
use Rattle.later_demos.proofs.FooterLemmas.{winner_here}
use Rattle.later_demos.proofs.footer.last_named.Goals as goal

pub returns-then-is_named-clause-some : goal.returns-then-is_named-clause-some
returns-then-is_named-clause-some c =
    let at : slice_get c.args.file.now.entries (c.loop-i.i - 1) ≡ Some c.at-entry.result =
    ap (λ entries. slice_get entries (c.loop-i.i - 1)) (sym c.entries-entries.ensures.entries) ∙ c.at-entry.ensures in
    winner_here c.args.file.now c.args.name (c.loop-i.i - 1) c.loop-i.i (omega arith) c.loop-i.invariant c.at-entry.result at
    (c.is_named.ensures.0 c.if-is_named.true)

pub loop-i-preserved : goal.loop-i-preserved
loop-i-preserved c =
    let at : slice_get c.args.file.now.entries (c.loop-i.i - 1) ≡ Some c.at-entry.result =
    ap (λ entries. slice_get entries (c.loop-i.i - 1)) (sym c.entries-entries.ensures.entries) ∙ c.at-entry.ensures in
    none_here _ c.args.name (c.loop-i.i - 1) c.loop-i.i (omega arith) c.loop-i.invariant
    (λ has. false≢true (sym c.if-is_named.false
    ∙ c.is_named.ensures.1 (same_name c.args.file.now (c.loop-i.i - 1) c.at-entry.result c.args.name at has)))
