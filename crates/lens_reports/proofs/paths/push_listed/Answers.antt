use Rattle.std.proofs.Common.{◌==◌, not, filter, length, map, sym, ap, ◌∙◌, ◌++◌, refl, rules, tests}
use Rattle.std.proofs.lemmas.List.{append-nil}
use Rattle.std.proofs.lemmas.Iterator.Consumers.{YieldsList-end}
use Rattle.std.proofs.lemmas.Iterator.Splits.{YieldsList-from_slice_split}
use Rattle.lens_reports.proofs.PathLemmas.{part_dropped, part_kept}
use Rattle.lens_reports.proofs.paths.push_listed.Goals as goal

pub loop-path-init : goal.loop-path-init
loop-path-init c = sym (append-nil _)

pub loop-path-preserved-in-Continue-1 : goal.loop-path-preserved-in-Continue-1
loop-path-preserved-in-Continue-1 c =
    ap (map (λ path. path.now)) c.in_ok-push.ensures.items
    ∙ part_kept (λ path. not (length path == 0)) c.args.paths.now.items c.loop-path.paths.items c.loop-path.yielded c.in-Some.path c.loop-path.invariant
    (sym c.is_taken.ensures ∙ c.if-is_taken.true)

pub loop-path-preserved : goal.loop-path-preserved
loop-path-preserved c = part_dropped (λ path. not (length path == 0)) c.args.paths.now.items c.loop-path.paths.items c.loop-path.yielded c.in-Some.path c.loop-path.invariant
    (sym c.is_taken.ensures ∙ c.if-is_taken.false)

pub returns : goal.returns
returns c =
    let e = YieldsList-end (YieldsList-from_slice_split _ (λ byte. byte == c.args.end) c.args.list.now (search rules) (search rules) refl (λ x b q k. search (rules, tests)))
    c.loop-path.yielded _ c.loop-path.yielded_by _ _ c.in-None.is c.next.ensures.steps in
    c.loop-path.invariant ∙ ap (λ parts. map (λ path. path.now) c.args.paths.now.items ++ filter (λ path. not (length path == 0)) parts) e.0
