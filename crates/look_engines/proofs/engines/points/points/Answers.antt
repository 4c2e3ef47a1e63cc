use Rattle.std.proofs.Common.{inl, inr, refl}
use Rattle.std.proofs.lemmas.Result.{err_from_is_err_and}
use Rattle.look_engines.proofs.OpeningLemmas.{refused_audit}
use Rattle.look_engines.proofs.engines.points.points.Goals as goal

pub returns-in_err-tree : goal.returns-in_err-tree
returns-in_err-tree g c =
    let p = err_from_is_err_and c.from_residual-in_err-tree.result c.from_residual-in_err-tree.ensures.1 in
    let told = refused_audit _ _ _ _ _ c.in_ok-level.ensures.ok c.in_err-tree.ensures.err in
    inl (record { fault = p.0; ended = p.1; holds = rw p.2 told; untouched = (refl, refl) })

pub returns : goal.returns
returns g c = inr (record {
  what = c.in_ok-level.level;
  found = record { opened = c.in_ok-level.ensures.ok; sound = c.in_ok-tree.ensures.ok.1 };
  outcome = c.answer_lines.result;
  ended = c.ended.ensures;
  does = rw c.in_ok-tree.ensures.ok.0 at c.answer_lines.ensures;
})
