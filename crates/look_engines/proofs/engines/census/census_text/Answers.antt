use Rattle.std.proofs.Common.{inl, inr, refl}
use Rattle.std.proofs.lemmas.Result.{err_from_is_err_and}
use Rattle.look_engines.proofs.OpeningLemmas.{refused_audit}
use Rattle.look_engines.proofs.engines.census.census_text.Goals as goal

pub returns-in_err-tree : goal.returns-in_err-tree
returns-in_err-tree g c =
    let p = err_from_is_err_and c.from_residual-in_err-tree.result c.from_residual-in_err-tree.ensures.1 in
    let told = refused_audit _ _ _ _ _ c.in_ok-level.ensures.ok c.in_err-tree.ensures.err in
    inl (record { fault = p.0; ended = p.1; holds = rw p.2 told; untouched = (refl, refl) })

pub tally_of-requires : goal.tally_of-requires
tally_of-requires g c = rw c.in_ok-tree.ensures.ok.0 c.in_ok-tree.ensures.ok.1

pub returns-in_err-tally : goal.returns-in_err-tally
returns-in_err-tally g c =
    let refused = rw c.in_ok-tree.ensures.ok.0 at c.in_err-tally.ensures.err in
    let p = err_from_is_err_and c.from_residual-in_err-tally.result c.from_residual-in_err-tally.ensures.1 in
    let told = refused_audit _ _ _ _ _ c.in_ok-level.ensures.ok refused in
    inl (record { fault = p.0; ended = p.1; holds = rw p.2 told; untouched = (refl, refl) })

pub returns : goal.returns
returns g c = inr (record {
  what = c.in_ok-level.level;
  found = record { opened = c.in_ok-level.ensures.ok; sound = c.in_ok-tree.ensures.ok.1 };
  outcome = c.answer_lines.result;
  ended = c.ended.ensures;
  does = rw (c.in_ok-tally.ensures.ok, c.in_ok-tree.ensures.ok.0) at c.answer_lines.ensures;
})
