use Rattle.std.proofs.lemmas.Result.{err_from_is_err_and}
use Rattle.lens_engines.proofs.ShownLemmas.{Shows-none, Shows-more, Shows-stop, Shows-out}
use Rattle.lens_engines.proofs.level_lines.write_shown.Goals as goal

pub shown-init : goal.shown-init
shown-init g c = record { sound = c.requires.sound; shows = λ indexes are. Shows-none _ _ _ _ indexes are }

pub returns-in_err-write_finding-clause-text : goal.returns-in_err-write_finding-clause-text
returns-in_err-write_finding-clause-text g c =
    let p = err_from_is_err_and c.from_residual.result c.from_residual.ensures.1 in
    rw (p.1, p.2) (λ indexes are. Shows-stop c.in-Some.index (c.shown.invariant.shows indexes are) c.shown-test.true c.in-Some.ensures.some c.in_err-write_finding.ensures)

pub shown-preserved : goal.shown-preserved
shown-preserved g c = record {
  sound = c.in_ok-write_finding.ensures.ends.sound;
  shows = λ indexes are. Shows-more _ c.in-Some.index (c.shown.invariant.shows indexes are) c.shown-test.true c.in-Some.ensures.some c.in_ok-write_finding.ensures;
}

pub returns-in_default-clause-text : goal.returns-in_default-clause-text
returns-in_default-clause-text g c = λ indexes are. Shows-out tt (c.shown.invariant.shows indexes are) c.in_default.ensures.none c.shown.invariant.sound
