use Rattle.std.proofs.Common.{◌≡◌, ℕ, ◌+◌, drop, Some, None, refl, sym, ◌∙◌}
use Rattle.std.proofs.lemmas.Result.{err_from_is_err_and}
use Rattle.std.specs.List.{slice_get, flat_map}
use Rattle.line_io.proofs.WriteProgressLemmas.{SoFar-more, SoFar-stop, SoFar-end}
use Rattle.look_engines.specs.Engines.Census.{count_text}
use Rattle.look_engines.proofs.engines.CensusLemmas.{counts-drop}
use Rattle.line_io.proofs.RestLemmas.{drop_past}
use Rattle.look_engines.proofs.engines.census.write_pairs.Goals as goal

pub returns-in_err-write_count : goal.returns-in_err-write_count
returns-in_err-write_count g c =
    let p = err_from_is_err_and c.from_residual.result c.from_residual.ensures.1 in
    let pairs = c.args.areas.now in
    let i = c.pairs.i in
    let pair : ℕ × ℕ = (c.in-Some.sector, c.in-Some.count) in
    let at : slice_get pairs i ≡ Some pair = sym c.get.ensures ∙ c.in-Some.is in
    rw (p.1, p.2) (SoFar-stop (count_text pair) (flat_map count_text (drop (i + 1) pairs))
    c.pairs.invariant.so_far (counts-drop pairs i pair at) c.in_err-write_count.ensures)

pub pairs-preserved : goal.pairs-preserved
pairs-preserved g c =
    let pairs = c.args.areas.now in
    let i = c.pairs.i in
    let pair : ℕ × ℕ = (c.in-Some.sector, c.in-Some.count) in
    let at : slice_get pairs i ≡ Some pair = sym c.get.ensures ∙ c.in-Some.is in
    record {
      sound = c.in_ok-write_count.ensures.ends.sound;
      so_far = SoFar-more _ (count_text pair) (flat_map count_text (drop (i + 1) pairs))
          c.pairs.invariant.so_far (counts-drop pairs i pair at) c.in_ok-write_count.ensures.takes.whole;
    }

pub returns-in_default : goal.returns-in_default
returns-in_default g c =
    let at : slice_get c.args.areas.now c.pairs.i ≡ None = sym c.get.ensures ∙ c.in_default.is in
    SoFar-end tt c.pairs.invariant.so_far (rw (drop_past c.args.areas.now c.pairs.i at) refl) c.pairs.invariant.sound
