use Rattle.std.proofs.Common.{◌≡◌, ◌+◌, ◌++◌, sym, take, drop, Some, None}
use Rattle.std.specs.Prelude.{position, slice_index}
use Rattle.std.proofs.lemmas.Result.{err_from_is_err_and}
use Rattle.std.proofs.lemmas.List.Quantifiers.{position-Some}
use Rattle.line_io.proofs.WriteProgressLemmas.{SoFar-more, SoFar-stop}
use Rattle.lens_texts.specs.JsonString.{needs_escape, escape_of, escaped}
use Rattle.lens_texts.proofs.JsonLemmas.{escaped-plain, escaped-run}
use Rattle.lens_texts.proofs.WritingLemmas.{SoFar-last}
use Rattle.lens_texts.proofs.json_string.write_escaped.Goals as goal

pub write_run-requires-clause-within : goal.write_run-requires-clause-within
write_run-requires-clause-within g c =
    (position-Some needs_escape c.runs.rest.now c.in-Some.at 0 (sym c.in-Some.ensures)).0

pub returns-in_err-write_run : goal.returns-in_err-write_run
returns-in_err-write_run g c =
    let p = err_from_is_err_and c.from_residual.result c.from_residual.ensures.1 in
    let rest = c.runs.rest.now in
    let at = c.in-Some.at in
    let first : position needs_escape rest ≡ Some at = sym c.in-Some.ensures in
    rw (p.1, p.2) (SoFar-stop (take at rest ++ escape_of (slice_index rest at)) (escaped (drop (at + 1) rest))
    c.runs.invariant.so_far (escaped-run rest at first) c.in_err-write_run.ensures)

pub runs-preserved : goal.runs-preserved
runs-preserved g c =
    let rest = c.runs.rest.now in
    let at = c.in-Some.at in
    let first : position needs_escape rest ≡ Some at = sym c.in-Some.ensures in
    record {
      sound = c.in_ok-write_run.ensures.ends.sound;
      so_far = rw c.behind-rest.ensures (SoFar-more _ (take at rest ++ escape_of (slice_index rest at)) (escaped (drop (at + 1) rest))
          c.runs.invariant.so_far (escaped-run rest at first) c.in_ok-write_run.ensures.takes.whole);
    }

pub returns : goal.returns
returns g c =
    let none : position needs_escape c.runs.rest.now ≡ None = sym c.in_default.ensures in
    SoFar-last c.runs.invariant.so_far (escaped-plain c.runs.rest.now none) c.emit.ensures
