use Rattle.std.proofs.Common.{[], ◌∷◌, ◌++◌}
use Rattle.std.proofs.lemmas.Result.{err_from_is_err_and}
use Rattle.std.specs.List.{flat_map}
use Rattle.line_io.proofs.WriteLemmas.{Writes-stop, Writes-then}
use Rattle.look_engines.specs.Engines.Census.{count_text, rect_text}
use Rattle.look_engines.proofs.engines.CensusLemmas.{rect_text-before}
use Rattle.look_engines.proofs.engines.census.write_areas.Goals as goal

pub returns-in_err-write_rect : goal.returns-in_err-write_rect
returns-in_err-write_rect g c =
    let p = err_from_is_err_and c.from_residual.result c.from_residual.ensures.1 in
    let more = flat_map count_text c.args.areas.now ++ (10 ∷ []) in
    rw (p.1, p.2, rect_text-before c.args.rect more) (Writes-stop more c.in_err-write_rect.ensures)

pub returns-in_err-write_pairs : goal.returns-in_err-write_pairs
returns-in_err-write_pairs g c =
    let p = err_from_is_err_and c.from_residual-in_err-write_pairs.result c.from_residual-in_err-write_pairs.ensures.1 in
    let more = flat_map count_text c.args.areas.now ++ (10 ∷ []) in
    rw (p.1, p.2, rect_text-before c.args.rect more)
    (Writes-then _ _ _ (rect_text c.args.rect []) _ c.in_ok-write_rect.ensures.takes.whole (Writes-stop (10 ∷ []) c.in_err-write_pairs.ensures))

pub returns : goal.returns
returns g c =
    let state = g.W.Sink.state in
    let pairs = flat_map count_text c.args.areas.now in
    rw (rect_text-before c.args.rect (pairs ++ (10 ∷ [])))
    (Writes-then (state c.args.out.now) (state c.write_rect.new.out) (state c.emit.new.out) (rect_text c.args.rect []) c.emit.result c.in_ok-write_rect.ensures.takes.whole
    (Writes-then (state c.write_rect.new.out) (state c.write_pairs.new.out) (state c.emit.new.out) pairs c.emit.result c.in_ok-write_pairs.ensures.takes.whole c.emit.ensures))
