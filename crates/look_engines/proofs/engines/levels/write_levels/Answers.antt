use Rattle.std.proofs.Common.{◌≡◌, ◌+◌, drop, length, Some, refl, arith}
use Rattle.std.proofs.lemmas.Option.{slice_get_read}
use Rattle.std.proofs.lemmas.Result.{err_from_is_err_and}
use Rattle.std.specs.List.{slice_get, flat_map}
use Rattle.line_io.proofs.WriteProgressLemmas.{SoFar-more, SoFar-stop}
use Rattle.look_engines.specs.Engines.Levels.{level_line}
use Rattle.look_engines.proofs.engines.LevelsLemmas.{level_lines-drop}
use Rattle.look_engines.proofs.engines.levels.write_levels.Goals as goal

pub returns-in_err-write_line : goal.returns-in_err-write_line
returns-in_err-write_line g c =
    let p = err_from_is_err_and c.from_residual.result c.from_residual.ensures.1 in
    let found = c.args.found.now in
    let i = c.levels.level-index in
    let level = c.level-item.result in
    let at : slice_get found i ≡ Some level = slice_get_read found (length found) i level refl (omega arith) c.level-item.is in
    rw (p.1, p.2) (SoFar-stop (level_line level) (flat_map level_line (drop (i + 1) found))
    c.levels.invariant.so_far (level_lines-drop found i level at) c.in_err-write_line.ensures)

pub levels-preserved : goal.levels-preserved
levels-preserved g c =
    let found = c.args.found.now in
    let i = c.levels.level-index in
    let level = c.level-item.result in
    let at : slice_get found i ≡ Some level = slice_get_read found (length found) i level refl (omega arith) c.level-item.is in
    record {
      sound = c.in_ok-write_line.ensures.ends.sound;
      so_far = SoFar-more _ (level_line level) (flat_map level_line (drop (i + 1) found))
          c.levels.invariant.so_far (level_lines-drop found i level at) c.in_ok-write_line.ensures.takes.whole;
    }
