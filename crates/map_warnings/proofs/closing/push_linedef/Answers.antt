use Rattle.std.proofs.Common.{rules, ◌≡◌}
use Rattle.std.specs.Prelude.{option_to_list}
use Rattle.map_level.specs.Reading.{number_of}
use Rattle.map_warnings.specs.Closing.{run_of}
use Rattle.map_warnings.proofs.ClosingLemmas.{adds_both}
use Rattle.map_warnings.proofs.closing.push_linedef.Goals as goal

pub returns : goal.returns
returns g c =
    let level = c.args.level.now in
    let linedef = c.args.linedef.now in
    let front : c.run_of-front.result ≡ run_of level (number_of level.reading linedef.side0) (number_of level.reading linedef.v1) (number_of level.reading linedef.v2) = search rules in
    let back : c.run_of-back.result ≡ run_of level (number_of level.reading linedef.side1) (number_of level.reading linedef.v2) (number_of level.reading linedef.v1) = search rules in
    let both = adds_both (option_to_list c.run_of-front.result) (option_to_list c.run_of-back.result) c.args.numbers.now.items
    c.push_run.new.numbers.items c.push_run-2.new.numbers.items c.in_ok-push_run.ensures c.in_ok-push_run-2.ensures in
    rw (front, back) at both
