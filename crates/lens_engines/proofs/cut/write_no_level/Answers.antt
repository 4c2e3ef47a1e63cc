use Rattle.std.proofs.Common.{◌≡◌, ◌++◌, rules}
use Rattle.std.specs.Prelude.{codes}
use Rattle.std.specs.Fmt.{decimal}
use Rattle.lens_engines.proofs.cut.write_no_level.Goals as goal

pub returns : goal.returns
returns g c =
    let line : c.as_bytes.result.now ≡ codes "no level starts at entry " ++ (decimal c.args.entry ++ codes "\n") = search rules in
    rw line at c.emit.ensures
