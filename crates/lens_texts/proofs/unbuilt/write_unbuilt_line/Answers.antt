use Rattle.std.proofs.Common.{◌≡◌, [], ◌∷◌, rules}
use Rattle.lens_texts.specs.Unbuilt.{unbuilt_message}
use Rattle.lens_texts.proofs.unbuilt.write_unbuilt_line.Goals as goal

pub returns : goal.returns
returns g c =
    let line : c.as_bytes.result.now ≡ unbuilt_message c.args.level.now (10 ∷ []) = search rules in
    rw line at c.write_line.ensures
