use Rattle.std.proofs.Common.{rules}
use Rattle.std.proofs.lemmas.Int.{to_z-of_z}
use Rattle.std.specs.Prelude.{FitsSigned}
use Rattle.std.specs.Int.{w16}
use Rattle.game_warnings.proofs.TagLemmas.{adds_one}
use Rattle.game_warnings.proofs.tags.mark.Goals as goal

pub returns : goal.returns
returns c =
    let fits : FitsSigned w16 c.args.tag = search rules in
    let word = simp to_z-of_z at c.cast_unsigned.ensures in
    rw word (adds_one c.args.marks.now c.args.tag c.requires fits)
