use Rattle.std.specs.Prelude.{codes}
use Rattle.std.proofs.Common.{List, ℕ, ◌++◌, ap}
use Rattle.std.proofs.lemmas.List.{append-nil}
use Rattle.lens_texts.specs.LevelObject.{number_member}
use Rattle.demo_engines.proofs.object.prepend_last_rules.Goals as goal

pub returns : goal.returns
returns c =
    let game = c.args.game.now in
    rw (c.prepend_number-3.ensures.text, c.prepend_number-2.ensures.text, c.prepend_number.ensures.text, c.from-3.ensures, c.from-2.ensures, c.from.ensures, c.requires)
    (ap (λ (t : List ℕ). number_member (codes "fast") game.fast ++ (number_member (codes "nomonsters") game.no_monsters ++ t))
    (append-nil (number_member (codes "viewpoint") game.viewpoint)))
