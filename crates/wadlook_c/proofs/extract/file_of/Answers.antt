use Rattle.std.proofs.Common.{Err, [], ◌∷◌, ap}
use Rattle.look_engines.proofs.LevelFileLemmas.{level_packed, level_refused}
use Rattle.wadlook_c.proofs.extract.file_of.Goals as goal

pub returns-in-Ok-pack_level-clause-ok : goal.returns-in-Ok-pack_level-clause-ok
returns-in-Ok-pack_level-clause-ok c =
    level_packed (c.args.wad.now ∷ []) c.args.name.now c.in_ok-set.set c.in-Ok.level c.in_ok-set.ensures.ok (rw c.query.ensures at c.in-Ok.ensures.level)
    c.in-Ok-pack_level.file.items (λ lumps are. c.in-Ok-pack_level.ensures.ok lumps are) c.in-Ok-pack_level.ensures.fits (λ lumps are. c.in-Ok-pack_level.ensures.holds lumps are)

pub returns-clause-err : goal.returns-clause-err
returns-clause-err c =
    level_refused (c.args.wad.now ∷ []) c.args.name.now c.in_ok-set.set c.in-Ok.level c.in_ok-set.ensures.ok (rw c.query.ensures at c.in-Ok.ensures.level)
    c.in-Err-pack_level.fault (λ lumps are same. c.in-Err-pack_level.ensures.too_large lumps are (ap Err same))
