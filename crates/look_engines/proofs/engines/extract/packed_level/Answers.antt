use Rattle.std.proofs.Common.{Err, ap, map}
use Rattle.look_engines.proofs.LevelFileLemmas.{level_packed, level_refused}
use Rattle.look_engines.proofs.engines.extract.packed_level.Goals as goal

pub returns-in-Err-clause-err : goal.returns-in-Err-clause-err
returns-in-Err-clause-err g c = (c.in_ok-set.set, c.in_ok-set.ensures.ok, rw c.query.ensures at c.in-Err.ensures.refused)

pub returns-in-Ok-pack_level-clause-ok : goal.returns-in-Ok-pack_level-clause-ok
returns-in-Ok-pack_level-clause-ok g c =
    level_packed (map g.F.AsBytes.bytes c.args.files.now) c.args.name.now c.in_ok-set.set c.in-Ok.level c.in_ok-set.ensures.ok (rw c.query.ensures at c.in-Ok.ensures.level)
    c.in-Ok-pack_level.file.items (λ lumps are. c.in-Ok-pack_level.ensures.ok lumps are) c.in-Ok-pack_level.ensures.fits (λ lumps are. c.in-Ok-pack_level.ensures.holds lumps are)

pub returns-clause-err : goal.returns-clause-err
returns-clause-err g c =
    level_refused (map g.F.AsBytes.bytes c.args.files.now) c.args.name.now c.in_ok-set.set c.in-Ok.level c.in_ok-set.ensures.ok (rw c.query.ensures at c.in-Ok.ensures.level)
    c.in-Err-pack_level.fault (λ lumps are same. c.in-Err-pack_level.ensures.too_large lumps are (ap Err same))
