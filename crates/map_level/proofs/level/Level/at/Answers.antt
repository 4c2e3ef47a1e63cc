use Rattle.std.proofs.Common.{map, refl}
use Rattle.std.proofs.lemmas.Result.{err_from_is_err_and}
use Rattle.map_level.proofs.LevelLemmas.{only_level, no_level, only_fault}
use Rattle.map_level.proofs.level.Level.at.Goals as goal

pub returns-in_err-lumps-clause-level : goal.returns-in_err-lumps-clause-level
returns-in_err-lumps-clause-level g c =
    let p = err_from_is_err_and c.from_residual.result c.from_residual.ensures.1 in
    rw p.1 (no_level c.args.set.now c.args.label c.args.reading p.0 (rw p.2 c.in_err-lumps.ensures.err))

pub returns-in_err-lumps-clause-refused : goal.returns-in_err-lumps-clause-refused
returns-in_err-lumps-clause-refused g c =
    let p = err_from_is_err_and c.from_residual.result c.from_residual.ensures.1 in
    rw p.1 (only_fault c.args.set.now c.args.label c.args.reading p.0 (rw p.2 c.in_err-lumps.ensures.err))

pub returns-clause-level : goal.returns-clause-level
returns-clause-level g c = only_level c.args.set.now c.args.label c.args.reading _ (record {
  found = c.names_from-names.result;
  named = c.names_from-names.ensures;
  lumps = map (λ lump. lump.now) c.in_ok-lumps.field-0.bytes;
  stand = c.in_ok-lumps.ensures.ok;
  is = refl;
})
