use Rattle.map_warnings.proofs.ToldLemmas.{told_some}
use Rattle.lens_engines.specs.Ignored.{WarnsUnlessIgnored}
use Rattle.lens_engines.proofs.warned.push_code.Goals as goal

pub ends_at-requires : goal.ends_at-requires
ends_at-requires g c =
    rw c.count.ensures
    (told_some (WarnsUnlessIgnored c.args.ignored.now c.args.resources.now c.args.checks.now c.args.code) c.in_ok-told.told c.in_ok-told.ensures.told)
