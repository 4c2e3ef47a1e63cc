use Rattle.std.proofs.Common.{refl}
use Rattle.level_starts.proofs.FormatLemmas.{doom_not_refused}
use Rattle.lens_texts.proofs.opened.level_at.Goals as goal

pub unreachable-requires : goal.unreachable-requires
unreachable-requires g c =
    doom_not_refused c.args.set.now c.args.g c.in-Err.field-0 c.requires ((c.in-Err.ensures.refused c.in-Err.field-0).0 refl)
