use Rattle.std.proofs.Common.{refl}
use Rattle.std.proofs.lemmas.Option.{slice_get_past, slice_get_read}
use Rattle.lens_engines.proofs.report_counts.count_at.Goals as goal

pub returns-in-Some : goal.returns-in-Some
returns-in-Some g c =
    let lookup = c.in-Some.ensures.lookup in
    let there = slice_get_read c.args.warned.now _ c.args.rank c.in-Some.one.now refl lookup.3.0 lookup.1 in
    rw (there, c.count.ensures) refl

pub returns-in-None : goal.returns-in-None
returns-in-None g c = rw (slice_get_past c.args.warned.now c.args.rank c.in-None.ensures.lookup.3) refl
