use Rattle.std.proofs.Common.{refl, sym, ◌∙◌}
use Rattle.map_level.proofs.OpeningLemmas.{refused_outside}
use Rattle.wadlook_c.proofs.LumpLemmas.{filepos_read, lump_placed, lump_told}
use Rattle.wadlook_c.proofs.find.lump_at.Goals as goal

pub returns-in_default-clause-none : goal.returns-in_default-clause-none
returns-in_default-clause-none g c = λ lump there.
    refused_outside c.args.set.now c.args.entry c.in_default.field-0 c.in_default.ensures.no_such c.in_default.ensures.outside
    c.requires lump there

pub place_of-requires : goal.place_of-requires
place_of-requires g c = λ some.
    let there = c.in-Ok.ensures.ok in
    let placed = lump_placed c.args.set.now c.args.entry c.in-Ok.lump.now there some in
    (placed.0, filepos_read c.args.set.now c.args.entry there.listed c.in-Some.place c.in-Some.ensures there.numbered ∙ placed.1)

pub returns-clause-some : goal.returns-clause-some
returns-clause-some g c = λ wad read.
    let there = c.in-Ok.ensures.ok in
    let same = filepos_read c.args.set.now c.args.entry there.listed c.in-Some.place c.in-Some.ensures there.numbered in (
      refl,
      lump_told c.args.set.now wad c.args.entry c.in-Ok.lump.now c.place_of.result read there
          (λ some. sym same ∙ c.place_of.ensures.some some) c.place_of.ensures.none,
    )
