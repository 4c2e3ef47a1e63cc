use Rattle.std.proofs.Common.{◌∙◌, sym, ap}
use Rattle.std.proofs.lemmas.Option.{none-some}
use Rattle.map_level.specs.SectorOf.{sector_of}
use Rattle.map_tree.proofs.LeafLemmas.{one_leaf}
use Rattle.wadlook_c.proofs.UnderLemmas.{sector_there}
use Rattle.wadlook_c.proofs.under.place_in.Goals as goal

pub returns-in-Some-sector_of-clause-sound : goal.returns-in-Some-sector_of-clause-sound
returns-in-Some-sector_of-clause-sound c = λ sound.
    let level = c.args.level.now in
    let leaf = c.in-Some.ensures level sound (sym c.nodes.ensures.is) in
    record {
      leaf = leaf;
      only = λ u other. one_leaf level c.args.point u c.in-Some.ssector other leaf;
      sector = ap (sector_of level) (sym c.from.ensures) ∙ sym c.sector_of.ensures ∙ c.in-Some-sector_of.is;
    }

pub returns-in-None-clause-sound : goal.returns-in-None-clause-sound
returns-in-None-clause-sound c = λ sound.
    let level = c.args.level.now in
    let leaf = c.in-Some.ensures level sound (sym c.nodes.ensures.is) in
    let there = sector_there level c.args.point c.in-Some.ssector sound leaf in
    absurd (none-some there.0 (sym c.in-None.is ∙ c.sector_of.ensures ∙ ap (sector_of level) c.from.ensures ∙ there.1))
