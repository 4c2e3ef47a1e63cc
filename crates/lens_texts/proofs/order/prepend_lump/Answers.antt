use Rattle.std.proofs.Common.{◌≡◌, [], ◌-◌}
use Rattle.std.proofs.lemmas.Option.{get_or_from_slice_get}
use Rattle.map_level.specs.LinkFaults.{usual_names}
use Rattle.lens_texts.specs.LevelObject.{usual_name}
use Rattle.lens_texts.proofs.order.prepend_lump.Goals as goal

pub returns-clause-text : goal.returns-clause-text
returns-clause-text c =
    let name : usual_name c.args.k ≡ c.usual_name.result = get_or_from_slice_get usual_names (c.args.k - 1) c.usual_name.result [] c.usual_name.ensures in
    rw name c.prepend_name.ensures.text
