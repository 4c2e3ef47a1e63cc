use Rattle.lens_engines.proofs.UnlookedLemmas.{unmet_unlooked}
use Rattle.lens_engines.proofs.unlooked.asked_unlooked.Goals as goal

pub returns : goal.returns
returns g c =
    rw (c.without.ensures, c.unmet.ensures)
    (unmet_unlooked c.args.ignored c.args.resources.now c.args.level.now _
    (record { references = c.have_references.ensures; soundness = c.is_faultless.ensures; textures = c.list_textures.ensures; flats = c.list_flats.ensures; flat_ends = c.list_flat_ends.ensures }))
