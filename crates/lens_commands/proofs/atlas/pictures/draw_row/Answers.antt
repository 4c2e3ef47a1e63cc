use Rattle.std.proofs.Common.{◌≡◌, true, rules}
use Rattle.lens_engines.specs.Surveyed.{is_drawn}
use Rattle.lens_commands.proofs.PictureLemmas.{drawn_level}
use Rattle.lens_commands.proofs.atlas.pictures.draw_row.Goals as goal

pub draw_file-requires-clause-lines : goal.draw_file-requires-clause-lines
draw_file-requires-clause-lines g c =
    let drawn : is_drawn c.args.row.now.found ≡ true = search rules in
    let told = drawn_level c.args.set.now c.args.origin.now.judging c.args.row.now.entry c.args.row.now.found c.requires.row.found drawn in
    told.1 c.level_at-level.result c.level_at-level.ensures

pub level_at-level-requires : goal.level_at-level-requires
level_at-level-requires g c =
    let drawn : is_drawn c.args.row.now.found ≡ true = search rules in
    (drawn_level c.args.set.now c.args.origin.now.judging c.args.row.now.entry c.args.row.now.found c.requires.row.found drawn).0
