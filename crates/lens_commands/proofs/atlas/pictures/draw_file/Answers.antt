use Rattle.lens_commands.proofs.PictureLemmas.{drawn_lines, picture_kept}
use Rattle.lens_commands.proofs.atlas.pictures.draw_file.Goals as goal

pub unreachable-requires : goal.unreachable-requires
unreachable-requires g c =
    let stopped = rw c.in-Err-NothingToDraw.field-0-is at c.in-Err-NothingToDraw.ensures.stopped in
    drawn_lines c.args.level.now c.args.drawn.frame c.requires.lines stopped.0

pub returns-in-Ok-clause-drawn : goal.returns-in-Ok-clause-drawn
returns-in-Ok-clause-drawn g c =
    let kept = rw c.in_ok-file.ensures.kept at c.keep.ensures.kept in
    let both = picture_kept c.args.drawn c.args.level.now c.args.name.now (g.F.Folder.kept c.args.folder.now) (g.F.Folder.kept c.keep.new.self)
    (g.F.File.Sink.state c.in_ok-file.file) (g.F.File.Sink.state c.draw_level.new.out) c.keep.result c.in_ok-file.ensures.begun c.in-Ok.ensures.drawn kept in
    both.0
