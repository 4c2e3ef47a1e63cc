use Rattle.std.proofs.Common.{codes}
use Rattle.atlas_page.specs.Page.{page_text}
use Rattle.lens_commands.proofs.FolderLemmas.{text_kept}
use Rattle.lens_commands.proofs.atlas.run.write_index.Goals as goal

pub returns-in-Ok-clause-written : goal.returns-in-Ok-clause-written
returns-in-Ok-clause-written g c =
    let kept = rw c.in_ok-file.ensures.kept at c.keep.ensures.kept in
    let added = rw (c.deref.ensures.value, c.deref-2.ensures.value) at c.in-Ok.ensures.takes.whole in
    let both = text_kept (g.F.Folder.kept c.args.folder.now) (g.F.Folder.kept c.keep.new.self) (g.F.File.Sink.state c.in_ok-file.file) (g.F.File.Sink.state c.write_page.new.out)
    (page_text c.args.head.now c.args.files c.args.warnings c.args.gathered.now.rows.items c.args.gathered.now.refused.items) (codes "index.html") c.keep.result c.in_ok-file.ensures.begun added kept in
    both.0
