use Rattle.std.proofs.Common.{◌≡◌, true, take}
use Rattle.lens_commands.specs.AtlasPictures.{DrawsRows}
use Rattle.lens_commands.proofs.atlas.pictures.draw_rows.Given as goal

abbrev pub invariant-loop-row : goal.invariant-loop-row
invariant-loop-row g l = record {
  taken : g.F.Folder.taken l.folder ≡ true;
  draws : DrawsRows l.drawn l.origin.judging.reading l.set (take l.row-index l.rows) (g.F.Folder.kept l.fn.folder) (g.F.Folder.kept l.folder);
}
