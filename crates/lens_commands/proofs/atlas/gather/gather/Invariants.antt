use Rattle.std.proofs.Common.{◌≡◌, true, map, take}
use Rattle.lens_reports.specs.Files.{stored}
use Rattle.lens_reports.specs.Run.{AreSound, ToldTo}
use Rattle.lens_commands.specs.Atlas.{survey_of}
use Rattle.lens_commands.specs.Gathered.{GathersAll}
use Rattle.lens_commands.proofs.atlas.gather.gather.Given as goal

abbrev pub invariant-loop-i : goal.invariant-loop-i
invariant-loop-i g l = record {
  taken : g.F.Folder.taken l.folder ≡ true;
  sound : AreSound (g.F.File.Sink.state l.survey) (g.E.Sink.state l.errors);
  told : ToldTo (stored (g.S.Storage.held l.storage)) (survey_of l.asked.judging) (g.F.File.Sink.state l.fn.survey) (g.E.Sink.state l.fn.errors)
      (map (λ path. path.now) (take l.i l.paths)) (g.F.File.Sink.state l.survey) (g.E.Sink.state l.errors) l.gathered.tally;
  all : GathersAll (g.S.Storage.held l.storage) l.asked (map (λ path. path.now) (take l.i l.paths)) l.gathered.rows.items l.gathered.refused.items
      (g.F.Folder.kept l.fn.folder) (g.F.Folder.kept l.folder)
      (g.F.File.Sink.state l.fn.survey) (g.F.File.Sink.state l.survey) (g.E.Sink.state l.fn.errors) (g.E.Sink.state l.errors) l.gathered.tally;
}
