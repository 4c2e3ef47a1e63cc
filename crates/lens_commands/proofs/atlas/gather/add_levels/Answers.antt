use Rattle.std.proofs.Common.{All, inl, inr, length, refl, rules, subst, sym}
use Rattle.atlas_page.specs.Levels.{IsRow}
use Rattle.atlas_page.specs.declared.row.Row.{Row}
use Rattle.wad_dir.specs.Entries.{names}
use Rattle.lens_engines.proofs.SurveyLemmas.{one_alone}
use Rattle.lens_commands.proofs.GatherLemmas.{levels_added, levels_stopped, part_added}
use Rattle.lens_commands.proofs.LinesLemmas.{file_part, file_whole}
use Rattle.lens_commands.proofs.atlas.gather.add_levels.Goals as goal

pub add_rows-requires : goal.add_rows-requires
add_rows-requires g c = one_alone c.args.bytes.now c.in-Ok.set c.in-Ok.ensures.bytes

pub draw_rows-requires-clause-rows : goal.draw_rows-requires-clause-rows
draw_rows-requires-clause-rows g c =
    let adds = c.in-Ok-add_rows.ensures in
    let same = part_added c.args.origin.now c.in-Ok.set (length (names c.in-Ok.set)) c.len-before.result c.deref.result.now c.args.rows.now.items c.add_rows.new.rows.items adds (search rules) (search rules) in
    subst (All (λ (row : Row). IsRow c.args.origin.now c.in-Ok.set row.entry row)) (sym same) adds.are.each

pub returns-in_default-write_lines-clause-left : goal.returns-in_default-write_lines-clause-left
returns-in_default-write_lines-clause-left g c =
    let adds = c.in-Ok-add_rows.ensures in
    let same = part_added c.args.origin.now c.in-Ok.set (length (names c.in-Ok.set)) c.len-before.result c.deref.result.now c.args.rows.now.items c.add_rows.new.rows.items adds (search rules) (search rules) in
    record {
      front = inl refl;
      left = inr (inl (file_part c.args.origin.now c.args.bytes.now c.in-Ok.set c.in-Ok.ensures.bytes c.in-Ok.ensures.read adds.added _ adds.are same
          (g.F.File.Sink.state c.args.survey.now) (g.F.File.Sink.state c.write_lines.new.survey) c.in_default-write_lines.ensures.some));
    }

pub returns-in-Ok-draw_rows-clause-told : goal.returns-in-Ok-draw_rows-clause-told
returns-in-Ok-draw_rows-clause-told g c =
    let adds = c.in-Ok-add_rows.ensures in
    let same = part_added c.args.origin.now c.in-Ok.set (length (names c.in-Ok.set)) c.len-before.result c.deref.result.now c.args.rows.now.items c.add_rows.new.rows.items adds (search rules) (search rules) in
    file_whole c.args.origin.now c.args.bytes.now c.in-Ok.set c.in-Ok.ensures.bytes c.in-Ok.ensures.read adds.added _ adds.are same
    (g.F.File.Sink.state c.args.survey.now) (g.F.File.Sink.state c.write_lines.new.survey) c.in-Ok-write_lines.verdict c.in-Ok-write_lines.ensures.all

pub returns-in-Ok-draw_rows-clause-adds : goal.returns-in-Ok-draw_rows-clause-adds
returns-in-Ok-draw_rows-clause-adds g c =
    let adds = c.in-Ok-add_rows.ensures in
    let same = part_added c.args.origin.now c.in-Ok.set (length (names c.in-Ok.set)) c.len-before.result c.deref.result.now c.args.rows.now.items c.add_rows.new.rows.items adds (search rules) (search rules) in
    levels_added c.args.drawn c.args.origin.now c.args.bytes.now c.args.rows.now.items c.add_rows.new.rows.items (g.F.Folder.kept c.args.folder.now) (g.F.Folder.kept c.draw_rows.new.folder)
    c.in-Ok.set _ c.in-Ok.ensures.bytes c.in-Ok.ensures.read adds same c.in-Ok-draw_rows.ensures.all

pub returns-clause-left : goal.returns-clause-left
returns-clause-left g c =
    let adds = c.in-Ok-add_rows.ensures in
    let same = part_added c.args.origin.now c.in-Ok.set (length (names c.in-Ok.set)) c.len-before.result c.deref.result.now c.args.rows.now.items c.add_rows.new.rows.items adds (search rules) (search rules) in
    record {
      front = levels_stopped c.args.drawn c.args.origin.now c.args.bytes.now c.args.rows.now.items c.add_rows.new.rows.items (g.F.Folder.kept c.args.folder.now) (g.F.Folder.kept c.draw_rows.new.folder)
          c.in-Ok.set _ c.in-Ok.ensures.bytes c.in-Ok.ensures.read adds same c.in-Err.ensures.some;
      left = inr (inr (record {
        verdict = c.in-Ok-write_lines.verdict;
        told = file_whole c.args.origin.now c.args.bytes.now c.in-Ok.set c.in-Ok.ensures.bytes c.in-Ok.ensures.read adds.added _ adds.are same
            (g.F.File.Sink.state c.args.survey.now) (g.F.File.Sink.state c.write_lines.new.survey) c.in-Ok-write_lines.verdict c.in-Ok-write_lines.ensures.all;
      }));
    }
