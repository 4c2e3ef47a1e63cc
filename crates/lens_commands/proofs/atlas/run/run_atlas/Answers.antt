use Rattle.std.proofs.Common.{◌≡◌, inl, inr, map, ap, ◌∙◌, refl, rules, subst}
use Rattle.lens_reports.specs.Job.{ListUnread, job_paths}
use Rattle.lens_commands.specs.Atlas.{RunsTaken}
use Rattle.lens_commands.specs.Folder.{IsWhy}
use Rattle.lens_commands.proofs.AtlasLemmas.{run_in_folder}
use Rattle.lens_commands.proofs.atlas.run.run_atlas.Goals as goal

pub returns-in-Err-Refused : goal.returns-in-Err-Refused
returns-in-Err-Refused g c =
    let why = subst (ListUnread (g.S.Storage.held c.args.storage.now) (g.I.Read.remaining c.args.reader) c.args.job.now.job)
    c.in-Err-Refused.field-0-is c.in-Err-Refused.ensures.refused in
    let wrote = rw c.in-Err-Refused.refusal-is at c.write_refusal.ensures in
    let named = rw c.list_name.ensures at wrote in
    inr (inl (record { refusal = c.in-Err-Refused.refusal; why = why; told = (c.write_refusal.result, named); untouched = refl; ended = refl }))

pub returns-in-Err-Refused-make : goal.returns-in-Err-Refused-make
returns-in-Err-Refused-make g c =
    let why = subst (IsWhy (g.F.Folder.refuses c.args.folder.now)) c.in-Err-Refused-make.field-0-is c.in-Err-Refused-make.ensures.refused in
    let wrote = rw c.in-Err-Refused-make.refusal-is at c.text.ensures in
    let named = rw wrote at c.write_folder_line.ensures in
    inr (inr (record {
      list = c.in-Ok.list.items;
      holds = c.in-Ok.ensures.held;
      runs = inr (inr (record { refusal = c.in-Err-Refused-make.refusal; why = why; told = (c.write_folder_line.result, named); untouched = c.in-Err-Refused-make.ensures.kept; ended = refl }));
    }))

pub run_taken-requires-clause-empty : goal.run_taken-requires-clause-empty
run_taken-requires-clause-empty g c = search rules

pub returns : goal.returns
returns g c =
    let same : map (λ path. path.now) c.deref-3.result.now ≡ job_paths c.args.job.now.job c.in-Ok.list.items =
    ap (map (λ path. path.now)) c.deref-3.ensures.value ∙ c.in-Ok-all_paths.ensures ∙ search rules in
    let told = subst (λ paths. RunsTaken (g.S.Storage.held c.args.storage.now) c.args.job.now paths (g.F.Folder.kept c.make.new.self) (g.F.Folder.kept c.run_taken.new.folder)
    (g.E.Sink.state c.args.errors.now) (g.E.Sink.state c.run_taken.new.errors) c.run_taken.result) same c.run_taken.ensures in
    let taken = subst (λ files. RunsTaken (g.S.Storage.held c.args.storage.now) c.args.job.now (job_paths c.args.job.now.job c.in-Ok.list.items) files (g.F.Folder.kept c.run_taken.new.folder)
    (g.E.Sink.state c.args.errors.now) (g.E.Sink.state c.run_taken.new.errors) c.run_taken.result) c.make.ensures.kept told in
    run_in_folder (g.S.Storage.held c.args.storage.now) (g.I.Read.remaining c.args.reader) (g.F.Folder.refuses c.args.folder.now) c.args.job.now c.in-Ok.list.items
    (g.F.Folder.kept c.args.folder.now) (g.F.Folder.kept c.run_taken.new.folder) (g.E.Sink.state c.args.errors.now) (g.E.Sink.state c.run_taken.new.errors) c.run_taken.result
    c.in-Ok.ensures.held taken
