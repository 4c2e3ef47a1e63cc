use Rattle.std.proofs.Common.{◌≡◌, ◌<◌, ◌∙◌, length, map, ap, refl, subst, arith}
use Rattle.std.specs.Prelude.{take}
use Rattle.std.proofs.lemmas.List.{length-map, length-take}
use Rattle.lens_reports.specs.Files.{bytes_in, lent}
use Rattle.lens_reports.proofs.BaseLemmas.{as_many_wads, have_wads, job_bases}
use Rattle.lens_engines.specs.Rules.{IsOver}
use Rattle.lens_calls.proofs.TellLemmas.{first_slices, other_slices, refuses_base, tells_others}
use Rattle.lens_calls.proofs.tell.tell_over.Goals as goal

pub returns-in-Err-clause-told : goal.returns-in-Err-clause-told
returns-in-Err-clause-told g c =
    let first_paths = first_slices c.args.bases c.args.paths.now in
    let first_files = first_slices c.args.bases c.args.files.now in
    refuses_base c.args.word c.args.rules c.args.bases (map (λ path. path.now) c.args.paths.now) (map (λ file. file.now) c.args.files.now) c.in-Err.refused
    (g.W.Sink.state c.args.out.now) (g.E.Sink.state c.args.errors.now) (g.E.Sink.state c.tell_refused.new.errors) c.tell_refused.result
    (rw (first_paths, first_files) at c.in-Err.ensures.refused) (rw first_paths at c.tell_refused.ensures.told)

pub wads_of-requires : goal.wads_of-requires
wads_of-requires g c = rw c.deref.ensures.value (have_wads bytes_in _ _ c.in-Ok.held.items c.in-Ok.ensures.held)

pub unreachable-requires : goal.unreachable-requires
unreachable-requires g c =
    let many : length c.deref-2.result.now ≡ length (map (λ path. path.now) (take c.args.bases c.args.paths.now)) =
    as_many_wads _ (map (λ path. path.now) (take c.args.bases c.args.paths.now)) (map bytes_in c.in-Ok.held.items) c.deref-2.result.now
    (ap (map (λ wad. wad.bytes)) c.deref-2.ensures.value ∙ c.in_ok-wads.ensures.are ∙ ap (map bytes_in) c.deref.ensures.value) c.in-Ok.ensures.held in
    let few : length c.deref-2.result.now < 64 =
    omega (arith, many, length-map (take c.args.bases c.args.paths.now) (λ path. path.now), length-take c.args.bases c.args.paths.now, c.requires.few) in
    c.in_default.not-Some c.deref-2.result.now ((c.of.ensures c.deref-2.result.now).1 (refl, few))

pub returns-clause-told : goal.returns-clause-told
returns-clause-told g c =
    let paths = map (λ path. path.now) c.args.paths.now in
    let files = map (λ file. file.now) c.args.files.now in
    let base : c.in-Some.base ≡ c.deref-2.result.now = ((c.of.ensures c.in-Some.base).0 c.in-Some.is).0 in
    let held = rw (first_slices c.args.bases c.args.paths.now, first_slices c.args.bases c.args.files.now) at c.in-Ok.ensures.held in
    tells_others c.args.word c.args.rules c.args.bases paths files c.in_ok-wads.wads.items c.over.result (g.W.Sink.state c.args.out.now) (g.W.Sink.state c.tell_all.new.out)
    (g.E.Sink.state c.args.errors.now) (g.E.Sink.state c.tell_all.new.errors) c.tell_all.result
    (job_bases (lent (take c.args.bases files)) (take c.args.bases paths) (take c.args.bases paths) (map bytes_in c.in-Ok.held.items) c.in_ok-wads.wads.items refl
    (c.in_ok-wads.ensures.are ∙ ap (map bytes_in) c.deref.ensures.value) c.in_ok-wads.ensures.read held)
    (subst (λ wads. IsOver c.args.rules wads c.over.result) (base ∙ c.deref-2.ensures.value) c.over.ensures)
    (rw (other_slices c.args.bases c.args.paths.now, other_slices c.args.bases c.args.files.now) at c.tell_all.ensures.told)
