use Rattle.std.proofs.Common.{◌≡◌, inl, inr, length, map, ap, ◌∙◌, refl, rules, subst, arith}
use Rattle.std.proofs.lemmas.List.{length-map}
use Rattle.lens_reports.specs.Files.{bytes_in, stored}
use Rattle.lens_reports.specs.Job.{IsAsked, ListUnread, TellsPaths, job_paths}
use Rattle.lens_reports.proofs.BaseLemmas.{as_many_wads, have_wads, job_bases, job_refused, job_told}
use Rattle.lens_reports.proofs.run.run_job.Goals as goal

pub returns-in-Err-Refused : goal.returns-in-Err-Refused
returns-in-Err-Refused g c =
    let why = subst (ListUnread (g.S.Storage.held c.args.storage.now) (g.I.Read.remaining c.args.reader) c.args.job.now)
    c.in-Err-Refused.field-0-is c.in-Err-Refused.ensures.refused in
    let wrote = rw c.in-Err-Refused.refusal-is at c.write_refusal.ensures in
    let named = rw c.list_name.ensures at wrote in
    inr (inl (record { refusal = c.in-Err-Refused.refusal; why = why; told = (c.write_refusal.result, named); untouched = refl; ended = refl }))

pub returns-in-Err : goal.returns-in-Err
returns-in-Err g c =
    let words : map (λ path. path.now) c.in-Ok-word_paths.base_paths.items ≡ c.args.job.now.bases = c.in-Ok-word_paths.ensures ∙ c.paths.ensures.paths in
    let same : map (λ path. path.now) c.deref-3.result.now ≡ c.args.job.now.bases = ap (map (λ path. path.now)) c.deref-3.ensures.value ∙ words in
    let here : map (λ path. path.now) c.deref-in-Err.result.now ≡ c.args.job.now.bases = ap (map (λ path. path.now)) c.deref-in-Err.ensures.value ∙ words in
    inr (inr (inl (record {
      list = c.in-Ok.list.items;
      holds = c.in-Ok.ensures.held;
      first = c.in-Err.first;
      refused = job_refused (stored (g.S.Storage.held c.args.storage.now)) c.args.job.now.bases (map (λ path. path.now) c.deref-3.result.now) c.in-Err.first same c.in-Err.ensures.refused;
      untouched = refl;
      why = c.refuse_base.result;
      told = job_told c.args.job.now.bases (map (λ path. path.now) c.deref-in-Err.result.now) c.in-Err.first (g.E.Sink.state c.args.errors.now) (g.E.Sink.state c.refuse_base.new.errors)
          c.refuse_base.result here c.refuse_base.ensures;
      ended = refl;
    })))

pub wads_of-requires : goal.wads_of-requires
wads_of-requires g c =
    rw c.deref-4.ensures.value (have_wads bytes_in (stored (g.S.Storage.held c.args.storage.now)) (map (λ path. path.now) c.deref-3.result.now) c.in-Ok-read_bases.held.items
    c.in-Ok-read_bases.ensures.held)

pub unreachable-requires : goal.unreachable-requires
unreachable-requires g c =
    let many : length c.deref-5.result.now ≡ length (map (λ path. path.now) c.deref-3.result.now) =
    as_many_wads (stored (g.S.Storage.held c.args.storage.now)) (map (λ path. path.now) c.deref-3.result.now) (map bytes_in c.in-Ok-read_bases.held.items) c.deref-5.result.now
    (ap (map (λ wad. wad.bytes)) c.deref-5.ensures.value ∙ c.in-Ok-wads_of.ensures.are ∙ ap (map bytes_in) c.deref-4.ensures.value) c.in-Ok-read_bases.ensures.held in
    let given : length (map (λ path. path.now) c.deref-3.result.now) ≡ length (map (λ path. path.now) c.paths.result.now) =
    ap (λ paths. length (map (λ path. path.now) paths)) c.deref-3.ensures.value ∙ ap length c.in-Ok-word_paths.ensures in
    c.in_default-of.not-Some c.deref-5.result.now ((c.of.ensures c.deref-5.result.now).1
    (refl, omega (arith, many, given, length-map c.paths.result.now (λ path. path.now), c.paths.ensures.few)))

pub returns : goal.returns
returns g c =
    let base : c.in-Some.base ≡ c.deref-5.result.now = ((c.of.ensures c.in-Some.base).0 c.in-Some.is).0 in
    let words : map (λ path. path.now) c.in-Ok-word_paths.base_paths.items ≡ c.args.job.now.bases = c.in-Ok-word_paths.ensures ∙ c.paths.ensures.paths in
    let bases : map (λ path. path.now) c.deref-3.result.now ≡ c.args.job.now.bases = ap (map (λ path. path.now)) c.deref-3.ensures.value ∙ words in
    let are = c.in-Ok-wads_of.ensures.are ∙ ap (map bytes_in) c.deref-4.ensures.value in
    let same : map (λ path. path.now) c.deref-6.result.now ≡ job_paths c.args.job.now c.in-Ok.list.items =
    ap (map (λ path. path.now)) c.deref-6.ensures.value ∙ c.in-Ok-all_paths.ensures ∙ search rules in
    inr (inr (inr (record {
      list = c.in-Ok.list.items;
      holds = c.in-Ok.ensures.held;
      base = c.in-Ok-wads_of.wads.items;
      bases = job_bases (stored (g.S.Storage.held c.args.storage.now)) c.args.job.now.bases (map (λ path. path.now) c.deref-3.result.now) (map bytes_in c.in-Ok-read_bases.held.items)
          c.in-Ok-wads_of.wads.items bases are c.in-Ok-wads_of.ensures.read c.in-Ok-read_bases.ensures.held;
      asked = c.over.result;
      is_asked = subst (λ wads. IsAsked c.args.job.now wads c.over.result) (base ∙ c.deref-5.ensures.value) c.over.ensures;
      tells = subst (λ paths. TellsPaths (g.S.Storage.held c.args.storage.now) c.over.result paths g.O.Write.contents c.args.out.now c.run_paths.new.out (g.E.Sink.state c.args.errors.now)
          (g.E.Sink.state c.run_paths.new.errors) c.run_paths.result) same c.run_paths.ensures;
    })))
