use Rattle.std.proofs.Common.{◌≡◌, Err, inl, inr, map, ap, ◌∙◌, refl, subst}
use Rattle.lens_engines.specs.Rules.{IsOver}
use Rattle.lens_reports.specs.Files.{bytes_in, stored}
use Rattle.lens_reports.proofs.BaseLemmas.{have_wads, job_bases}
use Rattle.lens_commands.proofs.atlas.run.run_taken.Goals as goal

pub wads_of-requires : goal.wads_of-requires
wads_of-requires g c =
    rw c.deref-2.ensures.value (have_wads bytes_in (stored (g.S.Storage.held c.args.storage.now)) (map (λ path. path.now) c.deref.result.now) c.in-Ok-read_bases.held.items
    c.in-Ok-read_bases.ensures.held)

pub returns-in-Ok-write_atlas : goal.returns-in-Ok-write_atlas
returns-in-Ok-write_atlas g c =
    let base : c.in-Some.base ≡ c.deref-3.result.now = ((c.of.ensures c.in-Some.base).0 c.in-Some.is).0 in
    let bases : map (λ path. path.now) c.deref.result.now ≡ c.args.job.now.job.bases = ap (map (λ path. path.now)) c.deref.ensures.value ∙ c.in-Ok.ensures ∙ c.paths.ensures.paths in
    inr (inr (record {
      base = c.in-Ok-wads_of.wads.items;
      bases = job_bases (stored (g.S.Storage.held c.args.storage.now)) c.args.job.now.job.bases (map (λ path. path.now) c.deref.result.now) (map bytes_in c.in-Ok-read_bases.held.items)
          c.in-Ok-wads_of.wads.items bases (c.in-Ok-wads_of.ensures.are ∙ ap (map bytes_in) c.deref-2.ensures.value) c.in-Ok-wads_of.ensures.read c.in-Ok-read_bases.ensures.held;
      asked = record { judging = c.over.result; drawn = c.args.job.now.drawn; head = c.args.job.now.head; most = c.args.job.now.most };
      is_asked = record { over = subst (λ wads. IsOver c.args.job.now.job.rules wads c.over.result) (base ∙ c.deref-3.ensures.value) c.over.ensures; drawn = refl; head = refl; most = refl };
      runs = inl (record { empty = c.requires.empty; verdict = c.in-Ok-write_atlas.verdict; writes = c.in-Ok-write_atlas.ensures.all; ended = refl });
    }))

pub returns : goal.returns
returns g c =
    let base : c.in-Some.base ≡ c.deref-3.result.now = ((c.of.ensures c.in-Some.base).0 c.in-Some.is).0 in
    let bases : map (λ path. path.now) c.deref.result.now ≡ c.args.job.now.job.bases = ap (map (λ path. path.now)) c.deref.ensures.value ∙ c.in-Ok.ensures ∙ c.paths.ensures.paths in
    inr (inr (record {
      base = c.in-Ok-wads_of.wads.items;
      bases = job_bases (stored (g.S.Storage.held c.args.storage.now)) c.args.job.now.job.bases (map (λ path. path.now) c.deref.result.now) (map bytes_in c.in-Ok-read_bases.held.items)
          c.in-Ok-wads_of.wads.items bases (c.in-Ok-wads_of.ensures.are ∙ ap (map bytes_in) c.deref-2.ensures.value) c.in-Ok-wads_of.ensures.read c.in-Ok-read_bases.ensures.held;
      asked = record { judging = c.over.result; drawn = c.args.job.now.drawn; head = c.args.job.now.head; most = c.args.job.now.most };
      is_asked = record { over = subst (λ wads. IsOver c.args.job.now.job.rules wads c.over.result) (base ∙ c.deref-3.ensures.value) c.over.ensures; drawn = refl; head = refl; most = refl };
      runs = inr (record {
        empty = c.requires.empty;
        between = g.E.Sink.state c.write_atlas.new.errors;
        stops = c.in-Err-write_atlas.ensures.some;
        fault = c.in-Err-write_atlas.fault;
        files = c.in-Err-write_atlas.ensures.told;
        told = c.tell_fault.ensures.told;
        ended = ap Err c.tell_fault.ensures.end;
      });
    }))
