use Rattle.std.proofs.Common.{rules, ℕ, List, ◌≡◌, ◌≤◌, [], ◌∷◌, ◌++◌, length, vec_len, map, arith, ap, ◌∙◌, Vec, Global, sym, subst}
use Rattle.std.proofs.lemmas.List.{map_push, take_all}
use Rattle.line_io.specs.Storage.{AreHeld, IsAnswered, IsHeld, RefusesFile, bytes_of, total_length}
use Rattle.line_io.specs.declared.input.TheConstants.{MAX_READ}
use Rattle.line_io.specs.declared.storage.StorageFault.TheVariants.{Memory}
use Rattle.line_io.proofs.StorageLemmas.{holds_at, held_more, held_within, next_refused, refused_at, total_length-push}
use Rattle.line_io.proofs.storage.read_files.Goals as goal

pub returns-in-Err-clause-refused : goal.returns-in-Err-clause-refused
returns-in-Err-clause-refused g c =
    let inv = c.loop-place.invariant in
    let why = subst (λ p. RefusesFile c.min-limit.result (g.S.Storage.held c.args.storage.now p) c.in-Err.fault) c.path_bytes.ensures c.in-Err.ensures.refused in
    refused_at (g.S.Storage.held c.args.storage.now) g.P.FilePath.spelled c.args.paths.now c.index-paths-place.result c.loop-place.place (omega (arith, c.loop-place-test.true))
    c.index-paths-place.is c.args.most (bytes_of c.loop-place.files.items) c.in-Err.fault inv.held (omega (arith, inv.total))
    (next_refused c.args.most c.loop-place.left c.min-limit.result (bytes_of c.loop-place.files.items) _ c.in-Err.fault c.min-limit.ensures inv.total why)

pub returns-in_default-clause-refused : goal.returns-in_default-clause-refused
returns-in_default-clause-refused g c =
    let inv = c.loop-place.invariant in
    refused_at (g.S.Storage.held c.args.storage.now) g.P.FilePath.spelled c.args.paths.now c.index-paths-place.result c.loop-place.place (omega (arith, c.loop-place-test.true))
    c.index-paths-place.is c.args.most (bytes_of c.loop-place.files.items) Memory inv.held (omega (arith, inv.total)) tt

pub loop-place-preserved : goal.loop-place-preserved
loop-place-preserved g c =
    let file = c.in-Ok.file.items in
    let inv = c.loop-place.invariant in
    let pushed : bytes_of c.push.new.self.items ≡ bytes_of c.loop-place.files.items ++ file ∷ [] =
    ap bytes_of c.in-Ok-push.ensures.items ∙ map_push (λ (f : Vec ℕ Global). f.items) c.loop-place.files.items c.in-Ok.file in
    let one = subst (λ p. IsHeld c.min-limit.result (g.S.Storage.held c.args.storage.now p) file) c.path_bytes.ensures c.in-Ok.ensures.held in
    let long : length file ≡ vec_len c.in-Ok.file = search rules in
    record {
      held = rw pushed (held_more (g.S.Storage.held c.args.storage.now) g.P.FilePath.spelled c.args.paths.now c.index-paths-place.result c.loop-place.place (omega (arith, c.loop-place-test.true))
          c.index-paths-place.is (bytes_of c.loop-place.files.items) file inv.held (held_within _ c.min-limit.result c.loop-place.left file c.min-limit.ensures one));
      total = rw (pushed, c.len.ensures, ← long) (total_length-push (bytes_of c.loop-place.files.items) file c.loop-place.left c.args.most inv.total (omega (arith, one.few, c.min-limit.ensures)));
      count = search rules;
    }

pub returns-clause-held : goal.returns-clause-held
returns-clause-held g c =
    subst (λ paths. AreHeld (g.S.Storage.held c.args.storage.now) (map g.P.FilePath.spelled paths) (bytes_of c.loop-place.files.items))
    (take_all c.loop-place.place c.args.paths.now (omega (arith, c.loop-place-test.false))) c.loop-place.invariant.held

pub returns-clause-few : goal.returns-clause-few
returns-clause-few g c = omega (arith, c.loop-place.invariant.total)

pub returns-in-Err-clause-among : goal.returns-in-Err-clause-among
returns-in-Err-clause-among g c = omega (arith, c.loop-place-test.true)

pub returns-in_default-clause-among : goal.returns-in_default-clause-among
returns-in_default-clause-among g c = omega (arith, c.loop-place-test.true)

pub returns-in-Err-clause-answered : goal.returns-in-Err-clause-answered
returns-in-Err-clause-answered g c =
    let held = g.S.Storage.held c.args.storage.now in
    let refuses = g.S.Storage.refuses c.args.storage.now in
    let answered = λ (p : List ℕ). IsAnswered g.S.File.Read.remaining (held p) (refuses p) c.in-Err.fault in
    holds_at g.P.FilePath.spelled c.args.paths.now c.index-paths-place.result c.loop-place.place (omega (arith, c.loop-place-test.true)) c.index-paths-place.is answered
    (subst answered c.path_bytes.ensures c.in-Err.ensures.answered)

pub returns-in_default-clause-answered : goal.returns-in_default-clause-answered
returns-in_default-clause-answered g c =
    holds_at g.P.FilePath.spelled c.args.paths.now c.index-paths-place.result c.loop-place.place (omega (arith, c.loop-place-test.true)) c.index-paths-place.is _ tt
