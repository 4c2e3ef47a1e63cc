use Rattle.std.proofs.Common.{◌∙◌, ℕ, List, Bor, map, sym, arith}
use Rattle.std.proofs.lemmas.List.{length-map}
use Rattle.std.proofs.lemmas.Option.{same_Some}
use Rattle.std.proofs.lemmas.Result.{err_from_is_err_and}
use Rattle.wad_page.proofs.LensLemmas.{other_count, parts_are}
use Rattle.wad_page.proofs.lens.asked_of.Goals as goal

pub returns-in_default-clause-err : goal.returns-in_default-clause-err
returns-in_default-clause-err g c = λ asked paths files asks. c.in_default.not-Some asked ((c.asked_by.ensures asked).1 asks.asks)

pub returns-in_err-names-clause-err : goal.returns-in_err-names-clause-err
returns-in_err-names-clause-err g c =
    let p = err_from_is_err_and c.from_residual.result c.from_residual.ensures.1 in
    rw (p.1, p.2) (c.in-Some.request, (c.asked_by.ensures c.in-Some.request).0 c.in-Some.is)

pub returns-in_err-bytes-clause-err : goal.returns-in_err-bytes-clause-err
returns-in_err-bytes-clause-err g c =
    let p = err_from_is_err_and c.from_residual-in_err-bytes.result c.from_residual-in_err-bytes.ensures.1 in
    rw (p.1, p.2) (c.in-Some.request, (c.asked_by.ensures c.in-Some.request).0 c.in-Some.is)

pub returns-then-len-clause-err : goal.returns-then-len-clause-err
returns-then-len-clause-err g c =
    let names = c.in-Some-2.names.items in
    let bytes = c.in-Some-3.bytes.items in
    let counted = length-map names (λ (s : Bor (List ℕ)). s.now) in
    let held = length-map bytes (λ (s : Bor (List ℕ)). s.now) in
    other_count c.args.question.now c.args.paths c.args.files (map (λ s. s.now) names) (map (λ s. s.now) bytes)
    (parts_are (λ v. map (λ s. s.now) v.items) c.in_ok-names.field-0 c.in-Some-2.names _ c.in_ok-names.ensures c.in-Some-2.is)
    (parts_are (λ v. map (λ s. s.now) v.items) c.in_ok-bytes.field-0 c.in-Some-3.bytes _ c.in_ok-bytes.ensures c.in-Some-3.is)
    (λ same. c.if-len.true (omega (arith, same, counted, held, c.len.ensures, c.len-2.ensures)))

pub returns-clause-ok : goal.returns-clause-ok
returns-clause-ok g c =
    let names = c.in-Some-2.names.items in
    let bytes = c.in-Some-3.bytes.items in
    let counted = length-map names (λ (s : Bor (List ℕ)). s.now) in
    let held = length-map bytes (λ (s : Bor (List ℕ)). s.now) in
    record {
      asks = (c.asked_by.ensures c.in-Some.request).0 c.in-Some.is;
      paths_are = parts_are (λ v. map (λ s. s.now) v.items) c.in_ok-names.field-0 c.in-Some-2.names _ c.in_ok-names.ensures c.in-Some-2.is;
      files_are = parts_are (λ v. map (λ s. s.now) v.items) c.in_ok-bytes.field-0 c.in-Some-3.bytes _ c.in_ok-bytes.ensures c.in-Some-3.is;
      as_many = omega (arith, counted, held, c.len.ensures, c.len-2.ensures, c.if-len.false);
    }

pub returns-clause-only : goal.returns-clause-only
returns-clause-only g c = λ other asks. same_Some c.in-Some.request other (sym c.in-Some.is ∙ (c.asked_by.ensures other).1 asks)
