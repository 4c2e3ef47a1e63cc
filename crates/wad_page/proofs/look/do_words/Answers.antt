use Rattle.std.proofs.Common.{rules, ℕ, List, Bor, ◌≡◌, ◌∙◌, Err, Some, map, string_bytes, length, inl, refl, sym, subst, ap, arith}
use Rattle.std.proofs.lemmas.List.{length-map}
use Rattle.std.proofs.lemmas.Option.{same_Some}
use Rattle.std.proofs.lemmas.Result.{err_from_is_err_and}
use Rattle.std.specs.Option.{option_map}
use Rattle.look_engines.specs.Words.{paths_of}
use Rattle.wad_page.specs.Parts.{AreWords, cut}
use Rattle.wad_page.specs.declared.refusal.PageRefusal.TheVariants.{Usage}
use Rattle.wad_page.proofs.LookLemmas.{refused_words, other_count}
use Rattle.wad_page.proofs.look.do_words.Goals as goal

pub returns-in_err-texts : goal.returns-in_err-texts
returns-in_err-texts g c =
    let p = err_from_is_err_and c.from_residual.result c.from_residual.ensures.1 in
    inl (record {
      refusal = c.in_err-texts.field-0.0;
      ended = p.1 ∙ ap Err p.2;
      holds = refused_words c.args.words c.args.files c.in_err-texts.field-0.0 c.in_err-texts.ensures.refused;
      untouched = refl;
    })

pub returns-then-len-paths : goal.returns-then-len-paths
returns-then-len-paths g c =
    let job = c.in-Some.job in
    let files = c.in-Some-2.lent in
    let are = subst (λ ts. AreWords c.args.words (map string_bytes ts)) (sym c.deref.ensures.value) c.in_ok-texts.ensures.read in
    let given = map (λ (slice : Bor (List ℕ)). slice.now) files.items in
    let spelled : Some given ≡ cut c.args.files.sizes.now c.args.files.bytes.now = ap (option_map (λ slices. map (λ slice. slice.now) slices.items)) (sym c.in-Some-2.is) ∙ c.in_ok-lent.ensures in
    let long : length given ≡ length files.items = length-map files.items (λ slice. slice.now) in
    let counted : c.len.result ≡ length files.items = search rules in
    let same : c.deref.result.now ≡ c.deref-2.result.now = c.deref.ensures.value ∙ sym c.deref-2.ensures.value in
    let named : length (paths_of (map string_bytes c.deref.result.now) job) ≡ length c.paths.result.now =
    ap (λ ts. length (paths_of (map string_bytes ts) job)) same ∙ ap length (sym c.paths.ensures) ∙ length-map c.paths.result.now string_bytes in
    inl (record {
      refusal = Usage;
      ended = refl;
      holds = other_count c.args.words c.args.files _ are job given (λ other asked. same_Some other job (sym ((c.job.ensures other).1 asked) ∙ c.in-Some.is)) (sym spelled)
          (λ as_many. c.if-len-paths.true (omega (arith, as_many, long, counted, named)));
      untouched = refl;
    })
