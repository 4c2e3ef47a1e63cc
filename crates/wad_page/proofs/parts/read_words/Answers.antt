use Rattle.std.proofs.Common.{◌≡◌, ◌∙◌, ℕ, List, Bor, All, Some, map, string_bytes, length, get_or, take, [], ◌∷◌, ◌++◌, ap, sym, subst, refl, arith}
use Rattle.std.proofs.lemmas.List.{get_or-map, length-map, map_push, take_more, take_all}
use Rattle.std.specs.Str.{IsUtf8}
use Rattle.std.specs.Option.{option_map}
use Rattle.wad_page.specs.Parts.{cut}
use Rattle.wad_page.proofs.PartsLemmas.{All_more}
use Rattle.wad_page.proofs.parts.read_words.Goals as goal

pub loop-i-init : goal.loop-i-init
loop-i-init g c = (ap (map string_bytes) c.new-texts.ensures.items, λ k d within. absurd (omega (arith, within)))

pub returns-in_default-from_utf8-clause-refused : goal.returns-in_default-from_utf8-clause-refused
returns-in_default-from_utf8-clause-refused g c = λ words are.
    let parts = map (λ (slice : Bor (List ℕ)). slice.now) c.in-Some.parts.items in
    let i = c.loop-i.i in
    let spelled : Some parts ≡ cut c.args.words.sizes.now c.args.words.bytes.now = ap (option_map (λ slices. map (λ slice. slice.now) slices.items)) (sym c.in-Some.is) ∙ c.in_ok-parts.ensures in
    let same : parts ≡ words = let told = spelled ∙ are.spelled in cc in
    let long : length parts ≡ length c.in-Some.parts.items = length-map c.in-Some.parts.items (λ slice. slice.now) in
    let part : get_or parts i [] ≡ c.index.result.now.now = get_or-map (λ slice. slice.now) c.in-Some.parts.items i c.index.result.now [] (omega (arith, c.loop-i-test.true)) ∙ ap (λ slice. slice.now) (sym c.index.ensures) in
    c.in_default-from_utf8.ensures.cases.0 (subst IsUtf8 part ((subst (All IsUtf8) (sym same) are.utf8) i [] (omega (arith, long, c.loop-i-test.true))))

pub loop-i-preserved : goal.loop-i-preserved
loop-i-preserved g c =
    let parts = map (λ (slice : Bor (List ℕ)). slice.now) c.in-Some.parts.items in
    let i = c.loop-i.i in
    let long : length parts ≡ length c.in-Some.parts.items = length-map c.in-Some.parts.items (λ slice. slice.now) in
    let part : get_or parts i [] ≡ c.index.result.now.now = get_or-map (λ slice. slice.now) c.in-Some.parts.items i c.index.result.now [] (omega (arith, c.loop-i-test.true)) ∙ ap (λ slice. slice.now) (sym c.index.ensures) in
    let more = take_more parts i [] (omega (arith, long, c.loop-i-test.true)) ∙ ap (λ p. take i parts ++ p ∷ []) part in
    let text : string_bytes c.in_ok-text.text ≡ c.index.result.now.now = c.in_ok-text.ensures.ok ∙ c.in-Ok.ensures.cases.0 in
    let pushed = ap (map string_bytes) c.in-Ok-push.ensures.items ∙ map_push string_bytes c.loop-i.texts.items c.in_ok-text.text in
    rw (more, pushed, text, c.loop-i.invariant.0) (refl, All_more _ _ c.loop-i.invariant.1 c.in-Ok.ensures.cases.1)

pub returns-clause-read : goal.returns-clause-read
returns-clause-read g c =
    let parts = map (λ (slice : Bor (List ℕ)). slice.now) c.in-Some.parts.items in
    let spelled : Some parts ≡ cut c.args.words.sizes.now c.args.words.bytes.now = ap (option_map (λ slices. map (λ slice. slice.now) slices.items)) (sym c.in-Some.is) ∙ c.in_ok-parts.ensures in
    let long : length parts ≡ length c.in-Some.parts.items = length-map c.in-Some.parts.items (λ slice. slice.now) in
    let whole : take c.loop-i.i parts ≡ parts = take_all c.loop-i.i parts (omega (arith, long, c.loop-i-test.false)) in
    let same : map string_bytes c.loop-i.texts.items ≡ parts = c.loop-i.invariant.0 ∙ whole in
    record {
      spelled = sym spelled ∙ ap Some (sym same);
      utf8 = rw same (rw whole at c.loop-i.invariant.1);
    }
