use Rattle.std.proofs.Common.{◌≡◌, ℕ, List, Bor, [], ◌∷◌, ◌++◌, map, take, slice_index_or, ap, sym, ◌∙◌, arith}
use Rattle.std.proofs.lemmas.List.{map_push}
use Rattle.wad_page.proofs.PartsLemmas.{more_from_empty, nil_from_empty, behind_nothing, cut_more_at, cut_less_at, cut_done_at, cut_over_at}
use Rattle.wad_page.proofs.parts.slices.Goals as goal

pub loop-i-init : goal.loop-i-init
loop-i-init g c = rw c.new-slices.ensures.items (sym (behind_nothing _))

pub returns-then-size-rest : goal.returns-then-size-rest
returns-then-size-rest g c = sym (c.loop-i.invariant ∙ cut_less_at _ c.args.parts.sizes.now c.loop-i.i c.loop-i.rest.now c.loop-i-test.true c.if-size-rest.true)

pub loop-i-preserved : goal.loop-i-preserved
loop-i-preserved g c =
    let slices = map (λ (slice : Bor (List ℕ)). slice.now) c.loop-i.slices.items in
    let rest = c.loop-i.rest.now in
    let n = slice_index_or c.args.parts.sizes.now c.loop-i.i 0 in
    let pushed : map (λ (slice : Bor (List ℕ)). slice.now) c.push.new.self.items ≡ slices ++ take n rest ∷ [] =
    ap (map (λ (slice : Bor (List ℕ)). slice.now)) c.in-Ok.ensures.items ∙ map_push (λ (slice : Bor (List ℕ)). slice.now) c.loop-i.slices.items c.split_at.result.0
    ∙ ap (λ part. slices ++ part ∷ []) c.split_at.ensures.front in
    rw (pushed, c.split_at.ensures.back) (c.loop-i.invariant ∙ cut_more_at _ c.args.parts.sizes.now c.loop-i.i rest c.loop-i-test.true (omega (arith, c.if-size-rest.false)))

pub returns-then-is_empty : goal.returns-then-is_empty
returns-then-is_empty g c =
    let none = nil_from_empty c.loop-i.rest.now c.if-is_empty.ensures in
    sym (c.loop-i.invariant ∙ cut_done_at _ c.args.parts.sizes.now c.loop-i.i c.loop-i.rest.now (omega (arith, c.loop-i-test.false)) none)

pub returns : goal.returns
returns g c =
    let more = more_from_empty c.loop-i.rest.now c.if-is_empty.ensures in
    sym (c.loop-i.invariant ∙ cut_over_at _ c.args.parts.sizes.now c.loop-i.i c.loop-i.rest.now (omega (arith, c.loop-i-test.false)) more)
