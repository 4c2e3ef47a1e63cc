use Rattle.std.proofs.Common.{◌≡◌, ◌+◌, [], ◌∷◌, ◌++◌, get_or, map, take, sym, ap, ◌∙◌, subst, arith}
use Rattle.std.proofs.lemmas.List.{map-append, take_all, take_more}
use Rattle.lens_reports.specs.Bases.{HasWad}
use Rattle.lens_reports.specs.Files.{bytes_in}
use Rattle.lens_reports.proofs.BaseLemmas.{wads_more}
use Rattle.lens_reports.proofs.bases.wads_of.Goals as goal

pub push_wad-requires : goal.push_wad-requires
push_wad-requires g c =
    let here : HasWad (bytes_in (get_or c.args.held.now c.loop-i.i c.index-held-i.result)) = c.requires c.loop-i.i c.index-held-i.result (omega (arith, c.loop-i-test.true)) in
    subst HasWad (ap bytes_in (sym c.index-held-i.is) ∙ sym c.as_slice.ensures) here

pub loop-i-preserved : goal.loop-i-preserved
loop-i-preserved g c =
    let held = c.args.held.now in
    let i = c.loop-i.i in
    let one = c.index-held-i.result in
    let next : map bytes_in (take (i + 1) held) ≡ map bytes_in (take i held) ++ c.as_slice.result.now ∷ [] =
    ap (map bytes_in) (take_more held i one (omega (arith, c.loop-i-test.true))) ∙ map-append bytes_in (take i held) (get_or held i one ∷ [])
    ∙ ap (λ b. map bytes_in (take i held) ++ b ∷ []) (ap bytes_in (sym c.index-held-i.is) ∙ sym c.as_slice.ensures) in
    wads_more (map bytes_in (take i held)) (map bytes_in (take (i + 1) held)) c.as_slice.result.now c.loop-i.wads.items c.push_wad.new.wads.items next c.loop-i.invariant c.in_ok-push_wad.ensures

pub returns-clause-are : goal.returns-clause-are
returns-clause-are g c = c.loop-i.invariant.are ∙ ap (map bytes_in) (take_all c.loop-i.i c.args.held.now (omega (arith, c.loop-i-test.false)))
