use Rattle.std.proofs.Common.{◌∙◌, length, sym, ap, arith}
use Rattle.std.specs.List.{slice_get}
use Rattle.std.proofs.lemmas.List.{take_all}
use Rattle.std.proofs.lemmas.Option.{slice_get_past}
use Rattle.wad_dir.specs.Entries.{joined}
use Rattle.wad_dir.proofs.JoinedLemmas.{listed_at, length-joined_more}
use Rattle.wad_dir.proofs.set.Set.listed.Goals as goal

pub returns-then-left-len : goal.returns-then-left-len
returns-then-left-len g c =
    let files = c.deref-wad-items.result.now in
    let wad = c.wad-item.result in
    c.found.ensures
    ∙ sym (listed_at files wad c.loop-i.i (omega arith) c.wad-item.is c.loop-i.left (omega arith))
    ∙ ap (slice_get (joined files)) c.loop-i.invariant
    ∙ ap (λ all. slice_get (joined all) c.args.g) (c.deref-wad-items.ensures.value ∙ c.self.view_is)

pub loop-i-preserved : goal.loop-i-preserved
loop-i-preserved g c =
    omega (
      arith,
      c.loop-i.invariant,
      length-joined_more c.deref-wad-items.result.now c.wad-item.result c.loop-i.i
          (omega arith) c.wad-item.is,
    )

pub returns : goal.returns
returns g c =
    let files = c.deref-wad-items.result.now in
    let all = ap (λ fs. length (joined fs)) (take_all c.loop-i.i files (omega arith)) in
    sym (slice_get_past (joined files) c.args.g (omega (arith, c.loop-i.invariant, all)))
    ∙ ap (λ fs. slice_get (joined fs) c.args.g) (c.deref-wad-items.ensures.value ∙ c.self.view_is)
