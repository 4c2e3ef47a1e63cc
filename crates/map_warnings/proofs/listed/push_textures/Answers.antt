use Rattle.std.proofs.Common.{◌≡◌, ◌+◌, arith}
use Rattle.map_warnings.specs.Listed.{IsNameAt, ListsTexture}
use Rattle.map_warnings.proofs.NumberLemmas.{adds_as, adds_both, below_more, Below}
use Rattle.map_warnings.proofs.ListedLemmas.{all_listed, few_offsets}
use Rattle.map_warnings.proofs.listed.push_textures.Goals as goal

pub push_texture-requires : goal.push_texture-requires
push_texture-requires g c = ((c.offset_count-k-end.ensures c.loop-k.k).0 c.loop-k-test.true).inside

pub loop-k-preserved : goal.loop-k-preserved
loop-k-preserved g c =
    let at = IsNameAt c.args.lump.now in
    record {
      adds = adds_both (Below at c.loop-k.k) (at c.loop-k.k) (Below at (c.loop-k.k + 1)) c.args.numbers.now.items c.loop-k.numbers.items
          c.push_texture.new.numbers.items c.loop-k.invariant.adds c.in_ok-push_texture.ensures.adds (below_more at c.loop-k.k);
      few = omega (arith, c.loop-k.invariant.few, c.in_ok-push_texture.ensures.few);
    }

pub returns-clause-adds : goal.returns-clause-adds
returns-clause-adds g c =
    let lump = c.args.lump.now in
    let all : c.loop-k.k ≡ c.offset_count-k-end.result = omega (arith, c.loop-k-test.false, c.loop-k.auto.k-end) in
    adds_as (Below (IsNameAt lump) c.loop-k.k) (ListsTexture lump) c.args.numbers.now.items c.loop-k.numbers.items c.loop-k.invariant.adds
    (all_listed lump c.loop-k.k (rw all c.offset_count-k-end.ensures))

pub returns-clause-few : goal.returns-clause-few
returns-clause-few g c = λ n few.
    let upto = few_offsets c.args.lump.now c.offset_count-k-end.result n c.offset_count-k-end.ensures few in
    omega (arith, c.loop-k.invariant.few, c.loop-k-test.false, c.loop-k.auto.k-end, upto)
