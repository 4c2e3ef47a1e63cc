use Rattle.std.proofs.Common.{length, arith}
use Rattle.std.specs.Prelude.{IsSomeAnd, Option, Some}
use Rattle.std.specs.List.{slice_get}
use Rattle.wadlook_c.specs.Places.{TellsPlace}
use Rattle.wadlook_c.specs.declared.points.WadlookPlace.{WadlookPlace}
use Rattle.wadlook_c.proofs.SliceLemmas.{behind_set, set_more, some_at}
use Rattle.wadlook_c.proofs.points.put_places.Goals as goal

pub loop-i-preserved : goal.loop-i-preserved
loop-i-preserved g c =
    record {
      told = set_more c.loop-i.i
          (λ k (there : Option WadlookPlace). IsSomeAnd (slice_get c.args.points.now k) (λ point. IsSomeAnd there (TellsPlace c.args.tree.now point)))
          c.loop-i.out c.place_of.result (omega arith) c.loop-i.invariant.told
          (some_at (λ point. IsSomeAnd (Some c.place_of.result) (TellsPlace c.args.tree.now point)) c.args.points.now c.loop-i.i _ (omega arith) c.place_of.ensures);
      behind = behind_set (length c.args.points.now) c.loop-i.i c.loop-i.out _ c.place_of.result (omega arith) c.loop-i.invariant.behind;
    }
