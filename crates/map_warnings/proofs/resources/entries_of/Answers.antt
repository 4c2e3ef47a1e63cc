use Rattle.std.proofs.Common.{[], ◌+◌, ◌<◌, ℕ, List, arith}
use Rattle.std.proofs.lemmas.List.{length-map}
use Rattle.std.proofs.lemmas.Option.{slice_get_within}
use Rattle.wad_dir.specs.Entries.{joined, listed_name, names}
use Rattle.map_warnings.specs.Listed.{HasEntry}
use Rattle.map_warnings.proofs.NumberLemmas.{adds_as, adds_both, are_all, below_more, Below}
use Rattle.map_warnings.proofs.ListedLemmas.{all_entries, EntryAt}
use Rattle.map_warnings.proofs.resources.entries_of.Goals as goal

pub loop-g-preserved : goal.loop-g-preserved
loop-g-preserved g c =
    let at = EntryAt c.args.set.now in
    adds_both (Below at c.loop-g.g) (at c.loop-g.g) (Below at (c.loop-g.g + 1)) [] c.loop-g.numbers.items c.push_entry.new.numbers.items
    c.loop-g.invariant c.in_ok-push_entry.ensures (below_more at c.loop-g.g)

pub returns : goal.returns
returns g c =
    let files = c.args.set.now in
    let within : (k : ℕ) (name : List ℕ) → EntryAt files k name → k < c.loop-g.g =
    λ k name at. omega (
      arith,
      slice_get_within (names files) k name at,
      length-map (joined files) listed_name,
      c.total-total.ensures,
      c.loop-g-test.false,
    ) in
    are_all (HasEntry files) c.loop-g.numbers.items c.of.result
    (adds_as (Below (EntryAt files) c.loop-g.g) (HasEntry files) [] c.loop-g.numbers.items c.loop-g.invariant
    (all_entries files c.loop-g.g within)) c.of.ensures.same
