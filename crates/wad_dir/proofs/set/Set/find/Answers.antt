use Rattle.std.proofs.Common.{◌≡◌, ℕ, ◌+◌, ◌-◌, List, length, take, subst, arith}
use Rattle.wad_dir.specs.Wad.{Wad}
use Rattle.wad_dir.specs.Entries.{joined, names}
use Rattle.wad_dir.specs.Winner.{Wins}
use Rattle.wad_dir.proofs.JoinedLemmas.{length-joined_to}
use Rattle.wad_dir.proofs.WinnerLemmas.{Wins-within, wins_in_file, none_in_file}
use Rattle.wad_dir.proofs.set.Set.find.Goals as goal

pub overflow_sub-first : goal.overflow_sub-first
overflow_sub-first g c =
    omega (
      arith,
      c.loop-k.invariant.0,
      length-joined_to c.self.inside.wads.items c.index-wad.result.now (c.loop-k.k - 1)
          (omega arith) c.index-wad.ensures c.loop-k.k (omega arith),
    )

pub overflow_add-result : goal.overflow_add-result
overflow_add-result g c =
    omega (
      arith,
      c.loop-k.invariant.0,
      length-joined_to c.self.inside.wads.items c.index-wad.result.now (c.loop-k.k - 1)
          (omega arith) c.index-wad.ensures c.loop-k.k (omega arith),
      Wins-within c.index-wad.result.now c.args.name c.in-Some.i c.in-Some.ensures.some,
    )

pub returns-in-Some-clause-some : goal.returns-in-Some-clause-some
returns-in-Some-clause-some g c =
    let files = c.self.inside.wads.items in
    let wad = c.index-wad.result.now in
    let k : ℕ = c.loop-k.k - 1 in
    let sums =
    length-joined_to files wad k (omega arith) c.index-wad.ensures c.loop-k.k (omega arith) in
    subst (λ (fs : List Wad). Wins (names fs) c.args.name
    (c.loop-k.first - c.len-first.result + c.in-Some.i)) c.self.view_is
    (wins_in_file files wad k (omega arith) c.index-wad.ensures c.args.name
    (c.loop-k.first - c.len-first.result) c.loop-k.first c.loop-k.k
    (omega (arith, c.loop-k.invariant.0, sums)) c.loop-k.invariant.0
    (omega arith) c.loop-k.invariant.1 c.in-Some.i c.in-Some.ensures.some)

pub loop-k-preserved : goal.loop-k-preserved
loop-k-preserved g c =
    let files = c.self.inside.wads.items in
    let wad = c.index-wad.result.now in
    let k : ℕ = c.loop-k.k - 1 in
    let sums =
    length-joined_to files wad k (omega arith) c.index-wad.ensures c.loop-k.k (omega arith) in
    let here : c.loop-k.first - c.len-first.result ≡ length (joined (take k files)) =
    omega (arith, c.loop-k.invariant.0, sums) in (
      here,
      none_in_file files wad k (omega arith) c.index-wad.ensures c.args.name
          (c.loop-k.first - c.len-first.result) c.loop-k.first c.loop-k.k
          here c.loop-k.invariant.0 (omega arith) c.loop-k.invariant.1 c.in_default.ensures.none,
    )
