use Rattle.std.proofs.Common.{◌<◌, arith}
use Rattle.std.proofs.lemmas.Bool.{false≢true}
use Rattle.node_tree.specs.Shape.{ssector_count}
use Rattle.node_tree.proofs.FaultLemmas.{faultless_from_sound, sound_from_faultless}
use Rattle.node_tree.proofs.LeafLemmas.{some_ssector}
use Rattle.node_tree.proofs.soundness.is_sound.Goals as goal

pub returns-then-ssector_count-eq0 : goal.returns-then-ssector_count-eq0
returns-then-ssector_count-eq0 g c = (
  (λ h. absurd (false≢true h)),
  (λ sound.
      let some = some_ssector (g.T.Forked.shape c.args.tree.now) sound in
      absurd (omega (arith, some, c.ssector_count.ensures.is, c.if-ssector_count-eq0.true))),
)

pub returns : goal.returns
returns g c =
    let shape = g.T.Forked.shape c.args.tree.now in
    let faults = rw c.in_ok-nodes.ensures at c.has_no_fault.ensures in
    let some : 0 < ssector_count shape = omega arith in (
      (λ none. sound_from_faultless shape (record { none = faults.0 none; some = some })),
      (λ sound. faults.1 (faultless_from_sound shape sound).none),
    )
