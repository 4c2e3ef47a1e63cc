use Rattle.std.proofs.Common.{rules}
use Rattle.map_level.specs.Findings.{NoFaultHolds}
use Rattle.map_level.specs.LinkFaults.{LinkHolds}
use Rattle.map_tree.proofs.LawLemmas.{sound_by_parts}
use Rattle.map_tree.proofs.soundness.is_sound.Goals as goal

pub returns-clause-sound : goal.returns-clause-sound
returns-clause-sound g c =
    let parts = sound_by_parts c.args.level.now in
    let links : NoFaultHolds (LinkHolds c.args.level.now) = rw c.of-links.ensures at (c.has_no_fault.ensures.0 (search rules)) in
    let nodes = rw c.in_ok-nodes.ensures at c.has_no_fault-2.ensures in
    ((λ none. parts.1 (links, nodes.0 none)), (λ sound. nodes.1 (parts.0 sound).1))
