use Rattle.map_level.proofs.LinkedLemmas.{IsLinked-by_findings}
use Rattle.map_level.proofs.level.Level.is_linked.Goals as goal

pub returns : goal.returns
returns g c =
    let decided = IsLinked-by_findings c.args.self.now c.args.found.now c.requires in
    let told = rw c.as_slice.ensures at c.has_no_link_fault.ensures in
    (λ is. decided.1 (told.0 is), λ linked. told.1 (decided.0 linked))
