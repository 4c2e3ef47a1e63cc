use Rattle.demo_engines.proofs.ObjectLemmas.{front_most}
use Rattle.demo_engines.proofs.object.write_footer_text.Goals as goal

pub returns-in-Some : goal.returns-in-Some
returns-in-Some g c =
    let cut = front_most 4096 c.in-Some.text.now in
    rw c.in-Some.is (rw (c.min.ensures, cut) at c.write_text.ensures)
