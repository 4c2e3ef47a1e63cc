use Rattle.std.proofs.Common.{◌≡◌, ◌∙◌, drop, length, refl, sym}
use Rattle.std.proofs.Math.Seq.{take-append_seam}
use Rattle.map_warnings.specs.Balance.{sector_in}
use Rattle.map_warnings.proofs.ApartLemmas.{all_same}
use Rattle.map_warnings.proofs.LinkLemmas.{links_none}
use Rattle.map_warnings.proofs.sector_links.links_of.Goals as goal

pub link-requires-clause-sectors : goal.link-requires-clause-sectors
link-requires-clause-sectors g c = rw (c.deref_mut.ensures.len ∙ c.in_ok-firsts.ensures.len) c.requires.sectors

pub link-requires-clause-none : goal.link-requires-clause-none
link-requires-clause-none g c =
    let numbers = c.args.numbers.now in
    let firsts = c.deref_mut.result.now in
    links_none sector_in numbers (length firsts) firsts c.deref_mut-2.result.now refl (c.deref_mut-2.ensures.len ∙ c.in_ok-next.ensures.len)
    (rw (c.deref_mut.ensures.len ∙ c.in_ok-firsts.ensures.len)
    (all_same c.args.sectors (length numbers) firsts (c.deref_mut.ensures.value ∙ c.in_ok-firsts.ensures.items_if_clones_equal (λ n same. same))))

pub returns : goal.returns
returns g c =
    let keys = c.deref_mut.ensures.len ∙ c.in_ok-firsts.ensures.len in
    let firsts : length c.link.new.firsts ≡ c.in_ok-firsts.firsts.len = c.link.ensures.all ∙ c.deref_mut.ensures.len in
    let next : length c.link.new.next ≡ c.in_ok-next.next.len = c.link.ensures.long ∙ sym c.in_ok-next.ensures.len in
    let seam = take-append_seam c.link.new.firsts (drop (length c.link.new.firsts) c.in_ok-firsts.firsts.items) in
    let next_seam = take-append_seam c.link.new.next (drop (length c.link.new.next) c.in_ok-next.next.items) in
    rw (← firsts, seam, ← next, next_seam, ← keys) c.link.ensures
