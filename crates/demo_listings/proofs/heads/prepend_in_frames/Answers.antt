use Rattle.std.proofs.Common.{sym, ◌∙◌}
use Rattle.demo_listings.proofs.ToldLemmas.{agrees, differs, frame_told, size_told}
use Rattle.demo_listings.proofs.heads.prepend_in_frames.Goals as goal

pub returns-then-prepend_in_sizes : goal.returns-then-prepend_in_sizes
returns-then-prepend_in_sizes c =
    let sizes = rw (c.frame_of-of_a.ensures, c.frame_of-of_b.ensures) at c.prepend_in_sizes.ensures in
    size_told c.args.a.now c.args.b.now _ c.requires.wrappers c.requires.header (differs _ _ _ _ _ sizes c.if-prepend_in_sizes.true)

pub prepend_two_bytes-requires-clause-empty : goal.prepend_two_bytes-requires-clause-empty
prepend_two_bytes-requires-clause-empty c = (agrees _ _ _ _ _ c.prepend_in_sizes.ensures c.if-prepend_in_sizes.false).1

pub returns-in-Some : goal.returns-in-Some
returns-in-Some c =
    let sizes = rw (c.frame_of-of_a.ensures, c.frame_of-of_b.ensures) at c.prepend_in_sizes.ensures in
    let differ = rw (c.frame_of-of_a.ensures, c.frame_of-of_b.ensures) at c.in-Some.ensures.some in
    let line = rw (c.byte_in.ensures, c.byte_in-in-Some.ensures, c.frame_of-of_a.ensures, c.frame_of-of_b.ensures) at c.prepend_two_bytes.ensures in
    frame_told c.args.a.now c.args.b.now _ c.in-Some.place c.requires.wrappers c.requires.header (agrees _ _ _ _ _ sizes c.if-prepend_in_sizes.false).0 differ line

pub returns-in-None : goal.returns-in-None
returns-in-None c = (
  record { wrappers = c.requires.wrappers; header = c.requires.header; frame = sym c.frame_of-of_a.ensures ∙ c.in-None.ensures.none ∙ c.frame_of-of_b.ensures },
  (agrees _ _ _ _ _ c.prepend_in_sizes.ensures c.if-prepend_in_sizes.false).1,
)
