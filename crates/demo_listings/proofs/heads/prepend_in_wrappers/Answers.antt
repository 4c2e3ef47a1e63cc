use Rattle.demo_listings.proofs.ToldLemmas.{agrees, differs, flags_told, kind_told, map_names_told}
use Rattle.demo_listings.proofs.heads.prepend_in_wrappers.Goals as goal

pub returns-then-prepend_in_kinds : goal.returns-then-prepend_in_kinds
returns-then-prepend_in_kinds c =
    let kinds = rw (c.wrapper-of_a.ensures, c.wrapper-of_b.ensures) at c.prepend_in_kinds.ensures in
    kind_told c.args.a.now c.args.b.now _ (differs _ _ _ _ _ kinds c.if-prepend_in_kinds.true)

pub prepend_in_flags-requires : goal.prepend_in_flags-requires
prepend_in_flags-requires c = (agrees _ _ _ _ _ c.prepend_in_kinds.ensures c.if-prepend_in_kinds.false).1

pub returns-then-prepend_in_flags : goal.returns-then-prepend_in_flags
returns-then-prepend_in_flags c =
    let kinds = rw (c.wrapper-of_a.ensures, c.wrapper-of_b.ensures) at c.prepend_in_kinds.ensures in
    let flags = rw (c.wrapper-of_a.ensures, c.wrapper-of_b.ensures) at c.prepend_in_flags.ensures in
    flags_told c.args.a.now c.args.b.now _ (agrees _ _ _ _ _ kinds c.if-prepend_in_kinds.false).0 (differs _ _ _ _ _ flags c.if-prepend_in_flags.true)

pub prepend_in_map_names-requires : goal.prepend_in_map_names-requires
prepend_in_map_names-requires c = (agrees _ _ _ _ _ c.prepend_in_flags.ensures c.if-prepend_in_flags.false).1

pub returns : goal.returns
returns c =
    let kinds = rw (c.wrapper-of_a.ensures, c.wrapper-of_b.ensures) at c.prepend_in_kinds.ensures in
    let flags = rw (c.wrapper-of_a.ensures, c.wrapper-of_b.ensures) at c.prepend_in_flags.ensures in
    let names = rw (c.wrapper-of_a.ensures, c.wrapper-of_b.ensures) at c.prepend_in_map_names.ensures in
    map_names_told c.args.a.now c.args.b.now _ _ (agrees _ _ _ _ _ kinds c.if-prepend_in_kinds.false).0 (agrees _ _ _ _ _ flags c.if-prepend_in_flags.false).0 names
