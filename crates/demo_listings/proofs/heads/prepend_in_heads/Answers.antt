use Rattle.demo_listings.proofs.ToldLemmas.{first_agrees, first_differs}
use Rattle.demo_listings.proofs.heads.prepend_in_heads.Goals as goal

pub returns-then-prepend_in_wrappers : goal.returns-then-prepend_in_wrappers
returns-then-prepend_in_wrappers c = first_differs c.args.a.now c.args.b.now _ _ _ c.prepend_in_wrappers.ensures c.if-prepend_in_wrappers.true

pub prepend_in_headers-requires-clause-empty : goal.prepend_in_headers-requires-clause-empty
prepend_in_headers-requires-clause-empty c = (first_agrees c.args.a.now c.args.b.now _ _ _ c.prepend_in_wrappers.ensures c.if-prepend_in_wrappers.false).1

pub prepend_in_headers-requires-clause-wrappers : goal.prepend_in_headers-requires-clause-wrappers
prepend_in_headers-requires-clause-wrappers c = (first_agrees c.args.a.now c.args.b.now _ _ _ c.prepend_in_wrappers.ensures c.if-prepend_in_wrappers.false).0

pub returns-then-prepend_in_headers : goal.returns-then-prepend_in_headers
returns-then-prepend_in_headers c = first_differs c.args.a.now c.args.b.now _ _ _ c.prepend_in_headers.ensures c.if-prepend_in_headers.true

pub prepend_in_frames-requires-clause-empty : goal.prepend_in_frames-requires-clause-empty
prepend_in_frames-requires-clause-empty c = (first_agrees c.args.a.now c.args.b.now _ _ _ c.prepend_in_headers.ensures c.if-prepend_in_headers.false).1

pub prepend_in_frames-requires-clause-wrappers : goal.prepend_in_frames-requires-clause-wrappers
prepend_in_frames-requires-clause-wrappers c = (first_agrees c.args.a.now c.args.b.now _ _ _ c.prepend_in_wrappers.ensures c.if-prepend_in_wrappers.false).0

pub prepend_in_frames-requires-clause-header : goal.prepend_in_frames-requires-clause-header
prepend_in_frames-requires-clause-header c = (first_agrees c.args.a.now c.args.b.now _ _ _ c.prepend_in_headers.ensures c.if-prepend_in_headers.false).0
