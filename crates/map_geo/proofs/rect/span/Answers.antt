use Rattle.std.proofs.Common.{refl}
use Rattle.map_geo.proofs.SpanLemmas.{IsSpan-from_tests, difference_read_fits, span_read_fits, span_read}
use Rattle.map_geo.specs.Rect.{IsSpan}
use Rattle.map_geo.proofs.rect.span.Goals as goal

is_span : (c : goal.Then-first-last) → IsSpan c.args.first c.args.last
is_span c =
    IsSpan-from_tests _ _ c.ranges.first c.ranges.last (c.if-is_in_range.ensures.0 refl)
    (c.if-is_in_range-2.ensures.0 refl) c.if-first-last.true

pub overflow_sub-result : goal.overflow_sub-result
overflow_sub-result c = difference_read_fits _ _ (is_span c)

pub overflow_add-result : goal.overflow_add-result
overflow_add-result c = span_read_fits _ _ (is_span c)

pub returns-then-first-last-clause-some : goal.returns-then-first-last-clause-some
returns-then-first-last-clause-some c = (λ _. is_span c, λ _. refl)

pub returns-then-first-last-clause-value : goal.returns-then-first-last-clause-value
returns-then-first-last-clause-value c = span_read _ _ (is_span c)
