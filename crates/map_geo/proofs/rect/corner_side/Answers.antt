use Rattle.std.proofs.Common.{◌≡◌, ◌↔◌, Some, FitsSigned, w32, rules, ap, sym, ◌∙◌}
use Rattle.std.proofs.lemmas.Int.{to_z-of_z}
use Rattle.map_geo.specs.Side.{side_of}
use Rattle.map_geo.proofs.PointCountLemmas.{in_read}
use Rattle.map_geo.proofs.WholeLemmas.{high_as_low, some_of_two}
use Rattle.map_geo.proofs.rect.corner_side.Goals as goal

pub at-requires : goal.at-requires
at-requires c =
    let corners = c.x0.ensures.valid in
    record {
      x_in = in_read _ _ c.x0.ensures.value corners.columns.first_in;
      y_in = in_read _ _ c.y0.ensures.value corners.rows.first_in;
    }

pub at-requires-2 : goal.at-requires-2
at-requires-2 c =
    let corners = c.x0.ensures.valid in
    record {
      x_in = in_read _ _ c.x1.ensures.value corners.columns.last_in;
      y_in = in_read _ _ c.y0-2.ensures.value corners.rows.first_in;
    }

pub at-requires-3 : goal.at-requires-3
at-requires-3 c =
    let corners = c.x0.ensures.valid in
    record {
      x_in = in_read _ _ c.x0-2.ensures.value corners.columns.first_in;
      y_in = in_read _ _ c.y1.ensures.value corners.rows.last_in;
    }

pub at-requires-4 : goal.at-requires-4
at-requires-4 c =
    let corners = c.x0.ensures.valid in
    record {
      x_in = in_read _ _ c.x1-2.ensures.value corners.columns.last_in;
      y_in = in_read _ _ c.y1-2.ensures.value corners.rows.last_in;
    }

pub returns-clause-corners : goal.returns-clause-corners
returns-clause-corners c = λ s.
    let x0 : FitsSigned w32 c.x0.result = search rules in
    let x1 : FitsSigned w32 c.x1.result = search rules in
    let x0' : FitsSigned w32 c.x0-2.result = search rules in
    let x1' : FitsSigned w32 c.x1-2.result = search rules in
    let y0 : FitsSigned w32 c.y0.result = search rules in
    let y0' : FitsSigned w32 c.y0-2.result = search rules in
    let y1 : FitsSigned w32 c.y1.result = search rules in
    let y1' : FitsSigned w32 c.y1-2.result = search rules in
    let side_at = side_of c.args.partition in
    let low_left = c.side-low_left.ensures ∙ ap side_at (rw (c.x0.ensures.value, c.y0.ensures.value) at (simp to_z-of_z at c.at.ensures)) in
    let low_right = c.side-low_right.ensures ∙ ap side_at (rw (c.x1.ensures.value, c.y0-2.ensures.value) at (simp to_z-of_z at c.at-2.ensures)) in
    let high_left = c.side-high_left.ensures ∙ ap side_at (rw (c.x0-2.ensures.value, c.y1.ensures.value) at (simp to_z-of_z at c.at-3.ensures)) in
    let high_right = c.side-high_right.ensures ∙ ap side_at (rw (c.x1-2.ensures.value, c.y1-2.ensures.value) at (simp to_z-of_z at c.at-4.ensures)) in
    let four = c.one_side.ensures s in (
      λ e. let h = four.0 e in
          record {
            low_left = sym low_left ∙ h.0;
            low_right = sym low_right ∙ h.1;
            high_left = sym high_left ∙ h.2;
            high_right = sym high_right ∙ h.3;
          },
      λ h. four.1 (low_left ∙ h.low_left, low_right ∙ h.low_right, high_left ∙ h.high_left, high_right ∙ h.high_right),
    )

pub returns-then-is_told_by_lowest-clause-corners : goal.returns-then-is_told_by_lowest-clause-corners
returns-then-is_told_by_lowest-clause-corners c = λ s.
    let x0 : FitsSigned w32 c.x0.result = search rules in
    let x1 : FitsSigned w32 c.x1.result = search rules in
    let y0 : FitsSigned w32 c.y0.result = search rules in
    let y0' : FitsSigned w32 c.y0-2.result = search rules in
    let side_at = side_of c.args.partition in
    let low_left = c.side-low_left.ensures ∙ ap side_at (rw (c.x0.ensures.value, c.y0.ensures.value) at (simp to_z-of_z at c.at.ensures)) in
    let low_right = c.side-low_right.ensures ∙ ap side_at (rw (c.x1.ensures.value, c.y0-2.ensures.value) at (simp to_z-of_z at c.at-2.ensures)) in
    let high = high_as_low c.args.rect c.args.partition (c.is_told_by_lowest.ensures c.if-is_told_by_lowest.true) in
    let two : (c.then_some.result ≡ Some s) ↔ (c.side-low_left.result ≡ s) × (c.side-low_right.result ≡ s) =
    rw (c.then_some.ensures, c.eq.ensures) (some_of_two c.side-low_left.result c.side-low_right.result s) in (
      λ e. let h = two.0 e in
          record {
            low_left = sym low_left ∙ h.0;
            low_right = sym low_right ∙ h.1;
            high_left = high c.args.rect.x0 ∙ (sym low_left ∙ h.0);
            high_right = high c.args.rect.x1 ∙ (sym low_right ∙ h.1);
          },
      λ h. two.1 (low_left ∙ h.low_left, low_right ∙ h.low_right),
    )
