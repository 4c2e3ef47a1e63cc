use Rattle.std.proofs.Common.{◌≡◌, ◌↔◌, Option, None, Some, refl}
use Rattle.std.specs.Prelude.{IsTrue, is_some}
use Rattle.le_rec.specs.declared.records.Vertex.{Vertex}
use Rattle.map_cells.specs.Ends.{IsEnd}
use Rattle.map_cells.specs.Frame.{Encloses, Frame}
use Rattle.map_level.specs.Level.{Level}
use Rattle.lens_engines.specs.LevelCounts.{HasLines}
use Rattle.lens_engines.proofs.level_counts.has_lines.Goals as goal

-- whether a level has lines, by its frame
lines_told : (level : Level) (frame : Option Frame) → ((found : Frame) → (frame ≡ Some found) ↔ Encloses (IsEnd level) found)
    → ((frame ≡ None) ↔ ((v : Vertex) → ¬ IsEnd level v)) → IsTrue (is_some frame) ↔ HasLines level
lines_told level None some none = (λ no. absurd (cc), λ lines. absurd (none.0 refl lines.0 lines.1))
lines_told level (Some found) some none = (λ yes. let left = ((some found).0 refl).left in (left.0, left.1), λ lines. refl)

pub returns : goal.returns
returns c = rw c.is_some.ensures (lines_told c.args.level.now c.of.result c.of.ensures.frame c.of.ensures.none)
