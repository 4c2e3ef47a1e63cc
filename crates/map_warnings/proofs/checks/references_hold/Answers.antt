use Rattle.std.proofs.Common.{refl}
use Rattle.map_level.specs.declared.finding.Code.TheVariants.{F3, F4, F5, F6, F7, F8, F9}
use Rattle.map_warnings.proofs.checks.references_hold.Goals as goal

pub returns-then-is_sound : goal.returns-then-is_sound
returns-then-is_sound c =
    let sound = c.requires c.if-is_sound.true in (
      λ t. record {
        linedef_vertexes = λ i. sound.linked F3 i refl;
        linedef_sides = λ i. sound.linked F4 i refl;
        sidedef_sectors = λ i. sound.linked F5 i refl;
        seg_vertexes = λ i. sound.linked F6 i refl;
        seg_linedefs = λ i. sound.linked F7 i refl;
        seg_sides = λ i. sound.linked F8 i refl;
        seg_sidedefs = λ i. sound.linked F9 i refl;
      },
      λ h. refl,
    )
