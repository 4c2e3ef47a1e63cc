use Rattle.std.proofs.Common.{◌+◌, ◌<◌, arith}
use Rattle.game_warnings.specs.Patches.{patch_total}
use Rattle.game_warnings.proofs.PatchLemmas.{lacks_of_many}
use Rattle.game_warnings.proofs.patches.lacking_texture.Goals as goal

pub returns-in_default : goal.returns-in_default
returns-in_default g c = λ bytes lacks. c.in_default.ensures.none lacks.first lacks.lumps.texture1

pub returns-in_default-found : goal.returns-in_default-found
returns-in_default-found g c = λ bytes lacks. c.in_default-found.ensures.none lacks.pnames lacks.lumps.patches

pub returns-then-patch_total-gt-MOST_PATCHES : goal.returns-then-patch_total-gt-MOST_PATCHES
returns-then-patch_total-gt-MOST_PATCHES g c =
    let first = c.in-Some.first.now in
    let second = c.found_or_empty-second.result.now in
    let many : 16777216 < patch_total first + patch_total second =
    omega (arith, c.if-patch_total-gt-MOST_PATCHES.true, c.patch_total.ensures.total, c.patch_total-2.ensures.total) in
    lacks_of_many c.args.set.now first second c.in-Some.ensures.some c.found_or_empty-second.ensures.is many
