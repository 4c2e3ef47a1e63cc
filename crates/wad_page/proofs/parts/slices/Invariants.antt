use Rattle.std.proofs.Common.{◌≡◌, drop, map}
use Rattle.wad_page.specs.Parts.{cut}
use Rattle.wad_page.proofs.PartsLemmas.{behind}
use Rattle.wad_page.proofs.parts.slices.Given as goal

abbrev pub invariant-loop-i : goal.invariant-loop-i
invariant-loop-i g l = cut l.parts.sizes.now l.parts.bytes.now ≡ behind (map (λ slice. slice.now) l.slices.items) (cut (drop l.i l.parts.sizes.now) l.rest)
