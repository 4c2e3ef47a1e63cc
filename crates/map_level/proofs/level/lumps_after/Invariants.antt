use Rattle.std.proofs.Common.{◌≡◌, ℕ, ◌+◌, ◌<◌, length, map, get_or, []}
use Rattle.map_level.specs.Level.{AreShort}
use Rattle.wad_dir.specs.Slice.{IsLump}
use Rattle.map_level.proofs.level.lumps_after.Given as goal

abbrev pub invariant-loop-i : goal.invariant-loop-i
invariant-loop-i g l = record {
  ten : length l.bytes ≡ 10;
  found : (j : ℕ) → j < l.i
      → IsLump l.set (l.label + (j + 1)) (get_or (map (λ lump. lump.now) l.bytes) j []);
  short : AreShort (map (λ lump. lump.now) l.bytes);
}
