use Rattle.std.proofs.Common.{◌≢◌, ℕ, ◌≤◌, Some}
use Rattle.std.specs.List.{slice_get}
use Rattle.wad_dir.specs.Entries.{names_in}
use Rattle.later_demos.proofs.footer.last_named.Given as goal

abbrev pub invariant-loop-i : goal.invariant-loop-i
invariant-loop-i l = (h : ℕ) → l.i ≤ h → slice_get (names_in l.file) h ≢ Some l.fn.name
