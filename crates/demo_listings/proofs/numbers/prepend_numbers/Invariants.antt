use Rattle.std.proofs.Common.{◌≡◌, ◌+◌, ◌*◌, ◌≤◌, ◌++◌, drop, length}
use Rattle.demo_listings.specs.Listing.{numbers_text}
use Rattle.demo_listings.proofs.numbers.prepend_numbers.Given as goal

abbrev pub invariant-loop-i : goal.invariant-loop-i
invariant-loop-i l = record {
  text : l.line ≡ numbers_text (drop l.i l.bytes) ++ l.fn.line;
  room : length l.line + 4 * l.i ≤ length l.fn.line + 4 * length l.bytes;
}
