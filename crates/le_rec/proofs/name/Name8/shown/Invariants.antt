use Rattle.std.proofs.Common.{◌≡◌, ◌*◌, ◌≤◌, ◌++◌, length, drop, take}
use Rattle.le_rec.specs.Name.{shown_name}
use Rattle.le_rec.proofs.name.Name8.shown.Given as goal

abbrev pub invariant-loop-byte : goal.invariant-loop-byte
invariant-loop-byte l = record {
  len_is : l.len ≡ length (shown_name (take l.byte-index l.byte-items));
  room : l.len ≤ 4 * l.byte-index;
  text_is : l.text ≡ shown_name (take l.byte-index l.byte-items) ++ drop l.len l.initial.text;
}
