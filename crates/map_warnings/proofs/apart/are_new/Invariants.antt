use Rattle.std.proofs.Common.{drop}
use Rattle.map_warnings.specs.Buckets.{bucket_in}
use Rattle.map_warnings.specs.EndsKey.{AreApart}
use Rattle.map_warnings.specs.KeyLinks.{AreLinks}
use Rattle.map_warnings.proofs.apart.are_new.Given as goal

abbrev pub invariant-loop-i : goal.invariant-loop-i
invariant-loop-i l = record {
  links : AreLinks bucket_in l.numbers 4096 l.i l.firsts l.next;
  apart : AreApart (drop l.i l.numbers);
}
