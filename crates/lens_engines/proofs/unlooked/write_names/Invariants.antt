use Rattle.std.proofs.Common.{◌≡◌, ◌≤◌, false, drop, length}
use Rattle.std.specs.Prelude.{filter}
use Rattle.level_codes.specs.Codes.{report_order}
use Rattle.level_codes.specs.Sets.{has}
use Rattle.line_io.proofs.WriteProgressLemmas.{SoFar}
use Rattle.lens_engines.specs.Unlooked.{name_texts, names_text}
use Rattle.lens_engines.proofs.ObjectLemmas.{separated}
use Rattle.lens_engines.proofs.unlooked.write_names.Given as goal

abbrev pub invariant-codes : goal.invariant-codes
invariant-codes g l = record {
  sound : (g.W.Sink.state l.out).failed ≡ false;
  short : length l.separator ≤ 1;
  so_far : SoFar (names_text l.front l.back l.set) (g.W.Sink.state l.fn.out) (g.W.Sink.state l.out)
      (separated l.separator (name_texts l.front l.back (filter (has l.set) (drop l.rank report_order))));
}
