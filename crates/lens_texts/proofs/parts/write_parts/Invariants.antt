use Rattle.std.proofs.Common.{◌≡◌, false, drop}
use Rattle.line_io.proofs.WriteProgressLemmas.{SoFar}
use Rattle.lens_texts.specs.Parts.{joined}
use Rattle.lens_texts.proofs.parts.write_parts.Given as goal

abbrev pub invariant-parts : goal.invariant-parts
invariant-parts g l = record {
  sound : (g.W.Sink.state l.out).failed ≡ false;
  so_far : SoFar (joined (g.P.TextParts.parts l.text)) (g.W.Sink.state l.fn.out) (g.W.Sink.state l.out) (joined (drop l.number (g.P.TextParts.parts l.text)));
}
