use Rattle.std.proofs.Common.{◌≡◌, false}
use Rattle.std.specs.Str.Chunks.{utf8_chunks_rest}
use Rattle.std.specs.Str.Lossy.{utf8_lossy}
use Rattle.line_io.proofs.WriteProgressLemmas.{SoFar}
use Rattle.lens_texts.specs.JsonString.{escaped}
use Rattle.lens_texts.proofs.json_string.write_text.Given as goal

abbrev pub invariant-loop-chunk : goal.invariant-loop-chunk
invariant-loop-chunk g l = record {
  next : (goal.iterator-loop-chunk g).can_next l.chunk-iterator;
  ends : (goal.iterator-loop-chunk g).is_finite l.chunk-iterator;
  sound : (g.W.Sink.state l.out).failed ≡ false;
  so_far : SoFar (escaped (utf8_lossy l.fn.bytes)) (g.W.Sink.state l.fn.out) (g.W.Sink.state l.out)
      (escaped (utf8_lossy (utf8_chunks_rest l.chunk-iterator)));
}
