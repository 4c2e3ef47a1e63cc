use Rattle.std.proofs.Common.{◌≡◌, ◌++◌, [], ap}
use Rattle.std.specs.Str.Chunks.{utf8_chunks_rest, utf8_chunk_valid, utf8_chunk_invalid}
use Rattle.std.specs.Str.Lossy.{utf8_lossy}
use Rattle.std.proofs.lemmas.Str.{utf8_lossy_empty}
use Rattle.std.proofs.lemmas.Result.{err_from_is_err_and}
use Rattle.line_io.proofs.WriteProgressLemmas.{SoFar-end, SoFar-more, SoFar-stop}
use Rattle.lens_texts.specs.JsonString.{escaped, replaced}
use Rattle.lens_texts.proofs.JsonLemmas.{escaped-chunk}
use Rattle.lens_texts.proofs.json_string.write_text.Goals as goal

pub loop-chunk-preserved : goal.loop-chunk-preserved
loop-chunk-preserved g c =
    let steps = c.in-Some.ensures.steps in
    let valid = utf8_chunk_valid c.in-Some.chunk in
    let invalid = utf8_chunk_invalid c.in-Some.chunk in
    let rest = utf8_chunks_rest c.next.new.self in
    let wrote = rw (c.as_bytes.ensures.value, c.valid.ensures, c.invalid.ensures) at c.in_ok-write_chunk.ensures.takes.whole in
    record {
      next = tt;
      ends = tt;
      sound = c.in_ok-write_chunk.ensures.ends.sound;
      so_far = SoFar-more _ (escaped valid ++ replaced invalid) (escaped (utf8_lossy rest)) c.loop-chunk.invariant.so_far
          (escaped-chunk _ valid invalid rest steps.0 steps.3.0 steps.3.1 steps.2) wrote;
    }

pub returns-in_err-write_chunk : goal.returns-in_err-write_chunk
returns-in_err-write_chunk g c =
    let p = err_from_is_err_and c.from_residual.result c.from_residual.ensures.1 in
    let steps = c.in-Some.ensures.steps in
    let valid = utf8_chunk_valid c.in-Some.chunk in
    let invalid = utf8_chunk_invalid c.in-Some.chunk in
    let rest = utf8_chunks_rest c.next.new.self in
    let wrote = rw (c.as_bytes.ensures.value, c.valid.ensures, c.invalid.ensures) at c.in_err-write_chunk.ensures in
    rw (p.1, p.2) (SoFar-stop (escaped valid ++ replaced invalid) (escaped (utf8_lossy rest)) c.loop-chunk.invariant.so_far
    (escaped-chunk _ valid invalid rest steps.0 steps.3.0 steps.3.1 steps.2) wrote)

pub returns : goal.returns
returns g c =
    let none : escaped (utf8_lossy (utf8_chunks_rest c.loop-chunk.chunk-iterator)) ≡ [] = ap escaped (utf8_lossy_empty _ c.in-None.ensures.steps.0) in
    SoFar-end tt c.loop-chunk.invariant.so_far none c.loop-chunk.invariant.sound
