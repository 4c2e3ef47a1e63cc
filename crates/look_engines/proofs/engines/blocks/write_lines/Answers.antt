use Rattle.std.proofs.Common.{◌+◌, ◌-◌, List, ℕ, [], ◌∷◌, ◌++◌, take, drop, Result, Ok, Err, codes, refl, sym, arith}
use Rattle.std.proofs.lemmas.Result.{err_from_is_err_and}
use Rattle.std.proofs.lemmas.List.{append-nil}
use Rattle.le_rec.specs.Sink.{SinkState}
use Rattle.line_io.specs.Writes.{Writes}
use Rattle.line_io.specs.declared.fault.IoFault.{IoFault}
use Rattle.line_io.proofs.WriteLemmas.{Writes-stop}
use Rattle.line_io.proofs.WriteProgressLemmas.{SoFar, SoFar-more, SoFar-stop, SoFar-end}
use Rattle.look_engines.specs.Engines.Show.{numbers_text}
use Rattle.look_engines.proofs.engines.BlocksLemmas.{block_text-more, words-part}
use Rattle.look_engines.proofs.engines.blocks.write_lines.Goals as goal

-- the last part of a text ends it as it ended
last : {whole : List ℕ} {before between after : SinkState} {text : List ℕ} (result : Result (Unit {0}) IoFault) → SoFar whole before between text → Writes between after text result → Writes before after whole result
last {text = text} (Ok x) s w = SoFar-end x (SoFar-more _ text [] s (sym (append-nil text)) w.takes.whole) refl w.ends.sound
last {text = text} (Err fault) s w = SoFar-stop text [] s (sym (append-nil text)) w

pub returns-in_err-write_front : goal.returns-in_err-write_front
returns-in_err-write_front g c =
    let p = err_from_is_err_and c.from_residual.result c.from_residual.ensures.1 in
    let pair = c.args.pair in
    let more = numbers_text c.args.lines.now ++ 10 ∷ [] in
    rw (p.1, p.2, block_text-more pair.x pair.y c.args.bx c.args.by (codes " lines") more) (Writes-stop more c.in_err-write_front.ensures)

pub returns-in_err-write_numbers : goal.returns-in_err-write_numbers
returns-in_err-write_numbers g c =
    let p = err_from_is_err_and c.from_residual-in_err-write_numbers.result c.from_residual-in_err-write_numbers.ensures.1 in
    let words = c.args.lines.now in
    let from = c.parts.from in
    let to = from + 11 in
    rw (p.1, p.2) (SoFar-stop (numbers_text (take (to - from) (drop from words))) (numbers_text (drop to words) ++ 10 ∷ []) c.parts.invariant.so_far
    (words-part words from to (10 ∷ []) (omega arith)) c.in_err-write_numbers.ensures)

pub parts-preserved : goal.parts-preserved
parts-preserved g c =
    let words = c.args.lines.now in
    let from = c.parts.from in
    let to = from + 11 in
    record {
      sound = c.in_ok-write_numbers.ensures.ends.sound;
      within = omega (arith, c.parts-test.true, c.len.ensures, c.parts.invariant.within);
      so_far = SoFar-more _ (numbers_text (take (to - from) (drop from words))) (numbers_text (drop to words) ++ 10 ∷ []) c.parts.invariant.so_far
          (words-part words from to (10 ∷ []) (omega arith)) c.in_ok-write_numbers.ensures.takes.whole;
    }

pub returns : goal.returns
returns g c = last c.write_last.result c.parts.invariant.so_far c.write_last.ensures
