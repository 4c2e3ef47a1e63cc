-- How the lines of a code's findings are written, one after another.
use Rattle.std.proofs.Common.{◌≡◌, ℕ, zero, suc, ◌+◌, ◌-◌, ◌<◌, ◌≤◌, false, List, [], ◌∷◌, ◌++◌, take, Ok, Err, refl, ap, arith}
use Rattle.std.specs.List.{flat_map}
use Rattle.le_rec.specs.Sink.{SinkState}
use Rattle.line_io.proofs.WriteProgressLemmas.{SoFar, SoFar-none, SoFar-more, SoFar-stop, SoFar-end}
use Rattle.line_io.specs.Writes.{Writes}
use Rattle.line_io.specs.declared.fault.IoFault.{IoFault}
use Rattle.map_level.specs.Findings.{IsFirst}
use Rattle.lens_engines.specs.LevelLines.{AreIndexes}
use Rattle.lens_engines.proofs.IndexLemmas.{AreIndexesFrom, from_all, goes_on, none_from}

-- of the first indexes the lines were written up to a number, and so many may still be
pub record Shows (holds : ℕ → Type 0) (line : ℕ → List ℕ) (whole : List ℕ) (before after : SinkState) (from left : ℕ) : Type 0 where
  pub rest : List ℕ
  pub are : AreIndexesFrom holds from rest
  pub so_far : SoFar whole before after (flat_map line (take left rest))

pub Shows-none : (holds : ℕ → Type 0) (line : ℕ → List ℕ) (before : SinkState) (shown : ℕ) (indexes : List ℕ) → AreIndexes holds indexes
    → Shows holds line (flat_map line (take shown indexes)) before before 0 shown
Shows-none holds line before shown indexes are = record {
  rest = indexes;
  are = from_all holds indexes are;
  so_far = SoFar-none (flat_map line (take shown indexes)) before;
}

-- what is still to be written begins with the line of the first index
next : (line : ℕ → List ℕ) (left at : ℕ) (rest others : List ℕ) → 0 < left → rest ≡ at ∷ others
    → flat_map line (take left rest) ≡ line at ++ flat_map line (take (left - 1) others)
next line zero at rest others some begins = absurd (omega arith)
next line (suc left) at rest others some begins = let one : suc left - 1 ≡ left = omega arith in rw (begins, one) refl

pub Shows-more : {T : Type 0} {holds : ℕ → Type 0} {line : ℕ → List ℕ} {whole : List ℕ} {before between : SinkState} {from left : ℕ} (after : SinkState) (at : ℕ) {x : T}
    → Shows holds line whole before between from left → 0 < left → IsFirst holds from at → Writes between after (line at) (Ok x)
    → Shows holds line whole before after (at + 1) (left - 1)
Shows-more {holds = holds} {line = line} {from = from} {left = left} after at s some first wrote =
    let on = goes_on holds from at s.rest s.are first in
    record {
      rest = on.others;
      are = on.are;
      so_far = SoFar-more after (line at) (flat_map line (take (left - 1) on.others)) s.so_far (next line left at s.rest on.others some on.begins) wrote.takes.whole;
    }

pub Shows-stop : {T U : Type 0} {holds : ℕ → Type 0} {line : ℕ → List ℕ} {whole : List ℕ} {before between after : SinkState} {from left : ℕ} (at : ℕ) {e : IoFault}
    → Shows holds line whole before between from left → 0 < left → IsFirst holds from at → Writes {T = T} between after (line at) (Err e)
    → Writes {T = U} before after whole (Err e)
Shows-stop {holds = holds} {line = line} {from = from} {left = left} at s some first stopped =
    let on = goes_on holds from at s.rest s.are first in
    SoFar-stop (line at) (flat_map line (take (left - 1) on.others)) s.so_far (next line left at s.rest on.others some on.begins) stopped

-- no index is left
pub Shows-out : {T : Type 0} {holds : ℕ → Type 0} {line : ℕ → List ℕ} {whole : List ℕ} {before after : SinkState} {from left : ℕ} (x : T)
    → Shows holds line whole before after from left → ((i : ℕ) → from ≤ i → ¬ holds i) → after.failed ≡ false → Writes before after whole (Ok x)
Shows-out {holds = holds} {line = line} {from = from} {left = left} x s none sound =
    let empty = none_from holds from s.rest s.are none in
    SoFar-end x s.so_far (none_taken left s.rest empty) sound
  where
    none_taken : (left : ℕ) (rest : List ℕ) → rest ≡ [] → flat_map line (take left rest) ≡ []
    none_taken zero rest empty = refl
    none_taken (suc left) rest empty = rw empty refl

-- all that may be were written
pub Shows-end : {T : Type 0} {holds : ℕ → Type 0} {line : ℕ → List ℕ} {whole : List ℕ} {before after : SinkState} {from left : ℕ} (x : T)
    → Shows holds line whole before after from left → left ≡ 0 → after.failed ≡ false → Writes before after whole (Ok x)
Shows-end {line = line} x s none sound = SoFar-end x s.so_far (ap (λ n. flat_map line (take n s.rest)) none) sound
