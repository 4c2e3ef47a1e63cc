use Rattle.std.proofs.Common.{◌≡◌, ◌∙◌, ◌+◌, slice_index_or, pos, arith, rules}
use Rattle.std.proofs.lemmas.Int.{to_z-of_z}
use Rattle.std.proofs.lemmas.List.{append_assoc}
use Rattle.std.specs.Prelude.{FitsSigned}
use Rattle.std.specs.Int.{w16}
use Rattle.le_rec.proofs.NumberLemmas.{drop-later}
use Rattle.le_rec.proofs.number.put_box.Goals as goal

pub returns-clause-front : goal.returns-clause-front
returns-clause-front c =
    let numbers = c.args.numbers.now in
    let at = c.args.at in
    let top : FitsSigned w16 (slice_index_or numbers 0 (pos 0)) = search rules in
    let bottom : FitsSigned w16 (slice_index_or numbers 1 (pos 0)) = search rules in
    let left : FitsSigned w16 (slice_index_or numbers 2 (pos 0)) = search rules in
    let right : FitsSigned w16 (slice_index_or numbers 3 (pos 0)) = search rules in
    let put_top = simp to_z-of_z at c.put_i16.ensures.front in
    let put_bottom = simp to_z-of_z at c.put_i16-2.ensures.front in
    let put_left = simp to_z-of_z at c.put_i16-3.ensures.front in
    let put_right = simp to_z-of_z at c.put_i16-4.ensures.front in
    let four : at + 2 + 2 ≡ at + 4 = omega arith in
    let six : at + 4 + 2 ≡ at + 6 = omega arith in
    let eight : at + 6 + 2 ≡ at + 8 = omega arith in
    rw (← eight, put_right, ← six, put_left, ← four, put_bottom, put_top) (simp append_assoc)

pub returns-clause-rest : goal.returns-clause-rest
returns-clause-rest c =
    let at = c.args.at in
    let old = c.args.bytes.now in
    let one = c.put_i16.new.bytes in
    let two = c.put_i16-2.new.bytes in
    let three = c.put_i16-3.new.bytes in
    drop-later c.put_i16-4.new.bytes three (at + 6 + 2) (at + 8) (omega arith) c.put_i16-4.ensures.rest
    ∙ drop-later three two (at + 4 + 2) (at + 8) (omega arith) c.put_i16-3.ensures.rest
    ∙ drop-later two one (at + 2 + 2) (at + 8) (omega arith) c.put_i16-2.ensures.rest
    ∙ drop-later one old (at + 2) (at + 8) (omega arith) c.put_i16.ensures.rest
