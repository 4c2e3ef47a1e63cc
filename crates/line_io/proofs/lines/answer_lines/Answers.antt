use Rattle.std.proofs.Common.{◌≡◌, ◌⊎◌, ℕ, ◌+◌, ◌-◌, ◌≤◌, ◌<◌, ltb, length, take, inl, inr, arith, refl, ◌∙◌}
use Rattle.std.proofs.lemmas.Bool.{cases_lt}
use Rattle.std.proofs.lemmas.Bool.Decides.{nat_tests}
use Rattle.std.proofs.lemmas.List.{take_all}
use Rattle.std.proofs.lemmas.Result.{err_from_is_err_and}
use mir.Val.{bool_byte}
use Rattle.line_io.proofs.InputLemmas.{nil_from_empty, one_past, some_from_empty}
use Rattle.line_io.proofs.ProgressLemmas.{Progress-none, Progress-more, cut_at, ends_all, ends_block, ends_long, ends_read}
use Rattle.line_io.proofs.lines.answer_lines.Goals as goal

byte_past : (n limit read : ℕ) → limit < read → n ≡ bool_byte (ltb limit read) → n ≡ 1
byte_past n limit read h e = grind (arith, nat_tests)

byte_within : (n limit read : ℕ) → read ≤ limit → n ≡ bool_byte (ltb limit read) → n ≡ 0
byte_within n limit read h e = grind (arith, nat_tests)

-- how many of a block's bytes are within the limit, where all or all but one are
within_or_one_past : (count limit long n : ℕ) → count ≤ limit → count + long ≤ limit + 1
    → n ≡ bool_byte (ltb limit (count + long))
    → (count + (long - n) ≡ limit) ⊎ ((count + long ≤ limit) × (long - n ≡ long))
within_or_one_past count limit long n within room e = elim (cases_lt limit (count + long)) [
  | inl past ↦
      let one : n ≡ 1 = byte_past n limit (count + long) past e in inl (omega arith)
  | inr short ↦
      let none : n ≡ 0 = byte_within n limit (count + long) short e in inr (short, omega arith)
]

pub turns-init : goal.turns-init
turns-init g c = record {
  same = refl;
  source_sound = c.requires.input;
  sink_sound = c.requires.out;
  turns = omega arith;
  within = omega arith;
  so_far = rw c.new-part.ensures (Progress-none _ _ _);
}

pub returns-in_err-bytes : goal.returns-in_err-bytes
returns-in_err-bytes g c =
    let p = err_from_is_err_and c.from_residual.result c.from_residual.ensures.1 in
    let e = c.in_err-bytes.ensures.fault in
    rw (p.1, p.2, e.0)
    (ends_read c.turns.invariant.so_far _ c.args.limit _ c.turns.invariant.within
    c.in_err-bytes.ensures.stays e.1 c.turns.invariant.sink_sound)

pub returns-then-is_empty : goal.returns-then-is_empty
returns-then-is_empty g c =
    let block = c.in_ok-bytes.ensures in
    let none = nil_from_empty c.in_ok-bytes.bytes.now c.if-is_empty.ensures in
    ends_all c.turns.invariant.so_far _ c.args.limit _ _ c.answer_last.result
    c.turns.invariant.within (rw none at block.given) (block.end none)
    (block.sound ∙ c.turns.invariant.source_sound) c.turns.invariant.sink_sound
    c.answer_last.ensures.ends
    (rw c.turns.invariant.same at c.answer_last.ensures.takes)

pub returns-in_err-answer_block : goal.returns-in_err-answer_block
returns-in_err-answer_block g c =
    let p =
    err_from_is_err_and c.from_residual-in_err-answer_block.result
    c.from_residual-in_err-answer_block.ensures.1 in
    let bytes = c.in_ok-bytes.bytes.now in
    let room =
    one_past _ _ c.args.limit _
    (length bytes) _ c.in_ok-bytes.ensures.bound c.min-room.ensures c.turns.invariant.within in
    let works = c.in_ok-bytes.ensures.sound ∙ c.turns.invariant.source_sound in
    rw (p.1, p.2)
    (ends_block c.turns.invariant.so_far c.args.limit bytes _ _ (length bytes - c.from.result) room
    c.in_ok-bytes.ensures.given works _ _
    (cut_at c.turns.invariant.so_far c.args.limit bytes _
    (within_or_one_past c.turns.read c.args.limit _ _ c.turns.invariant.within room c.from.ensures))
    c.in_err-answer_block.ensures.ends (rw c.turns.invariant.same at c.in_err-answer_block.ensures.takes)
    (rw c.turns.invariant.same at c.in_err-answer_block.ensures.unbroken))

pub returns-then-read-limit : goal.returns-then-read-limit
returns-then-read-limit g c =
    let bytes = c.in_ok-bytes.bytes.now in
    let room =
    one_past _ _ c.args.limit _
    (length bytes) _ c.in_ok-bytes.ensures.bound c.min-room.ensures c.turns.invariant.within in
    let one = byte_past _ _ _ c.if-read-limit.true c.from.ensures in
    let filled = some_from_empty (length bytes) c.if-is_empty.ensures in
    let wrote = c.in_ok-answer_block.ensures in
    ends_long c.turns.invariant.so_far c.args.limit bytes _ _
    (length bytes - c.from.result) room c.in_ok-bytes.ensures.given
    (c.in_ok-bytes.ensures.sound ∙ c.turns.invariant.source_sound) _ c.if-read-limit.true
    (omega arith) wrote.ends.sound (λ f told. (rw c.turns.invariant.same at wrote.takes f told).whole)

pub turns-preserved : goal.turns-preserved
turns-preserved g c =
    let bytes = c.in_ok-bytes.bytes.now in
    let none = byte_within _ _ _ c.if-read-limit.false c.from.ensures in
    let filled = some_from_empty (length bytes) c.if-is_empty.ensures in
    let whole : take (length bytes - c.from.result) bytes ≡ bytes =
    take_all _ bytes (omega arith) in
    let wrote = c.in_ok-answer_block.ensures in
    record {
      same = wrote.same ∙ c.turns.invariant.same;
      source_sound = c.in_ok-bytes.ensures.sound ∙ c.turns.invariant.source_sound;
      sink_sound = wrote.ends.sound;
      turns = omega arith;
      within = omega arith;
      so_far =
          Progress-more c.turns.invariant.so_far _ _ bytes _ _ c.in_ok-bytes.ensures.given
          (λ f told. (rw (whole, c.turns.invariant.same) at wrote.takes f told).whole) (rw whole at wrote.kept) refl;
    }
