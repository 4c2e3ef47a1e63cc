use Rattle.std.proofs.Common.{◌/◌, ◌%◌, ◌^◌, Some, refl, sym, ap, ◌∙◌}
use Rattle.std.specs.Prelude.{◌==◌}
use Rattle.std.specs.Int.{bit_at}
use Rattle.std.specs.Option.{option_map}
use Rattle.std.proofs.lemmas.Nat.{and_mask}
use Rattle.std.proofs.lemmas.Option.{slice_get_past, slice_get_read}
use Rattle.map_tables.proofs.BitLemmas.{slice_get-bits_of}
use Rattle.map_tables.proofs.reject.bit_at.Goals as goal

pub returns-in_err-byte : goal.returns-in_err-byte
returns-in_err-byte c =
    let bytes = c.args.bytes.now in
    let number = c.args.number in
    c.from_residual.ensures
    ∙ sym (slice_get-bits_of bytes number ∙ ap (option_map (λ byte. bit_at byte (number % 8) == 1))
    (slice_get_past bytes (number / 8) c.in_err-byte.ensures.lookup.3))

pub returns : goal.returns
returns c =
    let bytes = c.args.bytes.now in
    let number = c.args.number in
    let byte = c.in_ok-byte.byte.now in
    let there =
    slice_get_read bytes _
    (number / 8) byte refl c.in_ok-byte.ensures.lookup.3.0 c.in_ok-byte.ensures.lookup.1 in
    ap (λ n. Some (n == 1)) (and_mask (byte / 2 ^ (number % 8)) 1)
    ∙ sym (slice_get-bits_of bytes number
    ∙ ap (option_map (λ byte. bit_at byte (number % 8) == 1)) there)
