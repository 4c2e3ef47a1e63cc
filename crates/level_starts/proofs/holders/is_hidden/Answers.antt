use Rattle.std.proofs.Common.{◌≡◌, ◌≢◌, length, Some, sym, ap, ◌∙◌, rules}
use Rattle.le_rec.specs.Name.{name_of, padded, query_of}
use Rattle.level_starts.proofs.HolderLemmas.{hidden_by_holder, hidden_by_query, other_bytes, same_bytes}
use Rattle.level_starts.proofs.holders.is_hidden.Goals as goal

pub returns-then-ne : goal.returns-then-ne
returns-then-ne g c = λ all are has at.
    let bytes = c.bytes-bytes.result in
    let name = c.bytes-bytes.ensures.name in
    let eight : length bytes ≡ 8 = search rules in
    let stored : bytes ≡ padded (name_of bytes) = c.bytes-bytes.ensures.padded ∙ ap padded (sym name) in
    let differs : query_of bytes ≢ name_of bytes = λ same.
    other_bytes c.bytes.result bytes c.if-ne.ensures (c.bytes.ensures.padded ∙ ap padded (c.query.ensures ∙ same) ∙ sym stored) in
    rw (← name) (hidden_by_query all c.args.holders.now bytes c.args.g are (at ∙ ap Some (sym name)) eight stored differs)

pub returns-in-Some : goal.returns-in-Some
returns-in-Some g c = λ all are has at.
    let bytes = c.bytes-bytes.result in
    let name = c.bytes-bytes.ensures.name in
    let eight : length bytes ≡ 8 = search rules in
    let stored : bytes ≡ padded (name_of bytes) = c.bytes-bytes.ensures.padded ∙ ap padded (sym name) in
    let same : query_of bytes ≡ name_of bytes = sym (c.bytes.ensures.name ∙ c.query.ensures) ∙ ap name_of (same_bytes c.bytes.result bytes c.if-ne.ensures) in
    rw (← name) (hidden_by_holder all c.args.holders.now bytes c.args.g are (at ∙ ap Some (sym name)) eight stored same c.in-Some.holder.now (search rules))
