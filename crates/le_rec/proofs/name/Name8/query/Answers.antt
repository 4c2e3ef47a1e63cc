use Rattle.std.proofs.Common.{◌≡◌, ◌∙◌, ap, map, take}
use Rattle.std.specs.Char.{to_ascii_uppercase}
use Rattle.le_rec.specs.Name.{name_of, padded}
use Rattle.le_rec.proofs.NameLemmas.{name_of-uppercase-padded, padded-uppercase-padded, take-min-length}
use Rattle.le_rec.proofs.name.Name8.query.Goals as goal

-- the bytes that are made are those of the query, in capital letters
made : (c : goal.After-bytes-2-1)
    → c.make_ascii_uppercase.new.self
    ≡ map to_ascii_uppercase (padded (name_of (take 8 c.args.asked.now)))
made c =
    let front : take c.min.result c.args.asked.now ≡ take 8 c.args.asked.now =
    rw c.min.ensures (take-min-length 8 c.args.asked.now) in
    c.make_ascii_uppercase.ensures.after
    ∙ ap (map to_ascii_uppercase)
    (c.until_nul-bytes.ensures ∙ ap (λ bytes. padded (name_of bytes)) front)

pub invariant_of-result : goal.invariant_of-result
invariant_of-result c = rw (made c) (padded-uppercase-padded (take 8 c.args.asked.now))

pub returns : goal.returns
returns c = ap name_of (made c) ∙ name_of-uppercase-padded (take 8 c.args.asked.now)
