use Rattle.std.proofs.Common.{◌≡◌, ◌+◌, ◌*◌, refl, sym, ap, subst, ◌∙◌, rules}
use Rattle.std.specs.Prelude.{FitsSigned}
use Rattle.std.specs.Int.{w16}
use Rattle.std.proofs.lemmas.Int.{to_z-of_z}
use Rattle.map_tables.specs.BlockMap.{BlockMap, block_number, count_of}
use Rattle.map_tables.specs.Words.{HasOffset, words_under}
use Rattle.wadlook_c.proofs.ListLemmas.{list_told}
use Rattle.wadlook_c.proofs.block.list_of.Goals as goal

pub returns-in-Ok-clause-ok : goal.returns-in-Ok-clause-ok
returns-in-Ok-clause-ok c =
    let map = c.args.map.now in
    let n = block_number map c.args.column c.args.row in
    let first = c.in-Some.first in
    let fits : FitsSigned w16 c.width.result = search rules in
    let width : c.count.result ≡ count_of map.width =
    c.count.ensures.value ∙ ap count_of (to_z-of_z w16 c.width.result fits ∙ c.width.ensures) in
    let number : c.from.result * c.from-2.result + c.from-3.result ≡ n =
    rw (c.from.ensures, c.from-2.ensures, c.from-3.ensures, width) refl in
    let offset = subst (λ k. HasOffset (words_under c.args.reading c.args.blockmap.now) k first) number c.in-Some.ensures.some in
    list_told map n first c.len.result c.in-Ok.lines
    (subst (λ words. HasOffset words n first) (sym (ap (λ (m : BlockMap). m.words) c.requires.map)) offset) c.in-Ok.ensures.list
    c.len.ensures
