use Rattle.std.proofs.Common.{◌≡◌, ◌≤◌, ◌*◌, ◌-◌, ℕ, length, take, drop, ap, ◌∙◌, arith, rules}
use Rattle.map_tables.specs.Words.{Words, words_under}
use Rattle.map_tables.specs.declared.words.Words.TheInside.{Inside}
use Rattle.map_tables.proofs.WordLemmas.{length-words, words-part}
use Rattle.map_tables.proofs.words.Words.part.Goals as goal

-- the part lies within the bytes
within : (words : Words) (inside : Inside) (to : ℕ)
    → words_under inside.reading inside.bytes.now ≡ words → to ≤ length words.numbers
    → 2 * to ≤ length inside.bytes.now
within words inside to seen h =
    omega (
      arith,
      h,
      length-words inside.reading inside.bytes.now,
      ap (λ (words : Words). length words.numbers) seen,
    )

pub overflow_mul-from : goal.overflow_mul-from
overflow_mul-from c =
    let h : 2 * c.args.to ≤ length c.self.inside.bytes.now =
    within c.args.self.now c.self.inside c.args.to c.self.view_is c.requires.within in
    omega arith

pub overflow_mul-to : goal.overflow_mul-to
overflow_mul-to c =
    let h : 2 * c.args.to ≤ length c.self.inside.bytes.now =
    within c.args.self.now c.self.inside c.args.to c.self.view_is c.requires.within in
    omega arith

pub slice_bounds-of-end : goal.slice_bounds-of-end
slice_bounds-of-end c =
    let h : 2 * c.args.to ≤ length c.self.inside.bytes.now =
    within c.args.self.now c.self.inside c.args.to c.self.view_is c.requires.within in
    search rules

pub returns : goal.returns
returns c =
    let inside = c.self.inside in
    c.of.ensures
    ∙ words-part inside.reading inside.bytes.now c.args.from c.args.to c.requires.ordered
    (within c.args.self.now inside c.args.to c.self.view_is c.requires.within)
    ∙ ap (λ (words : Words). take (c.args.to - c.args.from) (drop c.args.from words.numbers))
    c.self.view_is
