use Rattle.std.proofs.Common.{◌≡◌, ◌+◌, ◌-◌, ◌*◌, ◌/◌, ◌%◌, ◌<◌, get_or, arith, rules, refl, subst, sym}
use Rattle.map_warnings.specs.Holds.{HoldsOf}
use Rattle.map_warnings.specs.RunNumbers.{pair_bound}
use Rattle.map_warnings.specs.Warnings.{TellsBelow}
use Rattle.level_codes.specs.declared.code.WarningCode.TheVariants.{W1}
use Rattle.map_warnings.proofs.ClosingLemmas.{bound_below, unclosed_alone, unclosed_between, unclosed_first}
use Rattle.map_warnings.proofs.ToldLemmas.{told_past}
use Rattle.map_warnings.proofs.closing.tell_from.Goals as goal

pub tell_where-requires-clause-below : goal.tell_where-requires-clause-below
tell_where-requires-clause-below g c =
    let level = c.args.level.now in
    let numbers = c.args.numbers.now in
    let pair = get_or numbers c.args.k 0 / 2 in
    let first : ¬ ((0 < c.args.k) × (get_or numbers (c.args.k - 1) 0 / 2 ≡ pair)) = search rules in
    let below = told_past (HoldsOf level W1) c.args.told.now (pair_bound numbers c.args.k) pair c.requires.below
    (bound_below level numbers c.requires.numbers c.args.k pair c.requires.within refl first)
    (unclosed_between level numbers c.requires.numbers c.args.k c.requires.within) in
    let is : pair / 65536 * 65536 + pair % 65536 ≡ pair = omega arith in
    subst (λ n. TellsBelow (HoldsOf level W1) n c.args.told.now) (sym is) below

pub tell_where-requires-clause-tells : goal.tell_where-requires-clause-tells
tell_where-requires-clause-tells g c =
    let level = c.args.level.now in
    let numbers = c.args.numbers.now in
    let pair = get_or numbers c.args.k 0 / 2 in
    let first : ¬ ((0 < c.args.k) × (get_or numbers (c.args.k - 1) 0 / 2 ≡ pair)) = search rules in
    let told = unclosed_first level numbers c.requires.numbers c.args.k pair c.run_end-middle.result c.run_end-end.result c.requires.within refl first
    c.run_end-middle.ensures.after c.run_end-end.ensures.after c.run_end-end.ensures.within
    c.run_end-middle.ensures.same c.run_end-middle.ensures.other c.run_end-end.ensures.same c.run_end-end.ensures.other in
    search rules

pub tell_where-requires-clause-alone : goal.tell_where-requires-clause-alone
tell_where-requires-clause-alone g c =
    let pair = get_or c.args.numbers.now c.args.k 0 / 2 in
    unclosed_alone c.args.level.now c.args.numbers.now c.requires.numbers (pair / 65536) (pair % 65536) (omega arith)
