use Rattle.std.proofs.Common.{refl}
use Rattle.level_codes.specs.declared.code.WarningCode.TheVariants.{W1, W2, W3, W4, W5, W6, W7, W8, W11, W12, W13, W20, W23, W24}
use Rattle.map_warnings.proofs.GameLemmas.{none_reserved, not_game}
use Rattle.map_warnings.proofs.ToldLemmas.{told_nothing}
use Rattle.map_warnings.specs.Holds.{HoldsIn}
use Rattle.map_warnings.proofs.AloneLemmas.{ok_alone}
use Rattle.level_codes.specs.Codes.{code_table}
use Rattle.map_warnings.proofs.checks.warnings.Goals as goal

-- what is looked for has what it wants
pub in_void-requires : goal.in_void-requires
unfolding code_table
in_void-requires g c = rw c.in-W3.is at c.requires.looked

pub textures_in-requires : goal.textures_in-requires
unfolding code_table
textures_in-requires g c = let looked = rw c.in-W9.is at c.requires.looked in looked.1

pub flats_in-requires : goal.flats_in-requires
unfolding code_table
flats_in-requires g c = let looked = rw c.in-W10.is at c.requires.looked in looked.1

pub returns-in-W1-clause-told : goal.returns-in-W1-clause-told
returns-in-W1-clause-told g c =
    rw c.in-W1.is (ok_alone c.args.resources.now c.args.level.now W1 (λ e. cc) (λ e. cc) (λ game. not_game game refl) c.unclosed.result c.unclosed.ensures.told)

pub returns-in-W2-clause-told : goal.returns-in-W2-clause-told
returns-in-W2-clause-told g c =
    rw c.in-W2.is (ok_alone c.args.resources.now c.args.level.now W2 (λ e. cc) (λ e. cc) (λ game. not_game game refl) c.bare_walls.result c.bare_walls.ensures.told)

pub returns-in-W3-clause-told : goal.returns-in-W3-clause-told
returns-in-W3-clause-told g c =
    rw c.in-W3.is (ok_alone c.args.resources.now c.args.level.now W3 (λ e. cc) (λ e. cc) (λ game. not_game game refl) c.in_void.result c.in_void.ensures.told)

pub returns-in-W4-clause-told : goal.returns-in-W4-clause-told
returns-in-W4-clause-told g c =
    rw c.in-W4.is (ok_alone c.args.resources.now c.args.level.now W4 (λ e. cc) (λ e. cc) (λ game. not_game game refl) c.untagged.result c.untagged.ensures.told)

pub returns-in-W5-clause-told : goal.returns-in-W5-clause-told
returns-in-W5-clause-told g c =
    rw c.in-W5.is (ok_alone c.args.resources.now c.args.level.now W5 (λ e. cc) (λ e. cc) (λ game. not_game game refl) c.mismatched.result c.mismatched.ensures.told)

pub returns-in-W6-clause-told : goal.returns-in-W6-clause-told
returns-in-W6-clause-told g c =
    rw c.in-W6.is (ok_alone c.args.resources.now c.args.level.now W6 (λ e. cc) (λ e. cc) (λ game. not_game game refl) c.twins.result c.twins.ensures.told)

pub returns-in-W7-clause-told : goal.returns-in-W7-clause-told
returns-in-W7-clause-told g c =
    rw c.in-W7.is (ok_alone c.args.resources.now c.args.level.now W7 (λ e. cc) (λ e. cc) (λ game. not_game game refl) c.missing_start.result c.missing_start.ensures.told)

pub returns-in-W8-clause-told : goal.returns-in-W8-clause-told
returns-in-W8-clause-told g c =
    rw c.in-W8.is (ok_alone c.args.resources.now c.args.level.now W8 (λ e. cc) (λ e. cc) (λ game. not_game game refl) c.few_starts.result c.few_starts.ensures.told)

pub returns-in-W11-clause-told : goal.returns-in-W11-clause-told
returns-in-W11-clause-told g c =
    rw c.in-W11.is (ok_alone c.args.resources.now c.args.level.now W11 (λ e. cc) (λ e. cc) (λ game. not_game game refl) c.unknown_things.result c.unknown_things.ensures.told)

pub returns-in-W12-clause-told : goal.returns-in-W12-clause-told
returns-in-W12-clause-told g c =
    rw (c.in-W12.is, c.new.ensures)
    (told_nothing (HoldsIn c.args.resources.now c.args.level.now W12) c.args.most (none_reserved c.args.resources.now c.args.level.now W12 refl))

pub returns-in-W13-clause-told : goal.returns-in-W13-clause-told
returns-in-W13-clause-told g c =
    rw (c.in-W13.is, c.new-in-W13.ensures)
    (told_nothing (HoldsIn c.args.resources.now c.args.level.now W13) c.args.most (none_reserved c.args.resources.now c.args.level.now W13 refl))

pub returns-in-W20-clause-told : goal.returns-in-W20-clause-told
returns-in-W20-clause-told g c =
    rw (c.in-W20.is, c.new-in-W20.ensures)
    (told_nothing (HoldsIn c.args.resources.now c.args.level.now W20) c.args.most (none_reserved c.args.resources.now c.args.level.now W20 refl))

pub returns-in-W23-clause-told : goal.returns-in-W23-clause-told
returns-in-W23-clause-told g c =
    rw (c.in-W23.is, c.new-in-W23.ensures)
    (told_nothing (HoldsIn c.args.resources.now c.args.level.now W23) c.args.most (none_reserved c.args.resources.now c.args.level.now W23 refl))

pub returns-in-W24-clause-told : goal.returns-in-W24-clause-told
returns-in-W24-clause-told g c =
    rw (c.in-W24.is, c.new-in-W24.ensures)
    (told_nothing (HoldsIn c.args.resources.now c.args.level.now W24) c.args.most (none_reserved c.args.resources.now c.args.level.now W24 refl))
