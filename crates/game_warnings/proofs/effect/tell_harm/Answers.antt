use Rattle.std.proofs.Common.{◌≡◌, ◌+◌, ◌*◌, true, false, sym, arith, rules}
use Rattle.std.specs.Prelude.{FitsSigned}
use Rattle.std.specs.Int.{w16}
use Rattle.std.proofs.lemmas.Int.{to_z-of_z}
use Rattle.map_level.specs.Reading.{linedef_under}
use Rattle.game_warnings.specs.Harm.{has_effect, IsFirstHarm}
use Rattle.game_warnings.specs.Holds.{HoldsOf}
use Rattle.game_warnings.specs.Warnings.{effect_number}
use Rattle.game_warnings.specs.declared.code.GameCode.TheVariants.{W17}
use Rattle.game_warnings.proofs.EffectLemmas.{effect_tag}
use Rattle.game_warnings.proofs.HarmLemmas.{does_none, does_other, first_effect, known_harms}
use Rattle.game_warnings.proofs.RankLemmas.{harm_alone, harm_none}
use Rattle.game_warnings.proofs.ToldLemmas.{told_past}
use Rattle.game_warnings.proofs.effect.tell_harm.Goals as goal

pub returns-then-not-has_effect-clause-told : goal.returns-then-not-has_effect-clause-told
returns-then-not-has_effect-clause-told g c =
    let level = c.args.level.now in
    let linedef = linedef_under level.reading c.args.linedef.now in
    let none : has_effect c.args.effect linedef.special ≡ false = sym c.if-not-has_effect.ensures in
    let at = c.args.i * 6 + effect_number c.args.effect in
    told_past (HoldsOf level W17) c.args.told.now at (at + 1) c.requires.below (omega arith)
    (harm_none level c.args.i c.args.effect linedef c.requires.there (does_other level c.args.effect linedef none))

pub harm_of-requires-clause-harms : goal.harm_of-requires-clause-harms
harm_of-requires-clause-harms g c =
    let level = c.args.level.now in
    let linedef = linedef_under level.reading c.args.linedef.now in
    let has : has_effect c.args.effect linedef.special ≡ true = sym c.if-not-has_effect.ensures in
    known_harms level c.args.effect c.args.i linedef c.args.harms.now c.requires.there has c.requires.harms

pub harm_of-requires-clause-tag : goal.harm_of-requires-clause-tag
harm_of-requires-clause-tag g c =
    let level = c.args.level.now in
    let linedef = linedef_under level.reading c.args.linedef.now in
    let tag : FitsSigned w16 c.args.linedef.now.tag = search rules in
    let has : has_effect c.args.effect linedef.special ≡ true = sym c.if-not-has_effect.ensures in
    effect_tag level c.args.effect c.args.i linedef _ c.requires.there has (sym (to_z-of_z w16 c.args.linedef.now.tag tag))

pub returns-in_default-clause-told : goal.returns-in_default-clause-told
returns-in_default-clause-told g c =
    let level = c.args.level.now in
    let linedef = linedef_under level.reading c.args.linedef.now in
    let tag : FitsSigned w16 c.args.linedef.now.tag = search rules in
    let of = simp to_z-of_z at c.harm_of.ensures in
    let at = c.args.i * 6 + effect_number c.args.effect in
    told_past (HoldsOf level W17) c.args.told.now at (at + 1) c.requires.below (omega arith)
    (harm_none level c.args.i c.args.effect linedef c.requires.there (does_none level c.args.effect linedef (rw c.in_default.is at of)))

pub tell_where-requires-clause-alone : goal.tell_where-requires-clause-alone
tell_where-requires-clause-alone g c =
    let level = c.args.level.now in
    let linedef = linedef_under level.reading c.args.linedef.now in
    let tag : FitsSigned w16 c.args.linedef.now.tag = search rules in
    let of = simp to_z-of_z at c.harm_of.ensures in
    let first : IsFirstHarm level c.args.effect linedef.tag c.in-Some.harm = rw c.in-Some.is at of in
    let is = first_effect level c.args.effect linedef.tag c.in-Some.harm first in
    rw is (harm_alone level c.args.i c.args.effect linedef c.requires.there c.in-Some.harm is first)
