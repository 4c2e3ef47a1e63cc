use Rattle.std.proofs.Common.{◌≡◌, Bool, false, FitsSigned, w16, sym, ◌∙◌, refl, rules}
use Rattle.std.proofs.lemmas.Int.{to_z-of_z}
use Rattle.std.specs.Prelude.{if◌then◌else◌}
use Rattle.map_picture.specs.Class.{is_key, is_monster, is_start, is_weapon}
use Rattle.map_picture.specs.declared.class.Class.TheVariants.{Start, Monster, Weapon, Key, Other}
use Rattle.map_picture.proofs.class.class_of.Goals as goal

-- what is of none of the four
none_of_four : (a b c d : Bool) → a ≡ false → b ≡ false → c ≡ false → d ≡ false
    → Other ≡ (if a then Start else if b then Monster else if c then Weapon else if d then Key else Other)
none_of_four a b c d start monster weapon key = rw (start, monster, weapon, key) refl

pub returns-else-is_key : goal.returns-else-is_key
returns-else-is_key c =
    let fits : FitsSigned w16 c.args.kind = search rules in
    let start = simp to_z-of_z at c.is_start.ensures in
    let monster = simp to_z-of_z at c.is_monster.ensures in
    let weapon = simp to_z-of_z at c.is_weapon.ensures in
    let key = simp to_z-of_z at c.is_key.ensures in
    none_of_four (is_start c.args.kind) (is_monster c.args.kind) (is_weapon c.args.kind) (is_key c.args.kind)
    (sym start ∙ c.if-is_start.false) (sym monster ∙ c.if-is_monster.false) (sym weapon ∙ c.if-is_weapon.false) (sym key ∙ c.if-is_key.false)
