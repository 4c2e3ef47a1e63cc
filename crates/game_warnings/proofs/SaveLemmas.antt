-- How the length of a savegame comes to be, record by record.
use Rattle.std.proofs.Common.{◌≡◌, ℕ, ◌+◌, ◌≤◌, List, [], ◌∷◌, ◌++◌, length, take, Some, refl, sym, ap, ◌∙◌}
use Rattle.std.specs.List.{slice_get}
use Rattle.std.proofs.lemmas.List.{take_all}
use Rattle.le_rec.specs.declared.records.Sector.{Sector}
use Rattle.le_rec.specs.declared.records.Thing.{Thing}
use Rattle.game_warnings.specs.Save.{behind_special, behind_thing, specials_end, things_end}
use Rattle.game_warnings.specs.declared.skill.Skill.{Skill}
use Rattle.game_warnings.proofs.CountLemmas.{take_with}

things_end-push : (skill : Skill) (at : ℕ) (things : List Thing) (thing : Thing) → things_end skill at (things ++ thing ∷ []) ≡ behind_thing skill (things_end skill at things) thing
things_end-push skill at [] thing = refl
things_end-push skill at (first ∷ things) thing = things_end-push skill (behind_thing skill at first) things thing

specials_end-push : (at : ℕ) (sectors : List Sector) (sector : Sector) → specials_end at (sectors ++ sector ∷ []) ≡ behind_special (specials_end at sectors) sector
specials_end-push at [] sector = refl
specials_end-push at (first ∷ sectors) sector = specials_end-push (behind_special at first) sectors sector

-- a thing more
pub things_more : (skill : Skill) (start : ℕ) (things : List Thing) (k : ℕ) (thing : Thing) (n m : ℕ) → slice_get things k ≡ Some thing
    → n ≡ things_end skill start (take k things) → m ≡ behind_thing skill n thing → m ≡ things_end skill start (take (k + 1) things)
things_more skill start things k thing n m at before after =
    after ∙ ap (λ x. behind_thing skill x thing) before ∙ sym (things_end-push skill start (take k things) thing)
    ∙ ap (things_end skill start) (sym (take_with things k thing at))

-- a sector more, and all
pub specials_more : (start : ℕ) (sectors : List Sector) (s : ℕ) (sector : Sector) (n m : ℕ) → slice_get sectors s ≡ Some sector
    → n ≡ specials_end start (take s sectors) → m ≡ behind_special n sector → m ≡ specials_end start (take (s + 1) sectors)
specials_more start sectors s sector n m at before after =
    after ∙ ap (λ x. behind_special x sector) before ∙ sym (specials_end-push start (take s sectors) sector)
    ∙ ap (specials_end start) (sym (take_with sectors s sector at))

pub specials_all : (start : ℕ) (sectors : List Sector) (s n : ℕ) → length sectors ≤ s → n ≡ specials_end start (take s sectors) → n ≡ specials_end start sectors
specials_all start sectors s n past is = is ∙ ap (specials_end start) (take_all s sectors past)
