-- What a call leaves its host (ours).
use Rattle.std.specs.Prelude.{◌≡◌, ℕ, List, length, take, drop, min}
use Rattle.wad_page.specs.declared.Ended.{Ended}

-- there was no room: nothing was answered, and nothing told
pub record LacksRoom (ended : Ended) : Type 0 where
  pub status : ended.status ≡ 3
  pub answered : ended.answered ≡ 0
  pub told : ended.told ≡ 0

-- a text was copied to the front, and what lies behind it stayed
pub record HandsOut (text old new : List ℕ) (count : ℕ) : Type 0 where
  pub whole : count ≡ length text
  pub front : take count new ≡ text
  pub rest : drop count new ≡ drop count old

-- as much of a text as there is room for was copied to the front, and what lies behind it stayed
pub record TellsFront (text old new : List ℕ) (told : ℕ) : Type 0 where
  pub count : told ≡ min (length text) (length old)
  pub front : take told new ≡ take told text
  pub rest : drop told new ≡ drop told old
