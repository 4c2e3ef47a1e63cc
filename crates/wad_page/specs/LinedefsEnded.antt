-- How a run that lists linedefs ends, as the host reads it (ours).
use Rattle.std.specs.Prelude.{◌≡◌, ◌≢◌, ◌⊎◌, ℕ, List}
use Rattle.wad_page.specs.Ended.{HandsOut, LacksRoom}
use Rattle.wad_page.specs.Lens.{reading_of}
use Rattle.wad_page.specs.Linedefs.{ListsFirst, RefusesList}
use Rattle.wad_page.specs.declared.Ended.{Ended}
use Rattle.wad_page.specs.declared.linedefs.ListFault.{ListFault}
use Rattle.wad_page.specs.declared.linedefs.ListFault.TheVariants.{Memory}

-- the linedefs of the file's first level were listed: just their bytes stand at the front of `out`
pub record Listed (file : List ℕ) (wide : ℕ) (out out' : List ℕ) (ended : Ended) : Type 0 where
  pub list : List ℕ
  pub lists : ListsFirst file (reading_of wide) list
  pub status : ended.status ≡ 0
  pub answer : HandsOut list out out' ended.answered
  pub silent : ended.told ≡ 0

-- they weren't, for a reason that holds
pub record ListsNone (file out out' : List ℕ) (ended : Ended) : Type 0 where
  pub fault : ListFault
  pub room : fault ≢ Memory
  pub refuses : RefusesList file fault
  pub status : ended.status ≡ 2
  pub answered : ended.answered ≡ 0
  pub silent : ended.told ≡ 0
  pub untouched : out' ≡ out

-- one of the two
abbrev pub AnswersLinedefs : List ℕ → ℕ → List ℕ → List ℕ → Ended → Type 0
AnswersLinedefs file wide out out' ended = Listed file wide out out' ended ⊎ ListsNone file out out' ended

-- or there was no room for it
abbrev pub LinedefsEnd : List ℕ → ℕ → List ℕ → List ℕ → Ended → Type 0
LinedefsEnd file wide out out' ended = LacksRoom ended ⊎ AnswersLinedefs file wide out out' ended
