-- What a list of the ssectors' sectors gives.
use Rattle.std.proofs.Common.{◌≡◌, ℕ, ◌+◌, inl, inr, List, [], ◌∷◌, ◌++◌, length, length-append, get_or, Some, ap, sym, ◌∙◌, arith}
use Rattle.std.specs.Prelude.{◌<◌}
use Rattle.std.specs.List.{slice_get}
use Rattle.std.proofs.lemmas.Bool.{cases_eq}
use Rattle.std.proofs.lemmas.List.{get_or_append_left, get_or_push}
use Rattle.std.proofs.lemmas.Option.{slice_get-get_or}
use Rattle.map_level.specs.Level.{Level}
use Rattle.map_level.specs.SectorOf.{sector_of}
use Rattle.map_tree.specs.Child.{ssector_count}
use Rattle.map_tree.specs.SectorList.{ListsSectors}

pub listed_sector : (level : Level) (sectors : List ℕ) (t d k : ℕ) → ListsSectors level sectors → t < ssector_count level → k ≡ get_or sectors t d → sector_of level t ≡ Some k
listed_sector level sectors t d k lists there at =
    let within : t < length sectors = rw lists.long there in
    lists.each t there ∙ slice_get-get_or sectors t d within ∙ ap Some (sym at)

-- the sectors of the first t ssectors and that of ssector t are those of the first t + 1
pub listed_more : (level : Level) (sectors : List ℕ) (t k u : ℕ) → length sectors ≡ t → ((v : ℕ) → v < t → sector_of level v ≡ slice_get sectors v)
    → sector_of level t ≡ Some k → u < t + 1 → sector_of level u ≡ slice_get (sectors ++ k ∷ []) u
listed_more level sectors t k u long each at within =
    let there : u < length (sectors ++ k ∷ []) = simp length-append (omega arith) in
    let read = slice_get-get_or (sectors ++ k ∷ []) u 0 there in
    elim (cases_eq u t) [
      | inl same ↦ (rw same at) ∙ sym (read ∙ ap Some (get_or_push sectors k 0 u (omega arith)))
      | inr other ↦
          let before : u < length sectors = omega arith in
          each u (omega arith) ∙ slice_get-get_or sectors u 0 before ∙ sym (read ∙ ap Some (get_or_append_left sectors (k ∷ []) 0 u before))
    ]
