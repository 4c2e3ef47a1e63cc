-- Where a block's list stands.
use Rattle.std.proofs.Common.{◌≡◌, ℕ, ℤ, List, ◌∷◌, ◌++◌, length, take, drop, sym, ap, ◌∙◌, arith}
use Rattle.std.proofs.lemmas.List.{length-append, length-drop, take_at}
use Rattle.map_tables.specs.BlockMap.{BlockMap}
use Rattle.map_tables.specs.Words.{HasOffset, IsBlockList}
use Rattle.wadlook_c.specs.Blocks.{TellsList}

-- a block's list stands at its offset
pub list_told : (map : BlockMap) (n first count : ℕ) (list : List ℤ) → HasOffset map.words n first → IsBlockList map.words n list
    → count ≡ length list → TellsList map n first count
list_told map n first count list offset is long =
    let same : is.place ≡ first = cc in
    let behind : drop first map.words.numbers ≡ list ++ map.words.end ∷ is.list_at.after =
    ap (λ k. drop k map.words.numbers) (sym same) ∙ is.list_at.stands in
    let read : take count (drop first map.words.numbers) ≡ list =
    ap (take count) behind ∙ take_at list (map.words.end ∷ is.list_at.after) count (sym long) in
    record {
      offset = offset;
      list = rw read is;
      inside = omega (arith, long, ap length behind, length-append list (map.words.end ∷ is.list_at.after), length-drop first map.words.numbers);
    }
