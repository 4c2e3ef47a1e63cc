-- A part is what bytes begin with, whatever follows it.
use Rattle.std.proofs.Common.{◌≡◌, ℕ, zero, suc, ◌+◌, ◌-◌, ◌*◌, ◌<◌, ◌≤◌, List, [], ◌∷◌, ◌++◌, length, take, drop, slice_index, refl, sym, ap, ◌∙◌, subst, inl, inr, ◌⊎◌, arith, length-append, length-drop}
use Rattle.std.proofs.lemmas.Bool.{cases_lt}
use Rattle.std.proofs.lemmas.List.{drop-append-le, drop-take, drop_at, get_or_append_left, length-take-le, take-append-drop, take_all, take_at}
use Rattle.node_lumps.specs.Number.{unsigned32_at}
use Rattle.node_lumps.specs.Parts.{AreCutIn, AreParts, BeginsWith, HasParts, IsCutIn, Parts, number_of, part_sizes}
use Rattle.node_lumps.specs.Format.{seg_size}
use Rattle.node_lumps.specs.declared.format.NodeFormat.{NodeFormat}
use Rattle.node_lumps.specs.declared.parts.Part.{Part}
use Rattle.node_lumps.specs.declared.parts.Part.TheVariants.{Vertexes, Ssectors, Segs, Nodes}

-- a number of the front
number_left : (front more : List ℕ) → 4 ≤ length front
    → unsigned32_at (front ++ more) 0 ≡ unsigned32_at front 0
number_left front more h =
    let a : slice_index (front ++ more) 0 ≡ slice_index front 0 = get_or_append_left front more 0 0 (omega arith) in
    let b : slice_index (front ++ more) 1 ≡ slice_index front 1 = get_or_append_left front more 0 1 (omega arith) in
    let c : slice_index (front ++ more) 2 ≡ slice_index front 2 = get_or_append_left front more 0 2 (omega arith) in
    let d : slice_index (front ++ more) 3 ≡ slice_index front 3 = get_or_append_left front more 0 3 (omega arith) in
    cc

-- what bytes that begin with a part say of it
pub record IsPlaced (size : ℕ) (bytes records behind : List ℕ) : Type 0 where
  pub counted : length records ≡ unsigned32_at bytes 0 * size
  pub fits : 4 + length records ≤ length bytes
  pub records_are : records ≡ take (unsigned32_at bytes 0 * size) (drop 4 bytes)
  pub behind_are : behind ≡ drop (4 + unsigned32_at bytes 0 * size) bytes

pub placed : (size : ℕ) (bytes records behind : List ℕ) → BeginsWith size bytes records behind
    → IsPlaced size bytes records behind
placed size bytes records behind begins =
    let part = begins.part in
    let is = begins.is in
    let number : unsigned32_at (part ++ behind) 0 ≡ unsigned32_at part 0 =
    number_left part behind (omega (arith, is.long)) in
    let counted : length records ≡ unsigned32_at (part ++ behind) 0 * size =
    is.counted ∙ ap (λ n. n * size) (sym number) in
    let after : drop 4 (part ++ behind) ≡ records ++ behind =
    drop-append-le 4 part behind (omega (arith, is.long)) ∙ ap (λ t. t ++ behind) is.reads in
    subst (λ b. IsPlaced size b records behind) (sym begins.joined) (record {
      counted = counted;
      fits = omega (arith, is.long, length-append part behind);
      records_are =
          sym (ap (take (unsigned32_at (part ++ behind) 0 * size)) after ∙ take_at records behind _ counted);
      behind_are = sym (drop_at part behind _ (is.long ∙ ap (λ n. 4 + n) counted));
    })

-- bytes that are long enough begin with a part
pub begins : (size : ℕ) (bytes : List ℕ) → 4 + unsigned32_at bytes 0 * size ≤ length bytes
    → BeginsWith size bytes (take (unsigned32_at bytes 0 * size) (drop 4 bytes))
    (drop (4 + unsigned32_at bytes 0 * size) bytes)
begins size bytes fits =
    let n = unsigned32_at bytes 0 * size in
    let front = take (4 + n) bytes in
    let split : front ++ drop (4 + n) bytes ≡ bytes = take-append-drop (4 + n) bytes in
    let long : length front ≡ 4 + n = length-take-le (4 + n) bytes fits in
    let kept : length (take n (drop 4 bytes)) ≡ n =
    length-take-le n (drop 4 bytes) (omega (arith, length-drop 4 bytes)) in
    let same : unsigned32_at front 0 ≡ unsigned32_at bytes 0 =
    sym (number_left front (drop (4 + n) bytes) (omega (arith, long)))
    ∙ ap (λ b. unsigned32_at b 0) split in
    record {
      part = front;
      joined = sym split;
      is = record {
        long = long ∙ ap (λ m. 4 + m) (sym kept);
        counted = kept ∙ ap (λ m. m * size) (sym same);
        reads = drop-take 4 n bytes;
      };
    }

-- cut at its end they do, and the rest is cut at the end of the bytes
pub begins_cut : (size : ℕ) (bytes : List ℕ) (count : ℕ) → count ≡ unsigned32_at bytes 0
    → 4 + count * size ≤ length bytes
    → BeginsWith size bytes (take (4 + count * size - 4) (drop 4 bytes))
    (take (length bytes - (4 + count * size)) (drop (4 + count * size) bytes))
begins_cut size bytes count is fits =
    let n : 4 + count * size - 4 ≡ count * size = omega arith in
    let all : take (length bytes - (4 + count * size)) (drop (4 + count * size) bytes)
    ≡ drop (4 + count * size) bytes =
    take_all (length bytes - (4 + count * size)) (drop (4 + count * size) bytes)
    (omega (arith, length-drop (4 + count * size) bytes)) in
    rw (n, all, is) (begins size bytes (rw is at fits))

-- shorter ones don't
pub begins_not : (size : ℕ) (bytes : List ℕ) → length bytes < 4 + unsigned32_at bytes 0 * size
    → (records behind : List ℕ) → BeginsWith size bytes records behind → ⊥
begins_not size bytes short records behind begins =
    let p = placed size bytes records behind begins in
    omega (arith, p.counted, p.fits, short)

-- bytes begin with one part at most
pub begins_one : (size : ℕ) (bytes records behind others left : List ℕ)
    → BeginsWith size bytes records behind → BeginsWith size bytes others left
    → (records ≡ others) × (behind ≡ left)
begins_one size bytes records behind others left a b =
    let p = placed size bytes records behind a in
    let q = placed size bytes others left b in
    (p.records_are ∙ sym q.records_are, p.behind_are ∙ sym q.behind_are)

-- and are parts of some sizes in one way
pub parts_one : (sizes bytes : List ℕ) (all others : List (List ℕ)) (rest left : List ℕ)
    → AreParts sizes bytes all rest → AreParts sizes bytes others left
    → (all ≡ others) × (rest ≡ left)
parts_one [] bytes [] [] rest left a b = (refl, sym a ∙ b)
parts_one [] bytes [] (s ∷ ss) rest left a b = absurd b
parts_one [] bytes (r ∷ rs) others rest left a b = absurd a
parts_one (size ∷ sizes) bytes [] others rest left a b = absurd a
parts_one (size ∷ sizes) bytes (r ∷ rs) [] rest left a b = absurd b
parts_one (size ∷ sizes) bytes (r ∷ rs) (s ∷ ss) rest left a b =
    let one = begins_one size bytes r a.0 s b.0 a.1 b.1 in
    let tails = parts_one sizes a.0 rs ss rest left a.2 (subst (λ t. AreParts sizes t ss left) (sym one.1) b.2) in
    let first : r ≡ s = one.0 in
    let others : rs ≡ ss = tails.0 in (cc, tails.1)

-- bytes that are parts aren't cut in one
pub cut_not_parts : (sizes bytes : List ℕ) (all : List (List ℕ)) (rest : List ℕ) (number : ℕ)
    → AreParts sizes bytes all rest → AreCutIn sizes bytes number → ⊥
cut_not_parts [] bytes all rest number a b = absurd b
cut_not_parts (size ∷ sizes) bytes [] rest number a b = absurd a
cut_not_parts (size ∷ sizes) bytes (r ∷ rs) rest zero a b = b r a.0 a.1
cut_not_parts (size ∷ sizes) bytes (r ∷ rs) rest (suc number) a b =
    let one = begins_one size bytes r a.0 b.0 b.1 a.1 b.2 in
    cut_not_parts sizes a.0 rs rest number a.2 (subst (λ t. AreCutIn sizes t number) (sym one.1) b.3)

-- and bytes are cut in one part at most
pub cuts_one : (sizes bytes : List ℕ) (number other : ℕ) → AreCutIn sizes bytes number
    → AreCutIn sizes bytes other → number ≡ other
cuts_one [] bytes number other a b = absurd a
cuts_one (size ∷ sizes) bytes zero zero a b = refl
cuts_one (size ∷ sizes) bytes zero (suc other) a b = absurd (a b.0 b.1 b.2)
cuts_one (size ∷ sizes) bytes (suc number) zero a b = absurd (b a.0 a.1 a.2)
cuts_one (size ∷ sizes) bytes (suc number) (suc other) a b =
    let one = begins_one size bytes a.0 a.1 b.0 b.1 a.2 b.2 in
    ap suc (cuts_one sizes a.1 number other a.3 (subst (λ t. AreCutIn sizes t other) (sym one.1) b.3))

-- they are parts, or cut in one
pub parts_or_cut : (sizes bytes : List ℕ)
    → ((all : List (List ℕ)) × (rest : List ℕ) × AreParts sizes bytes all rest)
    ⊎ ((number : ℕ) × (number < length sizes) × AreCutIn sizes bytes number)
parts_or_cut [] bytes = inl ([], bytes, refl)
parts_or_cut (size ∷ sizes) bytes =
    let records = take (unsigned32_at bytes 0 * size) (drop 4 bytes) in
    let behind = drop (4 + unsigned32_at bytes 0 * size) bytes in
    elim (cases_lt (length bytes) (4 + unsigned32_at bytes 0 * size)) [
      | inl short ↦ inr (0, omega arith, begins_not size bytes short)
      | inr fits ↦ elim (parts_or_cut sizes behind) [
        | inl whole ↦ inl (records ∷ whole.0, whole.1, (behind, begins size bytes fits, whole.2))
        | inr cut ↦ inr (suc cut.0, omega (arith, cut.1), (records, behind, begins size bytes fits, cut.2))
      ]
    ]

-- four parts are those of a lump
pub parts_from : (format : NodeFormat) (lump : List ℕ) (all : List (List ℕ)) (rest : List ℕ)
    → AreParts (part_sizes format) (drop 8 lump) all rest
    → (parts : Parts) × HasParts format lump parts
parts_from format lump [] rest h = absurd h
parts_from format lump (v ∷ []) rest h = absurd h.2
parts_from format lump (v ∷ s ∷ []) rest h = absurd h.2.2
parts_from format lump (v ∷ s ∷ g ∷ []) rest h = absurd h.2.2.2
parts_from format lump (v ∷ s ∷ g ∷ n ∷ []) rest h =
    (record { vertexes = v; ssectors = s; segs = g; nodes = n; rest = rest }, record { are = h })
parts_from format lump (v ∷ s ∷ g ∷ n ∷ x ∷ xs) rest h = absurd h.2.2.2.2

-- the part of each number
pub part_from : (number : ℕ) → number < 4 → (part : Part) × (number_of part ≡ number)
part_from zero h = (Vertexes, refl)
part_from (suc zero) h = (Ssectors, refl)
part_from (suc (suc zero)) h = (Segs, refl)
part_from (suc (suc (suc zero))) h = (Nodes, refl)
part_from (suc (suc (suc (suc n)))) h = absurd (omega (arith, h))

part_at : ℕ → Part
part_at zero = Vertexes
part_at (suc zero) = Ssectors
part_at (suc (suc zero)) = Segs
part_at (suc (suc (suc n))) = Nodes

part_back : (part : Part) → part_at (number_of part) ≡ part
unfolding part_at
part_back Vertexes = refl
part_back Ssectors = refl
part_back Segs = refl
part_back Nodes = refl

pub same_part : (part other : Part) → number_of part ≡ number_of other → part ≡ other
same_part part other same = sym (part_back part) ∙ ap part_at same ∙ part_back other

-- a lump has its parts in one way
list_at : List (List ℕ) → ℕ → List ℕ
list_at [] n = []
list_at (x ∷ xs) zero = x
list_at (x ∷ xs) (suc n) = list_at xs n

pub HasParts-one : (format : NodeFormat) (lump : List ℕ) (parts others : Parts)
    → HasParts format lump parts → HasParts format lump others → parts ≡ others
unfolding list_at
HasParts-one format lump p q a b =
    let one =
    parts_one (part_sizes format) (drop 8 lump) (p.vertexes ∷ p.ssectors ∷ p.segs ∷ p.nodes ∷ [])
    (q.vertexes ∷ q.ssectors ∷ q.segs ∷ q.nodes ∷ []) p.rest q.rest a.are b.are in
    ap (λ (l : List (List ℕ)). record p {
      vertexes = list_at l 0;
      ssectors = list_at l 1;
      segs = list_at l 2;
      nodes = list_at l 3;
    }) one.0
    ∙ ap (λ (r : List ℕ). record q { rest = r }) one.1

-- and is as long as its front and a count
pub HasParts-long : (format : NodeFormat) (lump : List ℕ) (parts : Parts) → HasParts format lump parts
    → 12 ≤ length lump
HasParts-long format lump parts h =
    let p = placed 8 (drop 8 lump) parts.vertexes h.are.0 h.are.1 in
    omega (arith, p.fits, length-drop 8 lump)

-- parts one after another, behind the front of a lump
module _ (format : NodeFormat) (lump : List ℕ) where
  pub parts_joined : (vertexes ssectors segs nodes rest from_ssectors from_segs from_nodes : List ℕ)
      → BeginsWith 8 (drop 8 lump) vertexes from_ssectors → BeginsWith 4 from_ssectors ssectors from_segs
      → BeginsWith (seg_size format) from_segs segs from_nodes → BeginsWith 32 from_nodes nodes rest
      → HasParts format lump
      (record { vertexes = vertexes; ssectors = ssectors; segs = segs; nodes = nodes; rest = rest })
  parts_joined vertexes ssectors segs nodes rest from_ssectors from_segs from_nodes v s g n =
      record { are = (from_ssectors, v, (from_segs, s, (from_nodes, g, (rest, n, refl)))) }

  -- the first of them that isn't all there
  pub cut_in_vertexes : ((records rest : List ℕ) → BeginsWith 8 (drop 8 lump) records rest → ⊥)
      → IsCutIn format lump Vertexes
  cut_in_vertexes none = record { cut = none }

  pub cut_in_ssectors : (vertexes from_ssectors : List ℕ)
      → BeginsWith 8 (drop 8 lump) vertexes from_ssectors
      → ((records rest : List ℕ) → BeginsWith 4 from_ssectors records rest → ⊥)
      → IsCutIn format lump Ssectors
  cut_in_ssectors vertexes from_ssectors v none = record { cut = (vertexes, from_ssectors, v, none) }

  pub cut_in_segs : (vertexes ssectors from_ssectors from_segs : List ℕ)
      → BeginsWith 8 (drop 8 lump) vertexes from_ssectors → BeginsWith 4 from_ssectors ssectors from_segs
      → ((records rest : List ℕ) → BeginsWith (seg_size format) from_segs records rest → ⊥)
      → IsCutIn format lump Segs
  cut_in_segs vertexes ssectors from_ssectors from_segs v s none =
      record { cut = (vertexes, from_ssectors, v, (ssectors, from_segs, s, none)) }

  pub cut_in_nodes : (vertexes ssectors segs from_ssectors from_segs from_nodes : List ℕ)
      → BeginsWith 8 (drop 8 lump) vertexes from_ssectors → BeginsWith 4 from_ssectors ssectors from_segs
      → BeginsWith (seg_size format) from_segs segs from_nodes
      → ((records rest : List ℕ) → BeginsWith 32 from_nodes records rest → ⊥)
      → IsCutIn format lump Nodes
  cut_in_nodes vertexes ssectors segs from_ssectors from_segs from_nodes v s g none =
      record { cut = (vertexes, from_ssectors, v, (ssectors, from_segs, s, (segs, from_nodes, g, none))) }
