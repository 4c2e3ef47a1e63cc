-- The way of a row's points down the nodes.
use Rattle.std.proofs.Common.{◌≡◌, ◌≢◌, ◌∙◌, inl, inr, ℕ, zero, suc, ◌+◌, ◌-◌, ◌<◌, ◌≤◌, refl, sym, ap, subst, List, [], ◌∷◌, ◌++◌, get_or, length, Option, Some, None, arith}
use Rattle.std.proofs.lemmas.Bool.{cases_lt, cond-false, le-ltb}
use Rattle.std.specs.List.{slice_get}
use Rattle.std.specs.Prelude.{IsSomeAnd}
use Rattle.std.specs.Option.{option_map}
use Rattle.std.proofs.lemmas.Option.{slice_get_within}
use Rattle.le_rec.specs.Table.{Rows}
use Rattle.le_rec.specs.declared.records.Node.{Node}
use Rattle.map_geo.specs.declared.sides.Side.{Side}
use Rattle.map_geo.specs.declared.sides.Side.TheVariants.{Front, Back}
use Rattle.map_geo.specs.Partition.{partition_of}
use Rattle.map_geo.specs.Point.{Point, IsInRange}
use Rattle.map_geo.specs.Side.{other, side_of}
use Rattle.map_level.specs.Level.{Level}
use Rattle.map_level.specs.SectorOf.{sector_of}
use Rattle.map_tree.specs.Child.{child, node_count, place_of, root, side_at, word_at}
use Rattle.map_tree.specs.Leaf.{IsLeaf}
use Rattle.map_tree.specs.Paths.{Place, node, ssector}
use Rattle.map_tree.specs.Sound.{IsSound}
use Rattle.map_tree.specs.SectorList.{ListsSectors}
use Rattle.map_tree.proofs.DescentLemmas.{IsAt, at_deep, at_leaf, at_origin, leaf_within, place_below}
use Rattle.map_tree.proofs.LeafLemmas.{OnWay, child_is, way_down, way_start}
use Rattle.map_tree.proofs.SectorListLemmas.{listed_sector}
use Rattle.map_tree.proofs.SoundLemmas.{some_ssector, tree_from_sound}
use Rattle.map_cells.specs.Row.{Row, point_of}
use Rattle.map_cells.specs.Way.{AllCome, ArePending, ComesTo, IsParted, SidesLead}
use Rattle.map_cells.specs.declared.way.Stretch.{Stretch}
use Rattle.map_cells.specs.declared.way.Parted.{Parted}

-- a step more
sides_more : (level : Level) (point : Point) (steps n : ℕ) (s : Side) (next from : Place)
    → SidesLead level point steps from (node n) → side_at level n point ≡ Some s → child level n s ≡ Some next
    → SidesLead level point (suc steps) from next
sides_more level point zero n s next from e on is = subst (λ p. SidesLead level point 1 p next) (sym e) (s, next, on, is, refl)
sides_more level point (suc k) n s next (node m) lead on is =
    (lead.0, lead.1, lead.2, lead.3, sides_more level point k n s next lead.1 lead.4 on is)
sides_more level point (suc k) n s next (ssector t) lead on is = elim lead [ ]

-- and all steps from a place on the way
way_on : (level : Level) (point : Point) (steps tests : ℕ) (from to : Place) → OnWay level point tests from
    → SidesLead level point steps from to → OnWay level point (tests + steps) to
way_on level point zero tests from to way e =
    let same : tests ≡ tests + 0 = omega arith in
    subst (λ n. OnWay level point n to) same (subst (λ p. OnWay level point tests p) e way)
way_on level point (suc k) tests (node n) to way lead =
    let same : tests + 1 + k ≡ tests + suc k = omega arith in
    subst (λ m. OnWay level point m to) same
    (way_on level point k (tests + 1) lead.1 to (way_down level point tests n lead.0 lead.1 way lead.2 lead.3) lead.4)
way_on level point (suc k) tests (ssector t) to way lead = elim lead [ ]

comes_at : (level : Level) (point : Point) (steps word : ℕ) → IsSound level → ComesTo level point steps word → IsAt level point word steps
comes_at level point steps word sound comes = record {
  sound = sound;
  way =
      let same : 0 + steps ≡ steps = omega arith in
      subst (λ n. OnWay level point n (place_of word)) same
      (way_on level point steps 0 (root level) (place_of word) (way_start level point (some_ssector level sound)) comes);
}

comes_next : (level : Level) (point : Point) (steps word next : ℕ) (found : Node) (s : Side) → IsSound level → word < 32768
    → slice_get level.nodes.records word ≡ Some found → side_of (partition_of found) point ≡ s → next ≡ word_at found s
    → ComesTo level point steps word → ComesTo level point (suc steps) next
comes_next level point steps word next found s sound below there on is comes =
    let at : side_at level word point ≡ Some s =
    ap (option_map (λ (f : Node). side_of (partition_of f) point)) there ∙ ap Some on in
    let leads : child level word s ≡ Some (place_of next) =
    child_is level word found s (tree_from_sound level sound) there ∙ ap (λ w. Some (place_of w)) (sym is) in
    sides_more level point steps word s (place_of next) (root level)
    (subst (λ p. SidesLead level point steps (root level) p) (place_below word below) comes) at leads

-- all points from a column up to another have come to a place, in at least so many steps
abbrev pub AllComeIn : Level → Row → ℕ → ℕ → ℕ → ℕ → Type 0
AllComeIn level row from end word turns =
    (i : ℕ) → from ≤ i → i < end → (steps : ℕ) × ComesTo level (point_of row i) steps word × (turns ≤ steps)

pub come_in : (level : Level) (row : Row) (from end word : ℕ) → AllCome level row from end word → AllComeIn level row from end word 0
come_in level row from end word come = λ i after before. let one = come i after before in (one.0, one.1, omega arith)

pub come_out : (level : Level) (row : Row) (from end word turns : ℕ) → AllComeIn level row from end word turns → AllCome level row from end word
come_out level row from end word turns come = λ i after before. let one = come i after before in (one.0, one.1)

-- at the start all are at the root
pub come_start : (level : Level) (row : Row) (end word : ℕ) → place_of word ≡ root level → AllCome level row 0 end word
come_start level row end word e = λ i after before. (0, sym e)

-- a node to which points have come is there, and so is its origin
pub come_origin : (level : Level) (row : Row) (from end word turns : ℕ) → IsSound level → from < end → word < 32768
    → AllComeIn level row from end word turns → IsSomeAnd (slice_get level.nodes.records word) (λ found. IsInRange found.x × IsInRange found.y)
come_origin level row from end word turns sound some below come =
    let one = come from (omega arith) some in
    at_origin level (point_of row from) word one.0 below (comes_at level (point_of row from) one.0 word sound one.1)

some_within : {A : Type 0} (xs : List A) (n : ℕ) (o : Option A) (P : A → Type 0) → slice_get xs n ≡ o → IsSomeAnd o P → n < length xs
some_within xs n None P e h = elim h [ ]
some_within xs n (Some x) P e h = slice_get_within xs n x e

pub come_there : (level : Level) (row : Row) (from end word turns : ℕ) → IsSound level → from < end → word < 32768
    → AllComeIn level row from end word turns → word < node_count level
come_there level row from end word turns sound some below come =
    some_within level.nodes.records word _ _ refl (come_origin level row from end word turns sound some below come)

-- the node that is read of its number
pub node_there : (level : Level) (nodes : Rows Node) (word at : ℕ) (found : Node) → nodes ≡ level.nodes → at ≡ word
    → slice_get nodes.records at ≡ Some found → slice_get level.nodes.records word ≡ Some found
node_there level nodes word at found is same e =
    subst (λ (rows : Rows Node). slice_get rows.records word ≡ Some found) is (subst (λ n. slice_get nodes.records n ≡ Some found) same e)

node_origin : (o : Option Node) (found : Node) → o ≡ Some found → IsSomeAnd o (λ f. IsInRange f.x × IsInRange f.y)
    → IsInRange found.x × IsInRange found.y
node_origin None found e h = elim h [ ]
node_origin (Some f) found e h = let same : f ≡ found = cc in subst (λ (n : Node). IsInRange n.x × IsInRange n.y) same h

pub come_in_range : (level : Level) (row : Row) (from end word turns : ℕ) (found : Node) → IsSound level → from < end → word < 32768
    → AllComeIn level row from end word turns → slice_get level.nodes.records word ≡ Some found → IsInRange found.x × IsInRange found.y
come_in_range level row from end word turns found sound some below come there =
    node_origin _ found there (come_origin level row from end word turns sound some below come)

-- where the row is parted, each part goes on to the child of its side
pub come_near : (level : Level) (row : Row) (from end word turns : ℕ) (found : Node) (parted : Parted) → IsSound level → word < 32768
    → slice_get level.nodes.records word ≡ Some found → IsParted found row from end parted
    → AllComeIn level row from end word turns → AllComeIn level row from parted.near.end parted.near.word (turns + 1)
come_near level row from end word turns found parted sound below there is come = λ i after before.
    let within = is.within in
    let one = come i after (omega (arith, before, within)) in (
      suc one.0,
      comes_next level (point_of row i) one.0 word parted.near.word found is.side sound below there (is.near i after before) is.near_word one.1,
      omega (arith, one.2),
    )

pub come_far : (level : Level) (row : Row) (from end word turns : ℕ) (found : Node) (parted : Parted) → IsSound level → word < 32768
    → slice_get level.nodes.records word ≡ Some found → IsParted found row from end parted
    → AllComeIn level row from end word turns → AllCome level row parted.near.end end parted.far
come_far level row from end word turns found parted sound below there is come = λ i after before.
    let some = is.some in
    let one = come i (omega (arith, after, some)) before in (
      suc one.0,
      comes_next level (point_of row i) one.0 word parted.far found (other is.side) sound below there (is.far i after before) is.far_word one.1,
    )

-- after as many turns as there are nodes the points are in an ssector
pub come_arrives : (level : Level) (row : Row) (from end word turns : ℕ) → IsSound level → from < end → node_count level ≤ turns
    → AllComeIn level row from end word turns → 32768 ≤ word
come_arrives level row from end word turns sound some enough come = elim (cases_lt word 32768) [
  | inl below ↦
      let one = come from (omega arith) some in
      let deep = at_deep level (point_of row from) word one.0 below (comes_at level (point_of row from) one.0 word sound one.1) in
      absurd (omega (arith, deep, one.2, enough))
  | inr past ↦ past
]

pub place_past : (word : ℕ) → 32768 ≤ word → place_of word ≡ ssector (word - 32768)
place_past word h = cond-false _ (node word) (ssector (word - 32768)) (le-ltb word 32768 h)

-- and each of them is a leaf of its point
pub come_leaf : (level : Level) (row : Row) (from end word : ℕ) → IsSound level → 32768 ≤ word → AllCome level row from end word
    → (i : ℕ) → from ≤ i → i < end → IsLeaf level (point_of row i) (word - 32768)
come_leaf level row from end word sound past come i after before =
    let one = come i after before in
    at_leaf level (point_of row i) word one.0 (word - 32768) (place_past word past) (comes_at level (point_of row i) one.0 word sound one.1)

-- of which there is one, and the list of sectors has its sector
pub come_listed : (level : Level) (row : Row) (from end word at : ℕ) (sectors : List ℕ) → IsSound level → 32768 ≤ word → from < end
    → AllCome level row from end word → ListsSectors level sectors → at ≡ word - 32768
    → (at < length sectors) × (sector_of level (word - 32768) ≡ Some (get_or sectors at 0))
come_listed level row from end word at sectors sound past some come lists is =
    let there = leaf_within level (point_of row from) (word - 32768) sound (come_leaf level row from end word sound past come from (omega arith) some) in
    let long = lists.long in (
      omega (arith, there, long, is),
      listed_sector level sectors (word - 32768) 0 (get_or sectors at 0) lists there (ap (λ n. get_or sectors n 0) is),
    )

-- ---- what is pending
pub pending_push : (level : Level) (row : Row) (from mid end word : ℕ) (parts : List Stretch) → from < mid → AllCome level row from mid word
    → ArePending level row mid end parts → ArePending level row from end (parts ++ record { word = word; end = mid } ∷ [])
pending_push level row from mid end word [] h come e = (
  e,
  from,
  subst (λ z. from < z) e h,
  subst (λ z. AllCome level row from z word) e come,
  refl,
)
pending_push level row from mid end word (part ∷ parts) h come lead =
    (lead.0, lead.1, lead.2, lead.3, pending_push level row from mid lead.1 word parts h come lead.4)

pub pending_few : (level : Level) (row : Row) (from end : ℕ) (parts : List Stretch) → ArePending level row from end parts
    → length parts + from ≤ end
pending_few level row from end [] e = omega (arith, e)
pending_few level row from end (part ∷ parts) lead =
    let fewer = pending_few level row from lead.1 parts lead.4 in
    omega (arith, fewer, lead.2)

-- where nothing is pending no column is left
pub pending_none : (level : Level) (row : Row) (from end : ℕ) (parts : List Stretch) → (0 < length parts → ⊥) → ArePending level row from end parts
    → from ≡ end
pending_none level row from end [] none e = e
pending_none level row from end (part ∷ parts) none lead = absurd (none (omega arith))

pub pending_pop : (level : Level) (row : Row) (from end : ℕ) (parts : List Stretch) (part : Stretch)
    → ArePending level row from end (parts ++ part ∷ [])
    → (from < part.end) × (part.end ≤ end) × AllCome level row from part.end part.word × ArePending level row part.end end parts
pending_pop level row from end [] part lead =
    let last : from ≡ lead.1 = lead.4 in (
      omega (arith, last, lead.2, lead.0),
      omega (arith, lead.0),
      subst (λ z. AllCome level row from z part.word) (sym lead.0) (subst (λ z. AllCome level row z end part.word) (sym last) lead.3),
      lead.0,
    )
pending_pop level row from end (first ∷ parts) part lead =
    let more = pending_pop level row from lead.1 parts part lead.4 in (
      more.0,
      omega (arith, more.1, lead.2),
      more.2,
      (lead.0, lead.1, lead.2, lead.3, more.3),
    )

pub sides_differ : (a s : Side) → a ≢ s → a ≡ other s
sides_differ Front Front e = absurd (e refl)
sides_differ Front Back e = refl
sides_differ Back Front e = refl
sides_differ Back Back e = absurd (e refl)

pub other_swapped : (a b : Side) → a ≡ other b → b ≡ other a
other_swapped Front Front e = e
other_swapped Front Back e = refl
other_swapped Back Front e = refl
other_swapped Back Back e = e
