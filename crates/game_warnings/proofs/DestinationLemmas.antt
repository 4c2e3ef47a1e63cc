-- How the tags of sectors with a destination come to be marked.
use Rattle.std.proofs.Common.{◌≡◌, ℕ, ◌≤◌, ℤ, pos, Bool, List, length, Some, sym, ap, subst, ◌∙◌, arith}
use Rattle.std.specs.Prelude.{IsTrue}
use Rattle.le_rec.specs.declared.records.Thing.{Thing}
use Rattle.map_geo.specs.Point.{IsInRange, Point, point_at}
use Rattle.map_level.specs.Level.{Level}
use Rattle.map_level.specs.Links.{things_of}
use Rattle.map_level.specs.SectorOf.{sector_of}
use Rattle.map_level.proofs.BoundLemmas.{some_within}
use Rattle.map_tree.specs.Leaf.{IsLeaf}
use Rattle.game_warnings.specs.Destination.{HasDestination, IsDestination, LeadsTo, StandsIn}
use Rattle.game_warnings.specs.Skill.{is_placed}
use Rattle.game_warnings.specs.Tags.{AddsTags, AreTags, HasTag}
use Rattle.game_warnings.proofs.TagLemmas.{adds_as, adds_none, all_marked, Below}

pub same_some : (a b : ℕ) → Some a ≡ Some b → a ≡ b
same_some a b e = cc

-- a place stands in the sector of its leaf
pub stands_by : (level : Level) (x y : ℤ) (point : Point) (t s : ℕ) → IsInRange x → IsInRange y → point ≡ point_at x y → IsLeaf level point t
    → sector_of level t ≡ Some s → StandsIn level x y s
stands_by level x y point t s column row at leaf sector = record {
  column = column;
  row = row;
  ssector = t;
  lies = (subst (λ p. IsLeaf level p t) at leaf, sector);
}

-- and in no other
pub stands_once : (level : Level) (x y : ℤ) (point : Point) (t s : ℕ) → point ≡ point_at x y → ((u : ℕ) → IsLeaf level point u → u ≡ t)
    → sector_of level t ≡ Some s → (other : ℕ) → StandsIn level x y other → other ≡ s
stands_once level x y point t s at only sector other stands =
    let same : stands.ssector ≡ t = only stands.ssector (subst (λ p. IsLeaf level p stands.ssector) (sym at) stands.lies.0) in
    same_some other s (sym stands.lies.1 ∙ ap (sector_of level) same ∙ sector)

-- a destination adds the tag of its sector
pub adds_destination : (level : Level) (thing : Thing) (s : ℕ) (before after : List Bool) → (thing.kind ≡ pos 14) × IsTrue (is_placed thing)
    → StandsIn level thing.x thing.y s → ((other : ℕ) → StandsIn level thing.x thing.y other → other ≡ s)
    → AddsTags (HasTag level s) before after → AddsTags (λ tag. LeadsTo level tag thing) before after
adds_destination level thing s before after is stands only adds =
    adds_as (HasTag level s) (λ tag. LeadsTo level tag thing) before after adds (λ tag. (
      λ h. record { kind = is.0; placed = is.1; sector = s; stands = stands; tagged = h },
      λ h. subst (λ n. HasTag level n tag) (only h.sector h.stands) h.tagged,
    ))

pub adds_nowhere : (level : Level) (thing : Thing) (marks : List Bool) → ((other : ℕ) → ¬ StandsIn level thing.x thing.y other)
    → AddsTags (λ tag. LeadsTo level tag thing) marks marks
adds_nowhere level thing marks none = adds_none (λ tag. LeadsTo level tag thing) marks (λ tag h. none h.sector h.stands)

pub adds_no_destination : (level : Level) (thing : Thing) (marks : List Bool) → (¬ ((thing.kind ≡ pos 14) × IsTrue (is_placed thing)))
    → AddsTags (λ tag. LeadsTo level tag thing) marks marks
adds_no_destination level thing marks none = adds_none (λ tag. LeadsTo level tag thing) marks (λ tag h. none (h.kind, h.placed))

pub all_destinations : (level : Level) (n : ℕ) (marks : List Bool) → length (things_of level) ≤ n → AreTags (Below (IsDestination level) n) marks
    → AreTags (HasDestination level) marks
all_destinations level n marks past are =
    all_marked (IsDestination level) n marks (λ k tag h. omega (arith, past, some_within (things_of level) k _ h)) are
