-- Warnings of one code stand at numbers of their own, below those that their tables bound.
use Rattle.std.proofs.Common.{◌≡◌, ℕ, ◌+◌, ◌*◌, ◌<◌, ◌≤◌, inl, inr, List, Some, None, [], ◌∷◌, length, get_or, refl, sym, subst, ap, ◌∙◌, arith}
use Rattle.std.specs.Prelude.{IsSomeAnd}
use Rattle.std.specs.List.{slice_get}
use Rattle.std.proofs.lemmas.Bool.{cases_lt}
use Rattle.std.proofs.lemmas.List.{length-map}
use Rattle.std.proofs.lemmas.Option.{slice_get_past}
use Rattle.le_rec.specs.declared.records.LineDef.{LineDef}
use Rattle.map_level.specs.Level.{Level}
use Rattle.map_level.specs.Reading.{linedef_under, sidedef_under, ssector_under}
use Rattle.map_level.specs.Links.{linedefs_of, sectors_of, sidedefs_of, ssectors_of, things_of}
use Rattle.map_level.proofs.BoundLemmas.{some_within}
use Rattle.map_warnings.specs.declared.warning.Side.{Side}
use Rattle.map_warnings.specs.declared.warning.Side.TheVariants.{Front, Back}
use Rattle.map_warnings.specs.declared.warning.SidePart.{SidePart}
use Rattle.map_warnings.specs.declared.warning.SidePart.TheVariants.{Middle, Upper, Lower}
use Rattle.map_warnings.specs.declared.warning.Plane.{Plane}
use Rattle.map_warnings.specs.declared.warning.Plane.TheVariants.{Floor, Ceiling}
use Rattle.map_warnings.specs.declared.warning.Warning.{Warning}
use Rattle.map_warnings.specs.declared.warning.Warning.TheVariants.{Bare, InVoid, Untagged, Mismatched, Twin, UnknownTexture, UnknownFlat, UnknownThing, Game}
use Rattle.level_codes.specs.declared.code.WarningCode.TheVariants.{W2, W3, W4, W5, W6, W9, W10, W11}
use Rattle.map_warnings.specs.Warnings.{rank, side_number, part_number, plane_number, texture_number}
use Rattle.map_warnings.specs.Facing.{IsMismatched}
use Rattle.map_warnings.specs.Twin.{ends_of, AreSamePlaces, HaveSameEnds}
use Rattle.map_warnings.specs.Holds.{HoldsIn, HoldsOf}
use Rattle.wad_dir.specs.Wad.{Wad}
use Rattle.map_warnings.proofs.FacingLemmas.{one_mismatched}
use Rattle.map_warnings.proofs.TwinLemmas.{both_some}
use Rattle.map_warnings.proofs.GameLemmas.{game_only}

-- a side and a part are known by their numbers
side_by : (s : Side) → s ≡ get_or (Front ∷ Back ∷ []) (side_number s) Front
side_by Front = refl
side_by Back = refl

part_by : (p : SidePart) → p ≡ get_or (Middle ∷ Upper ∷ Lower ∷ []) (part_number p) Middle
part_by Middle = refl
part_by Upper = refl
part_by Lower = refl

side-below : (s : Side) → side_number s < 2
side-below Front = omega arith
side-below Back = omega arith

part-below : (p : SidePart) → part_number p < 3
part-below Middle = omega arith
part-below Upper = omega arith
part-below Lower = omega arith

same_piece : (k l a b x y : ℕ) → a < 2 → b < 2 → x < 3 → y < 3 → k * 6 + a * 3 + x ≡ l * 6 + b * 3 + y
    → (k ≡ l) × (a ≡ b) × (x ≡ y)
same_piece k l a b x y h1 h2 h3 h4 e = (omega arith, omega arith, omega arith)

pub bare_alone : (level : Level) (l : ℕ) (s : Side) (p : SidePart) (w : Warning) → HoldsOf level W2 w
    → rank w ≡ rank (Bare l s p) → w ≡ Bare l s p
bare_alone level l s p (Bare k t q) h e =
    let same = same_piece k l (side_number t) (side_number s) (part_number q) (part_number p)
    (side-below t) (side-below s) (part-below q) (part-below p) e in
    let side : t ≡ s = side_by t ∙ ap (λ n. get_or (Front ∷ Back ∷ []) n Front) same.1 ∙ sym (side_by s) in
    let part : q ≡ p = part_by q ∙ ap (λ n. get_or (Middle ∷ Upper ∷ Lower ∷ []) n Middle) same.2 ∙ sym (part_by p) in
    rw (same.0, side, part) refl
bare_alone level l s p (Game w) h e = absurd (game_only None level W2 w refl h)
bare_alone level l s p v h e = absurd (let other = h.0 in cc)

linedef-within : (level : Level) (k : ℕ) (P : LineDef → Type 0) → IsSomeAnd (slice_get (linedefs_of level) k) P → k < length level.linedefs.records
linedef-within level k P h = rw (length-map level.linedefs.records (linedef_under level.reading)) at (some_within (linedefs_of level) k P h)

pub bare_within : (level : Level) (w : Warning) → HoldsOf level W2 w → rank w < length level.linedefs.records * 6
bare_within level (Bare k t q) h =
    let within = linedef-within level k _ h.1 in
    omega (arith, within, side-below t, part-below q)
bare_within level (Game w) h = absurd (game_only None level W2 w refl h)
bare_within level v h = absurd (let other = h.0 in cc)

pub void_alone : (level : Level) (k : ℕ) (w : Warning) → HoldsOf level W3 w → rank w ≡ k → w ≡ InVoid k
void_alone level k (InVoid j) h e = ap InVoid e
void_alone level k (Game w) h e = absurd (game_only None level W3 w refl h)
void_alone level k v h e = absurd (let other = h.0 in cc)

pub void_within : (level : Level) (w : Warning) → HoldsOf level W3 w → rank w < length level.things.records
void_within level (InVoid k) h = some_within (things_of level) k _ h.1
void_within level (Game w) h = absurd (game_only None level W3 w refl h)
void_within level v h = absurd (let other = h.0 in cc)

pub unknown_alone : (level : Level) (k : ℕ) (w : Warning) → HoldsOf level W11 w → rank w ≡ k → w ≡ UnknownThing k
unknown_alone level k (UnknownThing j) h e = ap UnknownThing e
unknown_alone level k (Game w) h e = absurd (game_only None level W11 w refl h)
unknown_alone level k v h e = absurd (let other = h.0 in cc)

pub unknown_within : (level : Level) (w : Warning) → HoldsOf level W11 w → rank w < length level.things.records
unknown_within level (UnknownThing k) h = some_within (things_of level) k _ h.1
unknown_within level (Game w) h = absurd (game_only None level W11 w refl h)
unknown_within level v h = absurd (let other = h.0 in cc)

pub untagged_alone : (level : Level) (l : ℕ) (w : Warning) → HoldsOf level W4 w → rank w ≡ l → w ≡ Untagged l
untagged_alone level l (Untagged k) h e = ap Untagged e
untagged_alone level l (Game w) h e = absurd (game_only None level W4 w refl h)
untagged_alone level l v h e = absurd (let other = h.0 in cc)

pub untagged_within : (level : Level) (w : Warning) → HoldsOf level W4 w → rank w < length level.linedefs.records
untagged_within level (Untagged k) h = linedef-within level k _ h.1
untagged_within level (Game w) h = absurd (game_only None level W4 w refl h)
untagged_within level v h = absurd (let other = h.0 in cc)

-- past the linedefs there are no ends
no_ends : (level : Level) (k : ℕ) → length level.linedefs.records ≤ k → (j : ℕ) → ¬ HaveSameEnds level j k
no_ends level k past j same =
    let none : slice_get (linedefs_of level) k ≡ None = slice_get_past (linedefs_of level) k (rw (length-map level.linedefs.records (linedef_under level.reading)) past) in
    both_some (ends_of level j) (ends_of level k) AreSamePlaces same (rw none refl)

pub twin_within : (level : Level) (w : Warning) → HoldsOf level W6 w → rank w < length level.linedefs.records
twin_within level (Twin k j) h = elim (cases_lt k (length level.linedefs.records)) [
  | inl within ↦ within
  | inr past ↦ absurd (no_ends level k past j h.1.same)
]
twin_within level (Game w) h = absurd (game_only None level W6 w refl h)
twin_within level v h = absurd (let other = h.0 in cc)

pub mismatched_within : (level : Level) (w : Warning) → HoldsOf level W5 w → rank w < length level.ssectors.records
mismatched_within level (Mismatched t a b) h =
    rw (length-map level.ssectors.records (ssector_under level.reading)) at (some_within (ssectors_of level) t _ h.1)
mismatched_within level (Game w) h = absurd (game_only None level W5 w refl h)
mismatched_within level v h = absurd (let other = h.0 in cc)

pub mismatched_alone : (level : Level) (t a b : ℕ) → IsMismatched level t a b → (w : Warning) → HoldsOf level W5 w → rank w ≡ t → w ≡ Mismatched t a b
mismatched_alone level t a b is (Mismatched u x y) h e =
    let same = one_mismatched level t x y a b (subst (λ n. IsMismatched level n x y) e h.1) is in
    rw (e, same.0, same.1) refl
mismatched_alone level t a b is (Game w) h e = absurd (game_only None level W5 w refl h)
mismatched_alone level t a b is v h e = absurd (let other = h.0 in cc)

pub no_mismatched : (level : Level) (t : ℕ) → ((a b : ℕ) → ¬ IsMismatched level t a b) → (w : Warning) → HoldsOf level W5 w → t ≤ rank w → rank w < t + 1 → ⊥
no_mismatched level t none (Mismatched u a b) h from to =
    let same : u ≡ t = omega (arith, from, to) in none a b (subst (λ n. IsMismatched level n a b) same h.1)
no_mismatched level t none (Game w) h from to = game_only None level W5 w refl h
no_mismatched level t none v h from to = let other = h.0 in cc

-- so are a part of a sidedef and a plane
texture_by : (p : SidePart) → p ≡ get_or (Upper ∷ Lower ∷ Middle ∷ []) (texture_number p) Upper
texture_by Upper = refl
texture_by Lower = refl
texture_by Middle = refl

texture-below : (p : SidePart) → texture_number p < 3
texture-below Upper = omega arith
texture-below Lower = omega arith
texture-below Middle = omega arith

plane_by : (p : Plane) → p ≡ get_or (Floor ∷ Ceiling ∷ []) (plane_number p) Floor
plane_by Floor = refl
plane_by Ceiling = refl

plane-below : (p : Plane) → plane_number p < 2
plane-below Floor = omega arith
plane-below Ceiling = omega arith

same_third : (k l x y : ℕ) → x < 3 → y < 3 → k * 3 + x ≡ l * 3 + y → (k ≡ l) × (x ≡ y)
same_third k l x y h1 h2 e = (omega arith, omega arith)

same_half : (k l x y : ℕ) → x < 2 → y < 2 → k * 2 + x ≡ l * 2 + y → (k ≡ l) × (x ≡ y)
same_half k l x y h1 h2 e = (omega arith, omega arith)

pub texture_alone : (files : List Wad) (level : Level) (i : ℕ) (p : SidePart) (w : Warning) → HoldsIn (Some files) level W9 w
    → rank w ≡ rank (UnknownTexture i p) → w ≡ UnknownTexture i p
texture_alone files level i p (UnknownTexture k q) h e =
    let same = same_third k i (texture_number q) (texture_number p) (texture-below q) (texture-below p) e in
    let part : q ≡ p = texture_by q ∙ ap (λ n. get_or (Upper ∷ Lower ∷ Middle ∷ []) n Upper) same.1 ∙ sym (texture_by p) in
    rw (same.0, part) refl
texture_alone files level i p (Game w) h e = absurd (game_only (Some files) level W9 w refl h)
texture_alone files level i p v h e = absurd (let other = h.0 in cc)

pub texture_within : (files : List Wad) (level : Level) (w : Warning) → HoldsIn (Some files) level W9 w → rank w < length level.sidedefs.records * 3
texture_within files level (UnknownTexture k q) h =
    let within = rw (length-map level.sidedefs.records (sidedef_under level.reading)) at (some_within (sidedefs_of level) k _ h.1) in
    omega (arith, within, texture-below q)
texture_within files level (Game w) h = absurd (game_only (Some files) level W9 w refl h)
texture_within files level v h = absurd (let other = h.0 in cc)

pub flat_alone : (files : List Wad) (level : Level) (i : ℕ) (p : Plane) (w : Warning) → HoldsIn (Some files) level W10 w
    → rank w ≡ rank (UnknownFlat i p) → w ≡ UnknownFlat i p
flat_alone files level i p (UnknownFlat k q) h e =
    let same = same_half k i (plane_number q) (plane_number p) (plane-below q) (plane-below p) e in
    let plane : q ≡ p = plane_by q ∙ ap (λ n. get_or (Floor ∷ Ceiling ∷ []) n Floor) same.1 ∙ sym (plane_by p) in
    rw (same.0, plane) refl
flat_alone files level i p (Game w) h e = absurd (game_only (Some files) level W10 w refl h)
flat_alone files level i p v h e = absurd (let other = h.0 in cc)

pub flat_within : (files : List Wad) (level : Level) (w : Warning) → HoldsIn (Some files) level W10 w → rank w < length level.sectors.records * 2
flat_within files level (UnknownFlat k q) h =
    let within = some_within (sectors_of level) k _ h.1 in
    omega (arith, within, plane-below q)
flat_within files level (Game w) h = absurd (game_only (Some files) level W10 w refl h)
flat_within files level v h = absurd (let other = h.0 in cc)
