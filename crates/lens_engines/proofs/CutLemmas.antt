-- A level at an entry, packed or refused.
use Rattle.std.proofs.Common.{◌≡◌, ◌≢◌, inl, inr, ℕ, ◌+◌, ◌-◌, ◌<◌, ◌≤◌, List, [], ◌∷◌, ◌++◌, length, map, Option, Some, None, refl, ap, ◌∙◌, arith}
use Rattle.std.specs.Prelude.{codes, IfNone, IfOk, IfSome, Result, Ok, Err}
use Rattle.std.specs.declared.vec.Vec.{Vec}
use Rattle.std.specs.List.{All}
use Rattle.std.proofs.lemmas.Bool.{cases_eq, cases_lt}
use Rattle.level_starts.proofs.StartLemmas.{named_within}
use Rattle.level_starts.specs.Format.{IsFormat}
use Rattle.level_starts.specs.LevelFile.{HoldsLumps}
use Rattle.level_starts.specs.Starts.{IsNamed, IsNextStart, LevelStartsAt, NoneStartsFrom}
use Rattle.level_starts.specs.declared.format.Format.{Format}
use Rattle.level_starts.specs.declared.format.Format.TheVariants as format
use Rattle.wad_dir.specs.Entries.{joined, names}
use Rattle.wad_dir.specs.Packing.{NamedLump, packed}
use Rattle.wad_dir.specs.Slice.{IsLump}
use Rattle.wad_dir.specs.declared.packer.TheConstants.{MAX_BYTES}
use Rattle.wad_dir.specs.Wad.{IsRead, Wad}
use Rattle.wad_dir.proofs.OneDirectoryLemmas.{one-has_directory}
use Rattle.lens_engines.specs.Cut.{AddsLump, AreNamedLumps, Belong, BelongAt, CutsLevel, HasLumpsAt, IsEndMap, LacksLump, RefusesCut, RefusesEntry, RefusesPack, none, more}
use Rattle.lens_texts.specs.Label.{IsLabelOf}
use Rattle.lens_engines.specs.declared.cut.CutFault.{CutFault}
use Rattle.lens_engines.specs.declared.cut.CutFault.TheVariants as fault
use Rattle.lens_engines.specs.declared.cut.Uncut.TheVariants as uncut
use Rattle.lens_texts.specs.declared.label.LevelLabel.{LevelLabel}

-- no level starts at an entry from which on the first that does is another, or none
pub no_start : (all : List (List ℕ)) (g : ℕ) (next : Option ℕ) → next ≢ Some g → IfSome next (IsNextStart all g) → IfNone next (NoneStartsFrom all g) → ¬ LevelStartsAt all g
no_start all g None other some nothing starts = nothing g (omega arith) starts
no_start all g (Some h) other some nothing starts = elim (cases_lt g h) [
  | inl before ↦ some.first g (omega arith) before starts
  | inr upto ↦ other (ap Some (omega (arith, upto, some.after)))
]

-- the lumps that belong to a level are listed
pub belong_within : (files : List Wad) (g many : ℕ) → BelongAt files g many → g + many < length (joined files)
belong_within files g many at = go at.format at.is at.belong
  where
    go : (format : Format) → IsFormat files g format → Belong files g format many → g + many < length (joined files)
    go format.Udmf is belong = named_within files (g + many) _ belong.named
    go (format.Incomplete k) is belong = absurd belong
    go format.Hexen is (inl scripts) = rw scripts.1 (named_within files (g + 12) _ scripts.0)
    go format.Hexen is (inr other) = rw other.1 (named_within files (g + 11) _ is.1)
    go (format.Outside k) is belong = rw belong (named_within files (g + 10) _ (is.0.0.1 10 (omega arith) (omega arith)))
    go (format.Extended tag) is belong = rw belong (named_within files (g + 10) _ (is.0.0.0.1 10 (omega arith) (omega arith)))
    go format.Doom is belong = rw belong (named_within files (g + 10) _ (is.0.0.0.1 10 (omega arith) (omega arith)))

-- the lumps so far: the label, and so many behind it
pub record Gathered (files : List Wad) (g : ℕ) (label : List ℕ) (many : ℕ) (found : List NamedLump) : Type 0 where
  pub behind : List NamedLump
  pub named : AreNamedLumps files (g + 1) many behind
  pub are : found ≡ record { name = label; bytes = [] } ∷ behind

pub gathered_none : (files : List Wad) (g : ℕ) (label : List ℕ) → Gathered files g label 0 (record { name = label; bytes = [] } ∷ [])
gathered_none files g label = record { behind = []; named = none; are = refl }

pub gathered_more : (files : List Wad) (g : ℕ) (label : List ℕ) (many : ℕ) (found new : List NamedLump) → Gathered files g label many found
    → AddsLump files (g + 1 + many) found new → Gathered files g label (many + 1) new
gathered_more files g label many found new so_far adds = record {
  behind = so_far.behind ++ adds.lump ∷ [];
  named = more many so_far.behind adds.lump so_far.named adds.named adds.stands;
  are = adds.is ∙ ap (λ lumps. lumps ++ adds.lump ∷ []) so_far.are;
}

pub gathered_all : (files : List Wad) (g many : ℕ) (label : LevelLabel) (found : List NamedLump) → IsLabelOf files g label → BelongAt files g many
    → Gathered files g label.name many found → HasLumpsAt files g found
gathered_all files g many label found is belong so_far = record {
  many = many;
  belong = belong;
  label = label.name;
  labelled = is.named;
  behind = so_far.behind;
  named = so_far.named;
  are = so_far.are;
}

-- each of them is inside its file
all_stand : (files : List Wad) (from many : ℕ) (lumps : List NamedLump) → AreNamedLumps files from many lumps → (m : ℕ) → m < many → (lump : List ℕ) × IsLump files (from + m) lump
all_stand files from many lumps none m below = absurd (omega (arith, below))
all_stand files from many lumps (more before earlier lump are named stands) m below = elim (cases_eq m before) [
  | inl last ↦ rw last (lump.bytes, stands)
  | inr other ↦ all_stand files from before earlier are m (omega (arith, below, other))
]

-- a lump that wasn't added
pub lump_lacking : (files : List Wad) (g many place : ℕ) (label : LevelLabel) (found : List NamedLump) (fault : CutFault) → IsLabelOf files g label → LevelStartsAt (names files) g
    → BelongAt files g many → place < many
    → Gathered files g label.name place found → LacksLump files label (g + 1 + place) fault → RefusesEntry files g fault
lump_lacking files g many place label found (fault.NoWad why) is starts belong below so_far lacks = absurd lacks
lump_lacking files g many place label found (fault.NoLevel entry) is starts belong below so_far lacks = absurd lacks
lump_lacking files g many place label found (fault.Level other (uncut.Incomplete k)) is starts belong below so_far lacks = absurd lacks
lump_lacking files g many place label found (fault.Level other (uncut.Outside name)) is starts belong below so_far lacks = (
  rw lacks.0 is,
  record {
    many = many;
    belong = belong;
    place = place;
    below = below;
    before = all_stand files (g + 1) place so_far.behind so_far.named;
    outside = lacks.2;
    named = lacks.1;
  },
)
lump_lacking files g many place label found (fault.Level other uncut.NoEndMap) is starts belong below so_far lacks = absurd lacks
lump_lacking files g many place label found (fault.Level other uncut.TooLarge) is starts belong below so_far lacks = absurd lacks
lump_lacking files g many place label found fault.Memory is starts belong below so_far lacks = record { starts = starts; many = many; belong = belong }
lump_lacking files g many place label found fault.Write is starts belong below so_far lacks = absurd lacks

-- lumps that were packed
pub packed_cuts : {A : Type 0} (files : List Wad) (g : ℕ) (found : List NamedLump) (result : Result (Vec ℕ A) CutFault) → HasLumpsAt files g found
    → IfOk result (λ file. file.items ≡ packed found) → IfOk result (λ file. length file.items ≤ MAX_BYTES) → IfOk result (λ file. HoldsLumps file.items found)
    → IfOk result (λ file. CutsLevel files g file.items)
packed_cuts files g found (Ok file) has is fits holds = record { found = found; has = has; is = is; fits = fits; holds = holds }
packed_cuts files g found (Err fault) has is fits holds = tt

-- lumps that weren't packed
pub pack_refused : (files : List Wad) (g many : ℕ) (label : LevelLabel) (found : List NamedLump) (fault : CutFault) → IsLabelOf files g label → LevelStartsAt (names files) g
    → BelongAt files g many → HasLumpsAt files g found → RefusesPack found label fault → RefusesEntry files g fault
pack_refused files g many label found (fault.NoWad why) is starts belong has refused = absurd refused
pack_refused files g many label found (fault.NoLevel entry) is starts belong has refused = absurd refused
pack_refused files g many label found (fault.Level other (uncut.Incomplete k)) is starts belong has refused = absurd refused
pack_refused files g many label found (fault.Level other (uncut.Outside name)) is starts belong has refused = absurd refused
pack_refused files g many label found (fault.Level other uncut.NoEndMap) is starts belong has refused = absurd refused
pack_refused files g many label found (fault.Level other uncut.TooLarge) is starts belong has refused =
    (rw refused.0 is, record { found = found; has = has; large = refused.1 })
pack_refused files g many label found fault.Memory is starts belong has refused = record { starts = starts; many = many; belong = belong }
pack_refused files g many label found fault.Write is starts belong has refused = absurd refused

-- a level of the one file of these bytes that isn't cut out
pub file_refused : (bytes : List ℕ) (files : List Wad) (g : ℕ) (fault : CutFault) → map (λ file. file.bytes) files ≡ bytes ∷ [] → All IsRead files
    → RefusesEntry files g fault → RefusesCut bytes g fault
file_refused bytes files g (fault.NoWad why) of_bytes read refused = absurd refused
file_refused bytes files g (fault.NoLevel entry) of_bytes read refused = record { files = files; file = record { of_bytes = of_bytes; read = read }; refuses = refused }
file_refused bytes files g (fault.Level label why) of_bytes read refused = record { files = files; file = record { of_bytes = of_bytes; read = read }; refuses = refused }
file_refused bytes files g fault.Memory of_bytes read refused = one-has_directory bytes files of_bytes read
file_refused bytes files g fault.Write of_bytes read refused = absurd refused

-- the first ENDMAP from one entry on
pub end_map_here : (files : List Wad) (g entry : ℕ) → ((h : ℕ) → g + 2 ≤ h → h < entry → ¬ IsNamed (names files) h (codes "ENDMAP")) → g + 2 ≤ entry
    → IsNamed (names files) entry (codes "ENDMAP") → IsEndMap files g (entry - g)
end_map_here files g entry others from here =
    let same : g + (entry - g) ≡ entry = omega (arith, from) in
    record {
      behind = omega (arith, from);
      named = rw same here;
      first = λ m behind below. others (g + m) (omega (arith, behind)) (omega (arith, below, from));
    }
