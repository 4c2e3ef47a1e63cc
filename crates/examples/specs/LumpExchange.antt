-- A WAD file with one lump exchanged (ours).
use Rattle.std.specs.Prelude.{◌≡◌, ◌≢◌, ℕ, ◌<◌, ◌≤◌, ◌^◌, ⊤, List, [], ◌∷◌, length, map, Some}
use Rattle.std.specs.List.{slice_get}
use Rattle.wad_dir.specs.Entries.{joined, names}
use Rattle.wad_dir.specs.Packing.{NamedLump, packed}
use Rattle.wad_dir.specs.Refusal.{RefusesWad}
use Rattle.wad_dir.specs.Slice.{IsLump}
use Rattle.wad_dir.specs.Wad.{Wad, IsRead}
use Rattle.wad_dir.specs.declared.header.Kind.TheVariants.{Pwad}
use Rattle.wad_dir.specs.declared.lump.LumpFault.{LumpFault}
use Rattle.wad_dir.specs.declared.lump.LumpFault.TheVariants.{NoSuch, Outside}
use Rattle.wad_dir.specs.declared.packer.PackFault.TheVariants as pack
use Rattle.wad_dir.specs.declared.set.SetFault.TheVariants as set
use Rattle.examples.specs.declared.lump_exchange.ExchangeFault.{ExchangeFault}
use Rattle.examples.specs.declared.lump_exchange.ExchangeFault.TheVariants as exchange

-- lump i of files, or these bytes for lump g
abbrev pub IsLumpWith : List Wad → ℕ → List ℕ → ℕ → List ℕ → Type 0
IsLumpWith files g bytes i lump = (i ≡ g → lump ≡ bytes) × (i ≢ g → IsLump files i lump)

-- other files have the same names in the same order, these bytes as lump g, and every other lump as it was
pub record IsExchanged (old new : List Wad) (g : ℕ) (bytes : List ℕ) : Type 0 where
  pub same_names : names new ≡ names old
  pub there : g < length (joined old)
  pub lumps : (i : ℕ) → i < length (joined old)
      → (lump : List ℕ) × IsLumpWith old g bytes i lump × IsLump new i lump

-- both are one file, as it is read of its bytes, and the new one is a PWAD
pub record Exchanges (file : List ℕ) (g : ℕ) (bytes made : List ℕ) : Type 0 where
  pub old : Wad
  pub new : Wad
  pub was : old.bytes ≡ file
  pub is : new.bytes ≡ made
  pub read : IsRead old
  pub reads : IsRead new
  pub patch : new.kind ≡ Pwad
  pub holds : IsExchanged (old ∷ []) (new ∷ []) g bytes

-- lumps under the names of files' entries: theirs, with these bytes for lump g
pub record AreExchanged (files : List Wad) (g : ℕ) (bytes : List ℕ) (lumps : List NamedLump) : Type 0 where
  pub named : map (λ lump. lump.name) lumps ≡ names files
  pub each : (i : ℕ) (lump : NamedLump) → slice_get lumps i ≡ Some lump
      → IsLumpWith files g bytes i lump.bytes

-- there is no lump g; or there is one, and another isn't inside its file
abbrev pub LacksLump : List Wad → ℕ → LumpFault → Type 0
LacksLump files g NoSuch = length (joined files) ≤ g
LacksLump files g Outside =
    (g < length (joined files)) × (i : ℕ) × (i < length (joined files)) × (i ≢ g) × ((lump : List ℕ) → ¬ IsLump files i lump)

-- what stops taking up all lumps
abbrev pub StopsExchange : List Wad → ℕ → ExchangeFault → Type 0
StopsExchange files g (exchange.Lump fault) = LacksLump files g fault
StopsExchange files g (exchange.Pack fault) = fault ≡ pack.Memory
StopsExchange files g (exchange.Set _) = ⊥

-- when each error comes; a growth can be refused at any time
abbrev pub RefusesExchange : List ℕ → ℕ → List ℕ → ExchangeFault → Type 0
RefusesExchange file g bytes (exchange.Set (set.File n fault)) = (n ≡ 1) × RefusesWad file fault
RefusesExchange file g bytes (exchange.Lump fault) =
    (old : Wad) × (old.bytes ≡ file) × IsRead old × LacksLump (old ∷ []) g fault
RefusesExchange file g bytes (exchange.Pack pack.TooLarge) =
    (old : Wad) × (lumps : List NamedLump) × (old.bytes ≡ file) × IsRead old × (g < length (joined (old ∷ [])))
    × AreExchanged (old ∷ []) g bytes lumps × (2 ^ 31 ≤ length (packed lumps))
RefusesExchange file g bytes _ = ⊤
