-- The demo of a name, and the last part of its listing.
use Rattle.std.specs.Prelude.{IsErrOf}
use Rattle.std.proofs.Common.{◌↔◌, ℕ, ◌<◌, ◌≤◌, Bor, List, [], length, refl, arith, Result, Ok, Err, sym}
use Rattle.std.proofs.lemmas.List.{append-nil, length-map}
use Rattle.std.proofs.lemmas.Option.{slice_get_within}
use Rattle.le_rec.specs.Sink.{SinkState}
use Rattle.line_io.proofs.WriteProgressLemmas.{SoFar, SoFar-more, SoFar-stop, SoFar-end}
use Rattle.line_io.specs.Writes.{Writes}
use Rattle.line_io.specs.declared.fault.IoFault.{IoFault}
use Rattle.wad_dir.specs.Entries.{joined, listed_name, names}
use Rattle.wad_dir.specs.Slice.{IsLump}
use Rattle.wad_dir.specs.Wad.{Wad}
use Rattle.wad_dir.specs.declared.lump.LumpFault.{LumpFault}
use Rattle.wad_dir.specs.declared.lump.LumpFault.TheVariants.{NoSuch, Outside}
use Rattle.look_engines.specs.Engines.Demo.{IsNamed, RefusesNamedDemo}
use Rattle.look_engines.specs.declared.fault.RunFault.TheVariants as fault

-- why the lump of the entry of the name isn't there: it is outside its file
pub lump_refused : (bytes : List (List ℕ)) (asked : List ℕ) (files : List Wad) (g : ℕ) (why : LumpFault) → IsNamed bytes asked files g
    → (IsErrOf {T = Bor (List ℕ)} (Err why) NoSuch ↔ (length (joined files) ≤ g))
    → (IsErrOf {T = Bor (List ℕ)} (Err why) Outside ↔ ((g < length (joined files)) × ((lump : List ℕ) → ¬ IsLump files g lump)))
    → RefusesNamedDemo bytes asked (fault.Lump why)
lump_refused bytes asked files g NoSuch named no_such outside =
    absurd (omega (arith, no_such.0 refl, slice_get_within (names files) g _ named.wins.named, length-map (joined files) listed_name))
lump_refused bytes asked files g Outside named no_such outside = (files, g, named, (outside.0 refl).1)

-- the last part of a text
pub SoFar-last : {whole : List ℕ} {before between after : SinkState} {text : List ℕ} (result : Result (Unit {0}) IoFault) → SoFar whole before between text → Writes between after text result → Writes before after whole result
SoFar-last {after = after} {text = text} (Ok x) s w = SoFar-end x (SoFar-more after text [] s (sym (append-nil text)) w.takes.whole) refl w.ends.sound
SoFar-last {text = text} (Err e) s w = SoFar-stop text [] s (sym (append-nil text)) w
