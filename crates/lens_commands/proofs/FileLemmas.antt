-- The files of a picture as they are read one after another.
use Rattle.std.proofs.Common.{◌≡◌, ℕ, ◌-◌, ◌*◌, ◌<◌, ◌≤◌, List, [], ◌∷◌, ◌++◌, length, take, map, get_or, Option, Some, None, IfSome, inl, inr, refl, sym, ap, ◌∙◌, subst, arith}
use Rattle.std.specs.List.{slice_get}
use Rattle.std.specs.Option.{option_map}
use Rattle.std.proofs.Math.Seq.{get_or-append_seam, take-append_seam}
use Rattle.std.proofs.lemmas.List.Sums.{sum_by-cons}
use Rattle.std.proofs.lemmas.List.{length-append}
use Rattle.std.proofs.lemmas.Option.{slice_get-get_or, slice_get-map, slice_get_read}
use Rattle.line_io.specs.Storage.{AreHeld, IsReached, RefusesFiles, RefusesNext, total_length}
use Rattle.line_io.specs.declared.input.TheConstants.{MAX_READ}
use Rattle.line_io.specs.declared.storage.FirstUnread.{FirstUnread}
use Rattle.line_io.specs.declared.storage.StorageFault.{StorageFault}
use Rattle.line_io.specs.declared.storage.StorageFault.TheVariants as storage
use Rattle.lens_engines.specs.declared.object.FileRefusal.{FileRefusal}
use Rattle.lens_reports.specs.Files.{RefusesRead, read_fault_of}
use Rattle.lens_commands.specs.PictureFiles.{IsFirstUnread}
use Rattle.lens_reports.specs.declared.files.ReadFault.TheVariants.{Refused}
use Rattle.wad_dir.specs.Refusal.{IsFirstRefused}
use Rattle.wad_dir.specs.declared.wad.WadFault.{WadFault}

-- the path of an index
pub path_at : {P : Type 0} (path_of : P → List ℕ) (paths : List P) (i : ℕ) (d : P) (path : List ℕ) → i < length paths → path ≡ path_of (get_or paths i d)
    → slice_get (map path_of paths) i ≡ Some path
path_at path_of paths i d path within same =
    slice_get-map path_of paths i ∙ ap (option_map path_of) (slice_get-get_or paths i d within) ∙ ap Some (sym same)

-- the first file without a directory is one of them
pub first_among : (files : List (List ℕ)) (n : ℕ) (why : WadFault) → IsFirstRefused files n why → (1 ≤ n) × (n - 1 < length files)
first_among files n why first =
    let joined = ap length first.joined in
    let parts = length-append first.earlier (first.bytes ∷ first.later) in
    (omega (arith, first.number), omega (arith, first.number, joined, parts))

-- files that are each within the most have together at most so many times as much
total_within : (held : List ℕ → Option (List ℕ)) (paths files : List (List ℕ)) → AreHeld held paths files → total_length files ≤ length paths * MAX_READ
total_within held [] [] all = omega arith
total_within held (p ∷ paths) (f ∷ files) all = omega (arith, sum_by-cons length f files, all.0.few, total_within held paths files all.1)
total_within held [] (f ∷ files) all = absurd all
total_within held (p ∷ paths) [] all = absurd all

-- among at most 64 files one that is too long is so by itself
too_long : (held : List ℕ → Option (List ℕ)) (before files : List (List ℕ)) (one : Option (List ℕ)) → length before ≤ 63 → AreHeld held before files
    → RefusesNext (64 * MAX_READ) files one storage.TooLong → IfSome one (λ file. MAX_READ < length file)
too_long held before files None few read why = why
too_long held before files (Some file) few read (inl large) = large
too_long held before files (Some file) few read (inr over) = omega (arith, few, over, total_within held before files read)

-- a file with others before it and behind it
module _ (paths before : List (List ℕ)) (path : List ℕ) (after : List (List ℕ)) (place : ℕ) (stands : paths ≡ before ++ path ∷ after) (placed : place ≡ length before) where
  at_place : slice_get paths place ≡ Some path
  at_place = rw (stands, placed) (slice_get_read (before ++ path ∷ after) (length (before ++ path ∷ after)) (length before) path refl (omega (arith, length-append before (path ∷ after)))
      (sym (get_or-append_seam before path after path)))

  before_place : before ≡ take place paths
  before_place = rw (stands, placed) (sym (take-append_seam before (path ∷ after)))

-- the first file that isn't read, as a run tells it
pub first_unread : (held : List ℕ → Option (List ℕ)) (paths : List (List ℕ)) (first : FirstUnread) (refusal : FileRefusal) → length paths ≤ 64
    → RefusesFiles (64 * MAX_READ) held paths first → read_fault_of first.fault ≡ Refused refusal → IsFirstUnread held paths first.place refusal
first_unread held paths first refusal few refuses is = record {
  path = reached.path;
  there = at_place paths reached.before reached.path reached.after first.place reached.stands reached.placed;
  files = reached.files;
  read = subst (λ ps. AreHeld held ps reached.files) (before_place paths reached.before reached.path reached.after first.place reached.stands reached.placed) reached.read;
  why = subst (RefusesRead (held reached.path)) is (go first.fault refuses.why);
}
  where
    reached : IsReached (64 * MAX_READ) held paths first.place
    reached = refuses.reached

    early : length reached.before ≤ 63
    early = omega (arith, ap length reached.stands, length-append reached.before (reached.path ∷ reached.after), few)

    go : (fault : StorageFault) → RefusesNext (64 * MAX_READ) reached.files (held reached.path) fault → RefusesRead (held reached.path) (read_fault_of fault)
    go storage.Unopened why = refl
    go storage.Unread why = refl
    go storage.TooLong why = too_long held reached.before reached.files (held reached.path) early reached.read why
    go storage.Memory why = tt
