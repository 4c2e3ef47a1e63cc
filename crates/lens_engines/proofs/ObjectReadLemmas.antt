-- The objects of a survey are read back as their members.
use Rattle.std.proofs.Common.{◌≡◌, ℕ, ◌^◌, ◌<◌, Bool, true, false, List, [], ◌∷◌, ◌++◌, Option, Some, None, refl, sym, ap, subst, ◌∙◌, append_assoc}
use Rattle.std.specs.Prelude.{codes, map, ◌==◌, if◌then◌else◌}
use Rattle.std.specs.List.{flat_map}
use Rattle.std.specs.Str.Lossy.{utf8_lossy}
use Rattle.std.proofs.lemmas.Str.{utf8_lossy-IsUtf8}
use Rattle.json.proofs.Printed.Utf8.{IsUtf8-are_ascii, are_ascii}
use Rattle.json.specs.Json.{array, string}
use Rattle.le_rec.specs.Name.{shown_name}
use Rattle.level_codes.specs.Codes.{code_name, code_table, finding_codes}
use Rattle.level_codes.specs.declared.code.ReportCode.{ReportCode}
use Rattle.level_codes.specs.declared.code.ReportCode.TheVariants as report
use Rattle.level_codes.specs.declared.code.WarningCode.TheVariants.{W1}
use Rattle.level_starts.specs.declared.format.Format.{Format}
use Rattle.level_starts.specs.declared.format.Format.TheVariants.{Udmf, Incomplete, Hexen, Outside, Extended, Doom}
use Rattle.map_level.specs.declared.finding.Code.TheVariants.{F1}
use Rattle.wad_dir.specs.declared.wad.WadFault.TheVariants as wad
use Rattle.lens_texts.proofs.MemberLemmas.{ArePlain, IsPlain, Tells, Tells-bool, Tells-both, Tells-each, Tells-none, Tells-number, Tells-names, Tells-numbers, Tells-plain, Tells-string, read_line}
use Rattle.lens_engines.specs.Counts.{fault_total, note_total}
use Rattle.lens_engines.specs.Laws.{DoomIsRead, ObjectsAreRead, OtherIsRead, RefusedIsRead}
use Rattle.lens_engines.specs.ObjectValues.{broken_values, count_values, doom_value, found_values, label_values, other_value, size_values, sizes_of, telling_values, unlooked_values, warnings_values}
use Rattle.lens_texts.specs.Members.{IsLineOf, file_value, names_of, number_at, object_of, text_at}
use Rattle.lens_engines.specs.Objects.{counts_text, found_members, lump_members, refusal_text, refused_object, warnings_member}
use Rattle.lens_engines.specs.ReportCounts.{count_of}
use Rattle.lens_texts.specs.LevelObject.{broken_member, file_member, format_member, format_name, label_members, number_member, telling_members, usual_name}
use Rattle.lens_engines.specs.Unlooked.{codes_in, has_any, unlooked_member, unlooked_names}
use Rattle.lens_texts.specs.Unread.{unread_format}
use Rattle.lens_texts.specs.declared.unread.Unread.{Unread}
use Rattle.lens_texts.specs.declared.unread.Unread.TheVariants as unread
use Rattle.node_lumps.specs.Words.{broken_text}
use Rattle.node_lumps.specs.declared.broken.Broken.{Broken}
use Rattle.level_codes.specs.declared.set.CodeSet.{CodeSet}
use Rattle.lens_engines.specs.declared.judging.Warnings.{Warnings}
use Rattle.lens_engines.specs.declared.judging.Warnings.TheVariants.{Unasked, Told}
use Rattle.lens_engines.specs.declared.object.FileRefusal.{FileRefusal}
use Rattle.lens_engines.specs.declared.tables.Tables.{Tables}
use Rattle.lens_engines.specs.declared.object.FileRefusal.TheVariants as refused

-- ---- a refused file

refusal_is_ascii : (refusal : FileRefusal) → are_ascii (refusal_text refusal) ≡ true
refusal_is_ascii refused.Unopened = refl
refusal_is_ascii refused.Unread = refl
refusal_is_ascii refused.TooLarge = refl
refusal_is_ascii (refused.NoWad wad.Short) = refl
refusal_is_ascii (refused.NoWad wad.Magic) = refl
refusal_is_ascii (refused.NoWad wad.Count) = refl
refusal_is_ascii (refused.NoWad wad.Directory) = refl

refusal_is_text : (refusal : FileRefusal) → utf8_lossy (refusal_text refusal) ≡ refusal_text refusal
refusal_is_text refusal = utf8_lossy-IsUtf8 (refusal_text refusal) (IsUtf8-are_ascii (refusal_text refusal) (refusal_is_ascii refusal))

law_refused_is_read : RefusedIsRead
law_refused_is_read path refusal =
    subst (λ text. IsLineOf (object_of (file_value path ∷ (codes "refused", string text) ∷ [])) (refused_object path refusal)) (refusal_is_text refusal)
    (read_line path _ _ (Tells-string (codes "refused") (refusal_text refusal) refl))

-- ---- a level that isn't judged

format_plain : (format : Format) → IsPlain (format_name format)
format_plain Udmf = refl
format_plain (Incomplete k) = refl
format_plain Hexen = refl
format_plain (Outside k) = refl
format_plain (Extended tag) = refl
format_plain Doom = refl

label_tells : (name : List ℕ) (g : ℕ) (format : Format) → g < 2 ^ 64 → Tells (label_members name g ++ format_member format) (label_values name g format)
label_tells name g format small =
    Tells-both (label_members name g) (format_member format) (text_at (codes "level") (shown_name name) ∷ number_at (codes "entry") g ∷ []) ((codes "format", string (format_name format)) ∷ [])
    (Tells-both _ (number_member (codes "entry") g) _ _ (Tells-string (codes "level") (shown_name name) refl) (Tells-number (codes "entry") g refl small))
    (Tells-plain (codes "format") (format_name format) refl (format_plain format))

broken_tells : (why : Option Broken) → Tells (broken_member why) (broken_values why)
broken_tells None = Tells-none
broken_tells (Some why) = Tells-string (codes "broken") (broken_text why) refl

telling_tells : (unread : Unread) → Tells (telling_members unread) (telling_values unread)
telling_tells unread.Udmf = Tells-none
telling_tells (unread.Incomplete k) = Tells-string (codes "lump") (shown_name (usual_name k)) refl
telling_tells unread.Hexen = Tells-none
telling_tells (unread.Outside k) = Tells-string (codes "lump") (shown_name (usual_name k)) refl
telling_tells (unread.Extended tag why) =
    Tells-both _ (broken_member why) (text_at (codes "tag") tag ∷ []) (broken_values why) (Tells-string (codes "tag") tag refl) (broken_tells why)

-- the file's member, the label's and those behind them as one text of members
regrouped : (file label others end : List ℕ) → (file ++ label) ++ (others ++ end) ≡ file ++ ((label ++ others) ++ end)
regrouped file label others end = append_assoc file label (others ++ end) ∙ ap (λ t. file ++ t) (sym (append_assoc label others end))

law_other_is_read : OtherIsRead
law_other_is_read path name g unread small =
    let format = unread_format unread in
    subst (IsLineOf (other_value path name g unread)) (sym (regrouped (file_member path) (label_members name g ++ format_member format) (telling_members unread) (codes "}\n")))
    (read_line path _ _ (Tells-both _ _ _ _ (label_tells name g format small) (telling_tells unread)))

-- ---- a level of Doom's format

sizes_plain : (tables : Tables) → ArePlain (sizes_of tables)
sizes_plain tables = (refl, (refl, (refl, (refl, (refl, (refl, (refl, (refl, (refl, (refl, tt))))))))))

name_plain : (code : ReportCode) → IsPlain (code_name code)
unfolding code_table
name_plain (report.Finding F1) = refl
name_plain (report.Finding _) = refl
name_plain (report.Warning W1) = refl
name_plain (report.Warning _) = refl

findings_tell : (counts : List ℕ) → ((code : ReportCode) → count_of counts code < 2 ^ 64)
    → Tells (codes ",\"findings\":{" ++ (counts_text counts finding_codes ++ codes "}")) ((codes "findings", object_of (count_values counts finding_codes)) ∷ [])
findings_tell counts small = Tells-numbers code_name (count_of counts) name_plain (codes "findings") _ refl (λ k d within. small _)

found_tells : (counts : List ℕ) → fault_total counts < 2 ^ 64 → note_total counts < 2 ^ 64 → ((code : ReportCode) → count_of counts code < 2 ^ 64)
    → Tells (found_members counts) (found_values counts)
found_tells counts faults notes small =
    Tells-both _ _ _ _
    (Tells-both _ _ _ _ (Tells-bool (codes "sound") (fault_total counts == 0) refl)
    (Tells-both _ _ _ _ (Tells-number (codes "faults") (fault_total counts) refl faults) (Tells-number (codes "notes") (note_total counts) refl notes)))
    (findings_tell counts small)

warnings_tell : (warnings : Warnings) (counts : List ℕ) → ((code : ReportCode) → count_of counts code < 2 ^ 64)
    → Tells (warnings_member warnings counts) (warnings_values warnings counts)
warnings_tell Unasked counts small = Tells-none
warnings_tell Told counts small = Tells-numbers code_name (count_of counts) name_plain (codes "warnings") _ refl (λ k d within. small _)

unlooked_tell : (unlooked : CodeSet) → Tells (unlooked_member unlooked) (unlooked_values unlooked)
unlooked_tell unlooked = by (has_any unlooked)
  where
    by : (some : Bool) → Tells (if some then unlooked_names unlooked else []) (if some then (codes "unlooked", array (names_of (map code_name (codes_in unlooked)))) ∷ [] else [])
    by true = Tells-names code_name name_plain (codes "unlooked") (codes_in unlooked) refl
    by false = Tells-none

-- four parts of members before an end
parts : (sizes found warnings unlooked end : List ℕ) → sizes ++ (found ++ (warnings ++ (unlooked ++ end))) ≡ (sizes ++ (found ++ (warnings ++ unlooked))) ++ end
parts sizes found warnings unlooked end =
    ap (λ t. sizes ++ (found ++ t)) (sym (append_assoc warnings unlooked end))
    ∙ ap (λ t. sizes ++ t) (sym (append_assoc found (warnings ++ unlooked) end)) ∙ sym (append_assoc sizes (found ++ (warnings ++ unlooked)) end)

law_doom_is_read : DoomIsRead
law_doom_is_read path name g counted small numbers =
    let sizes = flat_map (λ text. text) (lump_members counted.tables) in
    let found = found_members counted.counts in
    let told = warnings_member counted.warnings counted.counts in
    let left = unlooked_member counted.unlooked in
    let label = label_members name g ++ format_member Doom in
    subst (IsLineOf (doom_value path name g counted))
    (sym (ap (λ t. (file_member path ++ label) ++ t) (parts sizes found told left (codes "}\n")) ∙ regrouped (file_member path) label (sizes ++ (found ++ (told ++ left))) (codes "}\n")))
    (read_line path _ _
    (Tells-both _ _ _ _ (label_tells name g Doom small)
    (Tells-both sizes _ (size_values counted.tables) _ (Tells-each (sizes_of counted.tables) (sizes_plain counted.tables) numbers.sizes)
    (Tells-both _ _ _ _ (found_tells counted.counts numbers.faults numbers.notes numbers.each)
    (Tells-both _ _ _ _ (warnings_tell counted.warnings counted.counts numbers.each) (unlooked_tell counted.unlooked))))))

pub law_objects_are_read : ObjectsAreRead
law_objects_are_read = record { refused = law_refused_is_read; other = law_other_is_read; doom = law_doom_is_read }
