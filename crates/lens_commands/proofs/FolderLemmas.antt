-- What stands in a folder after files were added.
use Rattle.std.proofs.Common.{◌≡◌, ℕ, List, [], ◌∷◌, ◌++◌, Option, Some, None, Result, Ok, Err, refl, ap, ◌∙◌}
use Rattle.std.specs.Prelude.{OnErr, OnOk}
use Rattle.std.proofs.lemmas.List.{append-nil, append_assoc}
use Rattle.std.specs.Io.KnownBytes.{Appends, Keeps}
use Rattle.le_rec.specs.Sink.{SinkState}
use Rattle.lens_commands.specs.Folder.{IsBegun, Kept, KeepsFile, with_files}
use Rattle.lens_commands.specs.declared.atlas.fault.KeepFault.{KeepFault}

-- none were
pub with_files-none : (files : Option (List Kept)) → with_files files [] ≡ files
with_files-none None = refl
with_files-none (Some files) = ap Some (append-nil files)

-- some, and then others
pub with_files-more : (files : Option (List Kept)) (a b : List Kept) → with_files (with_files files a) b ≡ with_files files (a ++ b)
with_files-more None a b = refl
with_files-more (Some files) a b = ap Some (append_assoc files a b)

same_text : (before after : Option (List ℕ)) (text kept : List ℕ) → before ≡ Some [] → Appends before after text → Keeps after (Some kept) → kept ≡ text
same_text None after text kept empty added keeps = absurd (cc)
same_text (Some xs) None text kept empty added keeps = absurd added
same_text (Some xs) (Some ys) text kept empty added keeps = let none : xs ≡ [] = cc in keeps ∙ added ∙ ap (λ bytes. bytes ++ text) none

-- a file that took a text stands there with it
pub kept_whole : (old new : Option (List Kept)) (before after : SinkState) (text name : List ℕ) (x : Unit {0})
    → IsBegun old before → Appends before.taken after.taken text → KeepsFile old new after name (Ok x)
    → new ≡ with_files old (record { name = name; text = text } ∷ [])
kept_whole None new before after text name x begun added kept = kept.2
kept_whole (Some files) new before after text name x begun added kept =
    kept.2
    ∙ ap (λ t. with_files (Some files) (record { name = name; text = t } ∷ []))
    (same_text before.taken after.taken text kept.0 begun.empty added kept.1)

-- or not, where that failed
pub text_kept : (old new : Option (List Kept)) (before after : SinkState) (text name : List ℕ) (result : Result (Unit {0}) KeepFault)
    → IsBegun old before → Appends before.taken after.taken text → KeepsFile old new after name result
    → OnOk result (new ≡ with_files old (record { name = name; text = text } ∷ [])) × OnErr result (new ≡ old)
text_kept old new before after text name (Ok x) begun added kept = (kept_whole old new before after text name x begun added kept, tt)
text_kept old new before after text name (Err why) begun added kept = (tt, kept)
