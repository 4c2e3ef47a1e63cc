-- What a question over files comes to.
use Rattle.std.proofs.Common.{◌≡◌, ◌≢◌, ℕ, List, length, Option, Some, Result, Ok, Err, refl, sym, ap, subst, ◌∙◌}
use Rattle.std.specs.Option.{option_map}
use Rattle.std.proofs.lemmas.Option.{same_Some}
use Rattle.lens_calls.specs.Answer.{DoesLens}
use Rattle.lens_calls.specs.Asked.{Takes}
use Rattle.lens_calls.specs.declared.asked.LensFault.{LensFault}
use Rattle.lens_calls.specs.declared.asked.LensFault.TheVariants.{Full, Usage}
use Rattle.lens_calls.specs.declared.asked.LensRequest.{LensRequest}
use Rattle.lens_engines.specs.declared.verdict.Verdict.{Verdict}
use Rattle.memory_streams.specs.ToVec.{ToVec, state_of as vec_state}
use Rattle.wad_page.specs.Lens.{Asks, AsksFiles, DoesQuestion, RefusesAsked}
use Rattle.wad_page.specs.Parts.{cut}
use Rattle.wad_page.specs.declared.lens.LensQuestion.{LensQuestion}
use Rattle.wad_page.specs.declared.parts.SizedBytes.{SizedBytes}

-- the parts that were found
pub parts_are : {V : Type 0} (f : V → List (List ℕ)) (found : Option V) (v : V) (whole : Option (List (List ℕ))) → option_map f found ≡ whole → found ≡ Some v → whole ≡ Some (f v)
parts_are f found v whole cuts is = sym cuts ∙ ap (option_map f) is

-- there aren't as many files as paths
pub other_count : (question : LensQuestion) (named given : SizedBytes) (paths files : List (List ℕ)) → cut named.sizes.now named.bytes.now ≡ Some paths
    → cut given.sizes.now given.bytes.now ≡ Some files → length paths ≢ length files → RefusesAsked question named given Usage
other_count question named given paths files paths_are files_are other = λ asked names bytes asks.
    let same_paths : paths ≡ names = same_Some paths names (sym paths_are ∙ asks.paths_are) in
    let same_files : files ≡ bytes = same_Some files bytes (sym files_are ∙ asks.files_are) in
    other (ap length same_paths ∙ asks.as_many ∙ sym (ap length same_files))

-- what the question asks was done
pub done : (question : LensQuestion) (named given : SizedBytes) (request : LensRequest) (paths files : List (List ℕ)) (out out' errors errors' : ToVec)
    (result : Result Verdict LensFault) → AsksFiles question named given request paths files → ((other : LensRequest) → Asks question other → request ≡ other)
    → DoesLens vec_state vec_state request paths files out out' errors errors' result → DoesQuestion question named given out out' errors errors' result
done question named given request paths files out out' errors errors' (Ok verdict) asks only does =
    record { asked = request; paths = paths; files = files; asks = asks; does = does }
done question named given request paths files out out' errors errors' (Err Usage) asks only does = record {
  none = λ other names bytes others takes.
      let same : request ≡ other = only other others.asks in
      let same_files : files ≡ bytes = same_Some files bytes (sym asks.files_are ∙ others.files_are) in
      does.none (subst (λ n. Takes request.word request.bases n) (sym (ap length same_files))
      (subst (λ (a : LensRequest). Takes a.word a.bases (length bytes)) (sym same) takes));
  untouched = does.untouched;
  silent = does.silent;
}
done question named given request paths files out out' errors errors' (Err Full) asks only does = (request, asks.asks)

-- nothing is asked, or there was no memory
pub undone : (question : LensQuestion) (named given : SizedBytes) (out errors : ToVec) (fault : LensFault) → RefusesAsked question named given fault
    → DoesQuestion question named given out out errors errors (Err fault)
undone question named given out errors Usage none = record { none = λ asked paths files asks takes. none asked paths files asks; untouched = refl; silent = refl }
undone question named given out errors Full some = some
