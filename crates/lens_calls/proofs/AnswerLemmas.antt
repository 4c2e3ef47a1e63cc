-- What a question over files comes to, and a listing.
use Rattle.std.proofs.Common.{◌≡◌, ℕ, List, Bor, length, map, Result, Ok, Err, sym, subst}
use Rattle.std.specs.Prelude.{IfErr, IfOk}
use Rattle.std.proofs.lemmas.List.{length-map}
use Rattle.le_rec.specs.Sink.{SinkState}
use Rattle.lens_calls.specs.Answer.{Answers, DoesLens, DoesListing}
use Rattle.lens_calls.specs.Asked.{Takes}
use Rattle.lens_calls.specs.Assembled.{AssemblesInput}
use Rattle.lens_calls.specs.declared.asked.LensFault.{LensFault}
use Rattle.lens_calls.specs.declared.asked.LensFault.TheVariants.{Full}
use Rattle.lens_calls.specs.declared.asked.LensRequest.{LensRequest}
use Rattle.lens_calls.specs.declared.asked.LensWord.{LensWord}
use Rattle.lens_engines.specs.declared.verdict.Verdict.{Verdict}

-- a word can be asked of the files of slices as of the slices
pub taken : (word : LensWord) (bases : ℕ) (slices : List (Bor (List ℕ))) → Takes word bases (length slices)
    → Takes word bases (length (map (λ (slice : Bor (List ℕ)). slice.now) slices))
taken word bases slices takes = subst (λ n. Takes word bases n) (sym (length-map slices (λ (slice : Bor (List ℕ)). slice.now))) takes

pub not_taken : (word : LensWord) (bases : ℕ) (slices : List (Bor (List ℕ))) → (Takes word bases (length slices) → ⊥)
    → Takes word bases (length (map (λ (slice : Bor (List ℕ)). slice.now) slices)) → ⊥
not_taken word bases slices none takes = none (subst (λ n. Takes word bases n) (length-map slices (λ (slice : Bor (List ℕ)). slice.now)) takes)

-- what is asked was answered, or there was no room
pub answered : {W E : Type 0} (state : W → SinkState) (estate : E → SinkState) (asked : LensRequest) (paths files : List (List ℕ)) (out out' : W) (errors errors' : E)
    (result : Result Verdict LensFault) → Takes asked.word asked.bases (length files)
    → IfOk result (Answers asked.word asked.rules asked.bases paths files (state out) (state out') (estate errors) (estate errors')) → IfErr result (λ fault. fault ≡ Full)
    → DoesLens state estate asked paths files out out' errors errors' result
answered state estate asked paths files out out' errors errors' (Ok verdict) takes answers full = record { takes = takes; answers = answers }
answered state estate asked paths files out out' errors errors' (Err fault) takes answers full = rw full takes

-- a demo was put together, or there was no room
pub assembled : (listing : List ℕ) (out out' errors errors' : SinkState) (result : Result Verdict LensFault) → IfOk result (AssemblesInput listing out out' errors errors')
    → IfErr result (λ fault. fault ≡ Full) → DoesListing listing out out' errors errors' result
assembled listing out out' errors errors' (Ok verdict) assembles full = assembles
assembled listing out out' errors errors' (Err fault) assembles full = full
