-- Why no command runs.
use Rattle.std.proofs.Common.{◌≡◌, ◌≢◌, ◌<◌, ℕ, List, [], ◌∷◌, length, Option, refl, subst, arith}
use Rattle.look_engines.specs.Words.{IsJob, paths_of}
use Rattle.look_engines.specs.declared.command.Cmd.TheVariants.{Lmp}
use Rattle.look_engines.specs.declared.command.Job.{Job}
use Rattle.wadlook.specs.Files.{IsNumbered, IsTooLong, RefusesPaths}
use Rattle.wadlook.specs.Program.{RefusesJob, RefusesWords}
use Rattle.wadlook.specs.declared.refusal.ProgramRefusal.{ProgramRefusal}
use Rattle.wadlook.specs.declared.refusal.ProgramRefusal.TheVariants.{Usage, Unreadable, TooLong, Run}

-- files that aren't read refuse the job that names them
pub paths_refuse : (held : List ℕ → Option (List ℕ)) (paths words : List (List ℕ)) (job : Job) (refusal : ProgramRefusal) → job.command ≢ Lmp
    → paths ≡ paths_of words job → RefusesPaths held paths refusal → RefusesJob held words job refusal
paths_refuse held paths words job Usage other are refuses = absurd refuses
paths_refuse held paths words job (Unreadable n) other are refuses = subst (λ ps. RefusesPaths held ps (Unreadable n)) are refuses
paths_refuse held paths words job (TooLong n) other are refuses = (other, subst (λ ps. IsTooLong held ps n) are refuses)
paths_refuse held paths words job (Run fault) other are refuses = subst (λ ps. RefusesPaths held ps (Run fault)) are refuses

-- what refuses a job refuses the words that ask for it
pub job_refuses : (held : List ℕ → Option (List ℕ)) (words : List (List ℕ)) (job : Job) (refusal : ProgramRefusal) → IsJob words job → RefusesJob held words job refusal → RefusesWords held words refusal
job_refuses held words job Usage asked refuses = absurd refuses
job_refuses held words job (Unreadable n) asked refuses = (job, asked, refuses)
job_refuses held words job (TooLong n) asked refuses = (job, asked, refuses)
job_refuses held words job (Run fault) asked refuses = (job, asked, refuses)

-- nothing is read before the first of some files
pub first_reached : (held : List ℕ → Option (List ℕ)) (paths : List (List ℕ)) → 0 < length paths → IsNumbered held paths 1
first_reached held [] some = absurd (omega arith)
first_reached held (path ∷ paths) some = record {
  place = 0;
  number = refl;
  reached = record { before = []; path = path; after = paths; stands = refl; placed = refl; files = []; read = tt; fits = omega arith };
}
