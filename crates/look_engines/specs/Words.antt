-- The forms of a command line (this project's own): a table with a line a command, and what the words of a form ask for.
use Rattle.std.specs.Prelude.{◌≡◌, ◌≢◌, ℕ, ◌-◌, ◌<◌, ◌≤◌, Bool, true, false, List, [], ◌∷◌, ◌++◌, length, codes, take, drop, All, IsTrue, slice_index, slice_index_or}
use Rattle.wad_dir.specs.declared.set.TheConstants.{MAX_FILES}
use Rattle.look_engines.specs.Command.{word_of}
use Rattle.look_engines.specs.declared.command.Cmd.{Cmd}
use Rattle.look_engines.specs.declared.command.Cmd.TheVariants.{Lumps, Levels, Show, Audit, Points, Census, Sight, Blocks, Extract, Demo, Lmp}
use Rattle.look_engines.specs.declared.command.Job.{Job}
use Rattle.look_engines.specs.declared.words.WordForm.{WordForm}

-- whether `--wide` may follow the word, how many NAMEs stand before the files, and how many files there may be
abbrev pub form_of : Cmd → WordForm
form_of Lumps = record { wide = false; names = 0; files = MAX_FILES }
form_of Levels = record { wide = false; names = 0; files = MAX_FILES }
form_of Show = record { wide = true; names = 1; files = MAX_FILES }
form_of Audit = record { wide = true; names = 1; files = MAX_FILES }
form_of Points = record { wide = true; names = 1; files = MAX_FILES }
form_of Census = record { wide = true; names = 1; files = MAX_FILES }
form_of Sight = record { wide = false; names = 1; files = MAX_FILES }
form_of Blocks = record { wide = true; names = 1; files = MAX_FILES }
form_of Extract = record { wide = false; names = 1; files = MAX_FILES }
form_of Demo = record { wide = false; names = 1; files = MAX_FILES }
form_of Lmp = record { wide = false; names = 0; files = 1 }

-- `--wide` or nothing
abbrev pub wide_words : Bool → List (List ℕ)
wide_words false = []
wide_words true = codes "--wide" ∷ []

-- a NAME or a FILE doesn't begin with `-`
abbrev pub IsPlain : List ℕ → Type 0
IsPlain word = slice_index word 0 ≢ 45

-- the words before the first file that are a NAME: one, where the command takes one
abbrev pub names_of : List (List ℕ) → Job → List (List ℕ)
names_of words job = take (form_of job.command).names (drop (job.first - 1) words)

-- the NAME, and no bytes where there is none
abbrev pub name_of : List (List ℕ) → Job → List ℕ
name_of words job = slice_index_or (names_of words job) 0 []

-- the paths of the files
abbrev pub paths_of : List (List ℕ) → Job → List (List ℕ)
paths_of words job = drop job.first words

-- the words are the command's, `--wide` where the job says so, the NAME of the form, and the paths
pub record IsJob (words : List (List ℕ)) (job : Job) : Type 0 where
  pub spelled : words ≡ word_of job.command ∷ (wide_words job.wide ++ (names_of words job ++ paths_of words job))
  pub may_be_wide : IsTrue job.wide → IsTrue (form_of job.command).wide
  pub some_file : 0 < length (paths_of words job)
  pub few_files : length (paths_of words job) ≤ (form_of job.command).files
  pub plain : All IsPlain (names_of words job ++ paths_of words job)
