-- The words of a form are read in one way.
use Rattle.std.proofs.Common.{◌≡◌, ◌≢◌, ℕ, ◌+◌, ◌-◌, ◌<◌, ◌≤◌, Bool, true, false, IsTrue, List, [], ◌∷◌, ◌++◌, length, take, drop, get_or, All, map, codes, Some, ◌↔◌, ap, sym, ◌∙◌, subst, refl, arith, zero, suc, inl, inr, ◌⊎◌, length-append, length-drop}
use Rattle.std.proofs.Math.Seq.{drop-append_seam, drop-append-add}
use Rattle.std.proofs.lemmas.List.{get_or-map, length-map, length-take-le, take-append-drop}
use Rattle.look_engines.specs.Command.{word_of}
use Rattle.look_engines.specs.Words.{IsJob, IsPlain, form_of, names_of, paths_of, wide_words}
use Rattle.look_engines.specs.declared.command.Cmd.{Cmd}
use Rattle.look_engines.specs.declared.command.Cmd.TheVariants.{Lumps, Levels, Show, Audit, Points, Census, Sight, Blocks, Extract, Demo, Lmp}
use Rattle.look_engines.specs.declared.command.Job.{Job}
use Rattle.look_engines.specs.declared.words.WordForm.{WordForm}

-- the words after a command's own: whether `--wide` stands first, and the operands
pub record IsSplit (allowed : Bool) (rest : List (List ℕ)) (wide : Bool) (operands : List (List ℕ)) : Type 0 where
  pub spelled : rest ≡ wide_words wide ++ operands
  pub may_be_wide : IsTrue wide → IsTrue allowed
  pub absent : wide ≡ false → allowed ≡ true → get_or rest 0 [] ≢ codes "--wide"

-- where plain operands follow `--wide` or nothing, the split finds them
pub one_split : (allowed wide wide' : Bool) (rest operands operands' : List (List ℕ)) → IsSplit allowed rest wide operands → rest ≡ wide_words wide' ++ operands' → (IsTrue wide' → IsTrue allowed) → All IsPlain operands' → 0 < length operands' → (wide' ≡ wide) × (operands' ≡ operands)
one_split allowed true true rest operands operands' split e may plain some =
    let spelled = split.spelled in (refl, cc)
one_split allowed false false rest operands operands' split e may plain some =
    let spelled = split.spelled in (refl, cc)
one_split allowed true false rest operands operands' split e may plain some =
    absurd (plain 0 [] some (ap (λ (ws : List (List ℕ)). get_or (get_or ws 0 []) 0 0) (sym e ∙ split.spelled)))
one_split allowed false true rest operands operands' split e may plain some =
    absurd (split.absent refl (may refl) (ap (λ (ws : List (List ℕ)). get_or ws 0 []) e))

-- what was read of the words: the command, its form, whether `--wide` stood, and the words after it
pub record IsRead (words : List (List ℕ)) (command : Cmd) (form : WordForm) (wide : Bool) (operands : List (List ℕ)) : Type 0 where
  pub word : List ℕ
  pub rest : List (List ℕ)
  pub in_order : words ≡ word ∷ rest
  pub named : (other : Cmd) → (Some command ≡ Some other) ↔ (word ≡ word_of other)
  pub form_is : form ≡ form_of command
  pub split : IsSplit form.wide rest wide operands

-- the operands can be the names and the files of the form
pub record IsTaken (form : WordForm) (operands : List (List ℕ)) : Type 0 where
  pub some_file : form.names < length operands
  pub few_files : length operands - form.names ≤ form.files
  pub plain : All IsPlain operands

-- a form takes a name or none
names_few : (command : Cmd) → ((form_of command).names ≡ 0) ⊎ ((form_of command).names ≡ 1)
names_few Lumps = inl refl
names_few Levels = inl refl
names_few Show = inr refl
names_few Audit = inr refl
names_few Points = inr refl
names_few Census = inr refl
names_few Sight = inr refl
names_few Blocks = inr refl
names_few Extract = inr refl
names_few Demo = inr refl
names_few Lmp = inl refl

-- the NAME before the first file, where one is taken: `front` are the words before it
cut_at : (n : ℕ) (front operands : List (List ℕ)) → (n ≡ 0) ⊎ (n ≡ 1)
    → take n (drop ((length front + n) - 1) (front ++ operands)) ++ drop (length front + n) (front ++ operands) ≡ operands
cut_at zero front operands few = drop-append-add front operands 0
cut_at (suc zero) front operands few =
    let at : (length front + 1) - 1 ≡ length front = omega arith in
    rw (at, drop-append_seam front operands, drop-append-add front operands 1) (take-append-drop 1 operands)
cut_at (suc (suc n)) front operands (inl e) = absurd (omega arith)
cut_at (suc (suc n)) front operands (inr e) = absurd (omega arith)

-- it is one word, where there is a file
name_fits : (n first : ℕ) (words : List (List ℕ)) → (n ≡ 0) ⊎ (n ≡ 1) → first < length words → n ≤ length words - (first - 1)
name_fits n first words (inl none) below = omega arith
name_fits n first words (inr one) below = omega arith

name_count : (n first : ℕ) (words : List (List ℕ)) → (n ≡ 0) ⊎ (n ≡ 1) → first < length words → length (take n (drop (first - 1) words)) ≡ n
name_count n first words few below =
    length-take-le n (drop (first - 1) words) (rw length-drop (name_fits n first words few below))

-- what is asked for, by its parts
abbrev pub job_at : Cmd → ℕ → Bool → Job
job_at command first wide = record { command = command; first = first; wide = wide }

-- what is asked for by a command, the number of its names, and the words behind its own and `--wide`
abbrev pub job_of : List (List ℕ) → Cmd → ℕ → List (List ℕ) → Bool → Job
job_of words command names operands wide = job_at command (length words - length operands + names) wide

same_job : (c d : Cmd) (i k : ℕ) (v w : Bool) → c ≡ d → i ≡ k → v ≡ w → job_at c i v ≡ job_at d k w
same_job c d i k v w e f g = cc

pub only_job : (words : List (List ℕ)) (command : Cmd) (form : WordForm) (wide : Bool) (operands : List (List ℕ)) → IsRead words command form wide operands → (job : Job) → IsJob words job
    → IsTaken form operands × (job_of words command form.names operands wide ≡ job)
only_job words command form wide operands r job j =
    let in_order = r.in_order in
    let spelled = j.spelled in
    let word_is : r.word ≡ word_of job.command = cc in
    let rest_is : r.rest ≡ wide_words job.wide ++ (names_of words job ++ paths_of words job) = cc in
    let some_same = (r.named job.command).1 word_is in
    let same : command ≡ job.command = cc in
    let form_is : form_of job.command ≡ form = ap form_of (sym same) ∙ sym r.form_is in
    let names_are : (form_of job.command).names ≡ form.names = ap (λ (f : WordForm). f.names) form_is in
    let may : IsTrue job.wide → IsTrue form.wide = λ w. subst (λ (f : WordForm). IsTrue f.wide) form_is (j.may_be_wide w) in
    let some_file = j.some_file in
    let joined = length-append (names_of words job) (paths_of words job) in
    let one = one_split form.wide wide job.wide r.rest operands (names_of words job ++ paths_of words job) r.split rest_is may j.plain (omega arith) in
    let rest_long = length-drop job.first words in
    let below : job.first < length words = omega arith in
    let named = name_count (form_of job.command).names job.first words (names_few job.command) below in
    let long = ap length spelled in
    let long_front = length-append (wide_words job.wide) (names_of words job ++ paths_of words job) in
    let operands_long = ap length one.1 in
    let few : length (paths_of words job) ≤ form.files = subst (λ (f : WordForm). length (paths_of words job) ≤ f.files) form_is j.few_files in (
      record { some_file = omega arith; few_files = omega arith; plain = subst (All IsPlain) one.1 j.plain },
      same_job command job.command _ job.first wide job.wide same (omega arith) (sym one.0),
    )

pub is_job : (words : List (List ℕ)) (command : Cmd) (form : WordForm) (wide : Bool) (operands : List (List ℕ)) → IsRead words command form wide operands → IsTaken form operands
    → IsJob words (job_of words command form.names operands wide)
is_job words command form wide operands r taken =
    let job : Job = job_of words command form.names operands wide in
    let front = r.word ∷ wide_words wide in
    let names_are : form.names ≡ (form_of command).names = ap (λ (f : WordForm). f.names) r.form_is in
    let words_are : words ≡ front ++ operands = r.in_order ∙ ap (λ ws. r.word ∷ ws) r.split.spelled in
    let long = ap length words_are ∙ length-append front operands in
    let first_is : job.first ≡ length front + (form_of command).names = omega (arith, long, names_are) in
    let cut : names_of words job ++ paths_of words job ≡ operands = rw (first_is, words_are) (cut_at (form_of command).names front operands (names_few command)) in
    let word_is = (r.named command).0 refl in
    let some_file = taken.some_file in
    let few_files = taken.few_files in
    let same_files = ap (λ (f : WordForm). f.files) r.form_is in
    let paths_long : length (paths_of words job) ≡ length words - job.first = length-drop job.first words in
    record {
      spelled = rw cut (words_are ∙ ap (λ w. w ∷ (wide_words wide ++ operands)) word_is);
      may_be_wide = λ w. subst (λ (f : WordForm). IsTrue f.wide) r.form_is (r.split.may_be_wide w);
      some_file = omega arith;
      few_files = omega arith;
      plain = rw cut taken.plain;
    }

pub All-unmap : {X : Type 0} (f : X → List ℕ) (xs : List X) → All IsPlain (map f xs) → All (λ x. IsPlain (f x)) xs
All-unmap f xs plain k d below =
    subst IsPlain (get_or-map f xs k d (f d) below) (plain k (f d) (rw length-map below))
