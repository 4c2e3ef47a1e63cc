-- Why words ask for nothing.
use Rattle.std.proofs.Common.{◌≡◌, ℕ, List, length, Some, sym, subst, ap, ◌∙◌}
use Rattle.std.proofs.lemmas.Option.{same_Some}
use Rattle.look_engines.specs.Words.{IsJob, paths_of}
use Rattle.look_engines.specs.declared.command.Job.{Job}
use Rattle.wad_page.specs.Look.{RefusesLook}
use Rattle.wad_page.specs.Parts.{AreWords, RefusesWords, cut}
use Rattle.wad_page.specs.declared.parts.SizedBytes.{SizedBytes}
use Rattle.wad_page.specs.declared.refusal.PageRefusal.{PageRefusal}
use Rattle.wad_page.specs.declared.refusal.PageRefusal.TheVariants.{Usage, Run}

module _ (parts files : SizedBytes) where
  pub refused_words : (refusal : PageRefusal) → RefusesWords parts refusal → RefusesLook parts files refusal
  refused_words Usage told = λ words job bytes asks. told words asks.words_are
  refused_words (Run fault) told = told

  module _ (texts : List (List ℕ)) (are : AreWords parts texts) where
    same_words : (words : List (List ℕ)) → AreWords parts words → words ≡ texts
    same_words words others = same_Some words texts (sym others.spelled ∙ are.spelled)

    -- the words are no form of a command
    pub no_job : ((job : Job) → IsJob texts job → ⊥) → RefusesLook parts files Usage
    no_job none = λ words job bytes asks. none job (subst (λ ws. IsJob ws job) (same_words words asks.words_are) asks.asked)

    -- there aren't as many files as they name
    pub other_count : (job : Job) (bytes : List (List ℕ)) → ((other : Job) → IsJob texts other → other ≡ job) → cut files.sizes.now files.bytes.now ≡ Some bytes
        → (length bytes ≡ length (paths_of texts job) → ⊥) → RefusesLook parts files Usage
    other_count job bytes only cut_is differs = λ words other given asks.
        let asked = only other (subst (λ ws. IsJob ws other) (same_words words asks.words_are) asks.asked) in
        let found = same_Some given bytes (sym asks.files_are ∙ cut_is) in
        differs (ap length (sym found) ∙ asks.as_many ∙ ap (λ ws. length (paths_of ws other)) (same_words words asks.words_are) ∙ ap (λ j. length (paths_of texts j)) asked)
