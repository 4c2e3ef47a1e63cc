use Rattle.std.proofs.Common.{sym, ◌∙◌}
use Rattle.std.proofs.lemmas.Bool.{false≢true}
use Rattle.std.proofs.lemmas.Result.{on_err_weaker}
use Rattle.lens_engines.proofs.CheckLemmas.{wide_alone}
use Rattle.lens_engines.proofs.check.is_sound_wide_alone.Goals as goal

pub returns-then-sound-clause-sound : goal.returns-then-sound-clause-sound
returns-then-sound-clause-sound g c = (
  (λ yes. absurd (false≢true yes)),
  (λ alone. absurd (alone.unsound (c.requires.tells.0 c.if-sound.true))),
)

pub returns-else-sound-clause-sound : goal.returns-else-sound-clause-sound
returns-else-sound-clause-sound g c =
    wide_alone c.args.set.now c.args.g c.args.reading c.args.level.now c.level_at-wide.result c.is_sound.result c.in-Signed.is
    (λ sound. false≢true (sym c.if-sound.false ∙ c.requires.tells.1 sound))
    c.level_at-wide.ensures c.is_sound.ensures.sound

pub returns-else-sound-clause-asked : goal.returns-else-sound-clause-asked
returns-else-sound-clause-asked g c =
    on_err_weaker c.is_sound.result
    (λ linked. (c.in-Signed.is, λ sound. false≢true (sym c.if-sound.false ∙ c.requires.tells.1 sound))) c.is_sound.ensures.linked
