use Rattle.std.proofs.Common.{ℕ, List, subst, sym, ◌∙◌}
use Rattle.std.proofs.lemmas.Bool.{eqb-true, eq-eqb}
use Rattle.line_io.specs.Writes.{Writes}
use Rattle.map_audit.specs.Findings.{AuditHolds}
use Rattle.map_level.specs.declared.finding.Code.{Code}
use Rattle.lens_engines.specs.Check.{asked_of}
use Rattle.lens_texts.specs.Head.{Head}
use Rattle.lens_engines.specs.LevelLines.{AreCounted, AreShown, judged_text}
use Rattle.lens_engines.proofs.CheckLemmas.{judged_written, kept_faultless, report_kept, sound_kept_faultless}
use Rattle.lens_engines.proofs.check.check_doom.Goals as goal

pub is_sound_wide_alone-requires-clause-tells : goal.is_sound_wide_alone-requires-clause-tells
is_sound_wide_alone-requires-clause-tells g c =
    let level = c.level_at-level.result in
    let ignored = c.args.question.now.judging.ignored in
    let judged = c.in-Ok.judged in
    let kept = report_kept ignored level judged.warned judged.counts c.in-Ok.ensures.counts in
    let faults = rw c.counts-counts.ensures at c.faults-sound.ensures in (
      (λ yes. kept_faultless ignored level judged.counts kept (sym faults ∙ eqb-true c.faults-sound.result 0 yes)),
      (λ sound. eq-eqb c.faults-sound.result 0 (faults ∙ sound_kept_faultless ignored level judged.counts kept sound)),
    )

pub returns : goal.returns
returns g c =
    let level = c.level_at-level.result in
    let judged = c.in-Ok.judged in
    let text = subst (λ (head : Head). (told : Code → List ℕ) → AreShown (AuditHolds judged.level) told → AreCounted judged.counts told
    → Writes (g.W.Sink.state c.args.out.now) (g.W.Sink.state c.write_judged-wrote.new.out)
    (judged_text head c.args.question.now.most judged told c.in-Ok-is_sound_wide_alone.sound_wide) c.write_judged-wrote.result) c.requires.heading
    c.write_judged-wrote.ensures.text in
    let are = rw c.requires.known at c.in-Ok.ensures in
    let unlisted = rw c.requires.known at c.of-unlisted.ensures in
    let failing = rw (c.counts-counts.ensures, c.warned.ensures) at c.has_failing-fails.ensures in
    let ended = rw (c.judged_totals-totals.ensures, c.counts-counts.ensures, c.unlooked.ensures) at c.text_end.ensures in
    judged_written g.W.Sink.state (asked_of c.args.question.now) c.args.set.now c.args.g c.args.heading.now.label level judged
    c.has_failing-fails.result c.of-unlisted.result c.in-Ok-is_sound_wide_alone.sound_wide c.args.out.now c.write_judged-wrote.new.out c.write_judged-wrote.result c.text_end.result
    c.level_at-level.ensures are failing unlisted c.in-Ok-is_sound_wide_alone.ensures.sound text ended
