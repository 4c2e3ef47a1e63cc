use Rattle.std.proofs.Common.{◌≡◌, List, ℕ, true, false, ap, subst, sym, ◌∙◌}
use Rattle.level_codes.specs.Sets.{no_codes}
use Rattle.line_io.specs.Writes.{Writes}
use Rattle.map_level.specs.declared.finding.Code.TheVariants.{F1, F3, F9, F18}
use Rattle.lens_texts.specs.Head.{head_of}
use Rattle.lens_engines.specs.Unlooked.{has_any}
use Rattle.lens_engines.specs.UnlookedText.{held, told_unlooked, unsound_codes}
use Rattle.lens_engines.proofs.UnlookedLemmas.{first_told, second_told}
use Rattle.lens_engines.proofs.unlooked_text.write_unlooked_part.Goals as goal

pub returns-then-has_any-2 : goal.returns-then-has_any-2
returns-then-has_any-2 g c =
    let head = head_of c.args.heading.now in
    let counts = c.args.counts.now in
    let unlooked = c.args.unlooked.now in
    let some : has_any (held F3 F9 counts) ≡ true = sym (c.has_any.ensures ∙ ap has_any c.held-references.ensures) ∙ c.if-has_any.true in
    let left : has_any unlooked ≡ true = sym c.has_any-then-has_any.ensures ∙ c.if-has_any-2.true in
    let text = rw (c.none.ensures, c.held-references.ensures) at c.write_told.ensures in
    subst (λ (t : List ℕ). Writes {T = Unit {0}} (g.W.Sink.state c.args.out.now) (g.W.Sink.state c.write_told.new.out) t c.write_told.result)
    (sym (first_told (has_any (held F3 F9 counts)) (has_any unlooked) (has_any (unsound_codes unlooked)) (told_unlooked head unlooked no_codes (held F3 F9 counts))
    (told_unlooked head unlooked (unsound_codes unlooked) (held F1 F18 counts)) some left)) text

pub returns-then-has_any-3 : goal.returns-then-has_any-3
returns-then-has_any-3 g c =
    let head = head_of c.args.heading.now in
    let counts = c.args.counts.now in
    let unlooked = c.args.unlooked.now in
    let none : has_any (held F3 F9 counts) ≡ false = sym (c.has_any.ensures ∙ ap has_any c.held-references.ensures) ∙ c.if-has_any.false in
    let some : has_any (unsound_codes unlooked) ≡ true = sym (c.has_any-2.ensures ∙ ap has_any c.unsound_codes-unsound.ensures) ∙ c.if-has_any-3.true in
    let text = rw (c.unsound_codes-unsound.ensures, c.held-faults.ensures) at c.write_told-then-has_any-3.ensures in
    subst (λ (t : List ℕ). Writes {T = Unit {0}} (g.W.Sink.state c.args.out.now) (g.W.Sink.state c.write_told-then-has_any-3.new.out) t c.write_told-then-has_any-3.result)
    (sym (second_told (has_any (held F3 F9 counts)) (has_any unlooked) (has_any (unsound_codes unlooked)) (told_unlooked head unlooked no_codes (held F3 F9 counts))
    (told_unlooked head unlooked (unsound_codes unlooked) (held F1 F18 counts)) none some)) text
