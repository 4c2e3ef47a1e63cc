use Rattle.std.specs.Prelude.{codes}
use Rattle.std.proofs.Common.{◌++◌, sym, ap, ◌∙◌}
use Rattle.std.proofs.lemmas.List.{append_assoc}
use Rattle.std.specs.Fmt.{decimal}
use Rattle.demo_engines.proofs.refusal.prepend_fault.Goals as goal

pub returns-in-NoMarker-clause-text : goal.returns-in-NoMarker-clause-text
returns-in-NoMarker-clause-text c =
    let place = decimal c.in-NoMarker.place in
    let end = codes " on make no whole command" in
    rw c.in-NoMarker.is (c.prepend_bytes-in-NoMarker-2.ensures.text
    ∙ ap (λ (t : _). codes "no end marker: the bytes from place " ++ t)
    (c.prepend_natural-in-NoMarker.ensures.text ∙ ap (λ (t : _). place ++ t) c.prepend_bytes-in-NoMarker.ensures.text ∙ sym (append_assoc place end c.args.line.now)))

pub returns-in-Dsda-clause-text : goal.returns-in-Dsda-clause-text
returns-in-Dsda-clause-text c =
    let version = decimal c.in-Dsda.version in
    rw c.in-Dsda.is (c.prepend_bytes-in-Dsda-2.ensures.text
    ∙ ap (λ (t : _). codes "version 255 (DSDA " ++ t)
    (c.prepend_small.ensures.text ∙ ap (λ (t : _). version ++ t) c.prepend_bytes-in-Dsda.ensures.text ∙ sym (append_assoc version (codes "): not read") c.args.line.now)))

pub returns-in-Short-clause-text : goal.returns-in-Short-clause-text
returns-in-Short-clause-text c =
    let size = decimal c.in-Short.size in
    let of = codes " bytes of a header's " in
    rw c.in-Short.is (c.prepend_natural-in-Short.ensures.text
    ∙ ap (λ (t : _). size ++ t) (c.prepend_bytes-in-Short.ensures.text ∙ ap (λ (t : _). of ++ t) c.prepend_natural.ensures.text)
    ∙ sym (append_assoc size (of ++ decimal c.in-Short.wanted) c.args.line.now))

pub returns-in-Options-clause-text : goal.returns-in-Options-clause-text
returns-in-Options-clause-text c =
    let count = decimal c.in-Options.count in
    rw c.in-Options.is (c.prepend_small-in-Options.ensures.text
    ∙ ap (λ (t : _). count ++ t) c.prepend_bytes-in-Options.ensures.text
    ∙ sym (append_assoc count (codes " compatibility options, 25 are the most") c.args.line.now))
