use Rattle.std.proofs.Common.{◌≡◌, ℕ, List, [], ◌++◌, append-nil, sym, ap, ◌∙◌, subst, rules}
use Rattle.line_io.specs.Writes.{Writes}
use Rattle.lens_texts.specs.Escape.{escaped}
use Rattle.lens_texts.specs.Place.{place_text}
use Rattle.lens_texts.specs.Remark.{remark_code, remark_index, remark_message, remark_place}
use Rattle.lens_texts.specs.RemarkLine.{lead_text}
use Rattle.lens_texts.proofs.EscapeLemmas.{escaped-both}
use Rattle.lens_texts.proofs.lines.write_words.Goals as goal

pub returns : goal.returns
returns g c =
    let level = c.args.level.now in
    let remark = c.args.remark in
    let lead = lead_text level (remark_code remark) (remark_index remark) in
    let message = remark_message level remark [] in
    let place = place_text (remark_place level remark) [] in
    let first : c.as_bytes.result.now ≡ lead = search rules in
    let second : c.as_bytes-2.result.now ≡ message = search rules in
    let third : c.as_bytes-3.result.now ≡ place = search rules in
    subst (λ (text : List ℕ). Writes (g.W.Sink.state c.args.out.now) (g.W.Sink.state c.write_parts.new.out) text c.write_parts.result)
    (ap (λ t. escaped lead ++ (escaped message ++ t)) (append-nil (escaped place)) ∙ ap (λ t. escaped lead ++ t) (sym (escaped-both message place))
    ∙ sym (escaped-both lead (message ++ place)))
    (rw (first, second, third) at c.write_parts.ensures)
