use Rattle.std.proofs.Common.{◌≡◌, ◌<◌, arith, rules}
use Rattle.level_codes.specs.declared.table.TheConstants.{REPORT_COUNT}
use Rattle.lens_texts.specs.Explain.{list_line}
use Rattle.lens_texts.proofs.ExplainLemmas.{line_at, lines_length}
use Rattle.lens_texts.proofs.explain.CodeListTextParts.write.Goals as goal

pub at-requires : goal.at-requires
at-requires g c = omega (arith, lines_length, c.requires.there)

pub returns : goal.returns
returns g c =
    let below : c.args.number < REPORT_COUNT = omega (arith, lines_length, c.requires.there) in
    let line : c.as_bytes.result.now ≡ list_line c.at.result = search rules in
    rw (line_at c.args.number below) (rw (line, c.at.ensures) at c.emit.ensures)
