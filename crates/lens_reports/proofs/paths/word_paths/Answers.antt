use Rattle.std.proofs.Common.{map, ap, ◌∙◌, arith}
use Rattle.std.proofs.lemmas.List.{take_all}
use Rattle.lens_reports.proofs.PathLemmas.{word_more}
use Rattle.lens_reports.proofs.paths.word_paths.Goals as goal

pub loop-file-init : goal.loop-file-init
loop-file-init c = ap (map (λ path. path.now)) c.new-paths.ensures.items

pub loop-file-preserved : goal.loop-file-preserved
loop-file-preserved c =
    ap (map (λ path. path.now)) c.in_ok-push.ensures.items
    ∙ word_more c.loop-file.paths.items c.args.files.now c.as_bytes.result c.loop-file.file-index _ (omega (arith, c.loop-file-test.true)) c.loop-file.invariant c.as_bytes.ensures.value

pub returns : goal.returns
returns c = c.loop-file.invariant ∙ ap (map (λ file. file.now)) (take_all c.loop-file.file-index c.args.files.now (omega (arith, c.loop-file-test.false)))
