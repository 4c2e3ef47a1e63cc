use Rattle.std.proofs.Common.{map}
use Rattle.wad_page.proofs.LensLemmas.{done, undone}
use Rattle.wad_page.proofs.lens.lens_into.Goals as goal

pub returns-in-Ok : goal.returns-in-Ok
returns-in-Ok g c =
    done c.args.question.now c.args.paths c.args.files c.in-Ok.asked.request (map (λ path. path.now) c.in-Ok.asked.paths.items) (map (λ file. file.now) c.in-Ok.asked.files.items)
    c.args.out c.answer_lens.result.0 c.args.errors.now c.answer_lens.new.errors c.answer_lens.result.1 c.in-Ok.ensures.ok c.in-Ok.ensures.only
    (rw (c.deref.ensures.value, c.deref-in-Ok.ensures.value) at c.answer_lens.ensures)

pub returns-in-Err : goal.returns-in-Err
returns-in-Err g c = undone c.args.question.now c.args.paths c.args.files c.args.out c.args.errors.now c.in-Err.fault c.in-Err.ensures.err
