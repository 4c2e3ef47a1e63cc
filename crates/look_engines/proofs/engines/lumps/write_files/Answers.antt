use Rattle.std.proofs.Common.{◌≡◌, ◌+◌, drop, length, Some, None, refl, sym, ◌∙◌, arith}
use Rattle.std.proofs.lemmas.Result.{err_from_is_err_and}
use Rattle.std.specs.List.{slice_get}
use Rattle.look_engines.specs.Engines.Lumps.{file_text, files_text}
use Rattle.look_engines.proofs.engines.LumpsLemmas.{files_text-drop}
use Rattle.line_io.proofs.RestLemmas.{drop_past}
use Rattle.line_io.proofs.WriteProgressLemmas.{SoFar-more, SoFar-stop, SoFar-end}
use Rattle.look_engines.proofs.engines.lumps.write_files.Goals as goal

pub write_file-requires-clause-fits : goal.write_file-requires-clause-fits
write_file-requires-clause-fits g c = omega (arith, c.files.invariant.few, c.files-i-end.ensures.few)

pub returns-in_err-write_file : goal.returns-in_err-write_file
returns-in_err-write_file g c =
    let p = err_from_is_err_and c.from_residual.result c.from_residual.ensures.1 in
    let i = c.files.i in
    let wad = c.in-Some.wad in
    let at : slice_get c.args.set.now i ≡ Some wad = sym c.file.ensures ∙ c.in-Some.is in
    rw (p.1, p.2) (SoFar-stop (file_text (i + 1) c.files.first wad) (files_text (i + 1 + 1) (c.files.first + length wad.entries) (drop (i + 1) c.args.set.now))
    c.files.invariant.so_far (files_text-drop c.args.set.now i c.files.first wad at) c.in_err-write_file.ensures)

pub overflow_add-first : goal.overflow_add-first
overflow_add-first g c = omega (arith, c.files.invariant.few, c.files-i-end.ensures.few, c.len-first.ensures.bound)

pub files-preserved : goal.files-preserved
files-preserved g c =
    let i = c.files.i in
    let wad = c.in-Some.wad in
    let at : slice_get c.args.set.now i ≡ Some wad = sym c.file.ensures ∙ c.in-Some.is in
    record {
      sound = c.in_ok-write_file.ensures.ends.sound;
      few = omega (arith, c.files.invariant.few, c.len-first.ensures.bound);
      so_far = rw c.len-first.ensures.entries (SoFar-more _ (file_text (i + 1) c.files.first wad) (files_text (i + 1 + 1) (c.files.first + length wad.entries) (drop (i + 1) c.args.set.now))
          c.files.invariant.so_far (files_text-drop c.args.set.now i c.files.first wad at) c.in_ok-write_file.ensures.takes.whole);
    }

pub returns-in_default : goal.returns-in_default
returns-in_default g c =
    let at : slice_get c.args.set.now c.files.i ≡ None = sym c.file.ensures ∙ c.in_default.is in
    SoFar-end tt c.files.invariant.so_far (rw (drop_past c.args.set.now c.files.i at) refl) c.files.invariant.sound
