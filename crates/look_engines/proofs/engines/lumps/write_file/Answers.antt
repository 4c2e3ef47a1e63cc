use Rattle.std.proofs.Common.{◌≡◌, ◌+◌, drop, length, Some, refl, ◌∙◌}
use Rattle.std.proofs.lemmas.Result.{err_from_is_err_and}
use Rattle.std.specs.List.{slice_get}
use Rattle.le_rec.specs.Name.{name_of}
use Rattle.line_io.proofs.WriteLemmas.{Writes-stop}
use Rattle.line_io.proofs.WriteProgressLemmas.{SoFar-more, SoFar-stop}
use Rattle.look_engines.specs.Engines.Lumps.{entry_line, entries_text, file_line}
use Rattle.look_engines.proofs.engines.LumpsLemmas.{entries_text-drop}
use Rattle.look_engines.proofs.engines.lumps.write_file.Goals as goal

pub returns-in_err-emit : goal.returns-in_err-emit
returns-in_err-emit g c =
    let p = err_from_is_err_and c.from_residual.result c.from_residual.ensures.1 in
    let wad = c.args.wad.now in
    let line : c.as_bytes.result.now ≡ file_line c.args.n wad.kind (length wad.entries) = c.as_bytes.ensures ∙ c.prepend_file.ensures ∙ rw (c.kind.ensures, c.len.ensures.entries) refl in
    rw (p.1, p.2) (Writes-stop (entries_text c.args.first wad.entries) (rw line at c.in_err-emit.ensures))

pub returns-in_err-write_entry : goal.returns-in_err-write_entry
returns-in_err-write_entry g c =
    let p = err_from_is_err_and c.from_residual-in_err-write_entry.result c.from_residual-in_err-write_entry.ensures.1 in
    let entries = c.args.wad.now.entries in
    let i = c.entries.i in
    let e = c.at.result in
    let at : slice_get entries i ≡ Some e = rw (← c.entries-entries.ensures.entries) c.at.ensures in
    rw (p.1, p.2) (SoFar-stop (entry_line (c.args.first + i) e.filepos e.size (name_of e.name)) (entries_text (c.args.first + (i + 1)) (drop (i + 1) entries))
    c.entries.invariant.so_far (entries_text-drop entries c.args.first i e at) c.in_err-write_entry.ensures)

pub entries-preserved : goal.entries-preserved
entries-preserved g c =
    let entries = c.args.wad.now.entries in
    let i = c.entries.i in
    let e = c.at.result in
    let at : slice_get entries i ≡ Some e = rw (← c.entries-entries.ensures.entries) c.at.ensures in
    record {
      sound = c.in_ok-write_entry.ensures.ends.sound;
      so_far = SoFar-more _ (entry_line (c.args.first + i) e.filepos e.size (name_of e.name)) (entries_text (c.args.first + (i + 1)) (drop (i + 1) entries))
          c.entries.invariant.so_far (entries_text-drop entries c.args.first i e at) c.in_ok-write_entry.ensures.takes.whole;
    }
