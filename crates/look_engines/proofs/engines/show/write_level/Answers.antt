use Rattle.std.proofs.Common.{◌+◌, [], drop}
use Rattle.std.proofs.lemmas.Result.{err_from_is_err_and}
use Rattle.std.specs.Prelude.{slice_index_or}
use Rattle.std.specs.List.{flat_map}
use Rattle.line_io.proofs.WriteLemmas.{Writes-stop}
use Rattle.line_io.proofs.WriteProgressLemmas.{SoFar-more, SoFar-stop}
use Rattle.look_engines.specs.Engines.Show.{lump_texts}
use Rattle.line_io.proofs.RestLemmas.{texts-drop}
use Rattle.look_engines.proofs.engines.show.write_level.Goals as goal

pub returns-in_err-write_label : goal.returns-in_err-write_label
returns-in_err-write_label g c =
    let p = err_from_is_err_and c.from_residual.result c.from_residual.ensures.1 in
    rw (p.1, p.2) (Writes-stop (flat_map (λ text. text) (lump_texts c.args.level.now)) c.in_err-write_label.ensures)

pub returns-in_err-write_lump : goal.returns-in_err-write_lump
returns-in_err-write_lump g c =
    let p = err_from_is_err_and c.from_residual-in_err-write_lump.result c.from_residual-in_err-write_lump.ensures.1 in
    let i = c.lumps.i in
    let texts = lump_texts c.args.level.now in
    rw (p.1, p.2) (SoFar-stop (slice_index_or texts i []) (flat_map (λ text. text) (drop (i + 1) texts))
    c.lumps.invariant.so_far (texts-drop texts i c.lumps-test.true) c.in_err-write_lump.ensures)

pub lumps-preserved : goal.lumps-preserved
lumps-preserved g c =
    let i = c.lumps.i in
    let texts = lump_texts c.args.level.now in
    record {
      sound = c.in_ok-write_lump.ensures.ends.sound;
      so_far = SoFar-more _ (slice_index_or texts i []) (flat_map (λ text. text) (drop (i + 1) texts))
          c.lumps.invariant.so_far (texts-drop texts i c.lumps-test.true) c.in_ok-write_lump.ensures.takes.whole;
    }
