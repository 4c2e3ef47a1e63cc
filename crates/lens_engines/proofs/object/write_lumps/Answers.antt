use Rattle.std.proofs.Common.{◌+◌, [], drop}
use Rattle.std.proofs.lemmas.Result.{err_from_is_err_and}
use Rattle.std.specs.Prelude.{slice_index_or}
use Rattle.std.specs.List.{flat_map}
use Rattle.line_io.proofs.WriteProgressLemmas.{SoFar-more, SoFar-stop}
use Rattle.lens_engines.specs.Objects.{lump_members}
use Rattle.line_io.proofs.RestLemmas.{texts-drop}
use Rattle.lens_engines.proofs.object.write_lumps.Goals as goal

pub returns-in_err-write_count_of : goal.returns-in_err-write_count_of
returns-in_err-write_count_of g c =
    let p = err_from_is_err_and c.from_residual.result c.from_residual.ensures.1 in
    let i = c.lumps.i in
    let texts = lump_members c.args.tables.now in
    rw (p.1, p.2) (SoFar-stop (slice_index_or texts i []) (flat_map (λ text. text) (drop (i + 1) texts))
    c.lumps.invariant.so_far (texts-drop texts i c.lumps-test.true) c.in_err-write_count_of.ensures)

pub lumps-preserved : goal.lumps-preserved
lumps-preserved g c =
    let i = c.lumps.i in
    let texts = lump_members c.args.tables.now in
    record {
      sound = c.in_ok-write_count_of.ensures.ends.sound;
      so_far = SoFar-more _ (slice_index_or texts i []) (flat_map (λ text. text) (drop (i + 1) texts))
          c.lumps.invariant.so_far (texts-drop texts i c.lumps-test.true) c.in_ok-write_count_of.ensures.takes.whole;
    }
