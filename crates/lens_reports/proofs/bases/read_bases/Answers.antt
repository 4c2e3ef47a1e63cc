use Rattle.std.proofs.Common.{ℕ, List, Bor, map, sym, ap, subst, arith}
use Rattle.std.proofs.lemmas.List.{length-map}
use Rattle.lens_reports.specs.Files.{bytes_in}
use Rattle.lens_reports.proofs.BaseLemmas.{AreHeldTo, held_all, held_next, held_none, refused_next}
use Rattle.lens_reports.proofs.bases.read_bases.Goals as goal

pub loop-place-init : goal.loop-place-init
loop-place-init g c =
    subst (AreHeldTo (g.S.RunFiles.known c.args.files.now) (map (λ path. path.now) c.args.paths.now) 0) (sym (ap (map bytes_in) c.new-all.ensures.items))
    (held_none (g.S.RunFiles.known c.args.files.now) (map (λ path. path.now) c.args.paths.now))

pub returns-in-Err-clause-refused : goal.returns-in-Err-clause-refused
returns-in-Err-clause-refused g c =
    refused_next (λ (path : Bor (List ℕ)). path.now) c.args.paths.now c.loop-place.place _ (omega (arith, c.loop-place-test.true))
    (g.S.RunFiles.known c.args.files.now) (map bytes_in c.loop-place.all.items) c.in-Err.fault c.loop-place.invariant c.in-Err.ensures.refused

pub loop-place-preserved : goal.loop-place-preserved
loop-place-preserved g c =
    held_next (λ (path : Bor (List ℕ)). path.now) c.args.paths.now c.loop-place.place _ (omega (arith, c.loop-place-test.true))
    (g.S.RunFiles.known c.args.files.now) (map bytes_in c.loop-place.all.items) (map bytes_in c.push_base.new.all.items) c.loop-place.invariant c.in_default.ensures.added

pub returns-clause-held : goal.returns-clause-held
returns-clause-held g c =
    held_all (g.S.RunFiles.known c.args.files.now) (map (λ path. path.now) c.args.paths.now) c.loop-place.place (map bytes_in c.loop-place.all.items)
    (omega (arith, c.loop-place-test.false, length-map c.args.paths.now (λ path. path.now))) c.loop-place.invariant
