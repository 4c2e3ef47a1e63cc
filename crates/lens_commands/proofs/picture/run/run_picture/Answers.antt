use Rattle.std.proofs.Common.{inl, inr, refl, sym, ◌∙◌, map, List, ℕ, Bor, arith}
use Rattle.std.proofs.lemmas.List.{length-map}
use Rattle.lens_commands.proofs.FileLemmas.{first_unread}
use Rattle.lens_commands.proofs.picture.run.run_picture.Goals as goal

pub returns-in-Refused : goal.returns-in-Refused
returns-in-Refused g c =
    let paths = map (λ (path : Bor (List ℕ)). path.now) c.args.paths.now in
    let counted = length-map c.args.paths.now (λ (path : Bor (List ℕ)). path.now) in
    inr (inl (record {
      index = c.in-Err.first.place;
      refusal = c.in-Refused.refusal;
      why = first_unread (g.S.Storage.held c.args.storage.now) paths c.in-Err.first c.in-Refused.refusal (omega (arith, counted, c.requires.few)) c.in-Err.ensures.refused
          (sym c.from_storage.ensures ∙ c.in-Refused.is);
      tells = c.tell_refused.ensures;
      untouched = refl;
      ended = refl;
    }))
