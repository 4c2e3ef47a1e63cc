use Rattle.std.proofs.Common.{◌≡◌, ◌∙◌, ap, arith, inl, inr, length, map, refl, rules, slice_index_or, string_bytes, subst, sym, Global, List, [], ℕ}
use Rattle.std.proofs.lemmas.List.{get_or-map, length-map}
use Rattle.std.specs.Io.KnownBytes.{Keeps}
use Rattle.look_engines.specs.Words.{paths_of}
use Rattle.wadlook.proofs.ProgramLemmas.{first_reached}
use Rattle.wadlook.specs.Tied.{file_source}
use Rattle.wadlook.specs.declared.refusal.ProgramRefusal.TheVariants.{Unreadable}
use Rattle.wadlook.proofs.program.list_file.Goals as goal

pub returns-in_default : goal.returns-in_default
returns-in_default g c =
    let some_file = c.requires.some_file in
    inl (record {
      refusal = Unreadable 1;
      ended = refl;
      holds = first_reached (g.D.Storage.held c.args.storage.now) (paths_of (map (string_bytes {Z = Global}) c.args.words.now) c.args.job) some_file;
    })

pub returns : goal.returns
returns g c =
    let held = g.D.Storage.held c.args.storage.now in
    let remaining = g.D.File.Read.remaining in
    let left : (file_source _ remaining c.in-Ok-new.demo).left ≡ remaining c.in-Ok.file = c.in-Ok-new.ensures.left in
    let opened : Keeps (held (string_bytes {Z = Global} c.index-paths-0.result)) (remaining c.in-Ok.file) =
    subst (λ (p : List ℕ). Keeps (held p) (remaining c.in-Ok.file)) c.path_bytes.ensures c.in-Ok.ensures.held in
    let some = c.requires.some_file in
    let counted = ap length (sym c.paths-paths.ensures) ∙ length-map c.paths-paths.result.now (string_bytes {Z = Global}) in
    let named : slice_index_or (paths_of (map (string_bytes {Z = Global}) c.args.words.now) c.args.job) 0 [] ≡ string_bytes {Z = Global} c.index-paths-0.result =
    ap (λ (ps : List (List ℕ)). slice_index_or ps 0 []) (sym c.paths-paths.ensures)
    ∙ get_or-map (string_bytes {Z = Global}) c.paths-paths.result.now 0 c.index-paths-0.result [] (omega (arith, some, counted))
    ∙ ap (string_bytes {Z = Global}) (sym c.index-paths-0.is) in
    inr (record {
      left = (file_source _ remaining c.in-Ok-new.demo).left;
      opened = rw (named, left) opened;
      runs = record {
        input = c.in-Ok-new.demo;
        input' = c.run-ended.new.input;
        out = c.new-listing.result;
        out' = c.run-ended.new.out;
        given = refl;
        outcome = c.run-ended.result;
        runs = c.run-ended.ensures;
        ended = search rules;
      };
    })
