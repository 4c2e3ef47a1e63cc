use Rattle.std.proofs.Common.{[], ◌∷◌, ◌∙◌, refl, sym}
use Rattle.std.proofs.lemmas.List.Elements.{All-cons, All-nil}
use Rattle.demo_lump.specs.Writable.{IsWritable}
use Rattle.library_tests.proofs.CommandLemmas.{forwards, backwards}
use Rattle.library_tests.proofs.demos.long_commands.Goals as goal

pub returns : goal.returns
returns c =
    let first : IsWritable 111 c.command_of.result =
    record {
      unmarked = λ e. forwards (sym c.command_of.ensures.forward ∙ e);
      small = λ other. absurd (other refl);
    } in
    let second : IsWritable 111 c.command_of-2.result =
    record {
      unmarked = λ e. backwards (sym c.command_of-2.ensures.forward ∙ e);
      small = λ other. absurd (other refl);
    } in
    All-cons (IsWritable 111) _ (c.command_of-2.result ∷ []) first
    (All-cons (IsWritable 111) _ [] second (All-nil (IsWritable 111)))
