use Rattle.std.proofs.Common.{[], ◌∷◌, ◌∙◌, arith, sym}
use Rattle.std.proofs.lemmas.List.Elements.{All-cons, All-nil}
use Rattle.demo_lump.specs.Writable.{IsWritable}
use Rattle.library_tests.proofs.CommandLemmas.{forwards, backwards}
use Rattle.library_tests.proofs.demos.two_commands.Goals as goal

pub returns : goal.returns
returns c =
    let first : IsWritable 109 c.command_of.result =
    record {
      unmarked = λ e. forwards (sym c.command_of.ensures.forward ∙ e);
      small = λ _. omega arith;
    } in
    let second : IsWritable 109 c.command_of-2.result =
    record {
      unmarked = λ e. backwards (sym c.command_of-2.ensures.forward ∙ e);
      small = λ _. omega arith;
    } in
    All-cons (IsWritable 109) _ (c.command_of-2.result ∷ []) first
    (All-cons (IsWritable 109) _ [] second (All-nil (IsWritable 109)))
