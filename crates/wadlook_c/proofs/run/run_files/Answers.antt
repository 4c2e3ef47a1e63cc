use Rattle.wadlook_c.proofs.RunLemmas.{as_many_parts}
use Rattle.wadlook_c.proofs.run.run_files.Goals as goal

pub answer_lens-answer-requires-clause-as_many : goal.answer_lens-answer-requires-clause-as_many
answer_lens-answer-requires-clause-as_many c =
    rw (c.deref.ensures.value, c.deref-2.ensures.value) (as_many_parts c.args.files.now c.in_ok-parts.parts.paths.items c.in_ok-parts.parts.bytes.items c.in_ok-parts.ensures)

pub returns : goal.returns
returns c = record {
  answer = c.new.result;
  messages = c.new-messages.result;
  empty = c.new.ensures.taken;
  silent = c.new-messages.ensures.taken;
  does = rw (c.deref.ensures.value, c.deref-2.ensures.value, c.in_ok-parts.ensures.paths_are, c.in_ok-parts.ensures.bytes_are) at c.answer_lens-answer.ensures;
}
