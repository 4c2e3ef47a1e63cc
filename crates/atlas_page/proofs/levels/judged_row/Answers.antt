use Rattle.std.proofs.Common.{refl}
use Rattle.lens_engines.proofs.FoundLemmas.{counted_at, found_in}
use Rattle.atlas_page.specs.Messages.{left_item, message_item}
use Rattle.atlas_page.specs.declared.messages.MessageItems.{MessageItems}
use Rattle.atlas_page.proofs.levels.judged_row.Goals as goal

pub returns : goal.returns
returns g c =
    let judging = c.args.origin.now.judging in
    let files = c.args.set.now in
    let level = c.level_at-level.result in
    let judged = c.in_ok-judged.judged in
    let judges = rw c.requires.known at c.in_ok-judged.ensures in
    let counts = rw c.requires.known at c.of-counted.ensures in
    let form : MessageItems = record { file = c.args.origin.now.file; entry = c.args.g; drawn = c.of-counted.result.drawn } in
    record {
      file = refl;
      path = refl;
      entry = refl;
      named = c.label_of.ensures;
      found = (c.requires.is, counted_at files judging c.args.g c.args.origin.now.most level judged c.of-counted.result c.level_at-level.ensures judges counts);
      messages = found_in (message_item form) left_item c.args.origin.now.most judging files c.args.g level judged _ c.level_at-level.ensures judges c.in_ok-messages.ensures;
    }
