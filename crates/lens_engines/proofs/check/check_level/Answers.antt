use Rattle.lens_engines.specs.Check.{asked_of}
use Rattle.wad_dir.specs.Entries.{names}
use Rattle.lens_engines.proofs.CheckLemmas.{doom_text, format_line, order_within}
use Rattle.lens_engines.proofs.UnreadLemmas.{lump_of_unread}
use Rattle.lens_engines.proofs.check.check_level.Goals as goal

pub check_doom-requires-clause-is : goal.check_doom-requires-clause-is
check_doom-requires-clause-is g c = c.in-None.ensures.doom

pub write_unjudged-wrote-requires : goal.write_unjudged-wrote-requires
write_unjudged-wrote-requires g c = record {
  lump = lump_of_unread c.args.set.now c.args.g c.in-Some.unread c.in-Some.ensures.unread;
  order = order_within (names c.args.set.now) c.args.g c.in-Some.unread c.order_of-order.result c.order_of-order.ensures;
  sound = c.requires.sound;
}

pub returns-in-None : goal.returns-in-None
returns-in-None g c =
    doom_text g.W.Sink.state (asked_of c.args.question.now) c.args.set.now c.label_by.result c.args.g c.args.out.now c.check_doom.new.out c.check_doom.result
    c.label_by.ensures c.in-None.ensures.doom c.check_doom.ensures

pub returns-in-Some : goal.returns-in-Some
returns-in-Some g c =
    let ended = rw (c.format_totals.ensures) at c.text_end.ensures in
    format_line g.W.Sink.state (asked_of c.args.question.now) c.args.set.now c.label_by.result c.args.g c.in-Some.unread c.order_of-order.result c.args.out.now
    c.write_unjudged-wrote.new.out c.write_unjudged-wrote.result c.text_end.result c.label_by.ensures c.in-Some.ensures.unread c.order_of-order.ensures
    c.write_unjudged-wrote.ensures ended
