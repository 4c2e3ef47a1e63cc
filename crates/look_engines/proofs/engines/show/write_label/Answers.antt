use Rattle.std.proofs.Common.{[]}
use Rattle.std.proofs.lemmas.Option.{get_or_from_slice_get}
use Rattle.look_engines.proofs.engines.show.write_label.Goals as goal

pub returns : goal.returns
returns g c =
    let name = get_or_from_slice_get c.args.level.now.names 0 c.name.result [] c.name.ensures in
    rw (name, ← c.label.ensures.is) (rw (
      c.as_bytes.ensures,
      c.prepend_bytes-3.ensures.text,
      c.prepend_name.ensures.text,
      c.prepend_bytes-2.ensures.text,
      c.prepend_natural.ensures.text,
      c.prepend_bytes.ensures.text,
      c.new-line.ensures,
    ) at c.emit.ensures)
