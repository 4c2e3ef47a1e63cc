use Rattle.std.proofs.Common.{None, Some, [], sym, ◌∙◌, get_or}
use Rattle.std.proofs.lemmas.Option.{none-some, slice_get-get_or}
use Rattle.level_starts.proofs.StartLemmas.{named_by, start_within}
use Rattle.wad_dir.specs.Entries.{names}
use Rattle.lens_texts.proofs.opened.label_of.Goals as goal

pub returns : goal.returns
returns g c = sym (named_by c.args.set.now c.args.g (Some c.in-Some.name) c.in-Some.ensures)

pub unreachable-requires : goal.unreachable-requires
unreachable-requires g c =
    let all = names c.args.set.now in
    none-some (get_or all c.args.g []) (named_by c.args.set.now c.args.g None c.in-None.ensures ∙ slice_get-get_or all c.args.g [] (start_within all c.args.g c.requires))
