use Rattle.std.proofs.Common.{◌≡◌, Some, sym, ap, ◌∙◌}
use Rattle.std.specs.List.{slice_get}
use Rattle.le_rec.specs.Name.{name_of, padded}
use Rattle.wad_dir.specs.Entries.{names}
use Rattle.level_starts.proofs.HolderLemmas.{past_end}
use Rattle.game_warnings.proofs.WinnerLemmas.{winners_more, winners_past}
use Rattle.game_warnings.proofs.winners.add_name.Goals as goal

pub returns-in_default : goal.returns-in_default
returns-in_default g c =
    let all = names c.args.set.now in
    winners_past all c.args.g c.args.winners.now (past_end all c.args.g (c.name_at.ensures ∙ c.in_default.is)) c.requires

pub returns : goal.returns
returns g c =
    let all = names c.args.set.now in
    let bytes = c.bytes.result in
    let at : slice_get all c.args.g ≡ Some (name_of bytes) = c.name_at.ensures ∙ c.in-Some.is ∙ ap Some (sym c.bytes.ensures.name) in
    let stored : bytes ≡ padded (name_of bytes) = c.bytes.ensures.padded ∙ ap padded (sym c.bytes.ensures.name) in
    winners_more all c.args.g bytes at stored c.args.winners.now c.insert.new.self c.in_ok-insert.ensures.updates c.requires
