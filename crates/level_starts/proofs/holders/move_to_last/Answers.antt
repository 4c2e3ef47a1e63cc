use Rattle.std.proofs.Common.{◌≡◌, length, Some, sym, ap, ◌∙◌, arith}
use Rattle.std.proofs.lemmas.List.{length-map}
use Rattle.std.specs.List.{slice_get}
use Rattle.le_rec.specs.Name.{name_of, padded}
use Rattle.wad_dir.specs.Entries.{joined, listed_name, names}
use Rattle.level_starts.proofs.HolderLemmas.{AreHolders-less, moved_or_stays, past_end}
use Rattle.level_starts.proofs.holders.move_to_last.Goals as goal

pub entries-preserved : goal.entries-preserved
entries-preserved g c =
    let all = names c.args.set.now in
    let bytes = c.bytes.result in
    let at : slice_get all c.entries.g ≡ Some (name_of bytes) = sym c.name_at.ensures ∙ c.in-Some.is ∙ ap Some (sym c.bytes.ensures.name) in
    let stored : bytes ≡ padded (name_of bytes) = c.bytes.ensures.padded ∙ ap padded (sym c.bytes.ensures.name) in
    let step = moved_or_stays all c.entries.g bytes at stored c.entries.holders c.move_holder.new.holders
    c.move_holder.ensures.moved c.move_holder.ensures.absent c.entries.invariant.holders_are in
    record {
      holders_are = step.0;
      kept = λ other some. step.1 other (c.entries.invariant.kept other some);
    }

pub returns-after-entries-clause-last : goal.returns-after-entries-clause-last
returns-after-entries-clause-last g c =
    AreHolders-less (names c.args.set.now) c.entries.g (length (joined c.args.set.now)) c.entries.holders (omega arith) c.entries.invariant.holders_are

pub returns-in_default-clause-last : goal.returns-in_default-clause-last
returns-in_default-clause-last g c =
    let all = names c.args.set.now in
    let past = past_end all c.entries.g (sym c.name_at.ensures ∙ c.in_default.is) in
    let long = length-map (joined c.args.set.now) listed_name in
    AreHolders-less all c.entries.g (length (joined c.args.set.now)) c.entries.holders (omega (arith, past, long)) c.entries.invariant.holders_are
