use Rattle.std.proofs.Common.{◌≡◌, Some, sym, ap, ◌∙◌}
use Rattle.std.specs.List.{slice_get}
use Rattle.le_rec.specs.Name.{name_of, padded}
use Rattle.wad_dir.specs.Entries.{names}
use Rattle.level_starts.proofs.HolderLemmas.{AreHolders-first, AreOfLabels-put, HasLabels-more, HasLabels-skip, puts_from_updates}
use Rattle.level_starts.proofs.holders.label_holders.Goals as goal
use Rattle.level_starts.proofs.holders.label_holders.Goals.{in-Some+in_ok-insert, in_default}

pub entries-preserved : goal.entries-preserved
entries-preserved g c = elim c.match-label_at.branch [
  | in-Some+in_ok-insert w ↦ (
      let all = names c.args.set.now in
      let bytes = w.bytes.result in
      let some = rw w.in-Some.is at c.label_at.ensures.some in
      let at : slice_get all c.entries.g ≡ Some (name_of bytes) = some ∙ ap Some (sym w.bytes.ensures.name) in
      let stored : bytes ≡ padded (name_of bytes) = w.bytes.ensures.padded ∙ ap padded (sym w.bytes.ensures.name) in
      let puts = puts_from_updates {before = c.entries.holders} {after = w.insert.new.self} w.in_ok-insert.ensures.updates in
      rw w.holders-is (record {
        holders_are = AreHolders-first all c.entries.g bytes at stored puts c.entries.invariant.holders_are;
        labels = HasLabels-more all c.entries.g bytes at stored puts c.entries.invariant.labels;
        alone = AreOfLabels-put puts all (rw w.in-Some.is at c.label_at.ensures.starts) c.entries.invariant.alone;
      }))
  | in_default w ↦ rw w.holders-is (record {
    holders_are = c.entries.invariant.holders_are;
    labels = HasLabels-skip (names c.args.set.now) c.entries.g c.entries.holders (c.label_at.ensures.none w.in_default.is) c.entries.invariant.labels;
    alone = c.entries.invariant.alone;
  })
]
