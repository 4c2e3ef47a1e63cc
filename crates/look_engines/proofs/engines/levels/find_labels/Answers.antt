use Rattle.std.proofs.Common.{sym, ◌∙◌, arith}
use Rattle.std.proofs.lemmas.List.{length-map}
use Rattle.std.proofs.lemmas.Bool.{false≢true}
use Rattle.wad_dir.specs.Entries.{joined, listed_name, names}
use Rattle.look_engines.proofs.engines.LevelsLemmas.{labels_all, labels_more, labels_skip}
use Rattle.look_engines.proofs.engines.levels.find_labels.Goals as goal
use Rattle.look_engines.proofs.engines.levels.find_labels.Goals.{then-is_label+in_ok-push, else-is_label}

pub entries-preserved : goal.entries-preserved
entries-preserved g c = elim c.if-is_label.branch [
  | then-is_label+in_ok-push w ↦ rw (w.labels-is, w.in_ok-push.ensures.items)
      (labels_more (names c.args.set.now) c.entries.g c.entries.labels.items c.entries.invariant (c.is_label.ensures.0 w.if-is_label.true))
  | else-is_label w ↦ rw w.labels-is (labels_skip (names c.args.set.now) c.entries.g c.entries.labels.items c.entries.invariant (λ label. false≢true (sym w.if-is_label.false ∙ c.is_label.ensures.1 label)))
]

pub returns : goal.returns
returns g c =
    let long = length-map (joined c.args.set.now) listed_name in
    labels_all (names c.args.set.now) c.entries.g c.entries.labels.items (omega (arith, long)) c.entries.invariant
