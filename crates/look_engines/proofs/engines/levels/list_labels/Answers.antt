use Rattle.std.proofs.Common.{◌≡◌, ℕ, Some, inl, slice_index, sym, ◌∙◌, arith}
use Rattle.std.proofs.lemmas.List.{take_all, take_more}
use Rattle.std.proofs.lemmas.List.Elements.{Contains-get_or}
use Rattle.std.specs.List.{slice_get}
use Rattle.level_starts.specs.Starts.{LevelStartsAt}
use Rattle.wad_dir.specs.Entries.{names}
use Rattle.look_engines.specs.Engines.Levels.{IsLabel}
use Rattle.look_engines.proofs.engines.LevelsLemmas.{label_named, levels_all, levels_more}
use Rattle.look_engines.proofs.engines.levels.list_labels.Goals as goal
use Rattle.look_engines.proofs.engines.levels.list_labels.Goals.{in-Some+in_ok-push, in_default}

pub labels-preserved : goal.labels-preserved
labels-preserved g c = elim c.match-entry_name.branch [
  | in-Some+in_ok-push w ↦ (
      let all = names c.args.set.now in
      let labels = c.args.labels.now in
      let i = c.labels.g-index in
      let n : ℕ = slice_index labels i in
      let there = Contains-get_or labels i 0 (omega arith) in
      let label : IsLabel all n = (c.requires.labels.exact n).0 there in
      let named : slice_get all n ≡ Some w.in-Some.name = sym c.entry_name.ensures ∙ w.in-Some.is in
      let starts : LevelStartsAt all n = inl (label 1 (omega arith) (omega arith)) in
      rw (w.found-is, w.in_ok-push.ensures.items, take_more labels i 0 (omega arith))
      (levels_more all _ c.labels.found.items (record { label = n; name = w.in-Some.name; hidden = w.is_hidden-hidden.result }) c.labels.invariant
      (record { label = label; named = named; hidden = w.is_hidden-hidden.ensures all c.requires.holders starts named })))
  | in_default w ↦ (
      let all = names c.args.set.now in
      let labels = c.args.labels.now in
      let n : ℕ = slice_index labels c.labels.g-index in
      absurd (label_named all n ((c.requires.labels.exact n).0 (Contains-get_or labels c.labels.g-index 0 (omega arith))) (sym c.entry_name.ensures ∙ w.in_default.is)))
]

pub returns : goal.returns
returns g c =
    levels_all (names c.args.set.now) c.args.labels.now c.labels.found.items c.requires.labels
    (rw (take_all c.labels.g-index c.args.labels.now (omega arith)) at c.labels.invariant)
