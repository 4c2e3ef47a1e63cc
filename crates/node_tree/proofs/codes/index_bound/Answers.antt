use Rattle.std.proofs.Common.{inl, inr}
use Rattle.node_tree.proofs.codes.index_bound.Goals as goal

pub returns-in-F11 : goal.returns-in-F11
returns-in-F11 g c = λ i h.
    elim c.in-F11.is [
      | inl e ↦ c.requires.nodes i (inl (inl (rw e at h)))
      | inr (inl e) ↦ c.requires.nodes i (inl (inr (inl (rw e at h))))
      | inr (inr (inl e)) ↦ c.requires.nodes i (inr (inl (rw e at h)))
      | inr (inr (inr (inl e))) ↦ c.requires.nodes i (inr (inr (rw e at h)))
      | inr (inr (inr (inr e))) ↦ c.requires.nodes i (inl (inr (inr (rw e at h))))
    ]

pub returns-in-F15 : goal.returns-in-F15
returns-in-F15 g c = λ i h.
    elim c.in-F15.is [
      | inl e ↦ c.requires.ssectors i (inl (rw e at h))
      | inr e ↦ c.requires.ssectors i (inr (rw e at h))
    ]
