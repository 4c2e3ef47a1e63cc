use Rattle.std.proofs.Common.{◌∙◌, Some, refl, sym, ap, arith}
use Rattle.std.proofs.lemmas.Option.{slice_get_within}
use Rattle.wad_dir.specs.Entries.{joined}
use Rattle.wad_dir.proofs.LumpLemmas.{lump_is, no_lump}
use Rattle.wad_dir.proofs.set.Set.lump.Goals as goal

pub returns-in-Some-lump_of-clause-outside : goal.returns-in-Some-lump_of-clause-outside
returns-in-Some-lump_of-clause-outside g c = (
  λ e. absurd (let none : ⊥ = cc in none),
  λ h. absurd (h.1 c.in-Some-lump_of.lump.now
      (lump_is c.args.self.now c.args.g _ (sym c.listed.ensures ∙ c.in-Some.is ∙ ap Some
      (sym c.found.view_is)) c.in-Some-lump_of.lump.now c.in-Some-lump_of.ensures.some)),
)

pub returns-in-None-clause-no_such : goal.returns-in-None-clause-no_such
returns-in-None-clause-no_such g c = (
  λ e. absurd (let none : ⊥ = cc in none),
  λ past. absurd (omega (
    arith,
    slice_get_within (joined c.args.self.now) c.args.g c.in-Some.found
        (sym c.listed.ensures ∙ c.in-Some.is),
  )),
)

pub returns-in-None-clause-outside : goal.returns-in-None-clause-outside
returns-in-None-clause-outside g c = (
  λ _. (
    slice_get_within (joined c.args.self.now) c.args.g c.in-Some.found
        (sym c.listed.ensures ∙ c.in-Some.is),
    no_lump c.args.self.now c.args.g _
        (sym c.listed.ensures ∙ c.in-Some.is ∙ ap Some (sym c.found.view_is))
        c.in-None.ensures.none,
  ),
  λ _. refl,
)
