use Rattle.std.proofs.Common.{refl, rules}
use Rattle.level_starts.specs.declared.format.Format.TheVariants.{Doom}
use Rattle.wadlook_c.proofs.entry.open_entry.Goals as goal

pub level_at-requires : goal.level_at-requires
level_at-requires g c = (c.in-Doom.ensures Doom).0 refl

pub returns-in-Doom-clause-ok : goal.returns-in-Doom-clause-ok
returns-in-Doom-clause-ok g c = record {
  files = c.in_ok-set.set;
  read = c.in_ok-set.ensures.ok;
  starts = search rules;
  doom = (c.in-Doom.ensures Doom).0 refl;
  there = c.level_at.ensures;
}
