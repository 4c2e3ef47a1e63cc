use Rattle.std.proofs.Common.{refl}
use Rattle.wadlook_c.proofs.levels.told.Goals as goal

pub returns : goal.returns
returns g c = record {
  entry = refl;
  label = c.label_of.result;
  listed = c.label_of.ensures;
  name = c.bytes.ensures.padded;
  format = c.format_of-format.result;
  is = (c.format_of-format.ensures c.format_of-format.result).0 refl;
  number = c.format_code.ensures;
  lump = c.lump_of.ensures;
  tag = c.tag_of.ensures;
}
