use Rattle.std.proofs.Common.{◌≡◌, ◌∙◌, length, sym, ap, subst, arith, rules}
use Rattle.std.proofs.lemmas.List.Elements.{All-more}
use Rattle.le_rec.specs.Name.{name_of}
use Rattle.wad_dir.specs.Packing.{NamedLump, IsName}
use Rattle.wad_dir.proofs.PackingLemmas.{FitsSigned-pos, length-lump_bytes_upto, length-lump_bytes_more, directory_more, cast_entry, put_more}
use Rattle.wad_dir.proofs.packer.put_entries.Goals as goal

pub overflow_cast-entry : goal.overflow_cast-entry
overflow_cast-entry g c =
    let upto =
    length-lump_bytes_upto c.args.lumps.now c.lump-item.result c.loop-lump.lump-index
    (omega arith) c.lump-item.is in
    FitsSigned-pos _ (omega (arith, upto, c.requires, c.loop-lump.invariant.places))

pub overflow_cast-entry-in-loop-lump : goal.overflow_cast-entry-in-loop-lump
overflow_cast-entry-in-loop-lump g c =
    let upto =
    length-lump_bytes_upto c.args.lumps.now c.lump-item.result c.loop-lump.lump-index
    (omega arith) c.lump-item.is in
    FitsSigned-pos _
    (omega (arith, upto, c.requires, ap (λ (l : NamedLump). length l.bytes) c.lump.view_is))

pub overflow_add-place : goal.overflow_add-place
overflow_add-place g c =
    let upto =
    length-lump_bytes_upto c.args.lumps.now c.lump-item.result c.loop-lump.lump-index
    (omega arith) c.lump-item.is in
    omega (
      arith,
      upto,
      c.requires,
      c.loop-lump.invariant.places,
      ap (λ (l : NamedLump). length l.bytes) c.lump.view_is,
    )

pub loop-lump-preserved : goal.loop-lump-preserved
loop-lump-preserved g c =
    let lumps = c.args.lumps.now in
    let i = c.loop-lump.lump-index in
    let size = length c.lump.inside.bytes.now in
    let sized = ap (λ (l : NamedLump). length l.bytes) c.lump.view_is in
    let upto = length-lump_bytes_upto lumps c.lump-item.result i (omega arith) c.lump-item.is in
    let place = c.loop-lump.invariant.places in
    let eight : length c.bytes.result ≡ 8 = search rules in
    let name : IsName c.lump.inside.name = record {
      eight = ap length (sym c.bytes.ensures.padded) ∙ eight;
      kept = ap name_of (sym c.bytes.ensures.padded) ∙ c.bytes.ensures.name;
    } in
    record {
      entries =
          put_more c.args.file.now.items c.loop-lump.file.items _ c.write.new.bytes _ _ _
          c.put_bytes.ensures.items
          (c.write.ensures ∙ cast_entry c.loop-lump.place size c.bytes.result c.lump.inside.name
          (omega (arith, upto, c.requires, place))
          (omega (arith, upto, c.requires, sized)) c.bytes.ensures.padded)
          c.loop-lump.invariant.entries
          (directory_more lumps c.lump-item.result i
          (omega arith) c.lump-item.is c.loop-lump.place place _ c.lump.view_is);
      places =
          omega (
            arith,
            place,
            sized,
            length-lump_bytes_more lumps c.lump-item.result i (omega arith) c.lump-item.is,
          );
      names =
          All-more (λ (l : NamedLump). IsName l.name) lumps i c.lump-item.result
          (omega arith) c.loop-lump.invariant.names
          (subst (λ (l : NamedLump). IsName l.name) (c.lump.view_is ∙ c.lump-item.is) name);
      len = omega arith;
      room = omega arith;
    }
