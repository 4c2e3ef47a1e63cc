use Rattle.std.proofs.Common.{◌≡◌, length, refl, sym, ap, ◌∙◌, rules}
use Rattle.le_rec.specs.Name.{name_of, padded, query_of}
use Rattle.level_starts.proofs.HolderLemmas.{query_of-bytes}
use Rattle.wad_dir.specs.Entries.{names}
use Rattle.lens_texts.proofs.LabelLemmas.{hidden_unless_found}
use Rattle.lens_texts.proofs.label.label_looked_up.Goals as goal

pub returns : goal.returns
returns g c =
    let bytes = c.bytes.result in
    let name = c.bytes.ensures.name in
    let eight : length bytes ≡ 8 = search rules in
    let stored : bytes ≡ padded (name_of bytes) = c.bytes.ensures.padded ∙ ap padded (sym name) in
    let query : c.query.result ≡ query_of c.label_of-name.result = c.query.ensures ∙ query_of-bytes bytes eight stored ∙ ap query_of name in
    record {
      named = c.label_of-name.ensures;
      entry = refl;
      hidden = rw (c.ne.ensures, ← query) (hidden_unless_found (names c.args.set.now) c.query.result c.args.g c.find.result c.find.ensures.some c.find.ensures.none);
    }
