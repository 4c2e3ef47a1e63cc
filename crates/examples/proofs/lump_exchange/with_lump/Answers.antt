use Rattle.std.proofs.Common.{◌<◌, ◌≤◌, List, [], ◌∷◌, length, ap, arith, subst, refl}
use Rattle.std.proofs.lemmas.Result.{err_from_is_err_and}
use Rattle.wad_dir.specs.Entries.{joined}
use Rattle.wad_dir.specs.Packing.{packed_entries}
use Rattle.wad_dir.specs.Wad.{Wad}
use Rattle.wad_dir.specs.declared.header.Kind.TheVariants.{Pwad}
use Rattle.examples.specs.LumpExchange.{AreExchanged, StopsExchange}
use Rattle.examples.proofs.ExchangeLemmas.{one_file, pack_refused, packs_exchanged, stops_exchange}
use Rattle.examples.proofs.lump_exchange.with_lump.Goals as goal

pub returns-then-g-total-clause-refused : goal.returns-then-g-total-clause-refused
returns-then-g-total-clause-refused g c =
    let one = one_file _ _ c.in_ok-set.ensures.bytes c.in_ok-set.ensures.read in
    (one.0, one.2, one.3, subst (λ files. length (joined files) ≤ c.args.g) one.1 (omega (arith, c.total.ensures, c.if-g-total.true)))

pub returns-clause-ok : goal.returns-clause-ok
returns-clause-ok g c =
    let one = one_file _ _ c.in_ok-set.ensures.bytes c.in_ok-set.ensures.read in
    let new : Wad = record { bytes = c.in_ok-pack.field-0.items; kind = Pwad; entries = packed_entries c.in_ok-packer.packer } in
    let are = subst (λ files. AreExchanged files c.args.g c.args.bytes.now c.in_ok-packer.packer) one.1 c.in_ok-packer.ensures.ok in
    record {
      old = one.0;
      new = new;
      was = one.2;
      is = refl;
      read = one.3;
      reads = c.in_ok-pack.ensures.directory;
      patch = refl;
      holds = packs_exchanged c.reads_as_packed.ensures one.0 new c.args.g c.args.bytes.now c.in_ok-packer.packer
          (omega (arith, c.total.ensures, ap (λ files. length (joined files)) one.1, c.if-g-total.false)) are c.in_ok-pack.ensures.names c.in_ok-pack.ensures.slices;
    }

pub returns-in_err-packer-clause-refused : goal.returns-in_err-packer-clause-refused
returns-in_err-packer-clause-refused g c =
    let p = err_from_is_err_and c.from_residual-in_err-packer.result c.from_residual-in_err-packer.ensures.1 in
    let one = one_file _ _ c.in_ok-set.ensures.bytes c.in_ok-set.ensures.read in
    let stops = subst (λ files. StopsExchange files c.args.g c.in_err-packer.field-0.0) one.1 c.in_err-packer.ensures.refused in
    rw (p.1, p.2) (stops_exchange c.args.file.now c.args.g c.args.bytes.now one.0 one.2 one.3 _ stops)

pub returns-in_err-pack-clause-refused : goal.returns-in_err-pack-clause-refused
returns-in_err-pack-clause-refused g c =
    let p = err_from_is_err_and c.from_residual-in_err-pack.result c.from_residual-in_err-pack.ensures.1 in
    let one = one_file _ _ c.in_ok-set.ensures.bytes c.in_ok-set.ensures.read in
    let are = subst (λ files. AreExchanged files c.args.g c.args.bytes.now c.in_ok-packer.packer) one.1 c.in_ok-packer.ensures.ok in
    let there : c.args.g < length (joined (one.0 ∷ [])) = omega (arith, c.total.ensures, ap (λ files. length (joined files)) one.1, c.if-g-total.false) in
    rw (p.1, p.2) (pack_refused c.args.file.now c.args.g c.args.bytes.now one.0 one.2 one.3 c.in_ok-packer.packer _ there are c.in_err-pack.ensures.too_large)
