use Rattle.std.proofs.Common.{◌≡◌, ℕ, List, ◌∙◌, ap, sym, refl, arith, pos, rules, to_z, of_z}
use Rattle.std.proofs.lemmas.Int.{to_z-of_z}
use Rattle.std.specs.Prelude.{FitsSigned}
use Rattle.std.specs.Int.{w32}
use Rattle.wad_dir.specs.Header.{header_of, magic_of}
use Rattle.wad_dir.specs.declared.header.Kind.{Kind}
use Rattle.wad_dir.specs.Wad.{IsRead}
use Rattle.le_rec.specs.Record.{entry}
use Rattle.le_rec.specs.Table.{records_of}
use Rattle.wad_dir.specs.declared.header.Header.{Header}
use Rattle.wad_dir.specs.Refusal.{RefusesWad}
use Rattle.wad_dir.specs.declared.wad.WadFault.TheVariants.{Directory}
use Rattle.wad_dir.proofs.StandingLemmas.{read_number}
use Rattle.wad_dir.proofs.ReadingLemmas.{IsRead-from_table, refused_by_table, only_file, no_fault, no_file, only_fault}
use Rattle.wad_dir.proofs.wad.Wad.read.Goals as goal
use Rattle.wad_dir.proofs.wad.Wad.read.Goals.{In-Some-natural, In-Some-table_of, In_default-table_of}

-- what was read of the header, of the header that the bytes have
module _ (bytes : List ℕ) (read : Header) (is : header_of bytes ≡ read) where
  begins : (kind : Kind) → read.magic ≡ magic_of kind → (header_of bytes).magic ≡ magic_of kind
  begins kind h = ap (λ (r : Header). r.magic) is ∙ h

  stands : FitsSigned w32 read.offset → to_z w32 (of_z w32 read.offset) ≡ (header_of bytes).offset
  stands fits = to_z-of_z w32 read.offset fits ∙ sym (ap (λ (r : Header). r.offset) is)

counted : (c : In-Some-natural) → (header_of c.args.bytes.now).count ≡ pos c.in-Some-natural.count
counted c =
    let fits : FitsSigned w32 c.read-header.result.count = search rules in
    ap (λ (r : Header). r.count) (sym c.read-header.ensures)
    ∙ read_number c.read-header.result.count c.in-Some-natural.count fits
    c.in-Some-natural.ensures.value

refused : (c : In_default-table_of)
    → (header_of c.args.bytes.now).count ≡ pos c.in-Some-natural.count
    → RefusesWad c.args.bytes.now Directory
refused c counted_is =
    let is = sym c.read-header.ensures in
    let fits : FitsSigned w32 c.read-header.result.offset = search rules in
    let place = stands c.args.bytes.now c.read-header.result is fits in
    refused_by_table c.args.bytes.now c.in-Some-natural.count (
      omega arith,
      (
        c.in-Some.kind,
        begins c.args.bytes.now c.read-header.result is c.in-Some.kind c.in-Some.ensures.some,
      ),
    ) counted_is
    (rw place at c.in_default-table_of.ensures.none)

pub returns-in_default-table_of-clause-ok : goal.returns-in_default-table_of-clause-ok
returns-in_default-table_of-clause-ok c =
    no_file c.args.bytes.now Directory
    (refused c (counted (goal.at.returns-in_default-table_of-clause-ok c).In-Some-natural))

pub returns-in_default-table_of-clause-refused : goal.returns-in_default-table_of-clause-refused
returns-in_default-table_of-clause-refused c =
    only_fault c.args.bytes.now Directory
    (refused c (counted (goal.at.returns-in_default-table_of-clause-refused c).In-Some-natural))

is_read : (c : In-Some-table_of) → (header_of c.args.bytes.now).count ≡ pos c.in-Some-natural.count
    → IsRead (record {
      bytes = c.args.bytes.now;
      kind = c.in-Some.kind;
      entries = records_of 16 entry c.in-Some-table_of.table.now;
    })
is_read c counted_is =
    let is = sym c.read-header.ensures in
    let fits : FitsSigned w32 c.read-header.result.offset = search rules in
    let place = stands c.args.bytes.now c.read-header.result is fits in
    IsRead-from_table c.args.bytes.now c.in-Some-table_of.table.now c.in-Some.kind
    c.in-Some-natural.count (omega arith)
    (begins c.args.bytes.now c.read-header.result is c.in-Some.kind c.in-Some.ensures.some)
    counted_is c.in-Some-table_of.ensures.size (rw place at c.in-Some-table_of.ensures.some)

pub returns-clause-ok : goal.returns-clause-ok
returns-clause-ok c =
    only_file c.args.bytes.now _ refl
    (is_read c (counted (goal.at.returns-clause-ok c).In-Some-natural))

pub returns-clause-refused : goal.returns-clause-refused
returns-clause-refused c =
    no_fault c.args.bytes.now _ refl
    (is_read c (counted (goal.at.returns-clause-refused c).In-Some-natural))
