use Rattle.std.proofs.Common.{◌≡◌, ◌∙◌, ◌≤◌, ℕ, List, ◌++◌, length, sym, ap, subst, arith}
use Rattle.std.specs.List.{All, AllZip}
use Rattle.le_rec.specs.declared.records.Entry.{Entry}
use Rattle.wad_dir.specs.Slice.{IsSlice}
use Rattle.wad_dir.specs.declared.header.Kind.TheVariants.{Pwad}
use Rattle.wad_dir.specs.Directory.{IsDirectory}
use Rattle.wad_dir.specs.Packing.{NamedLump, IsName, packed_entries, packed}
use Rattle.wad_dir.proofs.PackedLemmas.{packed-directory, packed-names, packed-slices}
use Rattle.wad_dir.proofs.packer.Packer.pack.Given.{Over}
use Rattle.wad_dir.proofs.packer.Packer.pack.Goals as goal
use Rattle.wad_dir.proofs.packer.Packer.pack.Goals.{After-put_file}

whole : (g : Over) (c : After-put_file g) → c.put_file.new.file.items ≡ packed c.args.self.now
whole g c =
    c.put_file.ensures.file
    ∙ ap (λ front. front ++ packed c.deref-2.result.now) c.in-Ok.ensures.items
    ∙ ap packed (c.deref-2.ensures.value ∙ c.self.view_is)

named : (g : Over) (c : After-put_file g) → All (λ (l : NamedLump). IsName l.name) c.args.self.now
named g c =
    subst (λ (ls : List NamedLump). All (λ (l : NamedLump). IsName l.name) ls)
    (c.deref-2.ensures.value ∙ c.self.view_is) c.put_file.ensures.names

most : (g : Over) (c : After-put_file g) → length (packed c.args.self.now) ≤ 2147483647
most g c =
    let same = ap (λ ls. length (packed ls)) (c.deref.ensures.value ∙ c.self.view_is) in
    omega (arith, same, c.in-Some.ensures.some, c.in-Some.ensures.most)

pub returns-clause-directory : goal.returns-clause-directory
returns-clause-directory g c =
    subst (λ (bytes : List ℕ). IsDirectory bytes Pwad (packed_entries c.args.self.now))
    (sym (whole g c)) (packed-directory c.args.self.now (named g c) (most g c))

pub returns-clause-names : goal.returns-clause-names
returns-clause-names g c = packed-names 12 c.args.self.now (named g c)

pub returns-clause-slices : goal.returns-clause-slices
returns-clause-slices g c =
    subst
    (λ (bytes : List ℕ).
    AllZip (λ (e : Entry) (l : NamedLump). IsSlice bytes e l.bytes)
    (packed_entries c.args.self.now) c.args.self.now)
    (sym (whole g c))
    (packed-slices c.args.self.now)
