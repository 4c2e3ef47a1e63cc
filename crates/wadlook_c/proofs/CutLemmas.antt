-- A level that wasn't cut out.
use Rattle.std.proofs.Common.{◌≡◌, ℕ, List, Err, inl, inr, subst}
use Rattle.le_rec.specs.Sink.{SinkState}
use Rattle.lens_engines.specs.Cut.{RefusesCut, RunsCut}
use Rattle.lens_engines.specs.declared.cut.CutFault.{CutFault}
use Rattle.lens_engines.specs.declared.cut.CutFault.TheVariants.{Write}
use Rattle.wad_dir.proofs.OneDirectoryLemmas.{one-has_directory}
use Rattle.wad_dir.specs.Directory.{HasDirectory}

-- where the sink failed the file was read
pub read_before_write : {W : Type 0} (state : W → SinkState) (bytes : List ℕ) (g : ℕ) (out out' : W) (fault : CutFault) → fault ≡ Write
    → RunsCut state bytes g out out' (Err fault) → HasDirectory bytes
read_before_write state bytes g out out' fault is runs = elim runs [
  | inl left ↦
      let same : left.fault ≡ Write = cc in
      absurd ((subst (λ (f : CutFault). RefusesCut bytes g f) same left.holds).refuses)
  | inr written ↦ one-has_directory bytes written.is.files written.is.file.of_bytes written.is.file.read
]
