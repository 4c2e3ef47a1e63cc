-- The status for why a level isn't cut out (ours).
use Rattle.std.specs.Prelude.{◌≡◌, ℕ, List}
use Rattle.lens_engines.specs.Cut.{RefusesCut}
use Rattle.lens_engines.specs.declared.cut.CutFault.{CutFault}
use Rattle.lens_engines.specs.declared.cut.CutFault.TheVariants as fault
use Rattle.lens_engines.specs.declared.cut.Uncut.{Uncut}
use Rattle.lens_engines.specs.declared.cut.Uncut.TheVariants as uncut
use Rattle.wadlook_c.specs.Status.{wad_number_of}

-- the number of what a level lacks
abbrev pub uncut_number_of : Uncut → ℕ
uncut_number_of (uncut.Incomplete k) = 9
uncut_number_of uncut.NoEndMap = 9
uncut_number_of (uncut.Outside name) = 10
uncut_number_of uncut.TooLarge = 11

-- the number of why it isn't cut out
abbrev pub cut_number_of : CutFault → ℕ
cut_number_of (fault.NoWad why) = wad_number_of why
cut_number_of (fault.NoLevel entry) = 28
cut_number_of (fault.Level label why) = uncut_number_of why
cut_number_of fault.Memory = 2
cut_number_of fault.Write = 2

-- a status is that of a reason that holds
pub record EndsCut (wad : List ℕ) (entry status : ℕ) : Type 0 where
  pub why : CutFault
  pub number : status ≡ cut_number_of why
  pub holds : RefusesCut wad entry why
