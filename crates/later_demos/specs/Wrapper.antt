-- What stands before a demo in a wrapper (dsda_StripDemoVersion255 of dsda-doom 0.25.6; demos that dsda-doom recorded).
use Rattle.std.specs.Prelude.{ℕ, ◌%◌, Bool, true, false, not, ◌==◌, ◌&&◌, nat_eq, nat_lt, if◌then◌else◌, Option, Some, None, List, [], ◌∷◌, length, take, drop, slice_index}
use Rattle.std.specs.List.{starts_with}
use Rattle.later_demos.specs.Numbers.{big32_at}
use Rattle.later_demos.specs.declared.fault.LaterFault.{LaterFault}
use Rattle.later_demos.specs.declared.fault.LaterFault.TheVariants.{Version, Dsda, PrUm, Short}
use Rattle.later_demos.specs.declared.wrapper.DsdaWrapper.{DsdaWrapper}
use Rattle.later_demos.specs.declared.wrapper.Wrapper.{Wrapper}
use Rattle.later_demos.specs.declared.wrapper.Wrapper.TheVariants as wrapper

-- the bytes that the wrappers begin with: 255, and then 29 `DSDA` 230 or `PR+UM`
abbrev pub dsda_signature : List ℕ
dsda_signature = 255 ∷ 29 ∷ 68 ∷ 83 ∷ 68 ∷ 65 ∷ 230 ∷ []

abbrev pub pr_um_signature : List ℕ
pr_um_signature = 255 ∷ 80 ∷ 82 ∷ 43 ∷ 85 ∷ 77 ∷ []

-- bytes 7 to 18 of PR+UM: version 1, one extension, the length of its name, `UMAPINFO`
abbrev pub pr_um_extension : List ℕ
pr_um_extension = 1 ∷ 1 ∷ 0 ∷ 8 ∷ 85 ∷ 77 ∷ 65 ∷ 80 ∷ 73 ∷ 78 ∷ 70 ∷ 79 ∷ []

abbrev pub is_dsda : List ℕ → Bool
is_dsda bytes = starts_with nat_eq bytes dsda_signature

abbrev pub is_pr_um : List ℕ → Bool
is_pr_um bytes = starts_with nat_eq bytes pr_um_signature

-- the bytes of a DSDA wrapper: version 2 has flags
abbrev pub dsda_size : List ℕ → ℕ
dsda_size bytes = if slice_index bytes 7 == 2 then 17 else 16

-- what a DSDA wrapper says
abbrev pub dsda_of : List ℕ → DsdaWrapper
dsda_of bytes = record {
  version = slice_index bytes 7;
  marker = big32_at bytes 8;
  tics = big32_at bytes 12;
  flags = if slice_index bytes 7 == 2 then slice_index bytes 16 else 0;
}

-- the wrapper that bytes begin with, if they begin with one
unfoldable pub wrapper_of : List ℕ → Option Wrapper
wrapper_of bytes =
    if is_dsda bytes then Some (wrapper.Dsda (dsda_of bytes))
    else (if is_pr_um bytes then Some (wrapper.PrUm (take 8 (drop 19 bytes))) else None)

-- how many bytes it has
abbrev pub size_of : Option Wrapper → ℕ
size_of None = 0
size_of (Some (wrapper.Dsda dsda)) = if dsda.version == 2 then 17 else 16
size_of (Some (wrapper.PrUm _)) = 27

abbrev pub wrapper_size : List ℕ → ℕ
wrapper_size bytes = size_of (wrapper_of bytes)

-- its commands have actions
abbrev pub has_actions : Option Wrapper → Bool
has_actions (Some (wrapper.Dsda _)) = true
has_actions _ = false

-- a key frame stands behind the header: bit 0 of the flags
abbrev pub has_key_frame : Option Wrapper → Bool
has_key_frame (Some (wrapper.Dsda dsda)) = dsda.flags % 2 == 1
has_key_frame _ = false

-- why bytes of a DSDA wrapper are refused: its version, when it is there, or its length
unfoldable pub dsda_refusal : List ℕ → Option LaterFault
dsda_refusal bytes =
    if nat_lt 7 (length bytes) && (not (slice_index bytes 7 == 1) && not (slice_index bytes 7 == 2))
    then Some (Dsda (slice_index bytes 7))
    else (if nat_lt (length bytes) (dsda_size bytes)
    then Some (Short (length bytes) (dsda_size bytes)) else None)

-- why those of PR+UM: bytes 7 to 18, as many as are there, or its length
unfoldable pub pr_um_refusal : List ℕ → Option LaterFault
pr_um_refusal bytes =
    if not (starts_with nat_eq pr_um_extension (take 12 (drop 7 bytes))) then Some PrUm
    else (if nat_lt (length bytes) 27 then Some (Short (length bytes) 27) else None)

-- why a first byte of 255 is refused
unfoldable pub wrapper_refusal : List ℕ → Option LaterFault
wrapper_refusal bytes =
    if is_dsda bytes then dsda_refusal bytes
    else (if is_pr_um bytes then pr_um_refusal bytes
    else (if slice_index bytes 0 == 255 then Some (Version 255) else None))
