-- Why bytes are no demo: the first reason that holds (ours).
use Rattle.std.specs.Prelude.{Bool, ◌≡◌, ◌≢◌, ℕ, ◌+◌, ◌==◌, ◌&&◌, ◌||◌, nat_lt, if◌then◌else◌, Option, Some, None, List, ◌∷◌, ◌++◌, length, take, drop, slice_index}
use Rattle.demo_lump.specs.Pieces.{NoneBegins}
use Rattle.later_demos.specs.Command.{AreCommands, IsCommand}
use Rattle.later_demos.specs.Header.{header_refusal, header_size}
use Rattle.later_demos.specs.Layout.{layout_of}
use Rattle.later_demos.specs.Numbers.{little32_at, or_else}
use Rattle.later_demos.specs.Wrapper.{has_actions, has_key_frame, size_of, wrapper_of, wrapper_refusal, wrapper_size}
use Rattle.later_demos.specs.declared.command.CommandForm.{CommandForm}
use Rattle.later_demos.specs.declared.command.LaterCommand.{LaterCommand}
use Rattle.later_demos.specs.declared.fault.LaterFault.{LaterFault}
use Rattle.later_demos.specs.declared.fault.LaterFault.TheVariants.{Empty, Short, KeyFrame, NoMarker}
use Rattle.later_demos.specs.declared.layout.Layout.{Layout}
use Rattle.later_demos.specs.declared.wrapper.Wrapper.{Wrapper}

-- the header at the front of bytes, and what follows it
abbrev pub size_by : Option Layout → List ℕ → ℕ
size_by (Some layout) bytes = header_size layout bytes
size_by None bytes = 0

unfoldable pub header_of : List ℕ → List ℕ
header_of bytes = take (size_by (layout_of (slice_index bytes 0)) bytes) bytes

unfoldable pub behind_header : List ℕ → List ℕ
behind_header bytes = drop (size_by (layout_of (slice_index bytes 0)) bytes) bytes

-- a key frame isn't whole: the number of its bytes has four bytes, the lowest first
abbrev pub is_cut_frame : List ℕ → Bool
is_cut_frame bytes = nat_lt (length bytes) 4 || nat_lt (length bytes) (4 + little32_at bytes 0)

unfoldable pub key_frame_refusal : Option Wrapper → List ℕ → Option LaterFault
key_frame_refusal wrapper bytes =
    if has_key_frame wrapper && is_cut_frame bytes then Some KeyFrame else None

-- the key frame at the front of bytes, and what follows it
unfoldable pub frame_of : Option Wrapper → List ℕ → Option (List ℕ)
frame_of wrapper bytes =
    if has_key_frame wrapper then Some (take (little32_at bytes 0) (drop 4 bytes)) else None

unfoldable pub behind_frame : Option Wrapper → List ℕ → List ℕ
behind_frame wrapper bytes =
    if has_key_frame wrapper then drop (4 + little32_at bytes 0) bytes else bytes

-- the first reason that holds of what follows the wrapper, where none looks at a command
unfoldable pub inner_refusal : Option Wrapper → List ℕ → Option LaterFault
inner_refusal wrapper bytes =
    if length bytes == 0 then Some (Short (size_of wrapper) (size_of wrapper + 1))
    else or_else (header_refusal (size_of wrapper) bytes)
    (key_frame_refusal wrapper (behind_header bytes))

-- what follows the wrapper
unfoldable pub behind_wrapper : List ℕ → List ℕ
behind_wrapper bytes = drop (wrapper_size bytes) bytes

-- the first reason that holds of all bytes
unfoldable pub first_refusal : List ℕ → Option LaterFault
first_refusal bytes =
    if length bytes == 0 then Some Empty
    else or_else (wrapper_refusal bytes) (inner_refusal (wrapper_of bytes) (behind_wrapper bytes))

-- what the version behind the wrapper has, and the bytes from the first command on
abbrev pub layout_in : List ℕ → Option Layout
layout_in bytes = layout_of (slice_index (behind_wrapper bytes) 0)

unfoldable pub behind_front : List ℕ → List ℕ
behind_front bytes = behind_frame (wrapper_of bytes) (behind_header (behind_wrapper bytes))

-- how commands lie: by the version, and by the wrapper
abbrev pub form_of : Layout → Option Wrapper → CommandForm
form_of layout wrapper = record { long = layout.long; actions = has_actions wrapper }

-- behind the most whole commands comes no marker: the place where it should stand
pub record IsCutAt (bytes : List ℕ) (place : ℕ) : Type 0 where
  pub layout : Layout
  pub body : List ℕ
  pub commands : List LaterCommand
  pub rest : List ℕ
  pub version : layout_in bytes ≡ Some layout
  pub joined : behind_front bytes ≡ body ++ rest
  pub follow : AreCommands (form_of layout (wrapper_of bytes)) body commands
  pub most : NoneBegins (IsCommand (form_of layout (wrapper_of bytes))) rest
  pub unmarked : (more : List ℕ) → rest ≢ 128 ∷ more
  pub placed : place + length rest ≡ length bytes

-- why bytes are no demo: the first reason before the commands, or else that no marker comes behind them
abbrev pub RefusesBy : List ℕ → Option LaterFault → LaterFault → Type 0
RefusesBy bytes (Some first) fault = first ≡ fault
RefusesBy bytes None (NoMarker place) = IsCutAt bytes place
RefusesBy bytes None _ = ⊥

abbrev pub RefusesDemo : List ℕ → LaterFault → Type 0
RefusesDemo bytes fault = RefusesBy bytes (first_refusal bytes) fault
