-- What a reading of the bytes before the commands gives (ours).
use Rattle.std.specs.Prelude.{◌≡◌, ℕ, Option, Some, None, List, slice_index}
use Rattle.std.specs.Option.{option_copied}
use Rattle.later_demos.specs.Layout.{layout_of}
use Rattle.later_demos.specs.Refusal.{behind_frame, behind_header, behind_wrapper, first_refusal, frame_of, header_of, inner_refusal}
use Rattle.later_demos.specs.Wrapper.{wrapper_of}
use Rattle.later_demos.specs.declared.front.Framed.{Framed}
use Rattle.later_demos.specs.declared.front.Front.{Front}
use Rattle.later_demos.specs.declared.wrapper.Wrapper.{Wrapper}

-- the key frame at the front of bytes, where there is one, and what follows it
pub record IsFramed (wrapper : Option Wrapper) (bytes : List ℕ) (framed : Framed) : Type 0 where
  pub frame : option_copied framed.key_frame ≡ frame_of wrapper bytes
  pub commands : framed.commands.now ≡ behind_frame wrapper bytes

-- what follows a wrapper isn't refused before its commands, and has these parts
pub record IsInner (wrapper : Option Wrapper) (bytes : List ℕ) (front : Front) : Type 0 where
  pub allowed : inner_refusal wrapper bytes ≡ None
  pub wrapped : front.wrapper ≡ wrapper
  pub version : layout_of (slice_index bytes 0) ≡ Some front.layout
  pub header : front.header.now ≡ header_of bytes
  pub frame : option_copied front.key_frame ≡ frame_of wrapper (behind_header bytes)
  pub commands : front.commands.now ≡ behind_frame wrapper (behind_header bytes)

-- bytes aren't refused before their commands, and have these parts
pub record IsFront (bytes : List ℕ) (front : Front) : Type 0 where
  pub allowed : first_refusal bytes ≡ None
  pub inner : IsInner (wrapper_of bytes) (behind_wrapper bytes) front
