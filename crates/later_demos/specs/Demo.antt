-- Demos in memory: a wrapper, a header, a key frame, commands, a marker and a rest (G_DoPlayDemo of g_game.c; recorded demos of dsda-doom).
use Rattle.std.specs.Prelude.{◌≡◌, ℕ, ◌+◌, ◌≤◌, true, false, Option, Some, None, List, [], ◌∷◌, ◌++◌, length, take, drop, slice_index}
use Rattle.later_demos.specs.Command.{AreCommands}
use Rattle.later_demos.specs.Header.{IsHeader}
use Rattle.later_demos.specs.Numbers.{little32_at}
use Rattle.later_demos.specs.Refusal.{form_of}
use Rattle.later_demos.specs.Wrapper.{dsda_of, dsda_signature, dsda_size, has_key_frame, pr_um_extension, pr_um_signature}
use Rattle.later_demos.specs.declared.command.LaterCommand.{LaterCommand}
use Rattle.later_demos.specs.declared.layout.Layout.{Layout}
use Rattle.later_demos.specs.declared.wrapper.DsdaWrapper.{DsdaWrapper}
use Rattle.later_demos.specs.declared.wrapper.Wrapper.{Wrapper}
use Rattle.later_demos.specs.declared.wrapper.Wrapper.TheVariants.{Dsda, PrUm}

-- bytes that are the whole of a DSDA wrapper, of version 1 or 2
pub record IsDsda (bytes : List ℕ) (dsda : DsdaWrapper) : Type 0 where
  pub signature : take 7 bytes ≡ dsda_signature
  pub version : (1 ≤ slice_index bytes 7) × (slice_index bytes 7 ≤ 2)
  pub long : length bytes ≡ dsda_size bytes
  pub reads : dsda_of bytes ≡ dsda

-- of a wrapper of PR+UM
pub record IsPrUm (bytes name : List ℕ) : Type 0 where
  pub signature : take 6 bytes ≡ pr_um_signature
  pub extension : take 12 (drop 7 bytes) ≡ pr_um_extension
  pub long : length bytes ≡ 27
  pub reads : drop 19 bytes ≡ name

-- of a wrapper, or none
abbrev pub IsWrapper : List ℕ → Option Wrapper → Type 0
IsWrapper bytes None = bytes ≡ []
IsWrapper bytes (Some (Dsda dsda)) = IsDsda bytes dsda
IsWrapper bytes (Some (PrUm name)) = IsPrUm bytes name

-- of a key frame, or none: the number of its bytes, and these
pub record IsFrame (bytes frame : List ℕ) : Type 0 where
  pub long : length bytes ≡ 4 + length frame
  pub counted : little32_at bytes 0 ≡ length frame
  pub reads : drop 4 bytes ≡ frame

abbrev pub IsKeyFrame : Option Wrapper → List ℕ → Option (List ℕ) → Type 0
IsKeyFrame wrapper bytes None = (has_key_frame wrapper ≡ false) × (bytes ≡ [])
IsKeyFrame wrapper bytes (Some frame) = (has_key_frame wrapper ≡ true) × IsFrame bytes frame

-- a demo as it was read
pub record Demo : Type 0 where
  pub wrapper : Option Wrapper
  pub layout : Layout
  pub header : List ℕ
  pub key_frame : Option (List ℕ)
  pub commands : List LaterCommand
  pub rest : List ℕ

-- put together, its parts are the bytes
pub record IsDemo (bytes : List ℕ) (demo : Demo) : Type 0 where
  pub front : List ℕ
  pub frame : List ℕ
  pub body : List ℕ
  pub joined : bytes ≡ front ++ (demo.header ++ (frame ++ (body ++ 128 ∷ demo.rest)))
  pub wrapped : IsWrapper front demo.wrapper
  pub begins : IsHeader demo.header demo.layout
  pub framed : IsKeyFrame demo.wrapper frame demo.key_frame
  pub follow : AreCommands (form_of demo.layout demo.wrapper) body demo.commands
