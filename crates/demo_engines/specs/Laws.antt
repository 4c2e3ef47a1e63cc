-- Laws over the definitions alone (ours).
use Rattle.std.specs.Prelude.{◌≡◌, ◌<◌, ◌^◌, ℕ, All, List, [], ◌++◌, Option, None, length, take}
use Rattle.demo_engines.specs.Assembly.{IsAssembled, IsListingOf}
use Rattle.demo_engines.specs.DoomLine.{doom_line, doom_object}
use Rattle.demo_engines.specs.ObjectValues.{all_numbers, demo_value, refused_value}
use Rattle.demo_engines.specs.Objects.{demo_object, refused_object}
use Rattle.demo_engines.specs.Summary.{demo_line}
use Rattle.demo_lump.specs.Demo.{Demo, IsDemo, IsRead}
use Rattle.demo_lump.specs.declared.command.Command.{Command}
use Rattle.demo_lump.specs.declared.header.Header.{Header}
use Rattle.demo_listings.specs.Listing.{front_text}
use Rattle.later_demos.specs.Demo.{Demo as LaterDemo, IsDemo as IsLaterDemo}
use Rattle.later_demos.specs.Doom.{bare_demo}
use Rattle.later_demos.specs.Footer.{Footer}
use Rattle.le_rec.specs.Bytes.{AreBytes}
use Rattle.lens_texts.specs.Members.{IsLineOf}
use Rattle.look_engines.specs.Listing.{totals_line}

-- of a demo of version 109, 110 or 111 the line is that of its header and its commands alone, and so is the object
abbrev pub DoomIsTold : Type 0
DoomIsTold =
    (path : List ℕ) (lump : Option (List ℕ)) (bytes : List ℕ) (header : Header) (commands : List Command) (rest : List ℕ) (footer : Footer)
    → IsDemo bytes header commands rest
    → (demo_line path lump (bare_demo header.version (take 13 bytes) commands rest) ≡ doom_line path lump header (length commands) (length rest))
    × (demo_object path lump (bare_demo header.version (take 13 bytes) commands rest) footer
    ≡ doom_object path lump header (length commands) (length rest) footer)

-- a text is the listing of one demo at most: one header, the same commands, and so many bytes after the marker
abbrev pub OneListing : Type 0
OneListing = (text : List ℕ) (a b : Demo) → IsListingOf text a → IsListingOf text b → a ≡ b

-- the demo assembled from a listing has the header, the commands and the marker of the listed demo
abbrev pub AssembledIsDemo : Type 0
AssembledIsDemo =
    (text bytes : List ℕ) (demo : Demo) → IsListingOf text demo → IsAssembled text bytes → IsDemo bytes demo.header demo.commands []

-- bytes are read as a demo of which the listing is the text but for its last number: no bytes come after the marker
pub record ListsAgain (text bytes : List ℕ) : Type 0 where
  pub demo : Demo
  pub read : IsRead bytes demo
  pub front : List ℕ
  pub tics : ℕ
  pub odd : ℕ
  pub after : ℕ
  pub was : text ≡ front ++ totals_line tics odd after
  pub lists : IsListingOf (front ++ totals_line tics odd 0) demo

-- and so is the demo assembled from a listing
abbrev pub AssembledListsAgain : Type 0
AssembledListsAgain = (text bytes : List ℕ) → IsAssembled text bytes → ListsAgain text bytes

-- what stands before the commands of a listing gives back the header of a demo without a wrapper
abbrev pub FrontTellsHeader : Type 0
FrontTellsHeader =
    (of_a of_b : List ℕ) (a b : LaterDemo) → IsLaterDemo of_a a → IsLaterDemo of_b b → AreBytes of_a → AreBytes of_b
    → a.wrapper ≡ None → b.wrapper ≡ None → front_text a ≡ front_text b → a.header ≡ b.header

-- a demo's object is a line, which the kit's reader of JSON reads as one object of just these members in their order
abbrev pub ObjectIsRead : Type 0
ObjectIsRead =
    (path : List ℕ) (lump : Option (List ℕ)) (demo : LaterDemo) (footer : Footer) → All (λ one. one.1 < 2 ^ 64) (all_numbers demo)
    → IsLineOf (demo_value path lump demo footer) (demo_object path lump demo footer)

-- and so is that of a demo that isn't read, for any reason in words
abbrev pub RefusedIsRead : Type 0
RefusedIsRead = (path : List ℕ) (lump : Option (List ℕ)) (why : List ℕ) → IsLineOf (refused_value path lump why) (refused_object path lump why)
