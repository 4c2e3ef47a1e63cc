-- Laws over the definitions alone (ours).
use Rattle.std.specs.Prelude.{◌≡◌, ◌↔◌, ℕ, List, ◌++◌, length, take}
use Rattle.demo_lump.specs.Demo.{IsDemo as IsDoomDemo}
use Rattle.demo_lump.specs.declared.command.Command.{Command}
use Rattle.demo_lump.specs.declared.header.Header.{Header}
use Rattle.later_demos.specs.Demo.{Demo, IsDemo}
use Rattle.later_demos.specs.Doom.{bare_demo}
use Rattle.le_rec.specs.Bytes.{AreBytes}
use Rattle.look_engines.specs.Listing.{listing as doom_listing}
use Rattle.demo_listings.specs.Differences.{AreSame, Differs, SameWrappers}
use Rattle.demo_listings.specs.Listing.{listing}
use Rattle.demo_listings.specs.declared.meaning.Compared.{Compared}
use Rattle.demo_listings.specs.declared.meaning.Compared.TheVariants.{Everything}

-- demos that are the same don't differ
abbrev pub SameOrDiffer : Type 0
SameOrDiffer = (what : Compared) (a b : Demo) (text : List ℕ) → Differs what a b text → ¬ AreSame what a b

-- the bytes of a demo from its version to its marker
abbrev pub played_bytes : (bytes : List ℕ) (demo : Demo) → IsDemo bytes demo → List ℕ
played_bytes bytes demo is = demo.header ++ (is.frame ++ is.body)

-- demos are the same exactly where these bytes are, and what is compared of the wrappers
abbrev pub SameBytes : Type 0
SameBytes =
    (of_a of_b : List ℕ) (a b : Demo) (is : IsDemo of_a a) (other : IsDemo of_b b) → AreBytes of_a → AreBytes of_b
    → AreSame Everything a b ↔ (SameWrappers a b × (played_bytes of_a a is ≡ played_bytes of_b b other))

-- a demo of version 109, 110 or 111 is listed as by `wadlook`
abbrev pub DoomListsAsBefore : Type 0
DoomListsAsBefore =
    (bytes : List ℕ) (header : Header) (commands : List Command) (rest front : List ℕ)
    → IsDoomDemo bytes header commands rest → front ≡ take 13 bytes
    → listing (bare_demo header.version front commands rest)
    ≡ doom_listing (record { header = header; commands = commands; after = length rest })
