-- How a class of codes and what a code is found at are written, and whether a level has what a code wants (ours).
use Rattle.std.specs.Prelude.{ℕ, Bool, true, ◌&&◌, List, codes}
use Rattle.level_codes.specs.declared.kind.Class.{Class}
use Rattle.level_codes.specs.declared.kind.Class.TheVariants.{Fault, Note, Warning}
use Rattle.level_codes.specs.declared.kind.Offer.{Offer}
use Rattle.level_codes.specs.declared.kind.Wants.{Wants}
use Rattle.level_codes.specs.declared.kind.Wants.TheVariants.{Lumps, References, Soundness, Textures, Flats, FlatEnds}
use Rattle.level_codes.specs.declared.kind.Kind.{Kind}
use Rattle.level_codes.specs.declared.kind.Kind.TheVariants.{Linedef, Sidedef, Vertex, Seg, Ssector, Node, Sector, Thing, Lump, Block, Whole}

-- a class as it is printed
abbrev pub class_name : Class → List ℕ
class_name Fault = codes "fault"
class_name Note = codes "note"
class_name Warning = codes "warning"

-- a kind as it is printed
abbrev pub kind_name : Kind → List ℕ
kind_name Linedef = codes "linedef"
kind_name Sidedef = codes "sidedef"
kind_name Vertex = codes "vertex"
kind_name Seg = codes "seg"
kind_name Ssector = codes "ssector"
kind_name Node = codes "node"
kind_name Sector = codes "sector"
kind_name Thing = codes "thing"
kind_name Lump = codes "lump"
kind_name Block = codes "block"
kind_name Whole = codes "level"

-- whether what is wanted is among what a level has
abbrev pub are_met : Offer → Wants → Bool
are_met offer Lumps = true
are_met offer References = offer.references
are_met offer Soundness = offer.soundness
are_met offer Textures = offer.references && offer.textures
are_met offer Flats = offer.references && offer.flats
are_met offer FlatEnds = offer.references && offer.flat_ends
