-- Why a demo isn't read, in words (ours).
use Rattle.std.specs.Prelude.{ℕ, List, [], ◌∷◌, ◌++◌, Option, codes}
use Rattle.later_demos.specs.FaultText.{fault_text}
use Rattle.demo_engines.specs.Summary.{heading_text}
use Rattle.demo_engines.specs.declared.refusal.DemoRefusal.{DemoRefusal}
use Rattle.demo_engines.specs.declared.refusal.DemoRefusal.TheVariants.{Outside, Unread}

-- why a lump that should be a demo isn't read: it leaves its file
abbrev pub outside_text : List ℕ
outside_text = codes "outside its file"

-- why a demo isn't read
abbrev pub reason_text : DemoRefusal → List ℕ
reason_text Outside = outside_text
reason_text (Unread fault) = fault_text fault

-- the message about a demo that isn't read
abbrev pub refusal_line : List ℕ → Option (List ℕ) → List ℕ → List ℕ
refusal_line path lump why = codes "wadlens: " ++ (heading_text path lump ++ (why ++ 10 ∷ []))
