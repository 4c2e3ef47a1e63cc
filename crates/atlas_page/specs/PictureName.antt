-- The name of a level's picture (ours).
use Rattle.std.specs.Prelude.{ℕ, List, ◌++◌, codes}
use Rattle.std.specs.Fmt.{decimal}

-- the number of its file, from 1, and that of its entry
unfoldable pub picture_name : ℕ → ℕ → List ℕ
picture_name file entry = decimal file ++ (codes "-" ++ (decimal entry ++ codes ".svg"))
