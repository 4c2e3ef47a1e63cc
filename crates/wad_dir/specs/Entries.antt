-- The one list of the entries of several files, numbered on from 0 (W_AddFile of w_wad.c).
use Rattle.std.specs.Prelude.{ℕ, ◌+◌, List, [], ◌∷◌, ◌++◌, map}
use Rattle.le_rec.specs.Name.{name_of}
use Rattle.le_rec.specs.declared.records.Entry.{Entry}
use Rattle.wad_dir.specs.Wad.{Wad}

-- an entry of several files' one list: its file's number, counted from 1, that
-- file's bytes, and the entry
pub record Listed : Type 0 where
  pub file : ℕ
  pub bytes : List ℕ
  pub entry : Entry

abbrev pub listed_in : ℕ → Wad → List Listed
listed_in n file = map (λ e. record { file = n; bytes = file.bytes; entry = e }) file.entries

-- the entries of all files in order, where the first file has a number
abbrev pub joined_from : ℕ → List Wad → List Listed
joined_from n [] = []
joined_from n (file ∷ files) = listed_in n file ++ joined_from (n + 1) files

abbrev pub joined : List Wad → List Listed
joined files = joined_from 1 files

-- the name of an entry of that list
abbrev pub listed_name : Listed → List ℕ
listed_name listed = name_of listed.entry.name

abbrev pub names : List Wad → List (List ℕ)
names files = map listed_name (joined files)

-- the names of one file's entries
abbrev pub names_in : Wad → List (List ℕ)
names_in file = map (λ e. name_of e.name) file.entries
