-- The two files of a store.
use Rattle.std.specs.Prelude.{ℕ, List, ◌++◌, codes}

-- the path of the first file of a folder
abbrev pub first_path : List ℕ → List ℕ
first_path dir = dir ++ codes "/a.area"

-- the path of the second file of a folder
abbrev pub second_path : List ℕ → List ℕ
second_path dir = dir ++ codes "/b.area"
