-- Times in words.
use Rattle.std.specs.Prelude.{ℕ, List, ◌++◌, codes, ◌/◌, ◌%◌}
use Rattle.std.specs.Fmt.{decimal}

-- seconds with one digit after the point, as 8.1
abbrev pub seconds : ℕ → List ℕ
seconds millis = decimal (millis / 1000) ++ (codes "." ++ decimal (millis % 1000 / 100))
