-- Where devices stand, in a file beside that of the alarms.
use Rattle.std.specs.Prelude.{ℕ, List, ◌++◌, codes}

-- the path of that file
abbrev pub beside : List ℕ → List ℕ
beside alarms = alarms ++ codes ".devices"
