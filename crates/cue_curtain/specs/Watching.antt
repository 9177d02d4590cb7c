-- When a file of marks is read again.
use Rattle.std.specs.Prelude.{◌≢◌, Option}
use Rattle.cue_desk.specs.declared.stamps.Stamp.{Stamp}

-- the system says otherwise of it than when it was read
abbrev pub IsChanged : (read seen : Option Stamp) → Type 0
IsChanged read seen = seen ≢ read
