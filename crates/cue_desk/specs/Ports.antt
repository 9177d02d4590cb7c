-- The port at which the controller listens.
use Rattle.std.specs.Prelude.{ℕ, Option, Some, None}

-- the first one, if there is one, or else the second
abbrev pub first_of : Option ℕ → Option ℕ → Option ℕ
first_of (Some port) other = Some port
first_of None other = other

-- the one that was said, or else that of the show file, or else 9100
abbrev pub port_of : Option ℕ → Option ℕ → ℕ
port_of (Some port) file = port
port_of None (Some port) = port
port_of None None = 9100
