-- The window that the board is drawn in.
use Rattle.std.specs.Prelude.{ℕ, ◌/◌, Bool, true, false, Option, Some, None}

-- the rows that are given
abbrev pub rows_of : Option ℕ → ℕ
rows_of (Some rows) = rows
rows_of None = 24

-- the rows of the window: none if the board is printed once, and 24 if they are not given
abbrev pub window_of : Bool → Option ℕ → Option ℕ
window_of true given = None
window_of false given = Some (rows_of given)

-- how many devices that stand elsewhere have room: a quarter of the rows, or all if the board is printed once
abbrev pub elsewhere_room : Option ℕ → Option ℕ
elsewhere_room None = None
elsewhere_room (Some rows) = Some (rows / 4)
