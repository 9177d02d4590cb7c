-- Which buttons the newest views have offered.
use Rattle.std.specs.Prelude.{ℕ, Bool, false, ◌&&◌, List, take, map, nat_eq, nat_le, ◌+◌}
use Rattle.std.specs.List.{list_any}
use Rattle.cue_show.specs.Number.{same_text}
use Rattle.cue_view.specs.declared.button.Button.{Button}
use Rattle.cue_view.specs.declared.button.Button.TheVariants as button
use Rattle.cue_station.specs.declared.limits.TheConstants.{PRESS_MS, KEPT_VIEWS}
use Rattle.cue_station.specs.declared.memory.Shown.{Shown}
use Rattle.cue_station.specs.Turns.{Turn}

-- ---- one button

abbrev pub is_standby : List ℕ → Button → Bool
is_standby c (button.Standby d) = same_text c d
is_standby c _ = false

abbrev pub is_go : List ℕ → ℕ → Button → Bool
is_go c q (button.Go d p) = same_text c d && nat_eq q p
is_go c q _ = false

abbrev pub is_cancel : List ℕ → ℕ → Button → Bool
is_cancel c q (button.Cancel d p) = same_text c d && nat_eq q p
is_cancel c q _ = false

abbrev pub is_release : ℕ → ℕ → Button → Bool
is_release q d (button.Release p e) = nat_eq q p && nat_eq d e
is_release q d _ = false

abbrev pub is_move : List ℕ → Button → Bool
is_move c (button.MoveTo d) = same_text c d
is_move c _ = false

abbrev pub is_choice : ℕ → Button → Bool
is_choice q (button.Choose p) = nat_eq q p
is_choice q _ = false

abbrev pub is_seen : ℕ → Button → Bool
is_seen q (button.Seen p) = nat_eq q p
is_seen q _ = false

-- the two buttons are the same, for the same cue, attempt and device
abbrev pub same_button : Button → Button → Bool
same_button (button.Standby c) b = is_standby c b
same_button (button.Go c q) b = is_go c q b
same_button (button.Cancel c q) b = is_cancel c q b
same_button (button.Release q d) b = is_release q d b
same_button (button.MoveTo c) b = is_move c b
same_button (button.Choose q) b = is_choice q b
same_button (button.Seen q) b = is_seen q b

-- the button is one of those that are lit
abbrev pub is_lit : Button → List Button → Bool
is_lit b lit = list_any (same_button b) lit

-- ---- the views

-- what is kept of a view: its number, its moment and what was lit
abbrev pub kept_in : Turn → Shown
kept_in t = record { number = t.view.number; at = t.view.at; lit = t.view.lit.items }

-- the newest views
abbrev pub kept_of : List Turn → List Shown
kept_of turns = take KEPT_VIEWS (map kept_in turns)

-- the view has the number, and is young
abbrev pub is_recent : ℕ → ℕ → Shown → Bool
is_recent view now s = nat_eq s.number view && nat_le now (s.at + PRESS_MS)

-- and it has the button lit
abbrev pub offers : ℕ → ℕ → Button → Shown → Bool
offers view now b s = is_recent view now s && is_lit b s.lit

abbrev pub is_offered : ℕ → ℕ → Button → List Shown → Bool
is_offered view now b views = list_any (offers view now b) views
