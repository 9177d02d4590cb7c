-- The lit buttons: Move here apart from the others.
use Rattle.std.specs.Prelude.{Bool, true, false, not}
use Rattle.cue_view.specs.declared.button.Button.{Button}
use Rattle.cue_view.specs.declared.button.Button.TheVariants as button

-- it moves to a cue
abbrev pub is_move : Button → Bool
is_move (button.MoveTo c) = true
is_move _ = false

-- it does not
abbrev pub is_other : Button → Bool
is_other b = not (is_move b)
