-- What is pressed first, and whether it is lit.
use Rattle.std.specs.Prelude.{ℕ, Bool, false, ◌&&◌, List, Option, None, Some, nat_eq}
use Rattle.std.specs.List.{list_any}
use Rattle.cue_presses.specs.declared.pressing.Press.{Press}
use Rattle.cue_show.specs.Number.{same_text}
use Rattle.cue_view.specs.declared.button.Button.{Button}
use Rattle.cue_view.specs.declared.button.Button.TheVariants as button
use Rattle.cue_view.specs.declared.view.View.{View}

abbrev pub is_standby : List ℕ → Button → Bool
is_standby c (button.Standby d) = same_text c d
is_standby c _ = false

abbrev pub is_go : List ℕ → ℕ → Button → Bool
is_go c q (button.Go d p) = same_text c d && nat_eq q p
is_go c q _ = false

abbrev pub is_cancel : List ℕ → ℕ → Button → Bool
is_cancel c q (button.Cancel d p) = same_text c d && nat_eq q p
is_cancel c q _ = false

abbrev pub is_choice : ℕ → Button → Bool
is_choice q (button.Choose p) = nat_eq q p
is_choice q _ = false

-- the same STANDBY, GO, CANCEL or choice, for the same cue and attempt; no word means another button
abbrev pub is_same : Button → Button → Bool
is_same (button.Standby c) b = is_standby c b
is_same (button.Go c q) b = is_go c q b
is_same (button.Cancel c q) b = is_cancel c q b
is_same (button.Choose q) b = is_choice q b
is_same _ b = false

-- the choice of the attempt comes first, if there is one to make
abbrev pub first_by : Option ℕ → Button → Button
first_by (Some q) b = button.Choose q
first_by None b = b

abbrev pub first_of : Press → Button
first_of p = first_by p.choose p.button

-- what is pressed first is lit in this view
abbrev pub is_lit : View → Press → Bool
is_lit v p = list_any (is_same (first_of p)) v.lit.items
