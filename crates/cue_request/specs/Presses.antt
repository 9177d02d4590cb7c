-- What a press is, as a text.
use Rattle.std.specs.Prelude.{ℕ, List, ◌++◌, codes}
use Rattle.std.specs.Fmt.{decimal}
use Rattle.cue_view.specs.declared.button.Button.{Button}
use Rattle.cue_view.specs.declared.button.Button.TheVariants as button

-- a button: its word, and then the cue, the attempt or the device that it is for
abbrev pub press_of : Button → List ℕ
press_of (button.Standby cue) = codes "standby " ++ cue
press_of (button.Go cue attempt) = codes "go " ++ (cue ++ (codes " " ++ decimal attempt))
press_of (button.Cancel cue attempt) = codes "cancel " ++ (cue ++ (codes " " ++ decimal attempt))
press_of (button.Release attempt device) = codes "release " ++ (decimal attempt ++ (codes " " ++ decimal device))
press_of (button.MoveTo cue) = codes "goto " ++ cue
press_of (button.Choose attempt) = codes "choose " ++ decimal attempt
press_of (button.Seen attempt) = codes "seen " ++ decimal attempt

-- the body of a press: the number of the view that was shown, a space, and one of its buttons
abbrev pub body_of : ℕ → Button → List ℕ
body_of view b = decimal view ++ (codes " " ++ press_of b)
