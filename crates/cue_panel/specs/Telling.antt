-- Which line is said of a message, and of a press.
use Rattle.std.specs.Prelude.{◌≡◌, Bool, if◌then◌else◌, Option, None, Some}
use Rattle.cue_panel.specs.Lines.{Says}
use Rattle.cue_panel.specs.declared.line.Line.{Line}
use Rattle.cue_panel.specs.declared.line.Line.TheVariants as line
use Rattle.cue_panel.specs.declared.lines.Lines.{Lines}
use Rattle.cue_panel.specs.declared.outcome.Outcome.{Outcome}
use Rattle.cue_panel.specs.declared.outcome.Outcome.TheVariants as outcome
use Rattle.cue_panel.specs.declared.pending.What.{What}
use Rattle.cue_panel.specs.declared.taking.Source.{Source}
use Rattle.cue_panel.specs.declared.taking.Strike.{Strike}
use Rattle.cue_panel.specs.declared.taking.Taken.{Taken}
use Rattle.cue_panel.specs.declared.taking.Taken.TheVariants as taken
use Rattle.cue_presses.specs.declared.hand.Struck.{Struck}
use Rattle.cue_presses.specs.declared.hand.Struck.TheVariants as struck
use Rattle.cue_presses.specs.declared.intent.Intent.{Intent}
use Rattle.cue_view.specs.declared.view.View.{View}

-- an intent that presses nothing is told with its reason, and so is a second tap; what was dropped is only counted
abbrev pub struck_line : Source → Intent → Struck → Option Line
struck_line s i (struck.Refused w) = Some (line.NotPressed s i w)
struck_line s i struck.Tap = Some (line.Tap s)
struck_line s i _ = None

-- what is no key is told once of each kind
abbrev pub line_of : Taken → (is_first : Bool) → Option Line
line_of (taken.Struck s i what) is_first = struck_line s i what
line_of (taken.Spoken sp) is_first = Some (line.Spoken sp)
line_of (taken.Held p) is_first = Some (line.Held p)
line_of (taken.Other p) is_first = if is_first then Some (line.NotTaken p) else None
line_of _ is_first = None

-- this is said of a message, whether what is no key is the first of its kind or not
pub record Tells (v : View) (t : Taken) (old new : Lines) : Type 0 where
  pub is_first : Bool
  pub counted : Lines
  pub text : counted.text ≡ old.text
  pub together : counted.together.now ≡ old.together.now
  pub port : counted.port ≡ old.port
  pub says : Says v (line_of t is_first) counted new

-- what pressed what
abbrev pub what_of : Strike → What
what_of s = record { source = s.source; button = s.press.button }

-- a press that was not sent is told at once, with its reason
abbrev pub line_of_press : Strike → Outcome → (is_tapped : Bool) → Option Line
line_of_press s (outcome.Sent ask) is_tapped = None
line_of_press s (outcome.Unsent u) is_tapped =
    if is_tapped then Some (line.Tapped (what_of s)) else Some (line.NotSent (what_of s) u)
line_of_press s outcome.Unheard is_tapped = Some (line.Unheard s.press.button)

-- this is said of a press, whether it is the second tap of one finger or not
pub record TellsPress (v : View) (s : Strike) (o : Outcome) (old new : Lines) : Type 0 where
  pub is_tapped : Bool
  pub says : Says v (line_of_press s o is_tapped) old new
