-- What comes of a press, and what a hand makes of it.
use Rattle.std.specs.Prelude.{Option, None, Some}
use Rattle.cue_panel.specs.declared.outcome.Outcome.{Outcome}
use Rattle.cue_panel.specs.declared.outcome.Outcome.TheVariants as outcome
use Rattle.cue_presses.specs.declared.hand.Hand.{Hand}
use Rattle.cue_presses.specs.declared.pressing.Press.{Press}
use Rattle.cue_presses.specs.Hand.{sent}
use Rattle.cue_view.specs.declared.view.Said.{Said}
use Rattle.cue_view.specs.declared.view.Unsent.{Unsent}
use Rattle.cue_view.specs.declared.view.Unsent.TheVariants as unsent
use Rattle.cue_view.specs.declared.view.View.{View}

-- what a view says of the press that was heard last: why it was not sent, or by which ask it was
abbrev pub outcome_by : Option Unsent → Option Said → Outcome
outcome_by (Some u) s = outcome.Unsent u
outcome_by None (Some s) = outcome.Sent s.ask
outcome_by None None = outcome.Unsent unsent.Dark

abbrev pub outcome_of : View → Outcome
outcome_of v = outcome_by v.unsent v.said

-- how the hand stands once this came of a press: it remembers a GO that was sent
abbrev pub hand_after : Press → Outcome → View → Hand → Hand
hand_after p (outcome.Sent ask) v h = sent v p.button h
hand_after p (outcome.Unsent u) v h = h
hand_after p outcome.Unheard v h = h
