-- A press by a word, turn by turn.
use Rattle.std.specs.Prelude.{ℕ, ◌+◌, ◌-◌, ◌^◌, Bool, not, ◌&&◌, ◌||◌, if◌then◌else◌, Option, None, Some}
use Rattle.std.specs.Prelude.{Result, Ok, Err, is_none, is_some, min, nat_lt}
use Rattle.cue_panel.specs.Lit.{is_lit}
use Rattle.cue_panel.specs.Pending.{became_in, is_open}
use Rattle.cue_panel.specs.declared.outcome.Outcome.{Outcome}
use Rattle.cue_panel.specs.declared.outcome.Outcome.TheVariants as outcome
use Rattle.cue_panel.specs.declared.wish.Act.{Act}
use Rattle.cue_panel.specs.declared.wish.Act.TheVariants as act
use Rattle.cue_panel.specs.declared.wish.End.TheVariants as end
use Rattle.cue_panel.specs.declared.wish.Hindrance.{Hindrance}
use Rattle.cue_panel.specs.declared.wish.Hindrance.TheVariants as hindrance
use Rattle.cue_panel.specs.declared.wish.Stage.{Stage}
use Rattle.cue_panel.specs.declared.wish.Stage.TheVariants as stage
use Rattle.cue_panel.specs.declared.wish.TheConstants.{PATIENCE}
use Rattle.cue_panel.specs.declared.wish.Wish.{Wish}
use Rattle.cue_press_words.specs.Words.{trouble_of}
use Rattle.cue_presses.specs.Meaning.{is_hopeless, meaning}
use Rattle.cue_presses.specs.declared.intent.Intent.{Intent}
use Rattle.cue_presses.specs.declared.pressing.Press.{Press}
use Rattle.cue_presses.specs.declared.pressing.Why.{Why}
use Rattle.cue_view.specs.Whole.{is_complete}
use Rattle.cue_view.specs.declared.view.Became.{Became}
use Rattle.cue_view.specs.declared.view.Became.TheVariants as became
use Rattle.cue_view.specs.declared.view.View.{View}

-- ---- its time

-- how long it is tried: as long as it waits, or three seconds
abbrev pub until_of : Option ℕ → ℕ
until_of (Some wait) = wait
until_of None = PATIENCE

-- one that was not tried yet
abbrev pub fresh : Intent → Option ℕ → Wish
fresh i wait = record { intent = i; waits = is_some wait; until = until_of wait; stage = stage.Trying }

abbrev pub at_stage : Stage → Wish → Wish
at_stage s w = record w { stage = s }

-- ---- what is done

-- what the view says is all that can be known
abbrev pub is_settled : View → Bool
is_settled v = (is_none (trouble_of v) && is_complete v) && not v.differs

-- with something in its way it waits, until its time is over
abbrev pub hindered : (is_over : Bool) → Hindrance → Act
hindered is_over h = if is_over then act.End (end.Hindered h) else act.Wait

-- if it means nothing, by a view that says all: it waits for what may come, if it waits at all
abbrev pub unmeant : Wish → (is_over : Bool) → View → Why → Act
unmeant w is_over v why =
    if not (is_settled v) then hindered is_over hindrance.Dark
    else if w.waits && not (is_hopeless v w.intent why) then hindered is_over (hindrance.Why why)
    else act.End (end.Refused why)

-- what it means by the view is pressed, if that is lit
abbrev pub attempt_by : Result Press Why → Wish → (is_over : Bool) → View → Act
attempt_by (Ok p) w is_over v = if is_lit v p then act.Press p else hindered is_over hindrance.Dark
attempt_by (Err why) w is_over v = unmeant w is_over v why

abbrev pub attempt : Wish → (now : ℕ) → View → Act
attempt w now v = attempt_by (meaning v None w.intent) w (nat_lt w.until now) v

-- what became of it; while the view says nothing of it, it is open
abbrev pub became_by : Option Became → Became
became_by (Some b) = b
became_by None = became.Open

abbrev pub became_of : View → ℕ → Became
became_of v ask = became_by (became_in v ask)

-- once it is sent it is waited for, until it is settled or its time is over
abbrev pub settle : Became → (is_over : Bool) → Act
settle b is_over = if not (is_open b) || is_over then act.End (end.Became b) else act.Wait

abbrev pub act_at : Stage → Wish → (now : ℕ) → View → Act
act_at stage.Trying w now v = attempt w now v
act_at (stage.Sent ask until) w now v = settle (became_of v ask) (nat_lt until now)
act_at stage.Over w now v = act.Wait

-- what is done at a moment, while this view is shown
abbrev pub act_of : Wish → (now : ℕ) → View → Act
act_of w now v = act_at w.stage w now v

-- ---- how it goes on

-- once it has ended it is over
abbrev pub after_act : Act → Wish → Wish
after_act (act.End e) w = at_stage stage.Over w
after_act _ w = w

-- what came of a press: that it was sent, or something in its way
abbrev pub act_after : Wish → (now : ℕ) → Outcome → Act
act_after w now (outcome.Sent ask) = act.Wait
act_after w now (outcome.Unsent u) = hindered (nat_lt w.until now) (hindrance.Unsent u)
act_after w now outcome.Unheard = hindered (nat_lt w.until now) hindrance.Dark

-- one that was sent is waited for three seconds more
abbrev pub after_came : Wish → (now : ℕ) → Outcome → Wish
after_came w now (outcome.Sent ask) = at_stage (stage.Sent ask (min (now + PATIENCE) (2 ^ 64 - 1))) w
after_came w now (outcome.Unsent u) = after_act (hindered (nat_lt w.until now) (hindrance.Unsent u)) w
after_came w now outcome.Unheard = after_act (hindered (nat_lt w.until now) hindrance.Dark) w
