-- How far a question has come, and time.
use Rattle.std.specs.Prelude.{ℕ, ◌+◌, ◌-◌, ◌^◌, Bool, true, false, nat_le, nat_lt, if◌then◌else◌, Option, Some, None}
use Rattle.cue_ask_machine.specs.declared.stage.AskEnd.{AskEnd}
use Rattle.cue_ask_machine.specs.declared.stage.AskEnd.TheVariants as end
use Rattle.cue_ask_machine.specs.declared.stage.Stage.{Stage}
use Rattle.cue_ask_machine.specs.declared.stage.Stage.TheVariants as stage

-- the highest moment that there is room for
abbrev pub highest : ℕ
highest = 2 ^ 64 - 1

-- a second later, 1,000 milliseconds, or the highest moment
abbrev pub second_after : ℕ → ℕ
second_after since = if nat_lt since (highest - 1000) then since + 1000 else highest

-- what is not answered ends once that moment has come
abbrev pub silent_at : ℕ → ℕ → Option AskEnd
silent_at since now = if nat_le (second_after since) now then Some end.Silent else None

-- what was lost is the message, if it was to have left: it is sent again, once
abbrev pub stage_lost : Stage → Stage
stage_lost stage.Names = stage.Names
stage_lost (stage.Asks again) = stage.Asks again
stage_lost (stage.Waits since again) = if again then stage.Over end.Lost else stage.Asks true
stage_lost (stage.Over e) = stage.Over e

-- at once while something is to be sent; then a second after the message was sent
abbrev pub stage_wakes : Stage → Option ℕ
stage_wakes stage.Names = Some 0
stage_wakes (stage.Asks again) = Some 0
stage_wakes (stage.Waits since again) = Some (second_after since)
stage_wakes (stage.Over e) = None

-- how it ended
abbrev pub end_of : Stage → Option AskEnd
end_of stage.Names = None
end_of (stage.Asks again) = None
end_of (stage.Waits since again) = None
end_of (stage.Over e) = Some e

-- whether it is over
abbrev pub stage_over : Stage → Bool
stage_over stage.Names = false
stage_over (stage.Asks again) = false
stage_over (stage.Waits since again) = false
stage_over (stage.Over e) = true
