-- The smaller buttons that there are.
use Rattle.std.specs.Prelude.{ℕ, Bool, false, ◌&&◌, if◌then◌else◌, List, [], ◌∷◌, ◌++◌, map, Option, None, Some, nat_eq}
use Rattle.std.specs.List.{filter_map, flat_map}
use Rattle.cue_exchange.specs.declared.attempt.DeviceAnswer.{DeviceAnswer}
use Rattle.cue_exchange.specs.declared.attempt.Attempt.{Attempt}
use Rattle.cue_station.specs.declared.lighting.Footing.{Footing}
use Rattle.cue_view.specs.declared.button.Button.{Button}
use Rattle.cue_view.specs.declared.button.Button.TheVariants as button
use Rattle.cue_view.specs.declared.view.Alarm.{Alarm}
use Rattle.cue_view.specs.declared.view.Alarm.TheVariants as alarm

-- the failure of which it is the alarm
abbrev pub failure_of : Alarm → Option ℕ
failure_of (alarm.Failed q) = Some q
failure_of _ = None

-- it is the alarm of the failure q
abbrev pub is_failure_of : ℕ → Alarm → Bool
is_failure_of q (alarm.Failed p) = nat_eq q p
is_failure_of q _ = false

-- those of a live attempt: one chooses it, and each of the others gives a device up
abbrev pub of_attempt : Attempt → List Button
of_attempt a = button.Choose a.seq ∷ map (λ (x : DeviceAnswer). button.Release a.seq x.device) a.answers

-- the moves to the cues of a stack that are lit: each of them, or none
abbrev pub moves_of : Footing → List (List ℕ) → List Button
moves_of f cues = if f.stands && f.is_quiet then map button.MoveTo cues else []

-- those of the live attempts, of the cues of the stack, and of the failures
abbrev pub smaller_of : List Attempt → List (List ℕ) → List Alarm → List Button
smaller_of live cues alarms =
    flat_map of_attempt live ++ (map button.MoveTo cues ++ map button.Seen (filter_map failure_of alarms))
