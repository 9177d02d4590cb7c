-- What a state says of the cues: whether one was given.
use Rattle.std.specs.Prelude.{Bool, true, false, List, Option, None, Some}
use Rattle.std.specs.List.{list_any}
use Rattle.cue_core.specs.declared.event.Ended.{Ended}
use Rattle.cue_exchange.specs.Answers.{is_decided}
use Rattle.cue_exchange.specs.declared.attempt.Attempt.{Attempt}
use Rattle.cue_exchange.specs.declared.attempt.Outcome.{Outcome}
use Rattle.cue_exchange.specs.declared.attempt.Outcome.TheVariants as outcome

-- an attempt that has ended so was given
abbrev pub was_given : Outcome → Bool
was_given outcome.Complete = true
was_given outcome.Cancelled = false
was_given outcome.Failed = true

-- an attempt is decided
abbrev pub is_giving : List Attempt → Bool
is_giving live = list_any (λ a. is_decided a.stage) live

-- the attempt that ended last was given
abbrev pub gave_last : Option Ended → Bool
gave_last None = false
gave_last (Some e) = was_given e.outcome
