-- How an attempt ends, as the log says it.
use Rattle.std.specs.Prelude.{List, [], ◌∷◌}
use Rattle.cue_exchange.specs.declared.attempt.Outcome.{Outcome}
use Rattle.cue_exchange.specs.declared.attempt.Outcome.TheVariants.{Complete, Cancelled, Failed}
use Rattle.cue_exchange.specs.declared.attempt.Stage.{Stage}
use Rattle.cue_exchange.specs.declared.attempt.Stage.TheVariants.{Preparing, Decided, Cancelling}
use Rattle.cue_log_lines.specs.declared.listed.Failure.{Failure}

-- an attempt that was decided is complete if no device failed, and one that was not decided is cancelled
abbrev pub end_of : Stage → List Failure → Outcome
end_of Preparing failures = Cancelled
end_of (Cancelling reason) failures = Cancelled
end_of Decided [] = Complete
end_of Decided (failure ∷ failures) = Failed
