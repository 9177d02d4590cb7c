use Rattle.std.proofs.Common.{◌≡◌, ◌++◌, take}
use Rattle.std.specs.List.{flat_map}
use Rattle.cue_station.specs.Smaller.{of_attempt}
use Rattle.cue_station.proofs.lit.push_attempts.Given as goal

-- the buttons of the attempts so far were put there
abbrev pub invariant-loop-attempt : goal.invariant-loop-attempt
invariant-loop-attempt l =
    l.buttons.items ≡ l.fn.buttons.items ++ flat_map of_attempt (take l.attempt-index l.live)
