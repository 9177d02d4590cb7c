use Rattle.std.proofs.Common.{◌≡◌, ◌++◌}
use Rattle.cue_station.specs.Evening.{Plays}
use Rattle.cue_station.proofs.evening.play.Given as goal

-- what was heard so far, and what is left, is all; and the evening so far keeps the law
abbrev pub invariant-loop-input : goal.invariant-loop-input
invariant-loop-input l =
    record {
      split : l.yielded ++ l.input-iterator.rest.items ≡ l.fn.inputs.items;
      plays : Plays l.fn.station l.yielded l.steps.items l.station;
    }
