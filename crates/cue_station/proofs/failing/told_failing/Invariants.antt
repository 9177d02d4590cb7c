use Rattle.std.proofs.Common.{◌≡◌, take}
use Rattle.std.specs.List.{flat_map}
use Rattle.cue_station.specs.Keeping.{told_if_failing}
use Rattle.cue_station.proofs.failing.told_failing.Given as goal

-- the attempts so far are told
abbrev pub invariant-loop-attempt : goal.invariant-loop-attempt
invariant-loop-attempt l = l.all.items ≡ flat_map told_if_failing (take l.attempt-index l.live)
