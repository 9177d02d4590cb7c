use Rattle.std.proofs.Common.{◌≡◌, map, take}
use Rattle.cue_station.specs.Telling.{end_of, told_of}
use Rattle.cue_station.proofs.telling.told_each.Given as goal

-- the attempts so far are told
abbrev pub invariant-loop-number : goal.invariant-loop-number
invariant-loop-number l =
    l.past.items ≡ map (λ q. told_of l.copy.events.items (end_of l.copy.events.items q)) (take l.number-index l.numbers)
