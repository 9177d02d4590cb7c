use Rattle.std.proofs.Common.{◌≡◌, map, take}
use Rattle.cue_station.specs.Showing.{given_in, shown_attempt, since_in}
use Rattle.cue_station.proofs.showing.live_of.Given as goal

-- the attempts so far are shown
abbrev pub invariant-loop-attempt : goal.invariant-loop-attempt
invariant-loop-attempt l =
    l.live.items
    ≡ map (shown_attempt l.stands (since_in l.seen) (given_in l.seen) l.copy.events.items l.at l.wall)
    (take l.attempt-index l.attempts)
