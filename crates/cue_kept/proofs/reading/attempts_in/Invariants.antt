use Rattle.std.proofs.Common.{◌≡◌, ◌-◌}
use Rattle.cue_kept.proofs.LoopLemmas.{onto}
use Rattle.cue_kept.specs.Reading.{attempt_at, items_at}
use Rattle.cue_kept.proofs.reading.attempts_in.Given as goal

-- those so far, and what is read of the rest, are all
abbrev pub invariant-loop : goal.invariant-loop
invariant-loop l =
    items_at attempt_at l.count l.text ≡ onto l.attempts.items (items_at attempt_at (l.count - l.counter) l.rest)
