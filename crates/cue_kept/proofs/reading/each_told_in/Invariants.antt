use Rattle.std.proofs.Common.{◌≡◌, ◌-◌}
use Rattle.cue_kept.proofs.LoopLemmas.{onto}
use Rattle.cue_kept.specs.Reading.{told_at, items_at}
use Rattle.cue_kept.proofs.reading.each_told_in.Given as goal

-- those so far, and what is read of the rest, are all
abbrev pub invariant-loop : goal.invariant-loop
invariant-loop l =
    items_at told_at l.count l.text ≡ onto l.failures.items (items_at told_at (l.count - l.counter) l.rest)
