use Rattle.std.proofs.Common.{◌≡◌, take}
use Rattle.cue_station.proofs.keeping.told_copies.Given as goal

-- the same of those so far
abbrev pub invariant-loop-told : goal.invariant-loop-told
invariant-loop-told l = l.copies.items ≡ take l.told-index l.fn.all
