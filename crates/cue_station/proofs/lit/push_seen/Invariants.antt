use Rattle.std.proofs.Common.{◌≡◌, ◌++◌, map, take}
use Rattle.cue_view.specs.declared.button.Button.TheVariants as button
use Rattle.cue_station.proofs.lit.push_seen.Given as goal

-- the buttons of the failures so far were put there
abbrev pub invariant-loop-seq : goal.invariant-loop-seq
invariant-loop-seq l = l.buttons.items ≡ l.fn.buttons.items ++ map button.Seen (take l.seq-index l.numbers)
