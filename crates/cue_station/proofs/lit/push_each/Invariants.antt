use Rattle.std.proofs.Common.{◌≡◌, ◌++◌, map, take}
use Rattle.cue_view.specs.declared.button.Button.TheVariants as button
use Rattle.cue_station.proofs.lit.push_each.Given as goal

-- the buttons of the cues so far were put there
abbrev pub invariant-loop-cue : goal.invariant-loop-cue
invariant-loop-cue l =
    l.buttons.items ≡ l.fn.buttons.items ++ map button.MoveTo (take l.cue-index l.cues)
