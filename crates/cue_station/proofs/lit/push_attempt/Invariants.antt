use Rattle.std.proofs.Common.{◌≡◌, ◌++◌, ◌∷◌, map, take}
use Rattle.cue_exchange.specs.declared.attempt.DeviceAnswer.{DeviceAnswer}
use Rattle.cue_view.specs.declared.button.Button.TheVariants as button
use Rattle.cue_station.proofs.lit.push_attempt.Given as goal

-- the devices so far may be given up
abbrev pub invariant-loop-answer : goal.invariant-loop-answer
invariant-loop-answer l =
    l.buttons.items
    ≡ l.fn.buttons.items ++ (button.Choose l.attempt.seq
    ∷ map (λ (x : DeviceAnswer). button.Release l.attempt.seq x.device) (take l.answer-index l.attempt.answers))
