use Rattle.std.specs.Prelude.{◌≡◌, drop, option_and_then}
use Rattle.cue_loading.specs.Steps.{after_steps, if_taken}
use Rattle.cue_loading.proofs.trial.carry_all_out.Given as goal

-- what was carried out so far, and then what is left, is all
abbrev pub invariant-loop-step : goal.invariant-loop-step
invariant-loop-step l =
    after_steps l.initial.show l.steps
    ≡ option_and_then (λ t. after_steps t (drop l.step-index l.steps)) (if_taken l.all l.show)
