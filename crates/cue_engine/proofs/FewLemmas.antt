-- A command makes at most two events, and so a datagram at most 4,096.
use Rattle.std.proofs.Common.{ℕ, ◌*◌, ◌≤◌, List, [], ◌∷◌, length, Result, Ok, Err, arith, length-append}
use Rattle.cue_core.specs.declared.event.Event.{Event}
use Rattle.cue_core.specs.declared.command.Code.{Code}
use Rattle.cue_core.specs.declared.command.Command.{Command}
use Rattle.cue_core.specs.State.{ShowState}
use Rattle.cue_core.specs.Steps.{after_events}
use Rattle.cue_core.specs.Judge.{judgement_of}
use Rattle.cue_core.proofs.verdicts.CountLemmas.{judgement_of-has}
use Rattle.cue_osc.specs.Content.{Content, message, discarded, bundle}
use Rattle.cue_operator.specs.Commands.{commands_of}
use Rattle.cue_engine.specs.Heard.{carried_out, hear, heard_events, FewEvents, FewInAll, commands_in, all_events}
use Rattle.cue_engine.specs.Heard.{hear_all}
use Rattle.cue_core.specs.InTurn.{steps, events_of}

pub few_events : FewEvents
few_events s now from c = (judgement_of-has s now from c).few

-- ---- a datagram

steps-few : (s : ShowState) (now from : ℕ) (cs : List Command)
    → length (events_of (steps s now from cs)) ≤ 2 * length (steps s now from cs)
steps-few s now from [] = omega arith
steps-few s now from (c ∷ cs) =
    let j = judgement_of s now from c in
    omega (
      arith,
      (judgement_of-has s now from c).few,
      length-append j.1
          (events_of (steps (after_events s j.1) now from cs)),
      steps-few (after_events s j.1) now from cs,
    )

carried-few : (s : ShowState) (now from : ℕ) (a : List ℕ) (r : Result (List Command) Code)
    → length (heard_events (carried_out s now from a r)) ≤ 2 * commands_in (carried_out s now from a r)
carried-few s now from a (Err c) = omega arith
carried-few s now from a (Ok cs) = steps-few s now from cs

hear-few : (s : ShowState) (now from : ℕ) (m : Content)
    → length (heard_events (hear s now from m)) ≤ 2 * commands_in (hear s now from m)
unfolding hear
hear-few s now from (message a xs) = carried-few s now from a (commands_of s.show a xs)
hear-few s now from (discarded a) = omega arith
hear-few s now from (bundle t cs) = omega arith

pub few_in_all : FewInAll
few_in_all s now from [] = omega arith
few_in_all s now from (m ∷ ms) =
    let first : List Event = heard_events (hear s now from m) in
    omega (
      arith,
      hear-few s now from m,
      length-append first (all_events (hear_all (after_events s first) now from ms)),
      few_in_all (after_events s first) now from ms,
    )
