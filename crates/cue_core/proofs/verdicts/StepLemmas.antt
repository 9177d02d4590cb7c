-- Commands that are judged in turn.
use Rattle.std.proofs.Common.{List, [], ◌∷◌, ◌++◌, refl, sym, ◌∙◌, ap}
use Rattle.std.specs.List.{list_all}
use Rattle.cue_core.specs.declared.event.Event.{Event}
use Rattle.cue_core.specs.Steps.{after_events}
use Rattle.cue_core.specs.Judge.{judgement_of, is_fit}
use Rattle.cue_core.specs.History.{state_of}
use Rattle.cue_core.specs.Happenings.{commanded, history_of, onto}
use Rattle.cue_core.specs.InTurn.{step_of, steps, events_of, StepsAreAcceptable, StepsGoOn, StepsMakeHistories}
use Rattle.cue_core.proofs.lists.ConditionLemmas.{both}
use Rattle.cue_core.proofs.verdicts.JudgementLemmas.{judgement_of-acceptable}
use Rattle.cue_core.proofs.rules.ApplyLemmas.{after_events-append}
use Rattle.cue_core.proofs.rules.BatchLemmas.{acceptable-append, is_state-after_events, state-onto, onto-append}

pub steps-acceptable : StepsAreAcceptable
steps-acceptable s now from [] h f = refl
steps-acceptable s now from (c ∷ cs) h f =
    let w = both (is_fit c) (list_all is_fit cs) f in
    let made : List Event = (judgement_of s now from c).1 in
    let ok = judgement_of-acceptable s now from c h w.0 in
    acceptable-append s made (events_of (steps (after_events s made) now from cs)) ok
    (steps-acceptable (after_events s made) now from cs (is_state-after_events s made h ok) w.1)

pub steps-go-on : StepsGoOn
steps-go-on s now from [] others = refl
steps-go-on s now from (c ∷ cs) others =
    let made : List Event = (judgement_of s now from c).1 in
    ap (λ xs. step_of s now from c ∷ xs)
    (steps-go-on (after_events s made) now from cs others
    ∙ ap (λ t. steps (after_events s made) now from cs ++ steps t now from others)
    (sym (after_events-append s made (events_of (steps (after_events s made) now from cs)))))

pub steps-make-histories : StepsMakeHistories
steps-make-histories before now from [] = refl
steps-make-histories before now from (c ∷ cs) =
    let past : List Event = history_of before in
    let made : List Event = (judgement_of (state_of past) now from c).1 in
    steps-make-histories (commanded now from c ∷ before) now from cs
    ∙ (ap (λ s. onto (events_of (steps s now from cs)) (onto made past)) (state-onto past made)
    ∙ sym (onto-append made (events_of (steps (after_events (state_of past) made) now from cs)) past))
