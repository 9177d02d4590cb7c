-- What comes is a history.
use Rattle.std.proofs.Common.{◌≡◌, ℕ, true, List, [], ◌∷◌, Result, Ok, Err, refl, sym, ap, ◌∙◌, subst, IsTrue, nat_le}
use Rattle.cue_exchange.specs.declared.attempt.Reason.TheVariants.{Deadline, Power}
use Rattle.cue_exchange.specs.Answers.{is_preparing}
use Rattle.cue_exchange.specs.Live.{is_due}
use Rattle.cue_core.specs.declared.event.Event.{Event}
use Rattle.cue_core.specs.declared.command.Code.{Code}
use Rattle.cue_core.specs.declared.command.Command.{Command}
use Rattle.cue_core.specs.State.{ShowState, empty_state, is_state}
use Rattle.cue_core.specs.Steps.{are_acceptable, after_events}
use Rattle.cue_core.specs.History.{state_of, is_history}
use Rattle.cue_core.specs.Happenings.{onto, ticked, recovered, events_at, is_undecided}
use Rattle.cue_core.proofs.lists.ConditionLemmas.{both}
use Rattle.cue_core.proofs.rules.SoundLemmas.{is_state-history, sound_of}
use Rattle.cue_core.proofs.history.FactLemmas.{go-after-ready}
use Rattle.cue_osc.specs.Content.{Content, message, discarded, bundle}
use Rattle.cue_operator.specs.Commands.{commands_of}
use Rattle.cue_engine.specs.Heard.{carried_out, hear, heard_events, hear_all, all_events}
use Rattle.cue_engine.specs.Given.{Input, datagram, tick, given_of}
use Rattle.cue_engine.specs.Runs.{Happening, took, given_at, run, joined_list, with_batch, InputsMakeHistories}
use Rattle.cue_engine.specs.Runs.{InputsInOrder}
use Rattle.cue_engine.specs.Runs as runs
use Rattle.cue_operator.proofs.FittingLemmas.{are_fit, commands-fit}
use Rattle.cue_core.proofs.history.HappeningLemmas.{cancels-acceptable, history-onto}
use Rattle.cue_core.proofs.rules.BatchLemmas.{acceptable-append, is_state-after_events, state-onto, onto-append}
use Rattle.cue_core.proofs.verdicts.StepLemmas.{steps-acceptable}
use Rattle.cue_engine.proofs.InputLemmas.{datagram_case}
use Rattle.cue_engine.proofs.SentLemmas.{joined-with}

-- ---- what is judged is acceptable in turn

carried-ok : (s : ShowState) (now from : ℕ) (a : List ℕ) (r : Result (List Command) Code) → IsTrue (is_state s)
    → are_fit r ≡ true → are_acceptable s (heard_events (carried_out s now from a r)) ≡ true
carried-ok s now from a (Err c) h f = refl
carried-ok s now from a (Ok cs) h f = steps-acceptable s now from cs h f

hear-ok : (s : ShowState) (now from : ℕ) (m : Content) → IsTrue (is_state s)
    → are_acceptable s (heard_events (hear s now from m)) ≡ true
unfolding hear
hear-ok s now from (message a xs) h = carried-ok s now from a (commands_of s.show a xs) h (commands-fit s.show a xs)
hear-ok s now from (discarded a) h = refl
hear-ok s now from (bundle t cs) h = refl

pub hear_all-ok : (s : ShowState) (now from : ℕ) (ms : List Content) → IsTrue (is_state s)
    → are_acceptable s (all_events (hear_all s now from ms)) ≡ true
hear_all-ok s now from [] h = refl
hear_all-ok s now from (m ∷ ms) h =
    let first = heard_events (hear s now from m) in
    let ok = hear-ok s now from m h in
    acceptable-append s first (all_events (hear_all (after_events s first) now from ms)) ok
    (hear_all-ok (after_events s first) now from ms (is_state-after_events s first h ok))

pub tick-ok : (s : ShowState) (now : ℕ) → IsTrue (is_state s) → are_acceptable s (events_at s (ticked now)) ≡ true
tick-ok s now h = cancels-acceptable (is_due now) Deadline s
    (λ a k. (both (is_preparing a.stage) (nat_le a.deadline now) k).0) (sound_of s h).rises

pub recovery-ok : (s : ShowState) → IsTrue (is_state s) → are_acceptable s (events_at s recovered) ≡ true
recovery-ok s h = cancels-acceptable is_undecided Power s (λ a k. k) (sound_of s h).rises

-- the batch of each input is acceptable in turn
pub input-ok : (s : ShowState) (now : ℕ) (i : Input) → IsTrue (is_state s)
    → IsTrue (are_acceptable s (given_of s now i).batch)
unfolding given_of
input-ok s now (datagram from bytes) h = datagram_case (λ g. IsTrue (are_acceptable s g.batch)) s now from bytes
    (λ why. refl) (λ ms few. hear_all-ok s now from ms h)
input-ok s now tick h = tick-ok s now h

pub happening-ok : (s : ShowState) (x : Happening) → IsTrue (is_state s) → are_acceptable s (given_at s x).batch ≡ true
happening-ok s (took now input) h = input-ok s now input h
happening-ok s runs.recovered h = recovery-ok s h

-- ---- whole runs

-- a batch more, as the state has it and as the history has it
pub state_next : (s : ShowState) (past es : List Event) → state_of past ≡ s
    → state_of (onto es past) ≡ after_events s es
state_next s past es same = state-onto past es ∙ ap (λ t. after_events t es) same

pub onto_next : (es : List Event) (batches : List (List Event)) (past : List Event)
    → onto (joined_list (with_batch es batches)) past ≡ onto (joined_list batches) (onto es past)
onto_next es batches past = ap (λ xs. onto xs past) (joined-with es batches) ∙ onto-append es (joined_list batches) past

pub history_next : (s : ShowState) (past : List Event) (x : Happening) → state_of past ≡ s → IsTrue (is_history past)
    → IsTrue (is_history (onto (given_at s x).batch past))
history_next s past x same h = let P : ShowState → Type 0 = λ t. IsTrue (is_history (onto (given_at t x).batch past)) in
    subst P same (history-onto (given_at (state_of past) x).batch past h
    (happening-ok (state_of past) x (is_state-history past h)))

run-history : (s : ShowState) (past : List Event) (hs : List Happening) → state_of past ≡ s → IsTrue (is_history past)
    → IsTrue (is_history (onto (joined_list (run s hs).batches) past))
run-history s past [] same h = h
run-history s past (x ∷ hs) same h =
    let es : List Event = (given_at s x).batch in
    let next : ShowState = after_events s es in
    let P : List Event → Type 0 = λ xs. IsTrue (is_history xs) in
    subst P (sym (onto_next es (run next hs).batches past))
    (run-history next (onto es past) hs (state_next s past es same) (history_next s past x same h))

pub inputs_make_histories : InputsMakeHistories
inputs_make_histories hs = run-history empty_state [] hs refl refl

pub inputs_in_order : InputsInOrder
inputs_in_order hs = go-after-ready (onto (joined_list (run empty_state hs).batches) []) (inputs_make_histories hs)
