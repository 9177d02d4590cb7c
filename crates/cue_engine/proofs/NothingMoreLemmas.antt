-- Nothing more is sent to a device that is done with.
use Rattle.std.proofs.Common.{◌≡◌, ℕ, Bool, true, false, List, [], ◌∷◌, refl, sym, ap, ◌∙◌, subst, IsTrue}
use Rattle.std.specs.List.{list_any}
use Rattle.cue_core.specs.declared.event.Event.{Event}
use Rattle.cue_core.specs.Events.{is_end_of}
use Rattle.cue_core.specs.State.{ShowState, empty_state}
use Rattle.cue_core.specs.Steps.{after_events}
use Rattle.cue_core.specs.History.{state_of, is_history}
use Rattle.cue_core.specs.Happenings.{onto}
use Rattle.cue_core.specs.Safety.{is_order_to}
use Rattle.cue_core.proofs.history.SafetyLemmas.{nothing-more-is-asked}
use Rattle.cue_core.proofs.lists.AnyLemmas.{either, or_right, any-append}
use Rattle.cue_outbox.specs.Sending.{Send}
use Rattle.cue_engine.specs.Attempts.{accepted_events, is_order_with, NothingMoreIsSent}
use Rattle.cue_engine.specs.Given.{Given}
use Rattle.cue_engine.specs.Runs.{Happening, run, joined_list, given_at}
use Rattle.cue_engine.proofs.AttemptLemmas.{any_in, any_first, no_any, contrary, asks, sent_asks}
use Rattle.cue_engine.proofs.HistoryLemmas.{inputs_make_histories, history_next, onto_next, state_next}

-- a datagram that tells the device anything in the attempt
abbrev tells : ℕ → ℕ → ℕ × Send → Bool
tells q d m = is_order_with (is_order_to q d) m.1

-- a run from a history goes on with it
run-state : (s : ShowState) (past : List Event) (hs : List Happening) → state_of past ≡ s
    → state_of (onto (joined_list (run s hs).batches) past) ≡ (run s hs).state
run-state s past [] now = now
run-state s past (x ∷ hs) now =
    let batch : List Event = (given_at s x).batch in
    let next : ShowState = after_events s batch in
    ap state_of (onto_next batch (run next hs).batches past)
    ∙ run-state next (onto batch past) hs (state_next s past batch now)

-- after a history in which the device is done with, nothing is sent to it
pub none_sent : (q d : ℕ) (s : ShowState) (past : List Event) (later : List Happening) → state_of past ≡ s
    → IsTrue (is_history past) → list_any (is_end_of q d) past ≡ true
    → list_any (tells q d) (run s later).sends ≡ true → false ≡ true
none_sent q d s past [] now h ended k = k
none_sent q d s past (x ∷ later) now h ended k =
    let g : Given = given_at s x in
    let next : ShowState = after_events s g.batch in
    let then : state_of (onto g.batch past) ≡ next = state_next s past g.batch now in
    let now_past = history_next s past x now h in
    let still : list_any (is_end_of q d) (onto g.batch past) ≡ true =
    any_in (is_end_of q d) g.batch past (or_right (list_any (is_end_of q d) g.batch) _ ended) in
    let Q : ShowState → Type 0 = λ t. asks (is_order_to q d) t ≡ true in
    either (list_any (tells q d) g.sends) (list_any (tells q d) (run next later).sends) false
    (λ m. contrary (asks (is_order_to q d) (state_of (onto g.batch past)))
    (subst Q (sym then) (sent_asks (is_order_to q d) s x m))
    (nothing-more-is-asked (onto g.batch past) q d now_past still))
    (none_sent q d next (onto g.batch past) later then now_past still)
    (sym (any-append (tells q d) g.sends (run next later).sends) ∙ k)

pub nothing_more_is_sent : NothingMoreIsSent
nothing_more_is_sent hs later q d ended =
    let past : List Event = onto (accepted_events hs) [] in
    no_any (list_any (tells q d) (run (run empty_state hs).state later).sends)
    (none_sent q d (run empty_state hs).state past later (run-state empty_state [] hs refl) (inputs_make_histories hs)
    (any_first (is_end_of q d) (accepted_events hs) ended))
