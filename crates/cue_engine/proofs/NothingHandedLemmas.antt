-- Nothing more is handed over for a device that is done with, over every life.
use Rattle.std.proofs.Common.{◌≡◌, ℕ, zero, suc, Bool, true, false, not, ◌||◌, List, [], ◌∷◌, ◌++◌, take, drop, refl}
use Rattle.std.proofs.Common.{inl, inr, sym, ap, ◌∙◌, subst, true≢false, IsTrue}
use Rattle.std.specs.List.{list_any}
use Rattle.cue_disk.specs.Disk.{Contents}
use Rattle.cue_core.specs.Batches.{closed_state}
use Rattle.cue_core.specs.declared.event.Event.{Event}
use Rattle.cue_core.specs.Events.{is_end_of}
use Rattle.cue_core.specs.Happenings.{onto}
use Rattle.cue_core.specs.History.{state_of, is_history}
use Rattle.cue_core.specs.Safety.{is_order_to}
use Rattle.cue_core.specs.State.{ShowState, empty_state}
use Rattle.cue_core.specs.Steps.{after_events}
use Rattle.cue_core.proofs.lists.AnyLemmas.{any-append, either, or_left, or_right}
use Rattle.cue_keeper.specs.Stands.{Stands, StandsEither, folded_all}
use Rattle.cue_keeper.proofs.StandingLemmas.{one_state}
use Rattle.cue_outbox.specs.Sending.{Send, all_pending}
use Rattle.cue_engine.specs.Attempts.{is_order_with}
use Rattle.cue_engine.specs.Given.{Input}
use Rattle.cue_engine.specs.Groups.{all_took, batches_given, sends_given}
use Rattle.cue_engine.specs.Headline.{all_handed, handed_in}
use Rattle.cue_engine.specs.Incidents.{Incident, formed, stopped_in_form, committed, handed_out, handed_some, stopped}
use Rattle.cue_engine.specs.Incidents.{stopped_in_commit, recovered, stopped_in_recovery, refused, Store, running}
use Rattle.cue_engine.specs.Incidents.{at_rest, unformed, Happens, LeavesOnly, Permits, PermitsAtRest, PermitsRunning}
use Rattle.cue_engine.specs.Incidents.{left_by}
use Rattle.cue_engine.specs.Kept.{NothingMoreIsHanded}
use Rattle.cue_engine.specs.Recovery.{IsLeftOrStands}
use Rattle.cue_engine.specs.Runs.{Happening, run, given_at, joined_list}
use Rattle.cue_engine.specs.Runs as runs
use Rattle.cue_engine.proofs.AttemptLemmas.{any_first, any_in, contrary, no_any}
use Rattle.cue_engine.proofs.GroupLemmas.{is_a_run}
use Rattle.cue_engine.proofs.HistoryLemmas.{history_next, state_next}
use Rattle.cue_engine.proofs.KeptLemmas.{kept_is_a_history}
use Rattle.cue_engine.proofs.NothingMoreLemmas.{none_sent}

-- it is an order to the device in the attempt
abbrev is_to : ℕ → ℕ → ℕ × Send → Bool
is_to q d m = is_order_with (is_order_to q d) m.1

-- none of them is one
abbrev TellNothing : ℕ → ℕ → List (ℕ × Send) → Type 0
TellNothing q d ms = list_any (is_to q d) ms ≡ true → false ≡ true

any_taken : (p : ℕ × Send → Bool) (n : ℕ) (ms : List (ℕ × Send)) → list_any p (take n ms) ≡ true
    → list_any p ms ≡ true
any_taken p zero ms h = absurd (true≢false (sym h))
any_taken p (suc n) [] h = h
any_taken p (suc n) (m ∷ ms) h =
    either (p m) (list_any p (take n ms)) (p m || list_any p ms) (λ k. or_left (p m) _ k)
    (λ k. or_right (p m) _ (any_taken p n ms k)) h

any_dropped : (p : ℕ × Send → Bool) (n : ℕ) (ms : List (ℕ × Send)) → list_any p (drop n ms) ≡ true
    → list_any p ms ≡ true
any_dropped p zero ms h = h
any_dropped p (suc n) [] h = h
any_dropped p (suc n) (m ∷ ms) h = or_right (p m) _ (any_dropped p n ms h)

-- ---- a state in which the device is done with

-- by a history with this state the device is done with in the attempt
record Done (q d : ℕ) (s : ShowState) : Type 0 where
  past : List Event
  now : state_of past ≡ s
  history : IsTrue (is_history past)
  ended : list_any (is_end_of q d) past ≡ true

done_after : (q d : ℕ) (s : ShowState) (x : Happening) → Done q d s → Done q d (after_events s (given_at s x).batch)
done_after q d s x done =
    let batch : List Event = (given_at s x).batch in
    record {
      past = onto batch done.past;
      now = state_next s done.past batch done.now;
      history = history_next s done.past x done.now done.history;
      ended = any_in (is_end_of q d) batch done.past (or_right (list_any (is_end_of q d) batch) _ done.ended);
    }

done_run : (q d : ℕ) (s : ShowState) (hs : List Happening) → Done q d s → Done q d (run s hs).state
done_run q d s [] done = done
done_run q d s (x ∷ hs) done = done_run q d (after_events s (given_at s x).batch) hs (done_after q d s x done)

done_inputs : (q d : ℕ) (s : ShowState) (inputs : List (ℕ × Input)) → Done q d s
    → Done q d (folded_all s (batches_given s inputs))
done_inputs q d s inputs done = subst (Done q d) (is_a_run s inputs).0 (done_run q d s (all_took inputs) done)

inputs_tell_nothing : (q d : ℕ) (s : ShowState) (inputs : List (ℕ × Input)) → Done q d s
    → TellNothing q d (sends_given s inputs)
inputs_tell_nothing q d s inputs done k =
    none_sent q d s done.past (all_took inputs) done.now done.history done.ended
    (subst (λ (ms : List (ℕ × Send)). list_any (is_to q d) ms ≡ true) (sym (is_a_run s inputs).2) k)

-- ---- a state that was closed

done_closed : (q d : ℕ) (s : ShowState) → Done q d s → Done q d (closed_state s)
unfolding closed_state
done_closed q d s done = done_after q d s runs.recovered done

pending_tells_nothing : (q d : ℕ) (s : ShowState) → Done q d s → TellNothing q d (all_pending (closed_state s))
pending_tells_nothing q d s done k =
    let sends : List (ℕ × Send) = all_pending (closed_state s) in
    none_sent q d s done.past (runs.recovered ∷ []) done.now done.history done.ended
    (any-append (is_to q d) sends [] ∙ or_left (list_any (is_to q d) sends) false k)

-- ---- a store

-- the two stand for such a state
record DoneOn (q d : ℕ) (x y : List ℕ) : Type 0 where
  state : ShowState
  stands : Stands x y state
  done : Done q d state

-- its engine has such a state, and owes the device nothing there; or whatever a crash leaves of its disks stands for one
abbrev Settled : ℕ → ℕ → Store → Type 0
Settled q d (running s owed) = Done q d s × TellNothing q d owed
Settled q d (at_rest one other) = LeavesOnly one other (DoneOn q d)
Settled q d (unformed one other) = ⊥

done_either : (q d : ℕ) (s t : ShowState) (x y : List ℕ) → Done q d s → Done q d t → StandsEither s t x y
    → DoneOn q d x y
done_either q d s t x y before after (inl h) = record { state = s; stands = h; done = before }
done_either q d s t x y before after (inr h) = record { state = t; stands = h; done = after }

running_settles : (q d : ℕ) (s : ShowState) (owed : List (ℕ × Send)) (i : Incident) → PermitsRunning s i → Done q d s
    → TellNothing q d owed → Settled q d (left_by (running s owed) i)
running_settles q d s owed (committed inputs) ok done none = (
  done_inputs q d s inputs done,
  λ k. either (list_any (is_to q d) owed) (list_any (is_to q d) (sends_given s inputs)) false none
      (inputs_tell_nothing q d s inputs done) (sym (any-append (is_to q d) owed (sends_given s inputs)) ∙ k),
)
running_settles q d s owed handed_out ok done none = (done, λ k. k)
running_settles q d s owed (handed_some n) ok done none = (done, λ k. none (any_dropped (is_to q d) n owed k))
running_settles q d s owed (stopped n one other) ok done none =
    λ x y left_x left_y. record { state = s; stands = ok x y left_x left_y; done = done }
running_settles q d s owed (stopped_in_commit inputs n one other) ok done none =
    λ x y left_x left_y. done_either q d s (folded_all s (batches_given s inputs)) x y done
    (done_inputs q d s inputs done) (ok x y left_x left_y)
running_settles q d s owed _ ok done none = absurd ok

-- what was left before a stop within a recovery, or what stands since
stopped_settles : (q d : ℕ) (one other : Contents) (x y : List ℕ) → LeavesOnly one other (DoneOn q d)
    → IsLeftOrStands one other x y → DoneOn q d x y
stopped_settles q d one other x y on (inl left) = on x y left.0 left.1
stopped_settles q d one other x y on (inr since) =
    let was : DoneOn q d since.first since.second =
    on since.first since.second since.left_first since.left_second in
    let before : Done q d since.before =
    subst (Done q d) (one_state since.first since.second was.state since.before was.stands since.stood) was.done in
    done_either q d since.before (closed_state since.before) x y before (done_closed q d since.before before)
    since.stands

resting_settles : (q d : ℕ) (one other : Contents) (i : Incident) → PermitsAtRest one other i
    → LeavesOnly one other (DoneOn q d) → Settled q d (left_by (at_rest one other) i)
resting_settles q d one other (recovered t) ok on =
    let was : DoneOn q d ok.first ok.second = on ok.first ok.second ok.left.0 ok.left.1 in
    let same : closed_state was.state ≡ t =
    ap closed_state (one_state ok.first ok.second was.state ok.closed.before was.stands ok.closed.stood)
    ∙ sym ok.closed.is in
    subst (λ (u : ShowState). Done q d u × TellNothing q d (all_pending u)) same
    (done_closed q d was.state was.done, pending_tells_nothing q d was.state was.done)
resting_settles q d one other (stopped_in_recovery first second) ok on =
    λ x y left_x left_y. stopped_settles q d one other x y on (ok x y left_x left_y)
resting_settles q d one other (refused first second) ok on = λ x y left_x left_y.
    let left = ok x y left_x left_y in
    on x y left.0 left.1
resting_settles q d one other _ ok on = absurd ok

settles : (q d : ℕ) (store : Store) (i : Incident) → Permits store i → Settled q d store
    → Settled q d (left_by store i)
settles q d (running s owed) i ok w = running_settles q d s owed i ok w.0 w.1
settles q d (at_rest one other) i ok w = resting_settles q d one other i ok w
settles q d (unformed one other) i ok w = absurd w

-- ---- what is handed over

running_hands_nothing : (q d : ℕ) (s : ShowState) (owed : List (ℕ × Send)) (i : Incident) → TellNothing q d owed
    → TellNothing q d (handed_in (running s owed) i)
running_hands_nothing q d s owed handed_out none = none
running_hands_nothing q d s owed (handed_some n) none = λ k. none (any_taken (is_to q d) n owed k)
running_hands_nothing q d s owed (stopped n one other) none = λ k. none (any_taken (is_to q d) n owed k)
running_hands_nothing q d s owed (stopped_in_commit inputs n one other) none =
    λ k. none (any_taken (is_to q d) n owed k)
running_hands_nothing q d s owed _ none = λ k. k

resting_hands_nothing : (q d : ℕ) (one other : Contents) (i : Incident) → PermitsAtRest one other i
    → TellNothing q d (handed_in (at_rest one other) i)
resting_hands_nothing q d one other (recovered t) ok = λ k. k
resting_hands_nothing q d one other (stopped_in_recovery first second) ok = λ k. k
resting_hands_nothing q d one other (refused first second) ok = λ k. k
resting_hands_nothing q d one other _ ok = absurd ok

hands_nothing : (q d : ℕ) (store : Store) (i : Incident) → Permits store i → Settled q d store
    → TellNothing q d (handed_in store i)
hands_nothing q d (running s owed) i ok w = running_hands_nothing q d s owed i w.1
hands_nothing q d (at_rest one other) i ok w = resting_hands_nothing q d one other i ok
hands_nothing q d (unformed one other) i ok w = absurd w

none_handed : (q d : ℕ) (store : Store) (is : List Incident) → Happens store is → Settled q d store
    → TellNothing q d (all_handed store is)
none_handed q d store [] ok w = λ k. k
none_handed q d store (i ∷ is) ok w = λ k.
    either (list_any (is_to q d) (handed_in store i)) (list_any (is_to q d) (all_handed (left_by store i) is)) false
    (hands_nothing q d store i ok.0 w)
    (none_handed q d (left_by store i) is ok.1 (settles q d store i ok.0 w))
    (sym (any-append (is_to q d) (handed_in store i) (all_handed (left_by store i) is)) ∙ k)

pub nothing_more_is_handed : NothingMoreIsHanded
nothing_more_is_handed is later kept owed q d are ended none ok =
    let past : List Event = onto (joined_list kept) [] in
    let store : Store = running (after_events empty_state (joined_list kept)) owed in
    let done : Done q d (after_events empty_state (joined_list kept)) = record {
      past = past;
      now = state_next empty_state [] (joined_list kept) refl;
      history = kept_is_a_history is kept are;
      ended = any_first (is_end_of q d) (joined_list kept) ended;
    } in
    no_any (list_any (is_to q d) (all_handed store later))
    (none_handed q d store later ok (done, λ k. contrary (list_any (is_to q d) owed) k none))
