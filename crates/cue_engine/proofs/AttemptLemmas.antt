-- What an attempt may count on, out of the laws on histories.
use Rattle.std.proofs.Common.{◌≡◌, ℕ, ◌+◌, ◌<◌, Bool, true, false, not, ◌&&◌, ◌||◌, List, [], ◌∷◌, ◌++◌, nat_eq, refl}
use Rattle.std.proofs.Common.{sym, ap, ◌∙◌, subst, arith, true≢false, IsTrue}
use Rattle.std.proofs.lemmas.Bool.Decides.{nat_tests}
use Rattle.std.specs.List.{list_any, list_all}
use Rattle.cue_show.specs.declared.part.Part.{Part}
use Rattle.cue_core.specs.declared.event.Event.{Event}
use Rattle.cue_core.specs.declared.event.Event.TheVariants as event
use Rattle.cue_core.specs.Events.{is_start_of, is_ready_of, is_go_of, is_cancel_of, is_excuse_of}
use Rattle.cue_core.proofs.history.TellsLemmas.{is_about}
use Rattle.cue_core.specs.State.{ShowState, empty_state}
use Rattle.cue_core.specs.Steps.{acceptable, after_events}
use Rattle.cue_core.specs.History.{state_of, is_history, parts_by}
use Rattle.cue_core.specs.InOrder.{may_go_by, keeps_order, is_in_order}
use Rattle.cue_core.specs.Happenings.{onto}
use Rattle.cue_core.specs.Pending.{Order, pending}
use Rattle.cue_core.specs.Safety.{is_go_to, is_cancel_to, ever}
use Rattle.cue_core.proofs.lists.ConditionLemmas.{both, join}
use Rattle.cue_core.proofs.rules.SoundLemmas.{kept-history}
use Rattle.cue_core.proofs.history.SafetyLemmas.{never-asked-both}
use Rattle.cue_outbox.specs.Sending.{Send, order, all_pending}
use Rattle.cue_engine.specs.Given.{Given}
use Rattle.cue_engine.specs.Runs.{Happening, run, joined_list, given_at}
use Rattle.cue_engine.specs.Attempts.{accepted_events, IsDecidedInOrder, DecidedInOrder, NumberNamesOne, is_order_with}
use Rattle.cue_engine.specs.Attempts.{was_sent, NeverSentBoth}
use Rattle.cue_core.proofs.lists.AnyLemmas.{or_left, or_right, either, itself, same, any-append, any-implied}
use Rattle.cue_core.proofs.lists.AnyLemmas.{any-mapped, all_implied}
use Rattle.cue_engine.proofs.HistoryLemmas.{inputs_make_histories, inputs_in_order, onto_next, state_next}
use Rattle.cue_core.proofs.rules.BatchLemmas.{onto-append}
use Rattle.cue_engine.proofs.SentLemmas.{Each, HoldsElsewhere, happening-each}

-- ---- histories, from their front to their back

-- what stands in a history stands in the events or in what was before them
any_of : (p : Event → Bool) (es past : List Event) → list_any p (onto es past) ≡ (list_any p es || list_any p past)
any_of p [] past = refl
any_of p (e ∷ es) past = any_of p es (e ∷ past) ∙ by (p e) (list_any p es)
  where
    by : (b c : Bool) → (c || (b || list_any p past)) ≡ ((b || c) || list_any p past)
    by true true = refl
    by true false = refl
    by false c = refl

-- what stands in the events stands in their history
pub any_in : (p : Event → Bool) (es past : List Event) → (list_any p es || list_any p past) ≡ true
    → list_any p (onto es past) ≡ true
any_in p es past h = any_of p es past ∙ h

-- with nothing before them
pub any_first : (p : Event → Bool) (es : List Event) → list_any p es ≡ true → list_any p (onto es []) ≡ true
any_first p es h = any_in p es [] (or_left (list_any p es) false h)

any_back : (p : Event → Bool) (es : List Event) → list_any p (onto es []) ≡ true → list_any p es ≡ true
any_back p es h = by (list_any p es) (sym (any_of p es []) ∙ h)
  where
    by : (a : Bool) → (a || false) ≡ true → a ≡ true
    by true k = refl
    by false k = k

pub no_any : (b : Bool) → (b ≡ true → false ≡ true) → not b ≡ true
no_any true h = h refl
no_any false h = refl

pub contrary : {A : Type 0} (b : Bool) → b ≡ true → not b ≡ true → A
contrary true h k = absurd (true≢false (sym k))
contrary false h k = absurd (true≢false (sym h))

module _ (P : List Event → Type 0) (back : (e : Event) (past : List Event) → P (e ∷ past) → P past) where
  -- what holds of a history holds of what was before its last events
  before_all : (es past : List Event) → P (onto es past) → P past
  before_all [] past h = h
  before_all (e ∷ es) past h = back e past (before_all es (e ∷ past) h)

  -- behind one event the other kind never comes next, and so it never comes
  none_later : (first then : Event → Bool)
      → ((e : Event) (past : List Event) → P (e ∷ past) → list_any first past ≡ true → then e ≡ true → false ≡ true)
      → (es past : List Event) → P (onto es past) → list_any first past ≡ true → list_any then es ≡ true → false ≡ true
  none_later first then never [] past h there k = k
  none_later first then never (e ∷ es) past h there k =
      either (then e) (list_any then es) false (never e past (before_all es (e ∷ past) h) there)
      (none_later first then never es (e ∷ past) h (or_right (first e) _ there)) k

abbrev IsHistory : List Event → Type 0
IsHistory past = IsTrue (is_history past)

history_back : (e : Event) (past : List Event) → IsHistory (e ∷ past) → IsHistory past
history_back e past h = (both (acceptable (state_of past) e) (is_history past) h).1

abbrev IsInOrder : List Event → Type 0
IsInOrder past = IsTrue (is_in_order past)

order_back : (e : Event) (past : List Event) → IsInOrder (e ∷ past) → IsInOrder past
order_back e past h = (both (keeps_order past e) (is_in_order past) h).1

split_at : (before later : List Event) (e : Event) → onto (before ++ e ∷ later) [] ≡ onto later (e ∷ onto before [])
split_at before later e = onto-append before (e ∷ later) []

-- ---- Go

-- behind a Go no Cancel comes
no_cancel_next : (q : ℕ) (e : Event) (past : List Event) → IsInOrder (e ∷ past) → list_any (is_go_of q) past ≡ true
    → is_cancel_of q e ≡ true → false ≡ true
no_cancel_next q (event.Cancel p r) past h gone k =
    let P : ℕ → Type 0 = λ n. not (list_any (is_go_of n) past) ≡ true in
    contrary (list_any (is_go_of q) past) gone
    (subst P (same p q k) (both (keeps_order past (event.Cancel p r)) (is_in_order past) h).0)
no_cancel_next q _ past h gone k = k

-- who may go by the history may go after the events
may_go : (q : ℕ) (before : List Event) (p : Part) → IsTrue (may_go_by (onto before []) q p)
    → IsTrue (may_go_by before q p)
may_go q before p h =
    either (list_any (is_ready_of q p.device) (onto before []))
    (p.optional && list_any (is_excuse_of q p.device) (onto before [])) (may_go_by before q p)
    (λ k. or_left (list_any (is_ready_of q p.device) before) _ (any_back (is_ready_of q p.device) before k))
    (λ k.
    let l = both p.optional (list_any (is_excuse_of q p.device) (onto before [])) k in
    or_right (list_any (is_ready_of q p.device) before) _
    (join p.optional (list_any (is_excuse_of q p.device) before) l.0 (any_back (is_excuse_of q p.device) before l.1)))
    h

pub decided_of : (q : ℕ) (before later : List Event) → IsTrue (is_in_order (onto later (event.Go q ∷ onto before [])))
    → IsDecidedInOrder q before later
decided_of q before later h =
    let past : List Event = onto before [] in
    let go = (both (keeps_order past (event.Go q)) (is_in_order past)
    (before_all IsInOrder order_back later (event.Go q ∷ past) h)).0 in
    let one = both (list_any (is_start_of q) past) _ go in
    let two = both (list_all (may_go_by past q) (parts_by past q)) (not (list_any (is_cancel_of q) past)) one.1 in
    record {
      started = any_back (is_start_of q) before one.0;
      all_ready = all_implied (may_go_by past q) (may_go_by before q) (λ p k. may_go q before p k) (parts_by past q)
          two.0;
      not_cancelled = no_any (list_any (is_cancel_of q) before)
          (λ k. contrary (list_any (is_cancel_of q) past) (any_first (is_cancel_of q) before k) two.1);
      stays = no_any (list_any (is_cancel_of q) later)
          (none_later IsInOrder order_back (is_go_of q) (is_cancel_of q) (no_cancel_next q) later (event.Go q ∷ past) h
          (or_left (nat_eq q q) _ (itself q)));
    }

pub decided_in_order : DecidedInOrder
decided_in_order hs q before later e =
    let P : List Event → Type 0 = λ xs. IsTrue (is_in_order xs) in
    decided_of q before later (subst P (ap (λ xs. onto xs []) e ∙ split_at before later (event.Go q))
    (inputs_in_order hs))

-- ---- Start

about_started : (q : ℕ) (e : Event) → is_start_of q e ≡ true → is_about q e ≡ true
about_started q (event.Start p c t) h = h
about_started q _ h = absurd (true≢false (sym h))

above : (q last : ℕ) → nat_eq q (last + 1) ≡ true → last < q
above q last h = grind (arith, nat_tests)

-- a number that starts was not started before
start_is_new : (past : List Event) (q : ℕ) (c : List ℕ) (t : ℕ) → IsHistory (event.Start q c t ∷ past)
    → list_any (is_start_of q) past ≡ true → false ≡ true
start_is_new past q c t h k =
    let w = both (acceptable (state_of past) (event.Start q c t)) (is_history past) h in
    let drawn = (both (nat_eq q ((state_of past).last_seq + 1)) _ w.0).0 in
    sym ((kept-history past w.1).unused q (above q (state_of past).last_seq drawn))
    ∙ any-implied (is_start_of q) (is_about q) (about_started q) past k

no_start_next : (q : ℕ) (e : Event) (past : List Event) → IsHistory (e ∷ past) → list_any (is_start_of q) past ≡ true
    → is_start_of q e ≡ true → false ≡ true
no_start_next q (event.Start p c t) past h there k =
    let P : ℕ → Type 0 = λ n. list_any (is_start_of n) past ≡ true in
    start_is_new past p c t h (subst P (sym (same p q k)) there)
no_start_next q _ past h there k = k

named_once : (q : ℕ) (c : List ℕ) (t : ℕ) (before later : List Event)
    → IsHistory (onto later (event.Start q c t ∷ onto before []))
    → IsTrue (not (list_any (is_start_of q) before) && not (list_any (is_start_of q) later))
named_once q c t before later h =
    let past : List Event = onto before [] in
    join (not (list_any (is_start_of q) before)) _
    (no_any (list_any (is_start_of q) before)
    (λ k. start_is_new past q c t (before_all IsHistory history_back later (event.Start q c t ∷ past) h)
    (any_first (is_start_of q) before k)))
    (no_any (list_any (is_start_of q) later)
    (none_later IsHistory history_back (is_start_of q) (is_start_of q) (no_start_next q) later
    (event.Start q c t ∷ past) h (or_left (nat_eq q q) _ (itself q))))

pub number_names_one : NumberNamesOne
number_names_one hs q c t before later e =
    let P : List Event → Type 0 = λ xs. IsTrue (is_history xs) in
    named_once q c t before later (subst P (ap (λ xs. onto xs []) e ∙ split_at before later (event.Start q c t))
    (inputs_make_histories hs))

-- ---- never both

ever_now : (test : ShowState → Bool) (past : List Event) → test (state_of past) ≡ true → ever test past ≡ true
ever_now test [] h = h
ever_now test (e ∷ past) h = or_left (test (state_of (e ∷ past))) _ h

ever_onto : (test : ShowState → Bool) (es past : List Event) → ever test past ≡ true → ever test (onto es past) ≡ true
ever_onto test [] past h = h
ever_onto test (e ∷ es) past h = ever_onto test es (e ∷ past) (or_right (test (state_of (e ∷ past))) _ h)

-- such a command is pending in the state
abbrev pub asks : (Order → Bool) → ShowState → Bool
asks test s = list_any (λ (o : ℕ × Order). test o.1) (pending s)

-- what passes the test makes this true
abbrev Says : (Order → Bool) → Bool → Send → Type 0
Says test b m = is_order_with test m ≡ true → b ≡ true

says_elsewhere : (test : Order → Bool) (b : Bool) → HoldsElsewhere (Says test b)
says_elsewhere test b = record {
  answers = λ a m k r c h. absurd (true≢false (sym h));
  statuses = λ l p v e o h.
      absurd (true≢false (sym h));
}

each_is_there : (test : Order → Bool) (b : Bool) (ms : List (ℕ × Send))
    → (list_any (λ (m : ℕ × Send). is_order_with test m.1) ms ≡ true → b ≡ true) → Each (Says test b) ms
each_is_there test b [] f = tt
each_is_there test b (m ∷ ms) f = (
  λ h. f (or_left (is_order_with test m.1) _ h),
  each_is_there
      test b ms (λ k. f (or_right (is_order_with test m.1) _ k)),
)

any_says : (test : Order → Bool) (b : Bool) (ms : List (ℕ × Send)) → Each (Says test b) ms
    → list_any (λ (m : ℕ × Send). is_order_with test m.1) ms ≡ true → b ≡ true
any_says test b [] h k = absurd (true≢false (sym k))
any_says test b (m ∷ ms) h k = either (is_order_with test m.1) _ _ h.0 (any_says test b ms h.1) k

pending_asks : (test : Order → Bool) (s : ShowState)
    → list_any (λ (m : ℕ × Send). is_order_with test m.1) (all_pending s) ≡ true → asks test s ≡ true
pending_asks test s h = any-mapped (λ (o : ℕ × Order). (o.0, order o.1)) (λ (m : ℕ × Send). is_order_with test m.1)
    (λ (o : ℕ × Order). test o.1) (λ o k. k) (pending s) h

-- what is sent for an input is pending after its batch
pub sent_asks : (test : Order → Bool) (s : ShowState) (x : Happening)
    → list_any (λ (m : ℕ × Send). is_order_with test m.1) (given_at s x).sends ≡ true
    → asks test (after_events s (given_at s x).batch) ≡ true
sent_asks test s x h =
    let t : ShowState = after_events s (given_at s x).batch in
    any_says test (asks test t) (given_at s x).sends
    (happening-each (Says test (asks test t)) (says_elsewhere test (asks test t)) s x
    (each_is_there test (asks test t) (all_pending t) (pending_asks test t))) h

asked_before : (test : Order → Bool) (s : ShowState) (past : List Event) (hs : List Happening) → state_of past ≡ s
    → list_any (λ (m : ℕ × Send). is_order_with test m.1) (run s hs).sends ≡ true
    → ever (asks test) (onto (joined_list (run s hs).batches) past) ≡ true
asked_before test s past [] now h = absurd (true≢false (sym h))
asked_before test s past (x ∷ hs) now h =
    let g : Given = given_at s x in
    let next : ShowState = after_events s g.batch in
    let later : List Event = joined_list (run next hs).batches in
    let p : ℕ × Send → Bool = λ m. is_order_with test m.1 in
    let Q : ShowState → Type 0 = λ t. asks test t ≡ true in
    let R : List Event → Type 0 = λ xs. ever (asks test) xs ≡ true in
    let then : state_of (onto g.batch past) ≡ next = state_next s past g.batch now in
    subst R (sym (onto_next g.batch (run next hs).batches past))
    (either (list_any p g.sends) (list_any p (run next hs).sends) _
    (λ k. ever_onto (asks test) later (onto g.batch past)
    (ever_now (asks test) (onto g.batch past) (subst Q (sym then) (sent_asks test s x k))))
    (asked_before test next (onto g.batch past) hs then) (sym (any-append p g.sends (run next hs).sends) ∙ h))

not_both : (a b c d : Bool) → (a ≡ true → c ≡ true) → (b ≡ true → d ≡ true) → not (c && d) ≡ true → not (a && b) ≡ true
not_both true true c d f g h = contrary (c && d) (join c d (f refl) (g refl)) h
not_both true false c d f g h = refl
not_both false b c d f g h = refl

pub never_sent_both : NeverSentBoth
never_sent_both hs q d =
    let h : List Event = onto (accepted_events hs) [] in
    not_both (was_sent (is_go_to q d) hs) (was_sent (is_cancel_to q d) hs) (ever (asks (is_go_to q d)) h)
    (ever (asks (is_cancel_to q d)) h)
    (asked_before (is_go_to q d) empty_state [] hs refl) (asked_before (is_cancel_to q d) empty_state [] hs refl)
    (never-asked-both h q d (inputs_make_histories hs))
