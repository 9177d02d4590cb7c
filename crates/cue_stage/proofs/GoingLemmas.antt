-- A cue that can go does go.
use Rattle.std.proofs.Common.{◌≡◌, ◌⊎◌, ◌&&◌, nat_le, inl, inr, ℕ, ◌≤◌, Bool, true, false, List, [], ◌∷◌, ◌++◌}
use Rattle.std.proofs.Common.{filter, cond, nat_eq, refl, sym, ap, ◌∙◌, subst, append_assoc, arith, true≢false, Option}
use Rattle.std.proofs.Common.{None, Some, IsTrue, length}
use Rattle.std.specs.Prelude.{is_some, IfSome, unwrap_or}
use Rattle.std.specs.List.{Contains, list_all}
use Rattle.std.specs.Option.{option_map_or}
use Rattle.std.proofs.lemmas.Bool.Decides.{nat_tests}
use Rattle.cue_show.specs.Devices.{is_among, devices_in, distinct}
use Rattle.cue_show.specs.Show.{port_of, are_known, is_cue_of, parts_of}
use Rattle.cue_exchange.specs.declared.attempt.Attempt.{Attempt}
use Rattle.cue_exchange.specs.declared.attempt.DeviceAnswer.{DeviceAnswer}
use Rattle.cue_exchange.specs.declared.attempt.Stage.{Stage}
use Rattle.cue_exchange.specs.declared.attempt.Stage.TheVariants.{Preparing, Decided, Cancelling}
use Rattle.cue_exchange.specs.Answers.{devices_of, is_concluding, some_waits, waits}
use Rattle.cue_exchange.specs.Live.{attempt_of, has_number, is_attempt, is_number, is_open}
use Rattle.cue_exchange.proofs.LiveLemmas.{attempts_of}
use Rattle.cue_core.specs.Pending.{Order, go_2pc, cancel, standby, bytes_for, order_at}
use Rattle.cue_core.specs.State.{ShowState, is_state, are_of_parts, cue_parts, is_at_cue}
use Rattle.cue_core.specs.Steps.{after_events}
use Rattle.cue_core.proofs.lists.ConditionLemmas.{both, same_number}
use Rattle.cue_core.proofs.live.FindingLemmas.{found_has}
use Rattle.cue_core.proofs.rules.RuleLemmas.{rules_of}
use Rattle.cue_keeper.specs.Stands.{folded_all}
use Rattle.cue_outbox.specs.Sending.{Send, datagrams, order, send_content, order_content, datagram as datagram_of}
use Rattle.cue_engine.specs.Given.{Input, datagram, given_of, tick}
use Rattle.cue_engine.specs.Groups.{batches_given, sends_given}
use Rattle.cue_engine.specs.Headline.{HasState, MayRead}
use Rattle.cue_engine.specs.Incidents.{Incident, Permits, Store, at_rest, committed, left_by, running, unformed}
use Rattle.cue_engine.specs.Runs.{joined_list}
use Rattle.cue_engine.proofs.HistoryLemmas.{input-ok}
use Rattle.cue_device.specs.declared.asked.Command.{Command}
use Rattle.cue_device.specs.declared.asked.Command.TheVariants.{Go, Cancel, Standby}
use Rattle.cue_device.specs.declared.reading.TheConstants.{MAX_NUMBER}
use Rattle.cue_device.specs.declared.words.Answer.{Answer}
use Rattle.cue_device.specs.declared.words.Answer.TheVariants.{StandingBy, Complete, Cancelled, Abort}
use Rattle.cue_device.specs.Datagrams.{IsCommand, IsNumber, answer_text, command_text, IsTask}
use Rattle.cue_device.specs.Hearing.{answered_for, seq_of}
use Rattle.cue_stage.specs.Stage.{Beginning, Happening, meets, befalls, Happens, MayBeDelivered, store_after}
use Rattle.cue_stage.specs.Waiting.{EndsAWaiting, awaited, is_abort, is_answer_in, is_settled, outcome_with}
use Rattle.cue_stage.specs.Waiting.{IsPreparing}
use Rattle.cue_stage.specs.Going.{ACueThatCanGoDoesGo, GoesWell, IsAnswered, IsHeardOut, IsTaken, KeptSince, device_now}
use Rattle.cue_stage.specs.Going.{is_answer_to, kind_of, ticked, ACueThatIsPreparedCanGo}
use Rattle.cue_stage.proofs.AwaitedLemmas.{concludes, settled_parts, gone_without}
use Rattle.cue_stage.proofs.EndingLemmas.{what_ends_ends_so}
use Rattle.cue_stage.proofs.PortLemmas.{in_table}
use Rattle.cue_stage.proofs.CopyAnswerLemmas.{each_copy_is_answered}
use Rattle.cue_stage.proofs.TickLemmas.{own_number, tick_batch, tick_orders}
use Rattle.cue_stage.proofs.TakenAnswerLemmas.{an_answer_ends_a_waiting, an_early_answer_is_heard, is_early_answer}
use Rattle.cue_stage.proofs.TakenAnswerLemmas.{numbered_so}
use Rattle.cue_stage.proofs.SinceLemmas.{Leads, happened_before, kept_since, leads_inputs, leads_on, leads_since}
use Rattle.cue_stage.proofs.SinceLemmas.{leads_state, kept_ok_since, leads_to, leads_waits, running_state, store_next}
use Rattle.std.proofs.lemmas.Bool.{leb-true}
use Rattle.cue_show.specs.declared.limits.TheConstants.{MAX_PARTS, MAX_PART_BYTES}
use Rattle.cue_show.specs.declared.part.Part.{Part}
use Rattle.cue_show.specs.DeviceNumber.{is_device}
use Rattle.cue_show.specs.Number.{is_cue_number}
use Rattle.cue_show.specs.Parts.{are_parts, has_required_part, is_part}
use Rattle.cue_show.proofs.ChangeLemmas.{is_cue_of-parts_of}
use Rattle.cue_core.specs.declared.command.AnswerKind.{AnswerKind}
use Rattle.cue_core.specs.Happenings.{events_at, ticked as core_ticked}
use Rattle.cue_device.specs.declared.asked.Task.{Task}
use Rattle.cue_stage.proofs.GivingLemmas.{go_is_made, nobody_waits}
use Rattle.cue_stage.proofs.KeepingLemmas.{IsOf, Keeps, keeps_port, keeps_stage, keeps_waiting, last_after}
use Rattle.cue_stage.proofs.KeepingLemmas.{never_settled, prepared_before}
use Rattle.cue_stage.proofs.OrderedLemmas.{contains_mapped, order_now}
use Rattle.cue_stage.proofs.TakenAnswerLemmas as taken

-- ---- one state leads to another

leads_keeps : {s t : ShowState} (q d : ℕ) → IsTrue (is_state s) → IsTrue (nat_le q s.last_seq) → Leads s t → Keeps q s t
    → IsTrue (is_among d (awaited t q)) → IsTrue (is_among d (awaited s q))
leads_keeps {s = s} q d h n v k m =
    keeps_waiting s v.events q d h v.ok n (subst (λ (x : ShowState). Keeps q s x) v.is k)
    (subst (λ (x : ShowState). IsTrue (is_among d (awaited x q))) v.is m)

leads_port : {s t : ShowState} (q d : ℕ) → IsTrue (is_state s) → IsTrue (nat_le q s.last_seq) → Leads s t → Keeps q s t
    → IsTrue (is_among d (awaited t q)) → port_of t.show d ≡ port_of s.show d
leads_port {s = s} q d h n v k m =
    ap (λ (x : ShowState). port_of x.show d) v.is
    ∙ keeps_port s v.events q d h v.ok n (subst (λ (x : ShowState). Keeps q s x) v.is k)
    (subst (λ (x : ShowState). IsTrue (is_among d (awaited x q))) v.is m)

leads_stage : {s t : ShowState} (q : ℕ) (b : Attempt) → IsTrue (is_state s) → IsTrue (nat_le q s.last_seq) → Leads s t
    → Keeps q s t → attempt_of t.live q ≡ Some b → IsOf s q b
leads_stage {s = s} q b h n v k e =
    keeps_stage s v.events q b h v.ok n (subst (λ (x : ShowState). Keeps q s x) v.is k)
    (ap (λ (x : ShowState). attempt_of x.live q) (sym v.is) ∙ e)

leads_last : {s t : ShowState} (q : ℕ) → IsTrue (nat_le q s.last_seq) → Leads s t → IsTrue (nat_le q t.last_seq)
leads_last {s = s} q n v = subst (λ (x : ShowState). IsTrue (nat_le q x.last_seq)) (sym v.is)
    (last_after s v.events q v.ok n)

-- what is kept up to a last state is kept up to one in between, and from there on
keeps_first : (s u t : ShowState) (q : ℕ) → IsTrue (is_state u) → IsTrue (nat_le q u.last_seq) → Leads u t → Keeps q s t
    → Keeps q s u
keeps_first s u t q h n v (inl c) = inl c
keeps_first s u t q h n v (inr p) =
    inr (prepared_before u v.events q h v.ok n (subst (λ (x : ShowState). IsPreparing q x) v.is p))

keeps_rest : (s u t : ShowState) (q : ℕ) → IsTrue (is_state s) → Leads s u → Keeps q s t → Keeps q u t
keeps_rest s u t q h v (inl c) = inl (leads_waits q h c v).settled
keeps_rest s u t q h v (inr p) = inr p

-- ---- who is awaited

-- the attempt that waits
awaited_found : (s : ShowState) (q d : ℕ) → IsTrue (is_among d (awaited s q)) → (a : Attempt)
    × (attempt_of s.live q ≡ Some a)
awaited_found s q d m = by (attempt_of s.live q) refl m
  where
    by : (o : Option Attempt) → attempt_of s.live q ≡ o
        → IsTrue (is_among d (option_map_or (λ a. devices_of (filter waits a.answers)) o [])) → (a : Attempt)
        × (attempt_of s.live q ≡ Some a)
    by None e k = absurd (true≢false (sym k))
    by (Some a) e k = (a, e)

-- a settled attempt that waits for nobody is not live
nobody_left : (s : ShowState) (q : ℕ) → IsTrue (is_state s) → IsTrue (is_settled s q)
    → ((d : ℕ) → IsTrue (is_among d (awaited s q)) → ⊥) → attempt_of s.live q ≡ None
nobody_left s q h c none = by (attempt_of s.live q) refl
  where
    waits_late : (stage : Stage) (xs : List DeviceAnswer) → IsTrue (is_concluding stage) → IsTrue (is_open stage xs)
        → IsTrue (some_waits xs)
    waits_late Preparing xs k o = absurd (true≢false (sym k))
    waits_late Decided xs k o = o
    waits_late (Cancelling r) xs k o = o

    by : (o : Option Attempt) → attempt_of s.live q ≡ o → attempt_of s.live q ≡ None
    by None e = e
    by (Some a) e =
        let open_now : IsTrue (is_attempt a) =
        found_has is_attempt (has_number q) s.live a (attempts_of s.live (rules_of s h).live) e in
        let late : IsTrue (is_concluding a.stage) =
        subst (λ (o : Option Attempt). IsTrue (concludes o)) e (settled_parts s q c).1 in
        let some : IsTrue (some_waits a.answers) = waits_late a.stage a.answers late (both _ _ open_now).1 in
        absurd (true≢false (sym some ∙ nobody_waits s q a e none))

-- ---- an order that is sent may be delivered

go_bytes : (port q d : ℕ) → (datagram_of (port, order (go_2pc q d))).1 ≡ command_text d (Go q)
unfolding datagram_of send_content order_content command_text
go_bytes port q d = refl

cancel_bytes : (port q d : ℕ) → (datagram_of (port, order (cancel q d))).1 ≡ command_text d (Cancel q)
unfolding datagram_of send_content order_content command_text
cancel_bytes port q d = refl

standby_bytes : (port q d : ℕ) (cue bytes : List ℕ)
    → (datagram_of (port, order (standby q d cue bytes))).1
    ≡ command_text d (Standby q (record { cue = cue; bytes = bytes }))
unfolding datagram_of send_content order_content command_text
standby_bytes port q d cue bytes = refl

own_port : (port : ℕ) (m : Send) → (datagram_of (port, m)).0 ≡ port
unfolding datagram_of
own_port port m = refl

a_number : (q : ℕ) → IsTrue (is_number q) → IsNumber q
a_number q h = (low q h, high q h)
  where
    low : (n : ℕ) → IsTrue (is_number n) → 1 ≤ n
    low n g = grind (arith, nat_tests)

    high : (n : ℕ) → IsTrue (is_number n) → n ≤ MAX_NUMBER
    high n g = grind (arith, nat_tests)

abbrev delivered : (port d : ℕ) (o : Order) (c : Command) (sends : List (ℕ × Send)) → IsCommand c
    → (datagram_of (port, order o)).1 ≡ command_text d c → Contains sends (port, order o)
    → MayBeDelivered (datagrams sends) d c
delivered port d o c sends is bytes among = record {
  datagram = datagram_of (port, order o);
  was_handed = contains_mapped datagram_of (port, order o) sends among;
  is_command = record { is_command = is; text = bytes };
}

-- ---- the order of a stage

-- the order of the stage
abbrev IsOrderOf : Stage → ℕ → Command → Type 0
IsOrderOf Preparing q c = (task : Task) × (c ≡ Standby q task)
IsOrderOf Decided q c = c ≡ Go q
IsOrderOf (Cancelling r) q c = c ≡ Cancel q

of_number : (stage : Stage) (q : ℕ) (c : Command) → IsOrderOf stage q c → seq_of c ≡ q
of_number Preparing q c o = ap seq_of o.1
of_number Decided q c o = ap seq_of o
of_number (Cancelling r) q c o = ap seq_of o

-- the part of a device is short enough
short_part : (d : ℕ) (ps : List Part) → IsTrue (list_all is_part ps) → length (bytes_for d ps) ≤ MAX_PART_BYTES
short_part d [] h = omega arith
short_part d (p ∷ ps) h = let w = both (is_part p) (list_all is_part ps) h in
    by (nat_eq p.device d)
    (low (length p.bytes) (both (nat_le (length p.bytes) MAX_PART_BYTES) _ (both (is_device p.device) _ w.0).1).0)
    (short_part d ps w.1)
  where
    low : (n : ℕ) → IsTrue (nat_le n MAX_PART_BYTES) → n ≤ MAX_PART_BYTES
    low n k = leb-true n MAX_PART_BYTES k

    by : (b : Bool) → length p.bytes ≤ MAX_PART_BYTES → length (bytes_for d ps) ≤ MAX_PART_BYTES
        → length (cond b p.bytes (bytes_for d ps)) ≤ MAX_PART_BYTES
    by true k f = k
    by false k f = f

-- the task of a device of a live attempt
a_task : (s : ShowState) (q d : ℕ) (a : Attempt) → IsTrue (is_state s) → attempt_of s.live q ≡ Some a
    → IsTask (record { cue = a.cue; bytes = bytes_for d (cue_parts s.show a.cue) })
a_task s q d a h e =
    by (parts_of s.show a.cue) refl (found_has (is_at_cue s.show) (has_number q) s.live a (rules_of s h).at e)
    (is_cue_of-parts_of s.show a.cue (rules_of s h).show)
  where
    by : (o : Option (List Part)) → parts_of s.show a.cue ≡ o
        → IsTrue (option_map_or (λ parts. are_of_parts parts a.answers) o false)
        → IfSome o (λ parts. IsTrue (is_cue_of s.show (a.cue, parts)))
        → IsTask (record { cue = a.cue; bytes = bytes_for d (cue_parts s.show a.cue) })
    by None is k g = absurd (true≢false (sym k))
    by (Some ps) is k g =
        let c = both (is_cue_number a.cue) (are_parts ps && are_known s.show ps) g in
        let p = (both (are_parts ps) (are_known s.show ps) c.1).0 in
        let each : IsTrue (list_all is_part ps) =
        (both (distinct (devices_in ps)) (list_all is_part ps)
        (both (nat_le (length ps) MAX_PARTS) _ (both (has_required_part ps) _ p).1).1).1 in
        record {
          cue = c.0;
          short = subst (λ (o : Option (List Part)). length (bytes_for d (unwrap_or o [])) ≤ MAX_PART_BYTES) (sym is)
              (short_part d ps each);
        }

-- the order of the stage, which the tick sends to this port
record IsOrdered (q d port : ℕ) (a : Attempt) (sends : List (ℕ × Send)) : Type 0 where
  command : Command
  of_stage : IsOrderOf a.stage q command
  delivered : MayBeDelivered (datagrams sends) d command
  own : delivered.datagram.0 ≡ port

-- the order of an attempt that is live after a tick
ordered : (s : ShowState) (now q d port : ℕ) (a : Attempt)
    → IsTrue (is_state (after_events s (given_of s now tick).batch))
    → attempt_of (after_events s (given_of s now tick).batch).live q ≡ Some a
    → IsTrue (is_among d (awaited (after_events s (given_of s now tick).batch) q))
    → port_of (after_events s (given_of s now tick).batch).show d ≡ Some port
    → IsOrdered q d port a (given_of s now tick).sends
ordered s now q d port a rules e m there = by a.stage refl
  where
    sends : List (ℕ × Send)
    sends = (given_of s now tick).sends

    next : ShowState
    next = after_events s (given_of s now tick).batch

    same : next ≡ after_events s (events_at s (core_ticked now))
    same = ap (after_events s) (tick_batch s now)

    number : IsTrue (is_number q)
    number = numbered_so next a q rules e

    sent : (o : Order) → (order_now next a d).1 ≡ o → Contains sends (port, order o)
    sent o is = tick_orders s now q d port a o (ap (λ (t : ShowState). attempt_of t.live q) (sym same) ∙ e)
        (subst (λ (t : ShowState). IsTrue (is_among d (awaited t q))) same m)
        (ap (λ (t : ShowState). port_of t.show d) (sym same) ∙ there)
        (ap (λ (t : ShowState). (order_now t a d).1) (sym same) ∙ is)

    own : a.seq ≡ q
    own = own_number next q a e

    by : (stage : Stage) → a.stage ≡ stage → IsOrdered q d port a sends
    by Preparing is =
        let bytes : List ℕ = bytes_for d (cue_parts next.show a.cue) in
        let task : Task = record { cue = a.cue; bytes = bytes } in
        record {
          command = Standby q task;
          of_stage = subst (λ (t : Stage). IsOrderOf t q (Standby q task)) (sym is) (task, refl);
          delivered = delivered port d (standby q d a.cue bytes) (Standby q task) sends
              (record { numbered = a_number q number; tasked = a_task next q d a rules e })
              (standby_bytes port q d a.cue bytes)
              (sent (standby q d a.cue bytes) (ap (λ (t : Stage). order_at t a.seq d a.cue bytes) is
              ∙ ap (λ (n : ℕ). standby n d a.cue bytes) own));
          own = own_port port (order (standby q d a.cue bytes));
        }
    by Decided is = record {
      command = Go q;
      of_stage = subst (λ (t : Stage). IsOrderOf t q (Go q)) (sym is) refl;
      delivered = delivered port d (go_2pc q d) (Go q) sends (record { numbered = a_number q number; tasked = tt })
          (go_bytes port q d)
          (sent (go_2pc q d) (ap (λ (t : Stage). order_at t a.seq d a.cue (bytes_for d (cue_parts next.show a.cue))) is
          ∙ ap (λ (n : ℕ). go_2pc n d) own));
      own = own_port port (order (go_2pc q d));
    }
    by (Cancelling r) is = record {
      command = Cancel q;
      of_stage = subst (λ (t : Stage). IsOrderOf t q (Cancel q)) (sym is) refl;
      delivered = delivered port d (cancel q d) (Cancel q) sends (record { numbered = a_number q number; tasked = tt })
          (cancel_bytes port q d)
          (sent (cancel q d) (ap (λ (t : Stage). order_at t a.seq d a.cue (bytes_for d (cue_parts next.show a.cue))) is
          ∙ ap (λ (n : ℕ). cancel n d) own));
      own = own_port port (order (cancel q d));
    }

-- ---- an answer to the order of the stage

-- the answer is one to the order of the stage
abbrev FitsStage : Stage → AnswerKind → Bool
FitsStage Preparing kind = is_early_answer kind
FitsStage Decided kind = is_answer_in Decided kind
FitsStage (Cancelling r) kind = is_answer_in (Cancelling r) kind

record Suits (stage : Stage) (q : ℕ) (x : Answer) : Type 0 where
  kind : IsTrue (FitsStage stage (kind_of x))
  number : answered_for x ≡ q

suits : (stage : Stage) (q : ℕ) (c : Command) (x : Answer) → IsOrderOf stage q c → IsTrue (is_answer_to c x)
    → Suits stage q x
suits Preparing q c x o f = standby_suits x (subst (λ (k : Command). IsTrue (is_answer_to k x)) o.1 f)
  where
    standby_suits : (y : Answer) → IsTrue (is_answer_to (Standby q o.0) y) → Suits Preparing q y
    standby_suits (StandingBy p) k = record { kind = refl; number = same_number p q k }
    standby_suits (Abort p) k = record { kind = refl; number = same_number p q k }
    standby_suits (Complete p) k = absurd (true≢false (sym k))
    standby_suits (Cancelled p) k = absurd (true≢false (sym k))
suits Decided q c x o f = go_suits x (subst (λ (k : Command). IsTrue (is_answer_to k x)) o f)
  where
    go_suits : (y : Answer) → IsTrue (is_answer_to (Go q) y) → Suits Decided q y
    go_suits (Complete p) k = record { kind = refl; number = same_number p q k }
    go_suits (Abort p) k = record { kind = refl; number = same_number p q k }
    go_suits (StandingBy p) k = absurd (true≢false (sym k))
    go_suits (Cancelled p) k = absurd (true≢false (sym k))
suits (Cancelling r) q c x o f = cancel_suits x (subst (λ (k : Command). IsTrue (is_answer_to k x)) o f)
  where
    cancel_suits : (y : Answer) → IsTrue (is_answer_to (Cancel q) y) → Suits (Cancelling r) q y
    cancel_suits (Cancelled p) k = record { kind = refl; number = same_number p q k }
    cancel_suits (Abort p) k = record { kind = refl; number = same_number p q k }
    cancel_suits (StandingBy p) k = absurd (true≢false (sym k))
    cancel_suits (Complete p) k = absurd (true≢false (sym k))

-- what such an answer makes: the device is awaited no more, or a prepared attempt is given up
abbrev Heard : ℕ → ℕ → Stage → ShowState → Type 0
Heard q d stage new = (IsTrue (is_among d (awaited new q)) → ⊥) ⊎ ((stage ≡ Preparing) × IsTrue (is_settled new q))

answer_heard : (u : ShowState) (b : Attempt) (now port d q : ℕ) (x : Answer) → IsTrue (is_state u)
    → IsTrue (nat_le q u.last_seq) → attempt_of u.live q ≡ Some b → Suits b.stage q x
    → IsTrue (is_among d (awaited u q)) → port_of u.show d ≡ Some port
    → Heard q d b.stage (after_events u (given_of u now (datagram port (answer_text d x))).batch)
answer_heard u b now port d q x h n found fits m there = by b.stage refl
  where
    next : ShowState
    next = after_events u (given_of u now (datagram port (answer_text d x))).batch

    own : attempt_of u.live (answered_for x) ≡ Some b
    own = ap (attempt_of u.live) fits.number ∙ found

    awaits : IsTrue (is_among d (awaited u (answered_for x)))
    awaits = subst (λ (k : ℕ). IsTrue (is_among d (awaited u k))) (sym fits.number) m

    kind : (stage : Stage) → b.stage ≡ stage → IsTrue (FitsStage stage (kind_of x))
    kind stage is = subst (λ (z : Stage). IsTrue (FitsStage z (kind_of x))) is fits.kind

    -- a settled attempt
    late : IsTrue (is_answer_in b.stage (kind_of x)) → Heard q d b.stage next
    late k =
        let ends : EndsAWaiting (answered_for x) d (outcome_with (is_abort (kind_of x)) b) u next =
        an_answer_ends_a_waiting u b now port d x h own k awaits there in
        inl (λ in_next. gone_without d (awaited u (answered_for x))
        (subst (λ (ds : List ℕ). IsTrue (is_among d ds)) ends.others
        (subst (λ (k : ℕ). IsTrue (is_among d (awaited next k))) (sym fits.number) in_next)))

    -- one that is prepared
    early : b.stage ≡ Preparing → taken.Heard (answered_for x) d next → Heard q d b.stage next
    early is (inl gone) =
        inl (λ in_next. gone (subst (λ (k : ℕ). IsTrue (is_among d (awaited next k))) (sym fits.number) in_next))
    early is (inr c) = inr (is, subst (λ (k : ℕ). IsTrue (is_settled next k)) fits.number c)

    by : (stage : Stage) → b.stage ≡ stage → Heard q d b.stage next
    by Preparing is =
        early is (an_early_answer_is_heard u b now port d x h own is (kind Preparing is) awaits there
        (subst (λ (k : ℕ). IsTrue (nat_le k u.last_seq)) (sym fits.number) n))
    by Decided is = late (subst (λ (z : Stage). IsTrue (is_answer_in z (kind_of x))) (sym is) (kind Decided is))
    by (Cancelling r) is =
        late (subst (λ (z : Stage). IsTrue (is_answer_in z (kind_of x))) (sym is) (kind (Cancelling r) is))

-- ---- an answer that is taken

-- inputs that are taken with others before them and after them
inputs_parts : (s : ShowState) (first : List (ℕ × Input)) (i : ℕ × Input) (others : List (ℕ × Input))
    → folded_all s (batches_given s (first ++ i ∷ others))
    ≡ (let u : ShowState = folded_all s (batches_given s first) in
    let t : ShowState = after_events u (given_of u i.0 i.1).batch in
    folded_all t (batches_given t others))
inputs_parts s [] i others = refl
inputs_parts s (j ∷ first) i others = inputs_parts (after_events s (given_of s j.0 j.1).batch) first i others

one_input : (s : ShowState) (i : ℕ × Input) → IsTrue (is_state s)
    → Leads s (after_events s (given_of s i.0 i.1).batch)
one_input s i h = record { events = (given_of s i.0 i.1).batch; ok = input-ok s i.0 i.1 h; is = refl }

-- Once the answer of d is taken, d is not awaited: an engine ran with the state s, something happened, the answer was
-- given, and after what came later the store has the state t.
taken_ends : (from : Beginning) (past middle later : List Happening) (s : ShowState) (owed : List (ℕ × Send))
    (q d port : ℕ) (a : Attempt) (x : Answer) (t : ShowState) (one other : List ℕ)
    → Happens from (later ++ (middle ++ past))
    → store_after from past ≡ running s owed → IsTrue (nat_le q s.last_seq) → Keeps q s t
    → attempt_of s.live q ≡ Some a → port_of s.show d ≡ Some port → Suits a.stage q x → MayRead (store_after from (later ++ (middle ++ past))) one other
    → HasState (store_after from (later ++ (middle ++ past))) one other t → IsTaken later d port x
    → IsTrue (is_among d (awaited t q)) → ⊥
taken_ends from past middle later s owed q d port a x t one other h at n keep found there fits may has k m =
    by (store_after from then_past) refl
  where
    i : ℕ × Input
    i = (k.now, datagram port (answer_text d x))

    incident : Incident
    incident = committed (k.first ++ i ∷ k.others)

    then_past : List Happening
    then_past = k.before ++ (middle ++ past)

    whole : later ++ (middle ++ past) ≡ k.after ++ (meets incident ∷ then_past)
    whole = ap (λ (hs : List Happening). hs ++ (middle ++ past)) k.split
        ∙ append_assoc k.after (meets incident ∷ k.before) (middle ++ past)

    parts : then_past ≡ (k.before ++ middle) ++ past
    parts = sym (append_assoc k.before middle past)

    happens : Happens from (k.after ++ (meets incident ∷ then_past))
    happens = subst (λ (hs : List Happening). Happens from hs) whole h

    before : Happens from then_past
    before = (happened_before from k.after (meets incident ∷ then_past) happens).1

    before_parts : Happens from ((k.before ++ middle) ++ past)
    before_parts = subst (λ (hs : List Happening). Happens from hs) parts before

    rules : IsTrue (is_state s)
    rules = running_state from past s owed (happened_before from (k.before ++ middle) past before_parts) at

    commits : Permits (store_after from then_past) incident
    commits = (happened_before from k.after (meets incident ∷ then_past) happens).0

    by : (store : Store) → store_after from then_past ≡ store → ⊥
    by (at_rest one other) is = subst (λ (store : Store). Permits store incident) is commits
    by (unformed one other) is = subst (λ (store : Store). Permits store incident) is commits
    by (running u0 owed0) is =
        let to_u0 : Leads s u0 =
        leads_to from past (k.before ++ middle) s u0 owed [] [] before_parts at
        (subst (λ (hs : List Happening). MayRead (store_after from hs) [] []) parts
        (subst (λ (store : Store). MayRead store [] []) (sym is) tt))
        (subst (λ (hs : List Happening). HasState (store_after from hs) [] [] u0) parts
        (subst (λ (store : Store). HasState store [] [] u0) (sym is) refl)) in
        let u0_rules : IsTrue (is_state u0) = leads_state rules to_u0 in
        let u : ShowState = folded_all u0 (batches_given u0 k.first) in
        let to_u : Leads u0 u = leads_inputs u0 k.first u0_rules in
        let u_rules : IsTrue (is_state u) = leads_state u0_rules to_u in
        let s_to_u : Leads s u = leads_on to_u0 to_u in
        let next : ShowState = after_events u (given_of u i.0 i.1).batch in
        let to_next : Leads u next = one_input u i u_rules in
        let next_rules : IsTrue (is_state next) = leads_state u_rules to_next in
        let last : ShowState = folded_all u0 (batches_given u0 (k.first ++ i ∷ k.others)) in
        let to_last : Leads next last =
        subst (λ (z : ShowState). Leads next z) (sym (inputs_parts u0 k.first i k.others))
        (leads_inputs next k.others next_rules) in
        let ran : store_after from (meets incident ∷ then_past)
        ≡ running last (owed0 ++ sends_given u0 (k.first ++ i ∷ k.others)) =
        store_next from then_past incident ∙ ap (λ (store : Store). left_by store incident) is in
        let to_t : Leads last t =
        leads_to from (meets incident ∷ then_past) k.after last t
        (owed0 ++ sends_given u0 (k.first ++ i ∷ k.others)) one other happens ran
        (subst (λ (hs : List Happening). MayRead (store_after from hs) one other) whole may)
        (subst (λ (hs : List Happening). HasState (store_after from hs) one other t) whole has) in
        let next_to_t : Leads next t = leads_on to_last to_t in
        let u_to_t : Leads u t = leads_on to_next next_to_t in
        let u_last : IsTrue (nat_le q u.last_seq) = leads_last q n s_to_u in
        let next_last : IsTrue (nat_le q next.last_seq) = leads_last q u_last to_next in
        let to_u_keep : Keeps q s u = keeps_first s u t q u_rules u_last u_to_t keep in
        let u_keep : Keeps q u t = keeps_rest s u t q rules s_to_u keep in
        let to_next_keep : Keeps q u next = keeps_first u next t q next_rules next_last next_to_t u_keep in
        let next_keep : Keeps q next t = keeps_rest u next t q u_rules to_next u_keep in
        let in_next : IsTrue (is_among d (awaited next q)) =
        leads_keeps q d next_rules next_last next_to_t next_keep m in
        let in_u : IsTrue (is_among d (awaited u q)) = leads_keeps q d u_rules u_last to_next to_next_keep in_next in
        let b = awaited_found u q d in_u in
        let old : IsOf s q b.0 = leads_stage q b.0 rules n s_to_u to_u_keep b.1 in
        let same : old.attempt ≡ a = same_one (sym old.found ∙ found) in
        let stage : a.stage ≡ b.0.stage = sym (old.stage ∙ ap (λ (z : Attempt). z.stage) same) in
        let heard : Heard q d b.0.stage next =
        answer_heard u b.0 k.now port d q x u_rules u_last b.1
        (subst (λ (z : Stage). Suits z q x) stage fits) in_u (leads_port q d rules n s_to_u to_u_keep in_u ∙ there) in
        ends b.0 u next next_rules next_to_t in_next b.1 u_keep heard
      where
        same_one : {y z : Attempt} → Some y ≡ Some z → y ≡ z
        same_one e = cc

        ends : (b : Attempt) (u next : ShowState) → IsTrue (is_state next) → Leads next t
            → IsTrue (is_among d (awaited next q)) → attempt_of u.live q ≡ Some b → Keeps q u t
            → Heard q d b.stage next → ⊥
        ends b u next rules to_t m e kept (inl gone) = gone m
        ends b u next rules to_t m e (inl c) (inr given_up) =
            never_settled q u (record { attempt = b; found = e; stage = given_up.0 }) c
        ends b u next rules to_t m e (inr p) (inr given_up) =
            never_settled q t p (leads_waits q rules given_up.1 to_t).settled

-- ---- the law

some_port : (o : Option ℕ) → IsTrue (is_some o) → (port : ℕ) × (o ≡ Some port)
some_port None h = absurd (true≢false (sym h))
some_port (Some port) h = (port, refl)

-- a device that is heard out is awaited no more, unless the attempt was asked anew
heard_out_ends : (from : Beginning) (past round : List Happening) (s : ShowState) (owed : List (ℕ × Send))
    (now q d : ℕ) (t : ShowState) (x y : List ℕ) → Happens from (round ++ ticked now ∷ past)
    → store_after from past ≡ running s owed → IsTrue (nat_le q s.last_seq) → Keeps q s t
    → GoesWell from past s now round q → MayRead (store_after from (round ++ ticked now ∷ past)) x y
    → HasState (store_after from (round ++ ticked now ∷ past)) x y t → IsTrue (is_among d (awaited t q)) → ⊥
heard_out_ends from past round s owed now q d t x y h at n keep well may has m =
    let then_past : List Happening = ticked now ∷ past in
    let rules : IsTrue (is_state s) = running_state from past s owed (happened_before from round then_past h).1 at in
    let next : ShowState = after_events s (given_of s now tick).batch in
    let owed_next : List (ℕ × Send) = owed ++ sends_given s ((now, tick) ∷ []) in
    let ran : store_after from then_past ≡ running next owed_next =
    store_next from past (committed ((now, tick) ∷ []))
    ∙ ap (λ (store : Store). left_by store (committed ((now, tick) ∷ []))) at in
    let to_next : Leads s next = one_input s (now, tick) rules in
    let next_rules : IsTrue (is_state next) = leads_state rules to_next in
    let next_last : IsTrue (nat_le q next.last_seq) = leads_last q n to_next in
    let to_t : Leads next t = leads_to from then_past round next t owed_next x y h ran may has in
    let next_keep : Keeps q next t = keeps_rest s next t q rules to_next keep in
    let in_next : IsTrue (is_among d (awaited next q)) = leads_keeps q d next_rules next_last to_t next_keep m in
    let port = some_port (port_of next.show d) (in_table next q d next_rules in_next) in
    let b = awaited_found next q d in_next in
    let asks : IsOrdered q d port.0 b.0 (given_of s now tick).sends =
    ordered s now q d port.0 b.0 next_rules b.1 in_next port.1 in
    let heard : IsHeardOut from then_past round d port.0 asks.command =
    subst (λ (n : ℕ). IsHeardOut from then_past round d n asks.command) asks.own
    (well d asks.command (of_number b.0.stage q asks.command asks.of_stage) asks.delivered) in
    let answered : IsAnswered asks.command heard.what (device_now from (heard.before ++ then_past) d) =
    each_copy_is_answered asks.command heard.what (device_now from (heard.before ++ then_past) d) heard.brings in
    let whole : round ++ then_past ≡ heard.after ++ ((befalls d heard.what ∷ heard.before) ++ then_past) =
    ap (λ (hs : List Happening). hs ++ then_past) heard.split
    ∙ append_assoc heard.after (befalls d heard.what ∷ heard.before) then_past in
    taken_ends from then_past (befalls d heard.what ∷ heard.before) heard.after next owed_next q d port.0 b.0
    answered.answer t x y (subst (λ (hs : List Happening). Happens from hs) whole h) ran next_last next_keep b.1 port.1
    (suits b.0.stage q asks.command answered.answer asks.of_stage answered.fits)
    (subst (λ (hs : List Happening). MayRead (store_after from hs) x y) whole may)
    (subst (λ (hs : List Happening). HasState (store_after from hs) x y t) whole has)
    (heard.taken answered.answer answered.given) m

-- what is kept since, and that nobody is awaited then
record Rounded (from : Beginning) (past round : List Happening) (s : ShowState) (now q : ℕ) (x y : List ℕ) : Type 0
  where
    since : KeptSince from past (round ++ ticked now ∷ []) s x y
    rules : IsTrue (is_state s)
    leads : Leads s (after_events s (joined_list since.kept))
    nobody : Keeps q s (after_events s (joined_list since.kept)) → (d : ℕ)
        → IsTrue (is_among d (awaited (after_events s (joined_list since.kept)) q)) → ⊥

rounded : (from : Beginning) (past round : List Happening) (s : ShowState) (owed : List (ℕ × Send)) (now q : ℕ)
    (x y : List ℕ) → Happens from (round ++ ticked now ∷ past) → store_after from past ≡ running s owed
    → IsTrue (nat_le q s.last_seq) → GoesWell from past s now round q
    → MayRead (store_after from (round ++ ticked now ∷ past)) x y → Rounded from past round s now q x y
rounded from past round s owed now q x y h at n well may =
    let parts : round ++ ticked now ∷ past ≡ (round ++ ticked now ∷ []) ++ past =
    sym (append_assoc round (ticked now ∷ []) past) in
    let rules : IsTrue (is_state s) =
    running_state from past s owed (happened_before from round (ticked now ∷ past) h).1 at in
    let k : KeptSince from past (round ++ ticked now ∷ []) s x y =
    kept_since from past (round ++ ticked now ∷ []) s owed x y (subst (λ (hs : List Happening). Happens from hs) parts h)
    at rules (subst (λ (hs : List Happening). MayRead (store_after from hs) x y) parts may) in
    let t : ShowState = after_events s (joined_list k.kept) in
    let has : HasState (store_after from (round ++ ticked now ∷ past)) x y t =
    subst (λ (hs : List Happening). HasState (store_after from hs) x y t) (sym parts) k.has in
    record {
      since = k;
      rules = rules;
      leads = leads_since rules k;
      nobody = λ keep d m. heard_out_ends from past round s owed now q d t x y h at n keep well may has m;
    }

pub a_cue_that_can_go_does_go : ACueThatCanGoDoesGo
a_cue_that_can_go_does_go from past round s owed now q x y h at c well may =
    let r : Rounded from past round s now q x y =
    rounded from past round s owed now q x y h at (settled_parts s q c).0 well may in
    let t : ShowState = after_events s (joined_list r.since.kept) in
    let gone : attempt_of t.live q ≡ None =
    nobody_left t q (leads_state r.rules r.leads) (leads_waits q r.rules c r.leads).settled (r.nobody (inl c)) in
    record {
      since = r.since;
      gone = gone;
      how = λ a found. what_ends_ends_so s (joined_list r.since.kept) a q r.rules (kept_ok_since r.rules r.since) c found
          gone;
    }

pub a_cue_that_is_prepared_can_go : ACueThatIsPreparedCanGo
a_cue_that_is_prepared_can_go from past round s owed now q x y h at n well may =
    let r : Rounded from past round s now q x y =
    rounded from past round s owed now q x y h at (low q s.last_seq n) well may in
    record {
      since = r.since;
      made = λ p moment port. go_is_made (after_events s (joined_list r.since.kept)) q moment port
          (leads_state r.rules r.leads) p (r.nobody (inr p));
    }
  where
    low : (m k : ℕ) → m ≤ k → IsTrue (nat_le m k)
    low m k e = grind (arith, nat_tests)
