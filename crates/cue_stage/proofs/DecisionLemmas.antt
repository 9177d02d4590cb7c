-- What is handed over rests on the batches that are kept.
use Rattle.std.proofs.Common.{◌≡◌, ◌⊎◌, inl, inr, ℕ, ◌^◌, ◌<◌, ◌≤◌, Ok, List, [], ◌∷◌, length, refl, ap, ◌∙◌, IsTrue}
use Rattle.std.proofs.Common.{arith}
use Rattle.std.specs.Prelude.{codes}
use Rattle.std.specs.List.{AllByRecursion, list_any}
use Rattle.std.proofs.lemmas.Bool.{leb-true}
use Rattle.cue_show.specs.declared.limits.TheConstants.{MAX_DEVICE_NUMBER, MAX_PART_BYTES}
use Rattle.cue_show.specs.DeviceNumber.{is_device}
use Rattle.cue_core.specs.declared.event.Event.{Event}
use Rattle.cue_core.specs.Events.{is_cancel_of, is_go_of}
use Rattle.cue_core.specs.Happenings.{onto}
use Rattle.cue_core.specs.History.{is_history}
use Rattle.cue_core.specs.State.{empty_state}
use Rattle.cue_core.specs.Pending.{standby, cancel, go_2pc}
use Rattle.cue_outbox.specs.Sending.{number, order_content}
use Rattle.cue_osc.specs.Reading.{datagram_at}
use Rattle.cue_show.proofs.NumberLemmas.{number_short, number_text}
use Rattle.cue_outbox.proofs.ListLemmas.{each_weaker}
use Rattle.cue_outbox.proofs.ReadBackLemmas.{read_back, cancel_writable, go_2pc_writable, standby_writable}
use Rattle.cue_engine.specs.Headline.{CameTo}
use Rattle.cue_engine.specs.InBytes.{AreReadAs, BytesPending, BytesRest}
use Rattle.cue_engine.specs.Runs.{joined_list}
use Rattle.cue_engine.proofs.KeptLemmas.{kept_is_a_history, never_both}
use Rattle.cue_engine.proofs.PromisedLemmas.{whatever_happens}
use Rattle.cue_device.specs.declared.asked.Command.TheVariants.{Standby, Go, Cancel}
use Rattle.cue_device.specs.declared.asked.Task.{Task}
use Rattle.cue_device.specs.declared.reading.TheConstants.{MAX_NUMBER}
use Rattle.cue_device.specs.Datagrams.{IsFor, IsTask, command_text}
use Rattle.cue_stage.specs.Stage.{Beginning, Happening, handed_by, incidents, life_of, tasks_by}
use Rattle.cue_stage.specs.Laws.{HeardCancel, HeardStandby, KeepsEachDecision, MovesRestOnDecisions, NotByHalves}
use Rattle.cue_stage.specs.Laws.{WasToGiveUp, WasToMove}
use Rattle.cue_stage.specs.Tasks.{IsForItsTask, IsTaskOf, task_by}
use Rattle.cue_stage.proofs.LifeLemmas.{begins, store_happens}
use Rattle.cue_stage.proofs.DeliveredLemmas.{WasTold, each_has, was_told, was_told_to_go}
use Rattle.cue_stage.proofs.OfAttemptLemmas.{IsOfAttempt, of_pending}
use Rattle.cue_stage.proofs.StandbyLemmas.{task_of_pending}
use Rattle.cue_stage.proofs.TaskLemmas.{IsForOne, all_for_it, gives_up_by_cancel}

device_fits : (d : ℕ) → IsTrue (is_device d) → d < 2 ^ 31
device_fits d h = let le : d ≤ MAX_DEVICE_NUMBER = leb-true d MAX_DEVICE_NUMBER h in omega arith

-- the bytes that a device takes for a GO_2PC are read as one, to it
read_as_order : (d q : ℕ) (bytes : List ℕ) → IsTrue (is_device d) → IsFor d bytes (Go q)
    → datagram_at bytes ≡ Ok (order_content (go_2pc q d))
unfolding command_text order_content
read_as_order d q bytes is_number f =
    let most : q ≤ MAX_NUMBER = f.is_command.numbered.1 in
    let below : q < 2 ^ 31 = omega arith in
    ap datagram_at f.text ∙ read_back (order_content (go_2pc q d)) (go_2pc_writable q d below (device_fits d is_number))

read_as_go : (d q : ℕ) (bytes : List ℕ) → IsTrue (is_device d) → IsFor d bytes (Go q)
    → AreReadAs bytes (codes "/msc/go_2pc") q
unfolding order_content
read_as_go d q bytes is_number f = (number d ∷ [], read_as_order d q bytes is_number f)

read_as_cancel : (d q : ℕ) (bytes : List ℕ) → IsTrue (is_device d) → IsFor d bytes (Cancel q)
    → AreReadAs bytes (codes "/msc/cancel") q
unfolding command_text order_content
read_as_cancel d q bytes is_number f =
    let most : q ≤ MAX_NUMBER = f.is_command.numbered.1 in
    let below : q < 2 ^ 31 = omega arith in (
      number d ∷ [],
      ap datagram_at f.text
          ∙ read_back (order_content (cancel q d)) (cancel_writable q d below (device_fits d is_number)),
    )

read_as_standby : (d q : ℕ) (t : Task) (bytes : List ℕ) → IsTrue (is_device d) → IsFor d bytes (Standby q t)
    → datagram_at bytes ≡ Ok (order_content (standby q d t.cue t.bytes))
unfolding command_text order_content
read_as_standby d q t bytes is_number f =
    let most : q ≤ MAX_NUMBER = f.is_command.numbered.1 in
    let below : q < 2 ^ 31 = omega arith in
    let task : IsTask t = f.is_command.tasked in
    let short : length t.bytes ≤ MAX_PART_BYTES = task.short in
    ap datagram_at f.text
    ∙ read_back (order_content (standby q d t.cue t.bytes))
    (standby_writable q d t.cue t.bytes below (device_fits d is_number) (number_text t.cue task.cue)
    (number_short t.cue task.cue) (omega arith))

-- all that was handed over rests on the events
abbrev Rest : Beginning → List Happening → List Event → Type 0
Rest from past es = AllByRecursion (λ m. BytesRest empty_state es m.1) (handed_by from past)

go_rests : (from : Beginning) (past : List Happening) (es : List Event) (d q : ℕ) → Rest from past es
    → WasTold from past d (Go q) → IsTrue (list_any (is_go_of q) es)
go_rests from past es d q rest told =
    let m = told.delivered in
    let bytes : BytesRest empty_state es m.datagram.1 = each_has (λ (m : ℕ × List ℕ). BytesRest empty_state es m.1)
    (handed_by from past) m.datagram rest m.was_handed in
    bytes.go_2pc q (read_as_go d q m.datagram.1 told.number m.is_command)

cancel_rests : (from : Beginning) (past : List Happening) (es : List Event) (d q : ℕ) → Rest from past es
    → WasTold from past d (Cancel q) → IsTrue (list_any (is_cancel_of q) es)
cancel_rests from past es d q rest told =
    let m = told.delivered in
    let bytes : BytesRest empty_state es m.datagram.1 = each_has (λ (m : ℕ × List ℕ). BytesRest empty_state es m.1)
    (handed_by from past) m.datagram rest m.was_handed in
    bytes.cancelled q (read_as_cancel d q m.datagram.1 told.number m.is_command)

-- all orders that were handed over were pending
abbrev WerePending : Beginning → List Happening → List Event → Type 0
WerePending from past es = AllByRecursion (λ m. BytesPending empty_state es m.1) (handed_by from past)

go_of_attempt : (from : Beginning) (past : List Happening) (es : List Event) (d q : ℕ)
    → IsTrue (is_history (onto es []))
    → WerePending from past es → WasTold from past d (Go q) → IsOfAttempt es q d
go_of_attempt from past es d q h pending told =
    let m = told.delivered in
    let bytes : BytesPending empty_state es m.datagram.1 =
    each_has (λ (m : ℕ × List ℕ). BytesPending empty_state es m.1) (handed_by from past) m.datagram pending
    m.was_handed in
    of_pending es q d h (bytes (go_2pc q d) (read_as_order d q m.datagram.1 told.number m.is_command))

-- a STANDBY that came to a device gave it its task
gives_task : (from : Beginning) (past : List Happening) (es : List Event) (d q : ℕ) (t : Task)
    → IsTrue (is_history (onto es [])) → WerePending from past es → WasTold from past d (Standby q t)
    → IsTaskOf es q d t
gives_task from past es d q t h pending told =
    let m = told.delivered in
    let bytes : BytesPending empty_state es m.datagram.1 =
    each_has (λ (m : ℕ × List ℕ). BytesPending empty_state es m.1) (handed_by from past) m.datagram pending
    m.was_handed in
    task_of_pending es q d t h
    (bytes (standby q d t.cue t.bytes) (read_as_standby d q t m.datagram.1 told.number m.is_command))

-- and so all that its machine was ordered was for its task
ordered_for_tasks : (from : Beginning) (past : List Happening) (es : List Event) (d : ℕ)
    → ((q : ℕ) (t : Task) → HeardStandby from past d q t → IsTaskOf es q d t)
    → AllByRecursion (IsForItsTask es d) (tasks_by from past d)
ordered_for_tasks from past es d given =
    each_weaker (IsForOne (λ q t. IsTaskOf es q d t)) (IsForItsTask es d)
    (λ o k. record { task = k.0; is_it = k.1; its_own = k.2 }) (tasks_by from past d)
    (all_for_it (λ q t. IsTaskOf es q d t) d (from.over d) (life_of d past) given)

pub moves_rest_on_decisions : MovesRestOnDecisions
moves_rest_on_decisions from past x y h may =
    let came : CameTo empty_state from.store (incidents past) x y =
    whatever_happens empty_state from.store (incidents past) x y refl (begins from past h)
    (store_happens from past h) may in
    let es : List Event = joined_list came.kept in
    let history : IsTrue (is_history (onto es [])) = kept_is_a_history (incidents past) came.kept came.prefix in
    let going : (d q : ℕ) → WasToMove from past d q → IsOfAttempt es q d =
    λ d q m. go_of_attempt from past es d q history came.was_pending (was_told_to_go from past d q h m) in
    let given : (d q : ℕ) (t : Task) → HeardStandby from past d q t → IsTaskOf es q d t =
    λ d q t m. gives_task from past es d q t history came.was_pending (was_told from past d (Standby q t) h m) in
    let cancelled : (d q : ℕ) → HeardCancel from past d q → IsTrue (list_any (is_cancel_of q) es) =
    λ d q m. cancel_rests from past es d q came.in_bytes (was_told from past d (Cancel q) h m) in
    record {
      kept = came.kept;
      prefix = came.prefix;
      has = came.has;
      decided = λ d q m. go_rests from past (joined_list came.kept) d q came.in_bytes
          (was_told_to_go from past d q h m);
      cancelled = cancelled;
      given_up = λ d q m. cancelled d q
          (gives_up_by_cancel (λ p. task_by (onto es []) p d) d (from.over d) q (life_of d past)
          (λ p t c. (given d p t c).is_it) m);
      of_attempt = λ d q m. (going d q m).among;
      not_excused = λ d q m. (going d q m).not_excused;
      given = given;
      ordered = λ d. ordered_for_tasks from past es d (given d);
    }

pub not_by_halves : NotByHalves
not_by_halves from past x y d e q h may moved ended = by ended
  where
    came : KeepsEachDecision from past x y
    came = moves_rest_on_decisions from past x y h may

    both : IsTrue (list_any (is_cancel_of q) (joined_list came.kept)) → ⊥
    both given_up = never_both q (incidents past) came.kept came.prefix (came.decided d q moved) given_up

    by : HeardCancel from past e q ⊎ WasToGiveUp from past e q → ⊥
    by (inl heard) = both (came.cancelled e q heard)
    by (inr ordered) = both (came.given_up e q ordered)
