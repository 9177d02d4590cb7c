-- Each STANDBY that is pending gives its device the task that it has in the attempt, whatever comes later.
use Rattle.std.proofs.Common.{◌≡◌, ℕ, Bool, true, false, List, [], ◌∷◌, nat_eq, Option, None, Some, unwrap_or}
use Rattle.std.proofs.Common.{if◌then◌else◌, refl, sym, ap, ◌∙◌, subst, IsTrue}
use Rattle.std.specs.Prelude.{IfSome}
use Rattle.std.specs.List.{AllByRecursion, Contains, filter_map, list_any}
use Rattle.std.specs.Option.{option_map_or}
use Rattle.cue_show.specs.declared.part.Part.{Part}
use Rattle.cue_show.specs.Devices.{is_among}
use Rattle.cue_show.specs.Show.{ShowLists, port_of}
use Rattle.cue_exchange.specs.declared.attempt.Stage.{Stage}
use Rattle.cue_exchange.specs.declared.attempt.Stage.TheVariants.{Preparing, Decided, Cancelling}
use Rattle.cue_exchange.specs.declared.attempt.DeviceAnswer.{DeviceAnswer}
use Rattle.cue_exchange.specs.declared.attempt.Attempt.{Attempt}
use Rattle.cue_exchange.specs.Answers.{devices_of, waits}
use Rattle.cue_exchange.specs.Live.{devices_in}
use Rattle.cue_core.specs.declared.event.Event.{Event}
use Rattle.cue_core.specs.Events.{is_start_of}
use Rattle.cue_core.specs.Happenings.{onto}
use Rattle.cue_core.specs.History.{devices_by, is_history, parts_by, state_of}
use Rattle.cue_core.specs.Pending.{Order, standby, go_2pc, cancel, bytes_for, order_at, order_for, pending}
use Rattle.cue_core.specs.State.{ShowState, are_of_parts, cue_parts, empty_state, is_at_cue}
use Rattle.cue_core.proofs.history.TellsLemmas.{devices-parts}
use Rattle.cue_core.proofs.lists.AnyLemmas.{itself, or_left, or_right}
use Rattle.cue_core.proofs.rules.BatchLemmas.{state-onto}
use Rattle.cue_core.proofs.rules.RuleLemmas.{rules_of}
use Rattle.cue_core.proofs.rules.SoundLemmas.{is_state-history}
use Rattle.cue_device.specs.declared.asked.Task.{Task}
use Rattle.cue_outbox.proofs.ListLemmas.{each_flat, each_found, each_passes, each_weaker}
use Rattle.cue_engine.specs.Runs.{WasPending}
use Rattle.cue_stage.specs.Tasks.{IsTaskOf, cue_by}
use Rattle.cue_stage.proofs.BegunLemmas.{IsBegun, begun-history, each_both}
use Rattle.cue_stage.proofs.DeliveredLemmas.{each_has}
use Rattle.cue_stage.proofs.OfAttemptLemmas.{past_of, all_of_them}
use Rattle.cue_stage.proofs.StartLemmas.{cue_stays, history_before, no_start, parts_stay}

-- ---- the devices of an attempt

-- the attempt has begun, and its devices are those of its parts
abbrev HasDevices : List Event → ShowLists → Attempt → Type 0
HasDevices h show a = IsBegun h show a × (devices_of a.answers ≡ devices_by h a.seq)

all_have_devices : (h : List Event) → IsTrue (is_history h)
    → AllByRecursion (HasDevices h (state_of h).show) (state_of h).live
all_have_devices h p =
    let s : ShowState = state_of h in
    each_both (IsBegun h s.show) (λ a. IsTrue (is_at_cue s.show a)) (HasDevices h s.show)
    (λ a begun at. (
      begun,
      devices-parts (parts_by h a.seq) a.answers
          (subst (λ (o : Option (List Part)). IsTrue (option_map_or (λ parts. are_of_parts parts a.answers) o false))
          begun.2 at),
    )) s.live (begun-history h p)
    (each_passes (is_at_cue s.show) s.live (rules_of s (is_state-history h p)).at)

all_among : (xs : List DeviceAnswer) → AllByRecursion (λ x. is_among x.device (devices_of xs) ≡ true) xs
all_among [] = tt
all_among (x ∷ xs) = (
  or_left (nat_eq x.device x.device) _ (itself x.device),
  each_weaker (λ y. is_among y.device (devices_of xs) ≡ true) (λ y. is_among y.device (devices_of (x ∷ xs)) ≡ true)
      (λ y among. or_right (nat_eq x.device y.device) _ among) xs (all_among xs),
)

-- ---- what is pending

-- where the order is a STANDBY, its attempt has started with its device, and it holds the task of that
record Holds (h : List Event) (q d : ℕ) (c bs : List ℕ) : Type 0 where
  started : list_any (is_start_of q) h ≡ true
  among : is_among d (devices_by h q) ≡ true
  cue : c ≡ cue_by h q
  bytes : bs ≡ bytes_for d (parts_by h q)

abbrev HoldsTask : List Event → Order → Type 0
HoldsTask h (standby q d c bytes) = Holds h q d c bytes
HoldsTask h (go_2pc q d) = Unit {0}
HoldsTask h (cancel q d) = Unit {0}

order_holds : (h : List Event) (s : ShowState) (a : Attempt) → HasDevices h s.show a → (x : DeviceAnswer)
    → is_among x.device (devices_of a.answers) ≡ true
    → IfSome (order_for s a x) (λ o. HoldsTask h o.1)
order_holds h s a has x among = by (waits x)
  where
    made : (g : Stage) → HoldsTask h (order_at g a.seq x.device a.cue (bytes_for x.device (cue_parts s.show a.cue)))
    made Preparing = record {
      started = has.0.0;
      among = subst (λ (ds : List ℕ). is_among x.device ds ≡ true) has.1 among;
      cue = has.0.1;
      bytes = ap (λ (o : Option (List Part)). bytes_for x.device (unwrap_or o [])) has.0.2;
    }
    made Decided = tt
    made (Cancelling r) = tt

    by : (b : Bool) → IfSome {T = ℕ × Order} (if b then Some (
      unwrap_or (port_of s.show x.device) 0,
      order_at a.stage a.seq x.device a.cue (bytes_for x.device (cue_parts s.show a.cue)),
    ) else None) (λ o. HoldsTask h o.1)
    by true = made a.stage
    by false = tt

all_hold : (h : List Event) → IsTrue (is_history h) → AllByRecursion (λ o. HoldsTask h o.1) (pending (state_of h))
all_hold h p =
    let s : ShowState = state_of h in
    each_flat (HasDevices h s.show) (λ o. HoldsTask h o.1) (λ a. filter_map (order_for s a) a.answers)
    (λ a has. each_found (λ x. is_among x.device (devices_of a.answers) ≡ true) (λ o. HoldsTask h o.1) (order_for s a)
    (λ x among. order_holds h s a has x among) a.answers (all_among a.answers)) s.live (all_have_devices h p)

-- ---- whatever comes later

same_task : (t : Task) (c bytes : List ℕ) → t.cue ≡ c → t.bytes ≡ bytes → t ≡ record { cue = c; bytes = bytes }
same_task t c bytes e f = rw (← e, ← f) refl

-- a STANDBY that was pending holds the task that the device has by all the events
pub task_of_pending : (es : List Event) (q d : ℕ) (t : Task) → IsTrue (is_history (onto es []))
    → WasPending empty_state es (standby q d t.cue t.bytes) → IsTaskOf es q d t
task_of_pending es q d t h was =
    let past : List Event = past_of was.before in
    let all : onto es [] ≡ onto was.later past = all_of_them es was.before was.later was.split in
    let later_ok : IsTrue (is_history (onto was.later past)) =
    subst (λ (xs : List Event). IsTrue (is_history xs)) all h in
    let past_ok : IsTrue (is_history past) = history_before was.later past later_ok in
    let there : Contains (pending (state_of past)) (was.port, standby q d t.cue t.bytes) =
    subst (λ (s : ShowState). Contains (pending s) (was.port, standby q d t.cue t.bytes))
    (sym (state-onto [] was.before)) was.there in
    let holds : HoldsTask past (standby q d t.cue t.bytes) =
    each_has (λ (o : ℕ × Order). HoldsTask past o.1) (pending (state_of past)) (was.port, standby q d t.cue t.bytes)
    (all_hold past past_ok) there in
    let none : list_any (is_start_of q) was.later ≡ false = no_start q was.later past later_ok holds.started in
    let cue : cue_by (onto es []) q ≡ cue_by past q = ap (λ (xs : List Event). cue_by xs q) all
    ∙ cue_stays q was.later past none in
    let parts : parts_by (onto es []) q ≡ parts_by past q = ap (λ (xs : List Event). parts_by xs q) all
    ∙ parts_stay q was.later past none in
    record {
      of_attempt = subst (λ (ps : List Part). is_among d (devices_in ps) ≡ true) (sym parts) holds.among;
      is_it = same_task t (cue_by (onto es []) q) (bytes_for d (parts_by (onto es []) q)) (holds.cue ∙ sym cue)
          (holds.bytes ∙ sym (ap (bytes_for d) parts));
    }
