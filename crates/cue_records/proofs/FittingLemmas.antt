-- What may happen to a state is within the ranges of its text.
use Rattle.std.proofs.Common.{◌≡◌, ℕ, Bool, true, false, not, ◌&&◌, ◌||◌, List, [], ◌∷◌, Option, Some, None, IsTrue}
use Rattle.std.proofs.Common.{length, nat_eq, nat_le, refl, subst}
use Rattle.std.specs.Prelude.{IfSome, is_some}
use Rattle.std.specs.List.{list_all, list_any}
use Rattle.std.specs.Option.{option_map_or}
use Rattle.std.specs.Bool.{beq}
use Rattle.cue_show.specs.Bytes.{are_bytes}
use Rattle.cue_show.specs.DeviceNumber.{is_device, is_port}
use Rattle.cue_show.specs.Number.{is_cue_number}
use Rattle.cue_show.specs.Parts.{is_part, are_parts}
use Rattle.cue_show.specs.Show.{ShowLists, port_of, parts_of, has_device, has_cue, is_used, is_full, are_known}
use Rattle.cue_show.specs.Show.{is_entry, is_cue_of, is_show}
use Rattle.cue_show.specs.declared.limits.TheConstants.{MAX_PART_BYTES}
use Rattle.cue_show.specs.declared.part.Part.{Part}
use Rattle.cue_show.proofs.ChangeLemmas.{is_cue_of-parts_of, is_entry-port_of}
use Rattle.cue_exchange.specs.declared.attempt.DeviceAnswer.{DeviceAnswer}
use Rattle.cue_exchange.specs.declared.attempt.Stage.{Stage}
use Rattle.cue_exchange.specs.declared.attempt.Attempt.{Attempt}
use Rattle.cue_exchange.specs.Answers.{devices_of, is_preparing, is_decided, is_cancelling, is_concluding, waits}
use Rattle.cue_exchange.specs.Answers.{can_be_excused}
use Rattle.cue_exchange.specs.Live.{is_number, is_time, is_attempt, has_number, attempt_of_cue}
use Rattle.cue_exchange.specs.Steps.{holds, waits_in, can_go_now, can_excuse_now}
use Rattle.cue_exchange.proofs.LiveLemmas.{attempts_of, can_start_parts}
use Rattle.cue_exchange.proofs.ListLemmas.{all_given}
use Rattle.cue_core.specs.declared.event.Event.{Event}
use Rattle.cue_core.specs.declared.event.Event.TheVariants as event
use Rattle.cue_core.specs.State.{ShowState, cue_parts, is_of_part, are_of_parts, is_at_cue}
use Rattle.cue_core.specs.Steps.{acceptable, after, are_acceptable}
use Rattle.cue_core.proofs.lists.ConditionLemmas.{both, join, same_number}
use Rattle.cue_core.proofs.rules.RuleLemmas.{Rules, rules_of, begins, is_state-after}
use Rattle.cue_core.proofs.rules.SoundLemmas.{attempt_rules}
use Rattle.cue_records.specs.Batch.{is_event}
use Rattle.cue_records.specs.Laws.{AcceptableEventsFit}
use Rattle.cue_records.proofs.FieldLemmas.{parts_rules}

-- ---- devices and cues

device_fits : (show : ShowLists) (d : ℕ) → IsTrue (is_show show) → IsTrue (has_device show d) → IsTrue (is_device d)
device_fits show d rules there = by (port_of show d) (is_entry-port_of show d rules) there
  where
    by : (o : Option ℕ) → IfSome o (λ port. IsTrue (is_entry (d, port))) → IsTrue (is_some o) → IsTrue (is_device d)
    by None entry there = absurd cc
    by (Some port) entry there = (both (is_device d) (is_port port) entry).0

pub cue_fits : (show : ShowLists) (c : List ℕ) → IsTrue (is_show show) → IsTrue (has_cue show c)
    → IsTrue (is_cue_number c)
cue_fits show c rules there = by (parts_of show c) (is_cue_of-parts_of show c rules) there
  where
    by : (o : Option (List Part)) → IfSome o (λ parts. IsTrue (is_cue_of show (c, parts))) → IsTrue (is_some o)
        → IsTrue (is_cue_number c)
    by None cue there = absurd cc
    by (Some parts) cue there = (both (is_cue_number c) (are_parts parts && are_known show parts) cue).0

-- ---- attempts

-- the attempt's number and devices are within their ranges
abbrev is_ranged : Attempt → Bool
is_ranged a = is_number a.seq && list_all is_device (devices_of a.answers)

part_device : (p : Part) → IsTrue (is_part p) → IsTrue (is_device p.device)
part_device p h = (both (is_device p.device) (nat_le (length p.bytes) MAX_PART_BYTES && are_bytes p.bytes) h).0

-- the devices are those of the parts
parts_devices : (parts : List Part) (answers : List DeviceAnswer) → IsTrue (list_all is_part parts)
    → IsTrue (are_of_parts parts answers) → IsTrue (list_all is_device (devices_of answers))
parts_devices [] [] h same = refl
parts_devices [] (x ∷ xs) h same = absurd cc
parts_devices (p ∷ ps) [] h same = absurd cc
parts_devices (p ∷ ps) (x ∷ xs) h same =
    let k = both (is_part p) (list_all is_part ps) h in
    let s = both (is_of_part p x) (are_of_parts ps xs) same in
    let device = same_number p.device x.device (both (nat_eq p.device x.device) (beq p.optional x.optional) s.0).0 in
    join (is_device x.device) (list_all is_device (devices_of xs))
    (subst (λ d. IsTrue (is_device d)) device (part_device p k.0)) (parts_devices ps xs k.1 s.1)

devices_fit : (show : ShowLists) (a : Attempt) → IsTrue (is_show show) → IsTrue (is_at_cue show a)
    → IsTrue (list_all is_device (devices_of a.answers))
devices_fit show a rules at = by (parts_of show a.cue) (is_cue_of-parts_of show a.cue rules) at
  where
    by : (o : Option (List Part)) → IfSome o (λ parts. IsTrue (is_cue_of show (a.cue, parts)))
        → IsTrue (option_map_or (λ parts. are_of_parts parts a.answers) o false)
        → IsTrue (list_all is_device (devices_of a.answers))
    by None cue at = absurd cc
    by (Some parts) cue at =
        let k = both (is_cue_number a.cue) (are_parts parts && are_known show parts) cue in
        parts_devices parts a.answers (parts_rules parts (both (are_parts parts) (are_known show parts) k.1).0).each at

-- the cue of an attempt is one of the show
pub attempt_cue_fits : (show : ShowLists) (a : Attempt) → IsTrue (is_show show) → IsTrue (is_at_cue show a)
    → IsTrue (is_cue_number a.cue)
attempt_cue_fits show a rules at = by (parts_of show a.cue) (is_cue_of-parts_of show a.cue rules) at
  where
    by : (o : Option (List Part)) → IfSome o (λ parts. IsTrue (is_cue_of show (a.cue, parts)))
        → IsTrue (option_map_or (λ parts. are_of_parts parts a.answers) o false) → IsTrue (is_cue_number a.cue)
    by None cue at = absurd cc
    by (Some parts) cue at = (both (is_cue_number a.cue) (are_parts parts && are_known show parts) cue).0

live_fit : (s : ShowState) → Rules s → IsTrue (list_all is_ranged s.live)
live_fit s r =
    all_given is_attempt (is_at_cue s.show) is_ranged
    (λ a attempt at. join (is_number a.seq) (list_all is_device (devices_of a.answers)) (attempt_rules a attempt).number
    (devices_fit s.show a r.show at))
    s.live (attempts_of s.live r.live) r.at

-- what holds of some attempt with the number
some_fits : (goal : Bool) (q : ℕ) (test : Attempt → Bool) (live : List Attempt) → IsTrue (list_all is_ranged live)
    → ((a : Attempt) → IsTrue (is_ranged a) → a.seq ≡ q → IsTrue (test a) → IsTrue goal)
    → IsTrue (holds q test live) → IsTrue goal
some_fits goal q test [] fits use_it h = absurd cc
some_fits goal q test (a ∷ live) fits use_it h =
    by (has_number q a && test a) refl h
    (some_fits goal q test live (both (is_ranged a) (list_all is_ranged live) fits).1 use_it)
  where
    by : (b : Bool) → (has_number q a && test a) ≡ b → IsTrue (b || holds q test live)
        → (IsTrue (holds q test live) → IsTrue goal) → IsTrue goal
    by true e h others =
        let p = both (has_number q a) (test a) e in
        use_it a (both (is_ranged a) (list_all is_ranged live) fits).0 (same_number a.seq q p.0) p.1
    by false e h others = others h

number_fits : (s : ShowState) (q : ℕ) (test : Attempt → Bool) → Rules s → IsTrue (holds q test s.live)
    → IsTrue (is_number q)
number_fits s q test r h =
    some_fits (is_number q) q test s.live (live_fit s r)
    (λ a fits same passes. subst (λ n. IsTrue (is_number n)) same
    (both (is_number a.seq) (list_all is_device (devices_of a.answers)) fits).0) h

-- the device d is one of the attempt, and passes the test
abbrev device_passes : (DeviceAnswer → Bool) → ℕ → List DeviceAnswer → Bool
device_passes test d answers = list_any (λ x. nat_eq x.device d && test x) answers

passing_fits : (test : DeviceAnswer → Bool) (d : ℕ) (answers : List DeviceAnswer)
    → IsTrue (list_all is_device (devices_of answers)) → IsTrue (device_passes test d answers) → IsTrue (is_device d)
passing_fits test d [] fits h = absurd cc
passing_fits test d (x ∷ answers) fits h =
    by (nat_eq x.device d && test x) refl h
    (passing_fits test d answers (both (is_device x.device) (list_all is_device (devices_of answers)) fits).1)
  where
    by : (b : Bool) → (nat_eq x.device d && test x) ≡ b → IsTrue (b || device_passes test d answers)
        → (IsTrue (device_passes test d answers) → IsTrue (is_device d)) → IsTrue (is_device d)
    by true e h others = subst (λ n. IsTrue (is_device n))
        (same_number x.device d (both (nat_eq x.device d) (test x) e).0)
        (both (is_device x.device) (list_all is_device (devices_of answers)) fits).0
    by false e h others = others h

-- an event of a device in an attempt
device_fits_in : (s : ShowState) (q d : ℕ) (stage : Stage → Bool) (test : DeviceAnswer → Bool) → Rules s
    → IsTrue (holds q (λ a. stage a.stage && device_passes test d a.answers) s.live)
    → IsTrue (is_number q && is_device d)
device_fits_in s q d stage test r h =
    some_fits (is_number q && is_device d) q (λ a. stage a.stage && device_passes test d a.answers) s.live
    (live_fit s r)
    (λ a fits same passes.
    let p = both (is_number a.seq) (list_all is_device (devices_of a.answers)) fits in
    join (is_number q) (is_device d) (subst (λ n. IsTrue (is_number n)) same p.0)
    (passing_fits test d a.answers p.1 (both (stage a.stage) (device_passes test d a.answers) passes).1))
    h

answer_fits : (s : ShowState) (q d : ℕ) (stage : Stage → Bool) → Rules s → IsTrue (holds q (waits_in stage d) s.live)
    → IsTrue (is_number q && is_device d)
answer_fits s q d stage r h = device_fits_in s q d stage waits r h

excuse_fits : (s : ShowState) (q d : ℕ) → Rules s → IsTrue (holds q (can_excuse_now d) s.live)
    → IsTrue (is_number q && is_device d)
excuse_fits s q d r h = device_fits_in s q d is_preparing can_be_excused r h

-- ---- events

start_fits : (s : ShowState) (q : ℕ) (c : List ℕ) (t : ℕ) → Rules s → IsTrue (acceptable s (event.Start q c t))
    → IsTrue (is_number q && (is_cue_number c && is_time t))
start_fits s q c t r g =
    let b = begins s q c t g in
    join (is_number q) (is_cue_number c && is_time t) b.number
    (join (is_cue_number c) (is_time t) (cue_fits s.show c r.show b.cue)
    (can_start_parts q t (cue_parts s.show c) s.live b.start).time)

new_cue_fits : (s : ShowState) (c : List ℕ) (parts : List Part) → IsTrue (acceptable s (event.Cue c parts))
    → IsTrue (is_cue_number c && are_parts parts)
new_cue_fits s c parts g =
    let p = both (not (has_cue s.show c)) (not (is_full s.show) && is_cue_of s.show (c, parts)) g in
    let k = both (is_cue_number c) (are_parts parts && are_known s.show parts)
    (both (not (is_full s.show)) (is_cue_of s.show (c, parts)) p.1).1 in
    join (is_cue_number c) (are_parts parts) k.0 (both (are_parts parts) (are_known s.show parts) k.1).0

event_fits : (s : ShowState) (e : Event) → Rules s → IsTrue (acceptable s e) → IsTrue (is_event e)
event_fits s (event.Device d port) r g = (both (not (has_device s.show d)) (is_device d && is_port port) g).1
event_fits s (event.NoDevice d) r g =
    device_fits s.show d r.show (both (has_device s.show d) (not (is_used s.show d)) g).0
event_fits s (event.Cue c parts) r g = new_cue_fits s c parts g
event_fits s (event.NoCue c) r g =
    cue_fits s.show c r.show (both (has_cue s.show c) (not (is_some (attempt_of_cue s.live c))) g).0
event_fits s (event.Place c) r g = cue_fits s.show c r.show g
event_fits s (event.Start q c t) r g = start_fits s q c t r g
event_fits s (event.Ready q d) r g = answer_fits s q d is_preparing r g
event_fits s (event.Go q) r g = number_fits s q can_go_now r g
event_fits s (event.Done q d) r g = answer_fits s q d is_decided r g
event_fits s (event.Cancel q reason) r g = number_fits s q (λ a. is_preparing a.stage) r g
event_fits s (event.LetGo q d) r g = answer_fits s q d is_cancelling r g
event_fits s (event.Failed q d) r g = answer_fits s q d is_concluding r g
event_fits s (event.Excuse q d) r g = excuse_fits s q d r g

pub events_fit : AcceptableEventsFit
events_fit s [] h g = refl
events_fit s (e ∷ es) h g =
    let p = both (acceptable s e) (are_acceptable (after s e) es) g in
    join (is_event e) (list_all is_event es) (event_fits s e (rules_of s h) p.0)
    (events_fit (after s e) es (is_state-after s e h p.0) p.1)
