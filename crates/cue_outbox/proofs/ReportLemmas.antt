-- What the rules of a state say of a live attempt.
use Rattle.std.proofs.Common.{◌≡◌, ℕ, ◌<◌, ◌≤◌, ◌^◌, Bool, true, false, ◌&&◌, cond, List, [], ◌∷◌, length, nat_eq}
use Rattle.std.proofs.Common.{nat_le, IsTrue, Option, None, Some, refl, sym, subst, arith}
use Rattle.std.specs.Prelude.{IfSome, is_some, unwrap_or}
use Rattle.std.specs.List.{AllByRecursion, list_all}
use Rattle.std.specs.Option.{option_map_or}
use Rattle.std.specs.Bool.{beq}
use Rattle.std.proofs.lemmas.Bool.{and_parts, leb-true, eqb-true}
use Rattle.cue_osc.specs.Spelling.{IsText}
use Rattle.cue_show.specs.Bytes.{are_bytes}
use Rattle.cue_show.specs.DeviceNumber.{is_device, is_port}
use Rattle.cue_show.specs.Devices.{distinct, devices_in}
use Rattle.cue_show.specs.Number.{is_cue_number}
use Rattle.cue_show.specs.Parts.{is_part, has_required_part, are_parts}
use Rattle.cue_show.specs.Show.{ShowLists, port_of, parts_of, has_device, are_known, is_entry, is_show, is_cue_of}
use Rattle.cue_show.specs.declared.limits.TheConstants.{MAX_DEVICE_NUMBER, MAX_PARTS, MAX_PART_BYTES}
use Rattle.cue_show.specs.declared.part.Part.{Part}
use Rattle.cue_show.proofs.ChangeLemmas.{is_cue_of-parts_of, is_entry-port_of}
use Rattle.cue_exchange.specs.declared.attempt.DeviceAnswer.{DeviceAnswer}
use Rattle.cue_exchange.specs.declared.attempt.Attempt.{Attempt}
use Rattle.cue_exchange.specs.declared.limits.TheConstants.{MAX_NUMBER}
use Rattle.cue_exchange.specs.Answers.{devices_of, has_required, may_be_in}
use Rattle.cue_exchange.specs.Live.{is_number, is_time, is_open, is_sound, have_sound_devices, is_attempt}
use Rattle.cue_exchange.proofs.LiveLemmas.{attempts_of}
use Rattle.cue_exchange.proofs.ListLemmas.{all_weaker, all_map}
use Rattle.cue_core.specs.State.{ShowState, cue_parts, is_of_part, are_of_parts, is_at_cue, is_state}
use Rattle.cue_core.specs.Pending.{bytes_for}
use Rattle.cue_core.proofs.rules.RuleLemmas.{rules_of}
use Rattle.cue_show.proofs.NumberLemmas.{number_text, number_short}
use Rattle.cue_outbox.proofs.ListLemmas.{each_weaker, each_passes, each_mapped}

-- what the rules say of a live attempt
pub record IsTold (s : ShowState) (a : Attempt) : Type 0 where
  pub number : a.seq < 2 ^ 31
  pub text : IsText a.cue
  pub short : length a.cue ≤ 16
  pub part : (d : ℕ) → length (bytes_for d (cue_parts s.show a.cue)) ≤ 32
  pub devices : AllByRecursion (λ (x : DeviceAnswer). x.device < 2 ^ 31) a.answers
  pub ports : AllByRecursion (λ (x : DeviceAnswer). IsTrue (is_port (unwrap_or (port_of s.show x.device) 0))) a.answers
  pub distinct : IsTrue (distinct (devices_of a.answers))

part_short : (d : ℕ) (parts : List Part) → IsTrue (list_all is_part parts) → length (bytes_for d parts) ≤ 32
part_short d [] h = omega arith
part_short d (p ∷ ps) h =
    let k = and_parts (is_part p) (list_all is_part ps) h in
    let here = and_parts (is_device p.device) (nat_le (length p.bytes) MAX_PART_BYTES && are_bytes p.bytes) k.0 in
    by (nat_eq p.device d) (leb-true (length p.bytes) MAX_PART_BYTES
    (and_parts (nat_le (length p.bytes) MAX_PART_BYTES) (are_bytes p.bytes) here.1).0) (part_short d ps k.1)
  where
    by : (b : Bool) → length p.bytes ≤ 32 → length (bytes_for d ps) ≤ 32 → length (cond b p.bytes (bytes_for d ps)) ≤ 32
    by true here rest = here
    by false here rest = rest

device_small : (d : ℕ) → IsTrue (is_device d) → d < 2 ^ 31
device_small d h = let k : d ≤ MAX_DEVICE_NUMBER = leb-true d MAX_DEVICE_NUMBER h in omega arith

part_device : (p : Part) → IsTrue (is_part p) → IsTrue (is_device p.device)
part_device p h = (and_parts (is_device p.device) (nat_le (length p.bytes) MAX_PART_BYTES && are_bytes p.bytes) h).0

-- the parts of a cue, each by itself
each_part : (parts : List Part) → IsTrue (are_parts parts) → IsTrue (list_all is_part parts)
each_part parts h =
    let some = and_parts (has_required_part parts)
    (nat_le (length parts) MAX_PARTS && (distinct (devices_in parts) && list_all is_part parts)) h in
    let few = and_parts (nat_le (length parts) MAX_PARTS) (distinct (devices_in parts) && list_all is_part parts)
    some.1 in
    (and_parts (distinct (devices_in parts)) (list_all is_part parts) few.1).1

-- the devices of the answers are those of the parts
pub devices_same : (parts : List Part) (answers : List DeviceAnswer) → IsTrue (are_of_parts parts answers)
    → devices_of answers ≡ devices_in parts
devices_same [] [] h = refl
devices_same [] (x ∷ xs) h = absurd cc
devices_same (p ∷ ps) [] h = absurd cc
devices_same (p ∷ ps) (x ∷ xs) h =
    let k = and_parts (is_of_part p x) (are_of_parts ps xs) h in
    let same : p.device ≡ x.device =
    eqb-true p.device x.device (and_parts (nat_eq p.device x.device) (beq p.optional x.optional) k.0).0 in
    rw (same, devices_same ps xs k.1) refl

-- what holds of each device of the parts, of each device of the attempt
pub devices_each : (test : ℕ → Bool) (answers : List DeviceAnswer) (parts : List Part)
    → devices_of answers ≡ devices_in parts → IsTrue (list_all (λ p. test p.device) parts)
    → AllByRecursion (λ (x : DeviceAnswer). IsTrue (test x.device)) answers
devices_each test answers parts same h =
    let P : List ℕ → Type 0 = AllByRecursion (λ d. IsTrue (test d)) in
    each_mapped (λ d. IsTrue (test d)) (λ x. x.device) answers
    (subst P (sym same) (each_passes test (devices_in parts) (all_map test (λ p. p.device) parts h)))

port_good : (show : ShowLists) (d : ℕ) → IsTrue (is_show show) → IsTrue (has_device show d)
    → IsTrue (is_port (unwrap_or (port_of show d) 0))
port_good show d rules there = by (port_of show d) (is_entry-port_of show d rules) there
  where
    by : (o : Option ℕ) → IfSome o (λ port. IsTrue (is_entry (d, port))) → IsTrue (is_some o)
        → IsTrue (is_port (unwrap_or o 0))
    by None entry there = absurd cc
    by (Some port) entry there = (and_parts (is_device d) (is_port port) entry).1

-- an attempt has a number and distinct devices
record IsNumbered (a : Attempt) : Type 0 where
  number : a.seq < 2 ^ 31
  distinct : IsTrue (distinct (devices_of a.answers))

numbered : (a : Attempt) → IsTrue (is_attempt a) → IsNumbered a
numbered a h =
    let whole = and_parts (is_sound a) (is_open a.stage a.answers) h in
    let first = and_parts (is_number a.seq)
    (is_time a.deadline && (have_sound_devices a.answers && list_all (may_be_in a.stage) a.answers)) whole.0 in
    let then = and_parts (is_time a.deadline) (have_sound_devices a.answers && list_all (may_be_in a.stage) a.answers)
    first.1 in
    let sound = and_parts (have_sound_devices a.answers) (list_all (may_be_in a.stage) a.answers) then.1 in
    let below : a.seq ≤ MAX_NUMBER =
    leb-true a.seq MAX_NUMBER (and_parts (nat_le 1 a.seq) (nat_le a.seq MAX_NUMBER) first.0).1 in
    record {
      number = omega arith;
      distinct = (and_parts (has_required a.answers) (distinct (devices_of a.answers)) sound.0).1;
    }

told : (s : ShowState) (a : Attempt) → IsTrue (is_show s.show) → IsTrue (is_attempt a) → IsTrue (is_at_cue s.show a)
    → IsTold s a
told s a rules attempt at = by (parts_of s.show a.cue) refl (is_cue_of-parts_of s.show a.cue rules) at
  where
    by : (o : Option (List Part)) → parts_of s.show a.cue ≡ o
        → IfSome o (λ parts. IsTrue (is_cue_of s.show (a.cue, parts)))
        → IsTrue (option_map_or (λ parts. are_of_parts parts a.answers) o false) → IsTold s a
    by None e cue same = absurd cc
    by (Some parts) e cue same =
        let c = and_parts (is_cue_number a.cue) (are_parts parts && are_known s.show parts) cue in
        let p = and_parts (are_parts parts) (are_known s.show parts) c.1 in
        let each = each_part parts p.0 in
        let devices : devices_of a.answers ≡ devices_in parts = devices_same parts a.answers same in
        let n = numbered a attempt in
        record {
          number = n.number;
          text = number_text a.cue c.0;
          short = number_short a.cue c.0;
          part = λ d. rw e (part_short d parts each);
          devices =
              each_weaker (λ (x : DeviceAnswer). IsTrue (is_device x.device)) (λ x. x.device < 2 ^ 31)
              (λ x. device_small x.device) a.answers
              (devices_each is_device a.answers parts devices
              (all_weaker is_part (λ q. is_device q.device) part_device parts each));
          ports =
              each_weaker (λ (x : DeviceAnswer). IsTrue (has_device s.show x.device))
              (λ x. IsTrue (is_port (unwrap_or (port_of s.show x.device) 0)))
              (λ x. port_good s.show x.device rules) a.answers
              (devices_each (has_device s.show) a.answers parts devices p.1);
          distinct = n.distinct;
        }

all_told : (s : ShowState) (live : List Attempt) → IsTrue (is_show s.show) → IsTrue (list_all is_attempt live)
    → IsTrue (list_all (is_at_cue s.show) live) → AllByRecursion (IsTold s) live
all_told s [] rules attempts at = tt
all_told s (a ∷ live) rules attempts at =
    let first = and_parts (is_attempt a) (list_all is_attempt live) attempts in
    let here = and_parts (is_at_cue s.show a) (list_all (is_at_cue s.show) live) at in
    (told s a rules first.0 here.0, all_told s live rules first.1 here.1)

pub live_told : (s : ShowState) → IsTrue (is_state s) → AllByRecursion (IsTold s) s.live
live_told s h = let r = rules_of s h in all_told s s.live r.show (attempts_of s.live r.live) r.at
