-- What an event that is acceptable leaves of the orders of each live attempt: either it asks its devices again, or what
-- its devices are still to be told was pending before.
use Rattle.std.proofs.Common.{◌≡◌, ℕ, ◌+◌, ◌<◌, ◌≤◌, List, [], ◌∷◌, map, find, refl, sym, ◌∙◌, ap, subst, Bool, true}
use Rattle.std.proofs.Common.{false, not, cond, ◌&&◌, nat_eq, nat_le, arith, Option, None, Some, IsTrue}
use Rattle.std.specs.Prelude.{IfSome, is_some, unwrap_or}
use Rattle.std.specs.List.{AllByRecursion, list_all, filter_map, cons_option}
use Rattle.std.specs.Option.{option_map, option_map_or, option_and_then, option_or}
use Rattle.std.proofs.lemmas.Bool.{and_parts, leb-true, ne_eqb, eqb-false}
use Rattle.std.proofs.lemmas.List.Folds.{find-append}
use Rattle.std.proofs.lemmas.Option.{same_Some}
use Rattle.cue_show.specs.Number.{same_text, is_cue_number}
use Rattle.cue_show.specs.Parts.{are_parts}
use Rattle.cue_show.specs.DeviceNumber.{is_device, is_port}
use Rattle.cue_show.specs.Show.{ShowLists, port_of, parts_of, has_device, has_cue, are_known, is_full, is_show}
use Rattle.cue_show.specs.Show.{is_cue_of, can_add_device, can_add_cue, with_device, without_device, with_cue}
use Rattle.cue_show.specs.Show.{without_cue}
use Rattle.cue_show.specs.declared.part.Part.{Part}
use Rattle.cue_show.proofs.ChangeLemmas.{is_cue_of-parts_of, port_of-with_device_other, port_of-without_device}
use Rattle.cue_show.proofs.ChangeLemmas.{parts_of-with_cue_other}
use Rattle.cue_show.proofs.ShowLemmas.{parts_of-without_cue}
use Rattle.cue_show.proofs.TextLemmas.{same_text-true}
use Rattle.cue_exchange.specs.declared.attempt.Answer.{Answer}
use Rattle.cue_exchange.specs.declared.attempt.Answer.TheVariants as answer
use Rattle.cue_exchange.specs.declared.attempt.Stage.{Stage}
use Rattle.cue_exchange.specs.declared.attempt.Stage.TheVariants.{Decided, Cancelling}
use Rattle.cue_exchange.specs.declared.attempt.DeviceAnswer.{DeviceAnswer}
use Rattle.cue_exchange.specs.declared.attempt.Attempt.{Attempt}
use Rattle.cue_exchange.specs.Answers.{some_waits, is_waiting, is_preparing, all_may_go, waits, answers_with}
use Rattle.cue_exchange.specs.Answers.{with_answer}
use Rattle.cue_exchange.specs.Live.{attempt_of, has_number}
use Rattle.cue_exchange.specs.Steps.{with_change, answers_as, moves_to, after_answer, after_move, after_start}
use Rattle.cue_exchange.specs.Steps.{new_attempt}
use Rattle.cue_exchange.specs.Steps.{without_ended, can_go_now}
use Rattle.cue_core.specs.declared.event.Event.{Event}
use Rattle.cue_core.specs.declared.event.Event.TheVariants as event
use Rattle.cue_core.specs.State.{ShowState, cue_parts, are_of_parts, is_at_cue, is_state}
use Rattle.cue_core.specs.Steps.{acceptable, after}
use Rattle.cue_core.specs.Pending.{Order, order_at, order_for, bytes_for}
use Rattle.cue_core.proofs.lists.ConditionLemmas.{both, join, same_number, same_self}
use Rattle.cue_core.proofs.live.FindingLemmas.{rising, found, found_has, found_passes, if_open, attempt_of-changed}
use Rattle.cue_core.proofs.live.FindingLemmas.{attempt_of-without_ended, attempt_of-without_ended_other, rising-changed}
use Rattle.cue_core.proofs.rules.RuleLemmas.{Rules, rules_of, begins, is_state-after}
use Rattle.cue_core.proofs.rules.SoundLemmas.{sound_of}
use Rattle.cue_outbox.specs.Asked.{number_asked}
use Rattle.cue_outbox.proofs.ReportLemmas.{devices_same, devices_each}

-- what the devices of the attempt are still to be told
abbrev pub told : ShowState → Attempt → List (ℕ × Order)
told s a = filter_map (order_for s a) a.answers

-- the new ones are among the old: each test that all of these pass is passed by all of those
pub record AreAmong (olds news : List (ℕ × Order)) : Type 0 where
  pub each : (test : ℕ × Order → Bool) → IsTrue (list_all test olds) → IsTrue (list_all test news)

-- the attempt has its stage, and its devices are to be told no more than before
pub record Stays (s : ShowState) (a : Attempt) (t : ShowState) (b : Attempt) : Type 0 where
  pub stage : b.stage ≡ a.stage
  pub among : AreAmong (told s a) (told t b)

-- how the attempt p is live as b in the state t that came of s: it was begun, it was moved on, or it stays
pub data Since (s t : ShowState) (p : ℕ) (b : Attempt) (asked : Bool) : Type 0 where
  begun : asked ≡ true → s.last_seq < p → Since s t p b asked
  moved_on : asked ≡ true → (a : Attempt) → attempt_of s.live p ≡ Some a → IsTrue (is_preparing a.stage)
      → is_preparing b.stage ≡ false → Since s t p b asked
  stayed : asked ≡ false → (a : Attempt) → attempt_of s.live p ≡ Some a → Stays s a t b → Since s t p b asked

-- the event asks the devices of q again
abbrev pub asks : ℕ → Event → Bool
asks q e = option_map_or (λ p. nat_eq p q) (number_asked e) false

-- ---- the same ports and parts

order_same : (s t : ShowState) (a : Attempt) (x : DeviceAnswer) → port_of t.show x.device ≡ port_of s.show x.device
    → cue_parts t.show a.cue ≡ cue_parts s.show a.cue → order_for t a x ≡ order_for s a x
order_same s t a x port parts =
    ap (λ (o : Option ℕ). cond (waits x)
    (Some (unwrap_or o 0, order_at a.stage a.seq x.device a.cue (bytes_for x.device (cue_parts t.show a.cue))))
    None) port
    ∙ ap (λ (ps : List Part). cond (waits x)
    (Some (unwrap_or (port_of s.show x.device) 0, order_at a.stage a.seq x.device a.cue (bytes_for x.device ps)))
    None) parts

told_same : (s t : ShowState) (a : Attempt) (xs : List DeviceAnswer) → cue_parts t.show a.cue ≡ cue_parts s.show a.cue
    → AllByRecursion (λ (x : DeviceAnswer). port_of t.show x.device ≡ port_of s.show x.device) xs
    → filter_map (order_for t a) xs ≡ filter_map (order_for s a) xs
told_same s t a [] parts ports = refl
told_same s t a (x ∷ xs) parts ports =
    ap (λ (o : Option (ℕ × Order)). cons_option o (filter_map (order_for t a) xs)) (order_same s t a x ports.0 parts)
    ∙ ap (λ (os : List (ℕ × Order)). cons_option (order_for s a x) os) (told_same s t a xs parts ports.1)

-- no event of the attempts, and the orders of the attempt as they were
pub same_since : (s t : ShowState) (p : ℕ) (b : Attempt) → told t b ≡ told s b → attempt_of s.live p ≡ Some b
    → Since s t p b false
same_since s t p b e h =
    stayed refl b h
    (record {
      stage = refl;
      among = record {
        each = λ test k. let P : List (ℕ × Order)
            → Type 0 = λ os. IsTrue (list_all test os) in subst P (sym e) k;
      };
    })

ports_each : (s t : ShowState) → ((d : ℕ) → IsTrue (has_device s.show d) → port_of t.show d ≡ port_of s.show d)
    → (xs : List DeviceAnswer) → AllByRecursion (λ (x : DeviceAnswer). IsTrue (has_device s.show x.device)) xs
    → AllByRecursion (λ (x : DeviceAnswer). port_of t.show x.device ≡ port_of s.show x.device) xs
ports_each s t f [] h = tt
ports_each s t f (x ∷ xs) h = (f x.device h.0, ports_each s t f xs h.1)

-- the devices of an attempt at its cue are in the table
known : (show : ShowLists) (a : Attempt) → IsTrue (is_show show) → IsTrue (is_at_cue show a)
    → AllByRecursion (λ (x : DeviceAnswer). IsTrue (has_device show x.device)) a.answers
known show a rules at = by (parts_of show a.cue) (is_cue_of-parts_of show a.cue rules) at
  where
    by : (o : Option (List Part)) → IfSome o (λ parts. IsTrue (is_cue_of show (a.cue, parts)))
        → IsTrue (option_map_or (λ parts. are_of_parts parts a.answers) o false)
        → AllByRecursion (λ (x : DeviceAnswer). IsTrue (has_device show x.device)) a.answers
    by None cue same = absurd cc
    by (Some parts) cue same =
        let c = and_parts (is_cue_number a.cue) (are_parts parts && are_known show parts) cue in
        let p = and_parts (are_parts parts) (are_known show parts) c.1 in
        devices_each (has_device show) a.answers parts (devices_same parts a.answers same) p.1

-- its cue is in the stack
cue_there : (show : ShowLists) (a : Attempt) → IsTrue (is_at_cue show a) → IsTrue (has_cue show a.cue)
cue_there show a at = by (parts_of show a.cue) at
  where
    by : (o : Option (List Part)) → IsTrue (option_map_or (λ parts. are_of_parts parts a.answers) o false)
        → IsTrue (is_some o)
    by None same = absurd cc
    by (Some parts) same = refl

at_of : (s : ShowState) (p : ℕ) (b : Attempt) → Rules s → attempt_of s.live p ≡ Some b → IsTrue (is_at_cue s.show b)
at_of s p b r h = found_has (is_at_cue s.show) (has_number p) s.live b r.at h

is_kept : {A : Type 0} (b : Bool) (o : Option A) → IsTrue (is_some (cond b None o)) → cond b None o ≡ o
is_kept true o h = absurd cc
is_kept false o h = refl

not_both : (b : Bool) → IsTrue b → IsTrue (not b) → ⊥
not_both true h k = cc
not_both false h k = cc

-- a device that goes into the table is another
port_beside : (show : ShowLists) (d port e : ℕ) → IsTrue (can_add_device show d port) → IsTrue (has_device show e)
    → port_of (with_device show d port) e ≡ port_of show e
port_beside show d port e can there = port_of-with_device_other show d port e (by (nat_eq e d) refl)
  where
    by : (b : Bool) → nat_eq e d ≡ b → b ≡ false
    by true k =
        let same : e ≡ d = same_number e d k in
        let P : ℕ → Type 0 = λ n. IsTrue (has_device show n) in
        absurd (not_both (has_device show d) (subst P same there)
        (and_parts (not (has_device show d)) (is_device d && is_port port) can).0)
    by false k = refl

-- and so is one that is left when another is taken out
port_left : (show : ShowLists) (d e : ℕ) → IsTrue (is_show show) → IsTrue (has_device (without_device show d) e)
    → port_of (without_device show d) e ≡ port_of show e
port_left show d e rules there =
    let same = port_of-without_device show d e rules in
    let P : Option ℕ → Type 0 = λ o. IsTrue (is_some o) in
    same ∙ is_kept (nat_eq d e) (port_of show e) (subst P same there)

parts_beside : (show : ShowLists) (c : List ℕ) (parts : List Part) (a : Attempt) → IsTrue (can_add_cue show c parts)
    → IsTrue (is_at_cue show a) → cue_parts (with_cue show c parts) a.cue ≡ cue_parts show a.cue
parts_beside show c parts a can at =
    ap (λ (o : Option (List Part)). unwrap_or o [])
    (parts_of-with_cue_other show c parts a.cue (by (same_text a.cue c) refl))
  where
    by : (b : Bool) → same_text a.cue c ≡ b → b ≡ false
    by true k =
        let same : a.cue ≡ c = same_text-true a.cue c k in
        let P : List ℕ → Type 0 = λ n. IsTrue (has_cue show n) in
        absurd (not_both (has_cue show c) (subst P same (cue_there show a at))
        (and_parts (not (has_cue show c)) (not (is_full show) && is_cue_of show (c, parts)) can).0)
    by false k = refl

parts_left : (show : ShowLists) (c : List ℕ) (a : Attempt) → IsTrue (is_show show)
    → IsTrue (is_at_cue (without_cue show c) a) → cue_parts (without_cue show c) a.cue ≡ cue_parts show a.cue
parts_left show c a rules at =
    let same = parts_of-without_cue show c a.cue rules in
    let P : Option (List Part) → Type 0 = λ o. IsTrue (is_some o) in
    ap (λ (o : Option (List Part)). unwrap_or o []) (same
    ∙ is_kept (same_text c a.cue) (parts_of show a.cue) (subst P same (cue_there (without_cue show c) a at)))

-- ---- a device answers

-- an order that is kept is one of before
kept_or_gone : (test : ℕ × Order → Bool) (o : ℕ × Order) (olds news : List (ℕ × Order)) (w v : Bool)
    → (v ≡ true → w ≡ true) → (IsTrue (list_all test olds) → IsTrue (list_all test news))
    → IsTrue (list_all test (cons_option (cond w (Some o) None) olds))
    → IsTrue (list_all test (cons_option (cond v (Some o) None) news))
kept_or_gone test o olds news true true k f h = let p = both (test o) (list_all test olds) h in
    join (test o) (list_all test news) p.0 (f p.1)
kept_or_gone test o olds news true false k f h = f (both (test o) (list_all test olds) h).1
kept_or_gone test o olds news false true k f h = let e : false ≡ true = k refl in absurd cc
kept_or_gone test o olds news false false k f h = f h

fewer_told : (s : ShowState) (a : Attempt) (d : ℕ) (given : Answer) (test : ℕ × Order → Bool) (xs : List DeviceAnswer)
    → is_waiting given ≡ false
    → IsTrue (list_all test (filter_map (order_for s a) xs))
    → IsTrue (list_all test (filter_map (order_for s a) (with_answer d given xs)))
fewer_told s a d given test [] w h = refl
fewer_told s a d given test (x ∷ xs) w h =
    kept_or_gone test (
      unwrap_or (port_of s.show x.device) 0,
      order_at a.stage a.seq x.device a.cue
          (bytes_for x.device (cue_parts s.show a.cue)),
    )
    (filter_map (order_for s a) xs) (filter_map (order_for s a) (with_answer d given xs)) (is_waiting x.answer)
    (is_waiting (answers_with d given x).answer)
    (by (nat_eq x.device d)) (fewer_told s a d given test xs w) h
  where
    by : (b : Bool) → is_waiting (cond b given x.answer) ≡ true → is_waiting x.answer ≡ true
    by true k = absurd cc
    by false k = k

answered_stays : (s : ShowState) (q d : ℕ) (given : Answer) (a : Attempt) → is_waiting given ≡ false
    → Stays s a s (with_change q (answers_as d given) a)
answered_stays s q d given a w = by (nat_eq a.seq q)
  where
    by : (b : Bool) → Stays s a s (cond b (answers_as d given a) a)
    by true = record { stage = refl; among = record { each = λ test h. fewer_told s a d given test a.answers w h } }
    by false = record { stage = refl; among = record { each = λ test h. h } }

-- the attempt that is found changed was found before
was : (f : Attempt → Attempt) (o : Option Attempt) (b : Attempt) → option_map f o ≡ Some b
    → (a : Attempt) × (o ≡ Some a) × (f a ≡ b)
was f None b h = absurd cc
was f (Some a) b h = (a, refl, same_Some (f a) b h)

changed_was : (q p : ℕ) (f : Attempt → Attempt) → ((a : Attempt) → (f a).seq ≡ a.seq)
    → (live : List Attempt) (b : Attempt) → attempt_of (map (with_change q f) live) p ≡ Some b
    → (a : Attempt) × (attempt_of live p ≡ Some a) × (with_change q f a ≡ b)
changed_was q p f keeps live b h =
    was (with_change q f) (attempt_of live p) b (sym (attempt_of-changed q p f keeps live)
    ∙ h)

-- the orders in t are those in s
carried : (s t : ShowState) (a b : Attempt) → told t b ≡ told s b → Stays s a s b → Stays s a t b
carried s t a b e h = record {
  stage = h.stage;
  among = record {
    each = λ test k. let P : List (ℕ × Order)
        → Type 0 = λ os. IsTrue (list_all test os) in subst P (sym e) (h.among.each test k);
  };
}

answered_since : (s t : ShowState) (q d p : ℕ) (given : Answer) (b : Attempt) → is_waiting given ≡ false
    → told t b ≡ told s b → attempt_of (after_answer q d given s.live) p ≡ Some b → Since s t p b false
answered_since s t q d p given b w same h =
    let c = changed_was q p (answers_as d given) (λ a. refl) s.live b h in
    let P : Attempt → Type 0 = λ x. Stays s c.0 s x in
    stayed refl c.0 c.1 (carried s t c.0 b same (subst P c.2 (answered_stays s q d given c.0 w)))

-- an attempt that is left when one ends was there
open_was : (o : Option Attempt) (b : Attempt) → option_and_then if_open o ≡ Some b → o ≡ Some b
open_was None b h = absurd cc
open_was (Some a) b h = by (some_waits a.answers) h
  where
    by : (w : Bool) → cond w (Some a) None ≡ Some b → Some a ≡ Some b
    by true k = k
    by false k = absurd cc

left_was : (q p : ℕ) (live : List Attempt) (b : Attempt) → IsTrue (rising live)
    → attempt_of (without_ended q live) p ≡ Some b → attempt_of live p ≡ Some b
left_was q p live b r h = by (nat_eq q p) refl
  where
    by : (t : Bool) → nat_eq q p ≡ t → attempt_of live p ≡ Some b
    by true k =
        let same : q ≡ p = same_number q p k in
        let P : ℕ → Type 0 = λ n. attempt_of (without_ended n live) p ≡ Some b in
        open_was (attempt_of live p) b (sym (attempt_of-without_ended p live r) ∙ subst P same h)
    by false k = sym (attempt_of-without_ended_other q p live k) ∙ h

settled_since : (s t : ShowState) (q d p : ℕ) (given : Answer) (b : Attempt) → is_waiting given ≡ false
    → told t b ≡ told s b → IsTrue (rising s.live)
    → attempt_of (without_ended q (after_answer q d given s.live)) p ≡ Some b
    → Since s t p b false
settled_since s t q d p given b w same r h =
    answered_since s t q d p given b w same
    (left_was q p (after_answer q d given s.live) b (rising-changed q (answers_as d given) (λ a. refl) s.live r) h)

-- ---- an attempt enters a stage

moved_since : (s t : ShowState) (q p : ℕ) (stage : Stage) (b : Attempt) → is_preparing stage ≡ false → (x : Attempt)
    → attempt_of s.live q ≡ Some x → IsTrue (is_preparing x.stage)
    → ((a : Attempt) → told t a ≡ told s a) → attempt_of (after_move q stage s.live) p ≡ Some b
    → Since s t p b (nat_eq q p)
moved_since s t q p stage b ends x e prepares same h =
    let c = changed_was q p (moves_to stage) (λ a. refl) s.live b h in
    by c.0 c.1 (nat_eq c.0.seq q) refl c.2
  where
    by : (a : Attempt) → attempt_of s.live p ≡ Some a → (k : Bool) → nat_eq a.seq q ≡ k
        → cond k (moves_to stage a) a ≡ b → Since s t p b (nat_eq q p)
    by a f true k m =
        let here : a.seq ≡ p = same_number a.seq p (found_passes (has_number p) s.live a f) in
        let there : a.seq ≡ q = same_number a.seq q k in
        let one : q ≡ p = sym there ∙ here in
        let P : ℕ → Type 0 = λ n. attempt_of s.live n ≡ Some x in
        let found_x : attempt_of s.live p ≡ Some x = subst P one e in
        let Q : Attempt → Type 0 = λ y. is_preparing y.stage ≡ false in
        moved_on (ap (λ n. nat_eq q n) (sym one) ∙ same_self q) x found_x prepares (subst Q m ends)
    by a f false k m =
        let here : a.seq ≡ p = same_number a.seq p (found_passes (has_number p) s.live a f) in
        let apart : nat_eq q p ≡ false = ne_eqb q p (λ e. eqb-false a.seq q k (here ∙ sym e)) in
        let P : Bool → Type 0 = λ z. Since s t p b z in
        let Q : Attempt → Type 0 = λ y. Since s t p y false in
        subst P (sym apart) (subst Q m (same_since s t p a (same a) f))

-- ---- an attempt begins

started_since : (s t : ShowState) (q p : ℕ) (c : List ℕ) (d : ℕ) (b : Attempt) → Rules s → q ≡ s.last_seq + 1
    → ((a : Attempt) → told t a ≡ told s a)
    → attempt_of (after_start q c d (cue_parts s.show c) s.live) p ≡ Some b → Since s t p b (nat_eq q p)
started_since s t q p c d b r next same h =
    by (attempt_of s.live p) refl (sym (find-append (has_number p) s.live (new_attempt q c d (cue_parts s.show c) ∷ []))
    ∙ h)
  where
    by : (o : Option Attempt) → attempt_of s.live p ≡ o
        → option_or o (find (has_number p) (new_attempt q c d (cue_parts s.show c) ∷ [])) ≡ Some b
        → Since s t p b (nat_eq q p)
    by (Some a) f m =
        let one : a ≡ b = same_Some a b m in
        let here : a.seq ≡ p = same_number a.seq p (found_passes (has_number p) s.live a f) in
        let low : a.seq ≤ s.last_seq =
        leb-true a.seq s.last_seq (found_has (λ y. nat_le y.seq s.last_seq) (has_number p) s.live a r.within f) in
        let apart : nat_eq q p ≡ false = ne_eqb q p (λ e. omega arith) in
        let P : Bool → Type 0 = λ z. Since s t p b z in
        let Q : Attempt → Type 0 = λ y. Since s t p y false in
        subst P (sym apart) (subst Q one (same_since s t p a (same a) f))
    by None f m = new (nat_eq q p) refl m
      where
        new : (z : Bool) → nat_eq q p ≡ z → cond z (Some (new_attempt q c d (cue_parts s.show c))) None ≡ Some b
            → Since s t p b z
        new true k n = let one : q ≡ p = same_number q p k in begun refl (omega arith)
        new false k n = absurd cc

-- ---- each event

pub since_event : (s : ShowState) (e : Event) (p : ℕ) (b : Attempt) → IsTrue (is_state s) → IsTrue (acceptable s e)
    → attempt_of (after s e).live p ≡ Some b → Since s (after s e) p b (asks p e)
since_event s (event.Device d port) p b i g h =
    let r = rules_of s i in
    same_since s (after s (event.Device d port)) p b
    (told_same s (after s (event.Device d port)) b b.answers refl
    (ports_each s (after s (event.Device d port)) (λ e there. port_beside s.show d port e g there) b.answers
    (known s.show b r.show (at_of s p b r h)))) h
since_event s (event.NoDevice d) p b i g h =
    let r = rules_of s i in
    let n = rules_of (after s (event.NoDevice d)) (is_state-after s (event.NoDevice d) i g) in
    same_since s (after s (event.NoDevice d)) p b
    (told_same s (after s (event.NoDevice d)) b b.answers refl
    (left b.answers (known (without_device s.show d) b n.show (at_of (after s (event.NoDevice d)) p b n h)))) h
  where
    left : (xs : List DeviceAnswer)
        → AllByRecursion (λ (x : DeviceAnswer). IsTrue (has_device (without_device s.show d) x.device)) xs
        → AllByRecursion (λ (x : DeviceAnswer). port_of (without_device s.show d) x.device ≡ port_of s.show x.device) xs
    left [] k = tt
    left (x ∷ xs) k = (port_left s.show d x.device (rules_of s i).show k.0, left xs k.1)
since_event s (event.Cue c parts) p b i g h =
    let r = rules_of s i in
    same_since s (after s (event.Cue c parts)) p b
    (told_same s (after s (event.Cue c parts)) b b.answers (parts_beside s.show c parts b g (at_of s p b r h))
    (ports_each s (after s (event.Cue c parts)) (λ e there. refl) b.answers (known s.show b r.show (at_of s p b r h))))
    h
since_event s (event.NoCue c) p b i g h =
    let r = rules_of s i in
    let n = rules_of (after s (event.NoCue c)) (is_state-after s (event.NoCue c) i g) in
    same_since s (after s (event.NoCue c)) p b
    (told_same s (after s (event.NoCue c)) b b.answers
    (parts_left s.show c b r.show (at_of (after s (event.NoCue c)) p b n h))
    (ports_each s (after s (event.NoCue c)) (λ e there. refl) b.answers (known s.show b r.show (at_of s p b r h)))) h
since_event s (event.Place c) p b i g h = same_since s (after s (event.Place c)) p b refl h
since_event s (event.Start q c t) p b i g h = started_since s (after s (event.Start q c t)) q p c t b (rules_of s i)
    (begins s q c t g).next (λ a. refl) h
since_event s (event.Ready q d) p b i g h = answered_since s (after s (event.Ready q d)) q d p answer.Ready b refl refl
    h
since_event s (event.Go q) p b i g h =
    let f = found q can_go_now s.live (sound_of s i).rises g in
    moved_since s (after s (event.Go q)) q p Decided b refl f.0 f.1
    (both (is_preparing f.0.stage) (all_may_go f.0.answers) f.2).0 (λ a. refl) h
since_event s (event.Done q d) p b i g h = settled_since s (after s (event.Done q d)) q d p answer.Done b refl refl
    (sound_of s i).rises h
since_event s (event.Cancel q reason) p b i g h =
    let f = found q (λ a. is_preparing a.stage) s.live (sound_of s i).rises g in
    moved_since s (after s (event.Cancel q reason)) q p (Cancelling reason) b refl f.0 f.1 f.2 (λ a. refl) h
since_event s (event.LetGo q d) p b i g h = settled_since s (after s (event.LetGo q d)) q d p answer.LetGo b refl refl
    (sound_of s i).rises h
since_event s (event.Failed q d) p b i g h = settled_since s (after s (event.Failed q d)) q d p answer.Failed b refl
    refl (sound_of s i).rises h
since_event s (event.Excuse q d) p b i g h = answered_since s (after s (event.Excuse q d)) q d p answer.Excused b refl
    refl h
