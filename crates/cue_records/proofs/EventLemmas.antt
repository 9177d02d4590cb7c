-- Events: what is read is spelled so and fits, and is read again.
use Rattle.std.proofs.Common.{◌≡◌, ℕ, Bool, true, false, not, cond, ◌&&◌, List, ◌∷◌, ◌++◌, Some, None, IsTrue, nat_le}
use Rattle.std.proofs.Common.{refl, sym, ap, subst, ◌∙◌}
use Rattle.cue_show.specs.Bytes.{are_bytes}
use Rattle.cue_show.specs.DeviceNumber.{is_device}
use Rattle.cue_show.specs.Number.{is_cue_number}
use Rattle.cue_show.specs.Parts.{are_parts}
use Rattle.cue_show.specs.declared.part.Part.{Part}
use Rattle.cue_exchange.specs.Live.{is_number, is_time}
use Rattle.cue_core.specs.declared.event.Event.{Event}
use Rattle.cue_core.specs.declared.event.Event.TheVariants as event
use Rattle.cue_core.proofs.lists.ConditionLemmas.{both, join}
use Rattle.cue_records.specs.declared.batch.kind.Kind.{Kind}
use Rattle.cue_records.specs.declared.batch.kind.Kind.TheVariants as kind
use Rattle.cue_records.specs.declared.parts_form.PartsForm.TheVariants.{Plain, Flagged}
use Rattle.cue_records.specs.Fields.{byte_text, number_text, time_text, text_text, new_cue_text, are_required}
use Rattle.cue_records.specs.Fields.{reason_number}
use Rattle.cue_records.specs.Batch.{event_text, is_event}
use Rattle.cue_records.specs.Reading.{Reads, as_at}
use Rattle.cue_records.specs.BatchReading.{kind_of, kind_at, start_at, answer_at, cancel_at, mixed_cue_at, body_at}
use Rattle.cue_records.specs.BatchReading.{event_at}
use Rattle.cue_records.proofs.TakingLemmas.{Takes, IsField, bind_some, some_is, bytes_behind, where_field, made_field}
use Rattle.cue_records.proofs.TakingLemmas.{both_field}
use Rattle.cue_records.proofs.FieldLemmas.{byte_field, step_number, device_field, sequence_field, time_field}
use Rattle.cue_records.proofs.FieldLemmas.{cue_field, entry_field, new_cue_fits, new_cue_field, reason_field}

-- ---- kinds

abbrev kind_number : Kind → ℕ
kind_number kind.Device = 1
kind_number kind.NoDevice = 2
kind_number kind.Cue = 3
kind_number kind.NoCue = 4
kind_number kind.Place = 5
kind_number kind.Start = 6
kind_number kind.Ready = 7
kind_number kind.Go = 8
kind_number kind.Done = 9
kind_number kind.Cancel = 10
kind_number kind.LetGo = 11
kind_number kind.Failed = 12
kind_number kind.MixedCue = 13
kind_number kind.Excuse = 14

kind_numbered : (n : ℕ) (k : Kind) → kind_of n ≡ Some k → kind_number k ≡ n
kind_numbered n =
    step_number kind_number n 1 kind.Device _ refl
    (step_number kind_number n 2 kind.NoDevice _ refl
    (step_number kind_number n 3 kind.Cue _ refl
    (step_number kind_number n 4 kind.NoCue _ refl
    (step_number kind_number n 5 kind.Place _ refl
    (step_number kind_number n 6 kind.Start _ refl
    (step_number kind_number n 7 kind.Ready _ refl
    (step_number kind_number n 8 kind.Go _ refl
    (step_number kind_number n 9 kind.Done _ refl
    (step_number kind_number n 10 kind.Cancel _ refl
    (step_number kind_number n 11 kind.LetGo _ refl
    (step_number kind_number n 12 kind.Failed _ refl
    (step_number kind_number n 13 kind.MixedCue _ refl
    (step_number kind_number n 14 kind.Excuse None refl (λ k e. absurd cc))))))))))))))

kind_again : (k : Kind) → kind_of (kind_number k) ≡ Some k
kind_again kind.Device = refl
kind_again kind.NoDevice = refl
kind_again kind.Cue = refl
kind_again kind.NoCue = refl
kind_again kind.Place = refl
kind_again kind.Start = refl
kind_again kind.Ready = refl
kind_again kind.Go = refl
kind_again kind.Done = refl
kind_again kind.Cancel = refl
kind_again kind.LetGo = refl
kind_again kind.Failed = refl
kind_again kind.MixedCue = refl
kind_again kind.Excuse = refl

kind_byte : (k : Kind) → IsTrue (nat_le (kind_number k) 255)
kind_byte kind.Device = refl
kind_byte kind.NoDevice = refl
kind_byte kind.Cue = refl
kind_byte kind.NoCue = refl
kind_byte kind.Place = refl
kind_byte kind.Start = refl
kind_byte kind.Ready = refl
kind_byte kind.Go = refl
kind_byte kind.Done = refl
kind_byte kind.Cancel = refl
kind_byte kind.LetGo = refl
kind_byte kind.Failed = refl
kind_byte kind.MixedCue = refl
kind_byte kind.Excuse = refl

kind_field : IsField kind_at (λ k. byte_text (kind_number k)) (λ k. true)
unfolding kind_at
kind_field = made_field kind_of kind_number (λ k. true) byte_field (λ n k h e. (kind_numbered n k e, refl))
    (λ k h. kind_again k) (λ k h. kind_byte k)

-- ---- bodies

-- an event was taken from behind the number of its kind
abbrev TakesEvent : ℕ → List ℕ → Event × List ℕ → Type 0
TakesEvent number bytes x = (number ∷ bytes ≡ event_text x.0 ++ x.1) × IsTrue (is_event x.0)

module _ {A : Type 0} {read : Reads A} {text : A → List ℕ} {fits : A → Bool} where
  taken : IsField read text fits → (make : A → Event) (number : ℕ)
      → ((y : A) → IsTrue (fits y) → event_text (make y) ≡ number ∷ text y)
      → ((y : A) → IsTrue (fits y) → IsTrue (is_event (make y)))
      → (bytes : List ℕ) (x : Event × List ℕ) → IsTrue (are_bytes bytes) → as_at make read bytes ≡ Some x
      → TakesEvent number bytes x
  taken f make number spelled fitting bytes x b e =
      let s = bind_some (read bytes) (λ y. Some (make y.0, y.1)) x e in
      let t = f.takes bytes s.0 b s.1 in
      subst (TakesEvent number bytes) (some_is (make s.0.0, s.0.1) x s.2) (
        ap (λ bs. number ∷ bs) t.0
            ∙ ap (λ bs. bs ++ s.0.1) (sym (spelled s.0.0 t.1)),
        fitting s.0.0 t.1,
      )

  given : IsField read text fits → (make : A → Event) (y : A) (rest : List ℕ) → IsTrue (fits y)
      → as_at make read (text y ++ rest) ≡ Some (make y, rest)
  given f make y rest h = rw (f.again y rest h) refl

start_field : IsField start_at (λ x. number_text x.0 ++ (text_text x.1.0 ++ time_text x.1.1))
    (λ x. is_number x.0 && (is_cue_number x.1.0 && is_time x.1.1))
unfolding start_at
start_field = both_field sequence_field (both_field cue_field time_field)

answer_field : IsField answer_at (λ x. number_text x.0 ++ byte_text x.1) (λ x. is_number x.0 && is_device x.1)
unfolding answer_at
answer_field = both_field sequence_field device_field

cancel_field : IsField cancel_at (λ x. number_text x.0 ++ byte_text (reason_number x.1)) (λ x. is_number x.0 && true)
unfolding cancel_at
cancel_field = both_field sequence_field reason_field

-- a cue is mixed where some part of it is optional
abbrev mixed_cue_fits : List ℕ × List Part → Bool
mixed_cue_fits x = not (are_required x.1) && new_cue_fits Flagged x

mixed_cue_field : IsField mixed_cue_at (new_cue_text Flagged) mixed_cue_fits
unfolding mixed_cue_at
mixed_cue_field = where_field (λ x. not (are_required x.1)) (new_cue_field Flagged)

-- the rules of a cue, one by one
record CueRules (c : List ℕ) (parts : List Part) (text : Bool) : Type 0 where
  number : IsTrue (is_cue_number c)
  fit : IsTrue (are_parts parts)
  told : IsTrue text

cue_rules : (c : List ℕ) (parts : List Part) (text : Bool) → IsTrue (is_cue_number c && (are_parts parts && text))
    → CueRules c parts text
cue_rules c parts text h =
    let p = both (is_cue_number c) (are_parts parts && text) h in
    let q = both (are_parts parts) text p.1 in
    record { number = p.0; fit = q.0; told = q.1 }

from_rules : (c : List ℕ) (parts : List Part) (text : Bool) → CueRules c parts text
    → IsTrue (is_cue_number c && (are_parts parts && text))
from_rules c parts text r =
    join (is_cue_number c) (are_parts parts && text) r.number (join (are_parts parts) text r.fit r.told)

not_false : (b : Bool) → IsTrue (not b) → b ≡ false
not_false false h = refl
not_false true h = absurd cc

cue_spelled : (x : List ℕ × List Part) → IsTrue (new_cue_fits Plain x)
    → event_text (event.Cue x.0 x.1) ≡ 3 ∷ new_cue_text Plain x
cue_spelled x h = let all : are_required x.1 ≡ true = (cue_rules x.0 x.1 (are_required x.1) h).told in rw all refl

mixed_spelled : (x : List ℕ × List Part) → IsTrue (mixed_cue_fits x)
    → event_text (event.Cue x.0 x.1) ≡ 13 ∷ new_cue_text Flagged x
mixed_spelled x h = let some : are_required x.1 ≡ false =
    not_false (are_required x.1) (both (not (are_required x.1)) (new_cue_fits Flagged x) h).0 in rw some refl

cue_is_event : (x : List ℕ × List Part) (text : Bool) → IsTrue (is_cue_number x.0 && (are_parts x.1 && text))
    → IsTrue (is_event (event.Cue x.0 x.1))
cue_is_event x text h = let r = cue_rules x.0 x.1 text h in join (is_cue_number x.0) (are_parts x.1) r.number r.fit

body_taken : (k : Kind) (bytes : List ℕ) (x : Event × List ℕ) → IsTrue (are_bytes bytes) → body_at k bytes ≡ Some x
    → TakesEvent (kind_number k) bytes x
unfolding body_at
body_taken kind.Device = taken entry_field (λ x. event.Device x.0 x.1) 1 (λ x h. refl) (λ x h. h)
body_taken kind.NoDevice = taken device_field (λ d. event.NoDevice d) 2 (λ d h. refl) (λ d h. h)
body_taken kind.Cue = taken (new_cue_field Plain) (λ x. event.Cue x.0 x.1) 3 cue_spelled
    (λ x h. cue_is_event x (are_required x.1) h)
body_taken kind.NoCue = taken cue_field (λ c. event.NoCue c) 4 (λ c h. refl) (λ c h. h)
body_taken kind.Place = taken cue_field (λ c. event.Place c) 5 (λ c h. refl) (λ c h. h)
body_taken kind.Start = taken start_field (λ x. event.Start x.0 x.1.0 x.1.1) 6 (λ x h. refl) (λ x h. h)
body_taken kind.Ready = taken answer_field (λ x. event.Ready x.0 x.1) 7 (λ x h. refl) (λ x h. h)
body_taken kind.Go = taken sequence_field (λ q. event.Go q) 8 (λ q h. refl) (λ q h. h)
body_taken kind.Done = taken answer_field (λ x. event.Done x.0 x.1) 9 (λ x h. refl) (λ x h. h)
body_taken kind.Cancel = taken cancel_field (λ x. event.Cancel x.0 x.1) 10 (λ x h. refl)
    (λ x h. (both (is_number x.0) true h).0)
body_taken kind.LetGo = taken answer_field (λ x. event.LetGo x.0 x.1) 11 (λ x h. refl) (λ x h. h)
body_taken kind.Failed = taken answer_field (λ x. event.Failed x.0 x.1) 12 (λ x h. refl) (λ x h. h)
body_taken kind.MixedCue = taken mixed_cue_field (λ x. event.Cue x.0 x.1) 13 mixed_spelled
    (λ x h. cue_is_event x true (both (not (are_required x.1)) (new_cue_fits Flagged x) h).1)
body_taken kind.Excuse = taken answer_field (λ x. event.Excuse x.0 x.1) 14 (λ x h. refl) (λ x h. h)

-- ---- events

event_takes : (bytes : List ℕ) (x : Event × List ℕ) → IsTrue (are_bytes bytes) → event_at bytes ≡ Some x
    → Takes event_text is_event bytes x
unfolding event_at
event_takes bytes x b e =
    let s = bind_some (kind_at bytes) (λ k. body_at k.0 k.1) x e in
    let t = kind_field.takes bytes s.0 b s.1 in
    let u = body_taken s.0.0 s.0.1 x (bytes_behind bytes (byte_text (kind_number s.0.0)) s.0.1 t.0 b) s.2 in
    (t.0 ∙ u.0, u.1)

-- a cue as it is told, by whether each part is required
cue_again : (c : List ℕ) (parts : List Part) (rest : List ℕ) → IsTrue (is_cue_number c) → IsTrue (are_parts parts)
    → event_at (event_text (event.Cue c parts) ++ rest) ≡ Some (event.Cue c parts, rest)
unfolding event_at kind_at body_at
cue_again c parts rest number fit = by (are_required parts) refl
  where
    by : (b : Bool) → are_required parts ≡ b
        → event_at ((cond b 3 13 ∷ new_cue_text (cond b Plain Flagged) (c, parts)) ++ rest) ≡ Some
        (event.Cue c parts, rest)
    by true all = given (new_cue_field Plain) (λ x. event.Cue x.0 x.1) (c, parts) rest
        (from_rules c parts (are_required parts) (record { number = number; fit = fit; told = all }))
    by false some =
        given mixed_cue_field (λ x. event.Cue x.0 x.1) (c, parts) rest
        (join (not (are_required parts)) (new_cue_fits Flagged (c, parts)) (rw some refl)
        (from_rules c parts true (record { number = number; fit = fit; told = refl })))

event_again : (e : Event) (rest : List ℕ) → IsTrue (is_event e) → event_at (event_text e ++ rest) ≡ Some (e, rest)
unfolding event_at kind_at body_at
event_again (event.Device d port) rest h = given entry_field (λ x. event.Device x.0 x.1) (d, port) rest h
event_again (event.NoDevice d) rest h = given device_field (λ d. event.NoDevice d) d rest h
event_again (event.Cue c parts) rest h = let k = both (is_cue_number c) (are_parts parts) h in
    cue_again c parts rest k.0 k.1
event_again (event.NoCue c) rest h = given cue_field (λ c. event.NoCue c) c rest h
event_again (event.Place c) rest h = given cue_field (λ c. event.Place c) c rest h
event_again (event.Start q c t) rest h = given start_field (λ x. event.Start x.0 x.1.0 x.1.1) (q, (c, t)) rest h
event_again (event.Ready q d) rest h = given answer_field (λ x. event.Ready x.0 x.1) (q, d) rest h
event_again (event.Go q) rest h = given sequence_field (λ q. event.Go q) q rest h
event_again (event.Done q d) rest h = given answer_field (λ x. event.Done x.0 x.1) (q, d) rest h
event_again (event.Cancel q r) rest h = given cancel_field (λ x. event.Cancel x.0 x.1) (q, r) rest
    (join (is_number q) true h refl)
event_again (event.LetGo q d) rest h = given answer_field (λ x. event.LetGo x.0 x.1) (q, d) rest h
event_again (event.Failed q d) rest h = given answer_field (λ x. event.Failed x.0 x.1) (q, d) rest h
event_again (event.Excuse q d) rest h = given answer_field (λ x. event.Excuse x.0 x.1) (q, d) rest h

pub event_field : IsField event_at event_text is_event
event_field = record { takes = event_takes; again = event_again }
