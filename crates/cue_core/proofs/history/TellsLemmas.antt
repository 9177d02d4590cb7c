-- What a history tells of one live attempt, and that an event of another attempt tells nothing new of it.
use Rattle.std.proofs.Common.{◌≡◌, ℕ, List, [], ◌∷◌, refl, sym, ◌∙◌, Bool, true, false, not, ◌&&◌, ◌||◌, nat_eq}
use Rattle.std.specs.Prelude.{IsTrue}
use Rattle.std.specs.Bool.{beq}
use Rattle.std.specs.List.{list_all, list_any}
use Rattle.cue_show.specs.declared.part.Part.{Part}
use Rattle.cue_exchange.specs.declared.attempt.Answer.{Answer}
use Rattle.cue_exchange.specs.declared.attempt.Answer.TheVariants.{Waiting, Ready, Done, LetGo, Failed, Excused}
use Rattle.cue_exchange.specs.declared.attempt.DeviceAnswer.{DeviceAnswer}
use Rattle.cue_exchange.specs.declared.attempt.Attempt.{Attempt}
use Rattle.cue_exchange.specs.Answers.{is_ready, is_excused, is_preparing, is_decided, is_cancelling}
use Rattle.cue_exchange.specs.Answers.{devices_of}
use Rattle.cue_exchange.specs.Live.{devices_in}
use Rattle.cue_core.specs.declared.event.Event.{Event}
use Rattle.cue_core.specs.declared.event.Event.TheVariants as event
use Rattle.cue_core.specs.Events.{is_start_of, is_ready_of, is_excuse_of, is_go_of, is_cancel_of, is_end_of}
use Rattle.cue_core.specs.State.{is_of_part, are_of_parts}
use Rattle.cue_core.specs.History.{parts_by, devices_by, stood_by, was_excused}
use Rattle.cue_core.proofs.lists.ConditionLemmas.{both, all_from, agrees}
use Rattle.cue_core.proofs.lists.ConditionLemmas.{same_number}

-- the device is done with: it has answered for the last time, or was excused
abbrev pub is_last : Answer → Bool
is_last Waiting = false
is_last Ready = false
is_last Done = true
is_last LetGo = true
is_last Failed = true
is_last Excused = true

-- the history has Ready of the device, and no Excuse, exactly where it stands by
abbrev pub ready_by : List Event → ℕ → DeviceAnswer → Bool
ready_by h q x = agrees (is_ready x.answer) (stood_by h q x.device && not (was_excused h q x.device))

-- the history has Excuse of the device exactly where it is excused
abbrev pub excused_by : List Event → ℕ → DeviceAnswer → Bool
excused_by h q x = agrees (is_excused x.answer) (was_excused h q x.device)

-- the history has an end of the device exactly where it is done with
abbrev pub last_by : List Event → ℕ → DeviceAnswer → Bool
last_by h q x = agrees (is_last x.answer) (list_any (is_end_of q x.device) h)

pub record Tells (h : List Event) (q : ℕ) (a : Attempt) : Type 0 where
  pub begun : IsTrue (list_any (is_start_of q) h)
  pub parts : IsTrue (are_of_parts (parts_by h q) a.answers)
  pub decided : is_decided a.stage ≡ list_any (is_go_of q) h
  pub cancelled : is_cancelling a.stage ≡ list_any (is_cancel_of q) h
  pub ready : IsTrue (is_preparing a.stage) → IsTrue (list_all (ready_by h q) a.answers)
  pub excused : IsTrue (is_preparing a.stage) → IsTrue (list_all (excused_by h q) a.answers)
  pub ended : IsTrue (list_all (last_by h q) a.answers)

-- ---- the devices are those of the parts

pub devices-parts : (parts : List Part) (xs : List DeviceAnswer) → IsTrue (are_of_parts parts xs)
    → devices_of xs ≡ devices_in parts
devices-parts [] [] k = refl
devices-parts [] (x ∷ xs) k = cc
devices-parts (p ∷ ps) [] k = cc
devices-parts (p ∷ ps) (x ∷ xs) k =
    let m = both (is_of_part p x) (are_of_parts ps xs) k in
    rw (
      same_number p.device x.device (both (nat_eq p.device x.device) (beq p.optional x.optional) m.0).0,
      devices-parts
          ps xs m.1,
    ) refl

pub devices_told : (h : List Event) (q : ℕ) (a : Attempt) → Tells h q a → devices_of a.answers ≡ devices_by h q
devices_told h q a t = devices-parts (parts_by h q) a.answers t.parts

-- ---- an event of another attempt tells nothing new

pub or_skip : (b c : Bool) → b ≡ false → (b || c) ≡ c
or_skip false c e = refl
or_skip true c e = cc

-- the event is one of the attempt q
abbrev pub is_about : ℕ → Event → Bool
is_about q (event.Start p c t) = nat_eq p q
is_about q (event.Ready p d) = nat_eq p q
is_about q (event.Go p) = nat_eq p q
is_about q (event.Done p d) = nat_eq p q
is_about q (event.Cancel p r) = nat_eq p q
is_about q (event.LetGo p d) = nat_eq p q
is_about q (event.Failed p d) = nat_eq p q
is_about q (event.Excuse p d) = nat_eq p q
is_about q _ = false

-- none of the tests on q passes the event
pub record IsQuiet (q : ℕ) (e : Event) : Type 0 where
  pub start : is_start_of q e ≡ false
  pub go : is_go_of q e ≡ false
  pub cancel : is_cancel_of q e ≡ false
  pub ready : (d : ℕ) → is_ready_of q d e ≡ false
  pub excuse : (d : ℕ) → is_excuse_of q d e ≡ false
  pub end : (d : ℕ) → is_end_of q d e ≡ false

and_false : (b c : Bool) → b ≡ false → (b && c) ≡ false
and_false false c e = refl
and_false true c e = cc

pub quiet : (q : ℕ) (e : Event) → is_about q e ≡ false → IsQuiet q e
quiet q (event.Device d port) h =
    record { start = refl; go = refl; cancel = refl; ready = λ d. refl; excuse = λ d. refl; end = λ d. refl }
quiet q (event.NoDevice d) h =
    record { start = refl; go = refl; cancel = refl; ready = λ d. refl; excuse = λ d. refl; end = λ d. refl }
quiet q (event.Cue c parts) h =
    record { start = refl; go = refl; cancel = refl; ready = λ d. refl; excuse = λ d. refl; end = λ d. refl }
quiet q (event.NoCue c) h =
    record { start = refl; go = refl; cancel = refl; ready = λ d. refl; excuse = λ d. refl; end = λ d. refl }
quiet q (event.Place c) h =
    record { start = refl; go = refl; cancel = refl; ready = λ d. refl; excuse = λ d. refl; end = λ d. refl }
quiet q (event.Start p c t) h =
    record { start = h; go = refl; cancel = refl; ready = λ d. refl; excuse = λ d. refl; end = λ d. refl }
quiet q (event.Ready p e) h =
    record {
      start = refl;
      go = refl;
      cancel = refl;
      ready = λ d. and_false (nat_eq p q) (nat_eq e d) h;
      excuse =
          λ d. refl;
      end = λ d. refl;
    }
quiet q (event.Go p) h =
    record { start = refl; go = h; cancel = refl; ready = λ d. refl; excuse = λ d. refl; end = λ d. refl }
quiet q (event.Done p e) h =
    record {
      start = refl;
      go = refl;
      cancel = refl;
      ready = λ d. refl;
      excuse = λ d. refl;
      end =
          λ d. and_false (nat_eq p q) (nat_eq e d) h;
    }
quiet q (event.Cancel p r) h =
    record { start = refl; go = refl; cancel = h; ready = λ d. refl; excuse = λ d. refl; end = λ d. refl }
quiet q (event.LetGo p e) h =
    record {
      start = refl;
      go = refl;
      cancel = refl;
      ready = λ d. refl;
      excuse = λ d. refl;
      end =
          λ d. and_false (nat_eq p q) (nat_eq e d) h;
    }
quiet q (event.Failed p e) h =
    record {
      start = refl;
      go = refl;
      cancel = refl;
      ready = λ d. refl;
      excuse = λ d. refl;
      end =
          λ d. and_false (nat_eq p q) (nat_eq e d) h;
    }
quiet q (event.Excuse p e) h =
    record {
      start = refl;
      go = refl;
      cancel = refl;
      ready = λ d. refl;
      excuse =
          λ d. and_false (nat_eq p q) (nat_eq e d) h;
      end = λ d. and_false (nat_eq p q) (nat_eq e d) h;
    }

pub parts_by-on : (q : ℕ) (e : Event) (h : List Event) → is_start_of q e ≡ false → parts_by (e ∷ h) q ≡ parts_by h q
parts_by-on q e h n = rw n refl

pub devices_by-on : (q : ℕ) (e : Event) (h : List Event) → is_start_of q e ≡ false
    → devices_by (e ∷ h) q ≡ devices_by h q
devices_by-on q e h n = rw n refl

agrees_on : (b old new : Bool) → new ≡ old → IsTrue (agrees b old) → IsTrue (agrees b new)
agrees_on b old new e h = rw e h

still_by : (r x stood excused : Bool) → r ≡ false → x ≡ false
    → ((r || stood) && not (x || excused)) ≡ (stood && not excused)
still_by r x stood excused e f = rw (e, f) refl

pub tells-on : (q : ℕ) (e : Event) (h : List Event) (a : Attempt) → IsQuiet q e → Tells h q a → Tells (e ∷ h) q a
tells-on q e h a n t = record {
  begun = rw n.start t.begun;
  parts = rw (parts_by-on q e h n.start) t.parts;
  decided = t.decided ∙ sym (or_skip (is_go_of q e) (list_any (is_go_of q) h) n.go);
  cancelled = t.cancelled ∙ sym (or_skip (is_cancel_of q e) (list_any (is_cancel_of q) h) n.cancel);
  ready = λ p. all_from (ready_by h q) (ready_by (e ∷ h) q) a.answers
      (λ x k. agrees_on (is_ready x.answer) (stood_by h q x.device && not (was_excused h q x.device))
      (stood_by (e ∷ h) q x.device && not (was_excused (e ∷ h) q x.device))
      (still_by (is_ready_of q x.device e) (is_excuse_of q x.device e) (stood_by h q x.device)
      (was_excused h q x.device) (n.ready x.device) (n.excuse x.device)) k) (t.ready p);
  excused = λ p. all_from (excused_by h q) (excused_by (e ∷ h) q) a.answers
      (λ x k. agrees_on (is_excused x.answer) (was_excused h q x.device) (was_excused (e ∷ h) q x.device)
      (or_skip (is_excuse_of q x.device e) (was_excused h q x.device) (n.excuse x.device)) k) (t.excused p);
  ended = all_from (last_by h q) (last_by (e ∷ h) q) a.answers
      (λ x k. agrees_on (is_last x.answer) (list_any (is_end_of q x.device) h) (list_any (is_end_of q x.device) (e ∷ h))
      (or_skip (is_end_of q x.device e) (list_any (is_end_of q x.device) h) (n.end x.device)) k) t.ended;
}
