-- How each event of a live attempt carries on what the history tells of it.
use Rattle.std.proofs.Common.{◌≡◌, ℕ, List, [], ◌∷◌, refl, sym, ◌∙◌, Bool, true, false, not, ◌&&◌, ◌||◌, nat_eq}
use Rattle.std.specs.Prelude.{IsTrue, if◌then◌else◌}
use Rattle.std.specs.List.{list_all, list_any}
use Rattle.cue_show.specs.declared.part.Part.{Part}
use Rattle.cue_exchange.specs.declared.attempt.Answer.{Answer}
use Rattle.cue_exchange.specs.declared.attempt.Answer.TheVariants.{Waiting, Ready, Done, LetGo, Failed, Excused}
use Rattle.cue_exchange.specs.declared.attempt.Stage.{Stage}
use Rattle.cue_exchange.specs.declared.attempt.Reason.{Reason}
use Rattle.cue_exchange.specs.declared.attempt.Stage.TheVariants.{Preparing, Decided, Cancelling}
use Rattle.cue_exchange.specs.declared.attempt.DeviceAnswer.{DeviceAnswer}
use Rattle.cue_exchange.specs.declared.attempt.Attempt.{Attempt}
use Rattle.cue_exchange.specs.Answers.{is_ready, is_excused, is_waiting, is_preparing, is_decided, is_cancelling}
use Rattle.cue_exchange.specs.Answers.{is_concluding, is_known_in, is_required, may_be_in, waits, some_waits, entering}
use Rattle.cue_exchange.specs.Answers.{enters, answers_on_entry, answer_passes, answers_with, first_answer}
use Rattle.cue_exchange.specs.Steps.{answers_as, moves_to, new_attempt}
use Rattle.cue_core.specs.declared.event.Event.{Event}
use Rattle.cue_core.specs.declared.event.Event.TheVariants as event
use Rattle.cue_core.specs.Events.{is_start_of, is_go_of, is_cancel_of, is_end_of}
use Rattle.cue_core.specs.History.{parts_by, devices_by, stood_by, was_excused}
use Rattle.cue_core.proofs.lists.ConditionLemmas.{all_of, both, join, all_zip, all_from, all_mapped, agrees, same_self}
use Rattle.cue_core.proofs.lists.ConditionLemmas.{same_number, number_sym, same-agrees, none_passes}
use Rattle.cue_core.proofs.rules.AtCueLemmas.{are_of_parts-with_answer, are_of_parts-entered, are_of_parts-first_answers}
use Rattle.cue_core.proofs.history.TellsLemmas.{is_last, ready_by, excused_by, last_by, Tells, devices_told, or_skip}
use Rattle.cue_core.proofs.history.TellsLemmas.{parts_by-on}

-- ---- the start

pub tells-start : (q : ℕ) (c : List ℕ) (t : ℕ) (parts : List Part) (h : List Event)
    → list_any (is_go_of q) h ≡ false → list_any (is_cancel_of q) h ≡ false
    → ((d : ℕ) → stood_by h q d ≡ false) → ((d : ℕ) → was_excused h q d ≡ false)
    → ((d : ℕ) → list_any (is_end_of q d) h ≡ false)
    → parts_by (event.Start q c t ∷ h) q ≡ parts
    → Tells (event.Start q c t ∷ h) q (new_attempt q c t parts)
tells-start q c t parts h go cancel ready excused end same = record {
  begun = rw (same_self q) refl;
  parts = rw same (are_of_parts-first_answers parts);
  decided = sym go;
  cancelled = sym cancel;
  ready = λ p. rw (all_mapped (ready_by (event.Start q c t ∷ h) q) first_answer parts)
      (all_of (λ x. ready_by (event.Start q c t ∷ h) q (first_answer x)) parts (λ x. rw (ready x.device) refl));
  excused = λ p. rw (all_mapped (excused_by (event.Start q c t ∷ h) q) first_answer parts)
      (all_of (λ x. excused_by (event.Start q c t ∷ h) q (first_answer x)) parts (λ x. rw (excused x.device) refl));
  ended = rw (all_mapped (last_by (event.Start q c t ∷ h) q) first_answer parts)
      (all_of (λ x. last_by (event.Start q c t ∷ h) q (first_answer x)) parts (λ x. rw (end x.device) refl));
}

-- ---- an answer

-- what the history says of each device that passes a test, it does not say of one that waits and so does not pass
pub waiting_not : (test : Answer → Bool) → test Waiting ≡ false → (R : ℕ → Bool) (d : ℕ) (xs : List DeviceAnswer)
    → IsTrue (list_all (λ x. agrees (test x.answer) (R x.device)) xs) → IsTrue (answer_passes is_waiting d xs)
    → R d ≡ false
waiting_not test none R d [] k w = cc
waiting_not test none R d (x ∷ xs) k w =
    let p = both (agrees (test x.answer) (R x.device)) (list_all (λ x. agrees (test x.answer) (R x.device)) xs) k in
    at (nat_eq x.device d) refl x.answer (same-agrees (test x.answer) (R x.device) p.0)
    (waiting_not test none R d xs p.1) w
  where
    at : (b : Bool) → nat_eq x.device d ≡ b → (answer : Answer) → test answer ≡ R x.device
        → (IsTrue (answer_passes is_waiting d xs) → R d ≡ false)
        → IsTrue ((b && is_waiting answer) || answer_passes is_waiting d xs) → R d ≡ false
    at true e Waiting r f w = let same = same_number x.device d e in rw same at (sym r ∙ none)
    at true e Ready r f w = f w
    at true e Done r f w = f w
    at true e LetGo r f w = f w
    at true e Failed r f w = f w
    at true e Excused r f w = f w
    at false e answer r f w = f w

at_device : (R : ℕ → Bool) (d n : ℕ) → R d ≡ false → nat_eq n d ≡ true → R n ≡ false
at_device R d n h e = let same = same_number n d e in rw same h

-- what a device has answered, and what the history says of it, as the device d answers that it stands by
ready_told : (q d n : ℕ) (b : Bool) (answer : Answer) (stood excused : Bool) → nat_eq n d ≡ b
    → (nat_eq n d ≡ true → excused ≡ false) → IsTrue (agrees (is_ready answer) (stood && not excused))
    → IsTrue (agrees (is_ready (if b then Ready else answer)) (((nat_eq q q && nat_eq d n) || stood) && not excused))
ready_told q d n true answer stood excused e f k = rw (f e, same_self q, number_sym d n, e) refl
ready_told q d n false answer stood excused e f k = rw (same_self q, number_sym d n, e) k

-- an answer that does not pass, of a device of which the history says nothing
none_told : (test : Answer → Bool) (d n : ℕ) (b : Bool) (given answer : Answer) (past : Bool) → nat_eq n d ≡ b
    → test given ≡ false → (nat_eq n d ≡ true → past ≡ false) → IsTrue (agrees (test answer) past)
    → IsTrue (agrees (test (if b then given else answer)) past)
none_told test d n true given answer past e g f k = rw (g, f e) refl
none_told test d n false given answer past e g f k = k

pub tells-ready : (q d : ℕ) (h : List Event) (a : Attempt) → IsTrue (answer_passes is_waiting d a.answers) → Tells h q a
    → Tells (event.Ready q d ∷ h) q (answers_as d Ready a)
tells-ready q d h a w t = record {
  begun = t.begun;
  parts = rw (are_of_parts-with_answer (parts_by h q) d Ready a.answers) t.parts;
  decided = t.decided;
  cancelled = t.cancelled;
  ready = λ p. rw (all_mapped (ready_by (event.Ready q d ∷ h) q) (answers_with d Ready) a.answers)
      (all_from (ready_by h q) (λ x. ready_by (event.Ready q d ∷ h) q (answers_with d Ready x)) a.answers
      (λ x k. ready_told q d x.device (nat_eq x.device d) x.answer (stood_by h q x.device)
      (was_excused h q x.device) refl (at_device (was_excused h q) d x.device (not_excused p)) k) (t.ready p));
  excused = λ p. rw (all_mapped (excused_by (event.Ready q d ∷ h) q) (answers_with d Ready) a.answers)
      (all_from (excused_by h q) (λ x. excused_by (event.Ready q d ∷ h) q (answers_with d Ready x)) a.answers
      (λ x k. none_told is_excused d x.device (nat_eq x.device d) Ready x.answer (was_excused h q x.device) refl
      refl (at_device (was_excused h q) d x.device (not_excused p)) k) (t.excused p));
  ended = rw (all_mapped (last_by (event.Ready q d ∷ h) q) (answers_with d Ready) a.answers)
      (all_from (last_by h q) (λ x. last_by (event.Ready q d ∷ h) q (answers_with d Ready x)) a.answers
      (λ x k. none_told is_last d x.device (nat_eq x.device d) Ready x.answer (list_any (is_end_of q x.device) h)
      refl refl (at_device (λ n. list_any (is_end_of q n) h) d x.device
      (waiting_not is_last refl (λ n. list_any (is_end_of q n) h) d a.answers t.ended w)) k) t.ended);
}
  where
    not_excused : IsTrue (is_preparing a.stage) → was_excused h q d ≡ false
    not_excused p = waiting_not is_excused refl (was_excused h q) d a.answers (t.excused p) w

-- as the device d is excused, it stands by no more
gone_told : (q d n : ℕ) (b : Bool) (answer : Answer) (stood excused : Bool) → nat_eq n d ≡ b
    → IsTrue (agrees (is_ready answer) (stood && not excused))
    → IsTrue (agrees (is_ready (if b then Excused else answer)) (stood && not ((nat_eq q q && nat_eq d n) || excused)))
gone_told q d n true answer true excused e k = rw (same_self q, number_sym d n, e) refl
gone_told q d n true answer false excused e k = refl
gone_told q d n false answer stood excused e k = rw (same_self q, number_sym d n, e) k

-- an answer that passes, of the device of which the event says so
now_told : (test : Answer → Bool) (b : Bool) (given answer : Answer) (now past : Bool) → now ≡ b → IsTrue (test given)
    → IsTrue (agrees (test answer) past)
    → IsTrue (agrees (test (if b then given else answer)) (now || past))
now_told test true given answer now past e l k = rw (e, l) refl
now_told test false given answer now past e l k = rw e k

pub of_device : (q d n : ℕ) → (nat_eq q q && nat_eq d n) ≡ nat_eq n d
of_device q d n = rw (same_self q) (number_sym d n)

pub tells-excuse : (q d : ℕ) (h : List Event) (a : Attempt) → Tells h q a
    → Tells (event.Excuse q d ∷ h) q (answers_as d Excused a)
tells-excuse q d h a t = record {
  begun = t.begun;
  parts = rw (are_of_parts-with_answer (parts_by h q) d Excused a.answers) t.parts;
  decided = t.decided;
  cancelled = t.cancelled;
  ready = λ p. rw (all_mapped (ready_by (event.Excuse q d ∷ h) q) (answers_with d Excused) a.answers)
      (all_from (ready_by h q) (λ x. ready_by (event.Excuse q d ∷ h) q (answers_with d Excused x)) a.answers
      (λ x k. gone_told q d x.device (nat_eq x.device d) x.answer (stood_by h q x.device) (was_excused h q x.device)
      refl k) (t.ready p));
  excused = λ p. rw (all_mapped (excused_by (event.Excuse q d ∷ h) q) (answers_with d Excused) a.answers)
      (all_from (excused_by h q) (λ x. excused_by (event.Excuse q d ∷ h) q (answers_with d Excused x)) a.answers
      (λ x k. now_told is_excused (nat_eq x.device d) Excused x.answer (nat_eq q q && nat_eq d x.device)
      (was_excused h q x.device) (of_device q d x.device) refl k) (t.excused p));
  ended = rw (all_mapped (last_by (event.Excuse q d ∷ h) q) (answers_with d Excused) a.answers)
      (all_from (last_by h q) (λ x. last_by (event.Excuse q d ∷ h) q (answers_with d Excused x)) a.answers
      (λ x k. now_told is_last (nat_eq x.device d) Excused x.answer (nat_eq q q && nat_eq d x.device)
      (list_any (is_end_of q x.device) h) (of_device q d x.device) refl k) t.ended);
}

-- ---- a new stage

-- a device is done with after its attempt is decided or cancelled exactly where it was before
entering_keeps : (old new : Stage) (answer : Answer) → IsTrue (is_preparing old) → IsTrue (is_concluding new)
    → IsTrue (is_known_in old answer) → is_last (entering new answer) ≡ is_last answer
entering_keeps Preparing Preparing answer p n k = cc
entering_keeps Preparing Decided Waiting p n k = refl
entering_keeps Preparing Decided Ready p n k = refl
entering_keeps Preparing Decided Done p n k = cc
entering_keeps Preparing Decided LetGo p n k = cc
entering_keeps Preparing Decided Failed p n k = cc
entering_keeps Preparing Decided Excused p n k = refl
entering_keeps Preparing (Cancelling r) Waiting p n k = refl
entering_keeps Preparing (Cancelling r) Ready p n k = refl
entering_keeps Preparing (Cancelling r) Done p n k = cc
entering_keeps Preparing (Cancelling r) LetGo p n k = cc
entering_keeps Preparing (Cancelling r) Failed p n k = cc
entering_keeps Preparing (Cancelling r) Excused p n k = refl
entering_keeps Decided new answer p n k = cc
entering_keeps (Cancelling r) new answer p n k = cc

pub knows : (stage : Stage) (x : DeviceAnswer) → IsTrue (may_be_in stage x) → IsTrue (is_known_in stage x.answer)
knows stage x k = (both (is_known_in stage x.answer) (not (is_required x && is_excused x.answer)) k).0

moved_told : (old new : Bool) (past : Bool) → new ≡ old → IsTrue (agrees old past) → IsTrue (agrees new past)
moved_told old new past e k = rw e k

ended_on : (q : ℕ) (stage : Stage) (h : List Event) (a : Attempt) → IsTrue (is_preparing a.stage)
    → IsTrue (is_concluding stage) → IsTrue (list_all (may_be_in a.stage) a.answers)
    → IsTrue (list_all (last_by h q) a.answers) → IsTrue (list_all (last_by h q) (answers_on_entry stage a.answers))
ended_on q stage h a p c s t = rw (all_mapped (last_by h q) (enters stage) a.answers)
    (all_zip (may_be_in a.stage) (last_by h q) (λ x. last_by h q (enters stage x)) a.answers
    (λ x k l. moved_told (is_last x.answer) (is_last (entering stage x.answer)) (list_any (is_end_of q x.device) h)
    (entering_keeps a.stage stage x.answer p c (knows a.stage x k)) l) s t)

pub not_decided : (stage : Stage) → IsTrue (is_preparing stage) → (is_decided stage ≡ false)
    × (is_cancelling stage ≡ false)
not_decided Preparing p = (refl, refl)
not_decided Decided p = cc
not_decided (Cancelling r) p = cc

pub tells-go : (q : ℕ) (h : List Event) (a : Attempt) → IsTrue (is_preparing a.stage)
    → IsTrue (list_all (may_be_in a.stage) a.answers) → Tells h q a → Tells (event.Go q ∷ h) q (moves_to Decided a)
tells-go q h a p s t = record {
  begun = t.begun;
  parts = rw (are_of_parts-entered (parts_by h q) Decided a.answers) t.parts;
  decided = rw (same_self q) refl;
  cancelled = sym (not_decided a.stage p).1 ∙ t.cancelled;
  ready = λ k. cc;
  excused = λ k. cc;
  ended = ended_on q Decided h a p refl s t.ended;
}

pub tells-cancel : (q : ℕ) (r : Reason) (h : List Event) (a : Attempt) → IsTrue (is_preparing a.stage)
    → IsTrue (list_all (may_be_in a.stage) a.answers) → Tells h q a
    → Tells (event.Cancel q r ∷ h) q (moves_to (Cancelling r) a)
tells-cancel q r h a p s t = record {
  begun = t.begun;
  parts = rw (are_of_parts-entered (parts_by h q) (Cancelling r) a.answers) t.parts;
  decided = sym (not_decided a.stage p).0 ∙ t.decided;
  cancelled = rw (same_self q) refl;
  ready = λ k. cc;
  excused = λ k. cc;
  ended = ended_on q (Cancelling r) h a p refl s t.ended;
}

-- ---- a last answer

-- the event is the last answer of d in q, and nothing else
pub record IsLastAnswer (q d : ℕ) (e : Event) : Type 0 where
  pub start : is_start_of q e ≡ false
  pub go : is_go_of q e ≡ false
  pub cancel : is_cancel_of q e ≡ false
  pub end : (n : ℕ) → is_end_of q n e ≡ nat_eq n d

pub tells-end : (q d : ℕ) (given : Answer) (e : Event) (h : List Event) (a : Attempt) → is_preparing a.stage ≡ false
    → IsTrue (is_last given) → IsLastAnswer q d e → Tells h q a → Tells (e ∷ h) q (answers_as d given a)
tells-end q d given e h a p l n t = record {
  begun = rw n.start t.begun;
  parts = rw (parts_by-on q e h n.start, are_of_parts-with_answer (parts_by h q) d given a.answers) t.parts;
  decided = t.decided ∙ sym (or_skip (is_go_of q e) (list_any (is_go_of q) h) n.go);
  cancelled = t.cancelled ∙ sym (or_skip (is_cancel_of q e) (list_any (is_cancel_of q) h) n.cancel);
  ready = λ k. cc;
  excused = λ k. cc;
  ended = rw (all_mapped (last_by (e ∷ h) q) (answers_with d given) a.answers)
      (all_from (last_by h q) (λ x. last_by (e ∷ h) q (answers_with d given x)) a.answers
      (λ x k. now_told is_last (nat_eq x.device d) given x.answer (is_end_of q x.device e)
      (list_any (is_end_of q x.device) h) (n.end x.device) l k) t.ended);
}

-- in a stage that is not Preparing a device that is not Waiting is done with
last_one : (stage : Stage) (answer : Answer) → is_preparing stage ≡ false → IsTrue (is_known_in stage answer)
    → IsTrue (not (is_waiting answer)) → is_last answer ≡ true
last_one Preparing answer p k w = cc
last_one stage Waiting p k w = cc
last_one Decided Ready p k w = cc
last_one (Cancelling r) Ready p k w = cc
last_one stage Done p k w = refl
last_one stage LetGo p k w = refl
last_one stage Failed p k w = refl
last_one stage Excused p k w = refl

told_last : (b past : Bool) → b ≡ true → IsTrue (agrees b past) → IsTrue past
told_last b past e k = rw e at k

-- where no device is Waiting any more, each is done with
pub gone_by : (q : ℕ) (h : List Event) (a : Attempt) → is_preparing a.stage ≡ false
    → IsTrue (list_all (may_be_in a.stage) a.answers) → some_waits a.answers ≡ false → Tells h q a
    → IsTrue (list_all (λ d. list_any (is_end_of q d) h) (devices_by h q))
gone_by q h a p s w t =
    rw (← devices_told h q a t) (rw (all_mapped (λ d. list_any (is_end_of q d) h) (λ x. x.device) a.answers)
    (all_zip (last_by h q) (λ x. may_be_in a.stage x && not (waits x)) (λ x. list_any (is_end_of q x.device) h)
    a.answers
    (λ x l k. told_last (is_last x.answer) (list_any (is_end_of q x.device) h)
    (let k2 = both (may_be_in a.stage x) (not (waits x)) k in last_one a.stage x.answer p (knows a.stage x k2.0) k2.1)
    l)
    t.ended
    (all_zip (may_be_in a.stage) (λ x. not (waits x)) (λ x. may_be_in a.stage x && not (waits x)) a.answers
    (λ x k l. join (may_be_in a.stage x) (not (waits x)) k l) s (none_passes waits a.answers w))))
