-- Each step keeps the rules of the live attempts.
use Rattle.std.proofs.Common.{◌≡◌, ℕ, ◌<◌, Bool, true, false, not, ◌&&◌, ◌||◌, IsTrue, List, [], ◌∷◌, ◌++◌}
use Rattle.std.proofs.Common.{length, nat_eq, nat_lt, refl, arith, length-append}
use Rattle.std.specs.List.{list_all}
use Rattle.std.proofs.lemmas.Bool.{ltb-true, le-leb}
use Rattle.cue_show.specs.declared.part.Part.{Part}
use Rattle.cue_show.specs.Devices.{distinct, disjoint, devices_in}
use Rattle.cue_exchange.specs.declared.attempt.Answer.{Answer}
use Rattle.cue_exchange.specs.declared.attempt.Answer.TheVariants as answer
use Rattle.cue_exchange.specs.declared.attempt.Reason.{Reason}
use Rattle.cue_exchange.specs.declared.attempt.Stage.{Stage}
use Rattle.cue_exchange.specs.declared.attempt.Stage.TheVariants.{Decided, Cancelling}
use Rattle.cue_exchange.specs.declared.attempt.DeviceAnswer.{DeviceAnswer}
use Rattle.cue_exchange.specs.declared.attempt.Attempt.{Attempt}
use Rattle.cue_exchange.specs.declared.limits.TheConstants.{MAX_LIVE}
use Rattle.cue_exchange.specs.Answers.{is_waiting, is_ready, is_preparing, is_decided, is_cancelling, is_concluding}
use Rattle.cue_exchange.specs.Answers.{is_known_in, is_excused, is_required, has_required, can_be_excused, is_excusable}
use Rattle.cue_exchange.specs.Answers.{with_answer, answer_passes, devices_of}
use Rattle.cue_exchange.specs.Live.{is_open, have_sound_devices, is_sound, is_attempt}
use Rattle.cue_exchange.specs.Live.{goes_before, are_live}
use Rattle.cue_exchange.specs.Steps.{holds, waits_in, can_start}
use Rattle.cue_exchange.specs.Steps.{can_ready, can_go, can_go_now, can_cancel, can_done, can_let_go, can_fail}
use Rattle.cue_exchange.specs.Steps.{can_excuse, can_excuse_now, answers_as, moves_to, new_attempt}
use Rattle.cue_exchange.specs.Steps.{after_start}
use Rattle.cue_exchange.specs.Steps.{after_answer, after_move, without_ended}
use Rattle.cue_exchange.proofs.ListLemmas.{both, join, all_weaker, all_given, all_push}
use Rattle.cue_exchange.proofs.ListLemmas.{pairwise_push}
use Rattle.cue_exchange.proofs.DeviceLemmas.{are_free-each, only_one_device}
use Rattle.cue_exchange.proofs.AnswerLemmas.{is_known_in-ready, is_known_in-done, is_known_in-let_go}
use Rattle.cue_exchange.proofs.AnswerLemmas.{is_known_in-failed, is_known_in-excused, is_open-preparing}
use Rattle.cue_exchange.proofs.AnswerLemmas.{devices_of-first_answers}
use Rattle.cue_exchange.proofs.AnswerLemmas.{has_required-first_answers, excuses_none, excuses_none-other}
use Rattle.cue_exchange.proofs.AnswerLemmas.{all_stand-first_answers}
use Rattle.cue_exchange.proofs.LiveLemmas.{attempts_of, order_of, are_live_from, are_live-changed, are_live-ended}
use Rattle.cue_exchange.proofs.LiveLemmas.{CanStart, can_start_parts, is_sound_from, sound_of, is_sound-of_attempt}
use Rattle.cue_exchange.proofs.LiveLemmas.{inside-answers_as, inside-moves_to, is_sound-answers_as, is_attempt-moves_to}

-- ---- the steps

-- a device stands by
pub are_live-ready : (q d : ℕ) (live : List Attempt) → IsTrue (are_live live) → IsTrue (can_ready q d live)
    → IsTrue (are_live (after_answer q d answer.Ready live))
are_live-ready q d live h can =
    are_live-changed q (waits_in is_preparing d) (answers_as d answer.Ready) (inside-answers_as d answer.Ready)
    (λ a here k t.
    let s : IsTrue (is_preparing a.stage) × IsTrue (answer_passes is_waiting d a.answers) =
    both (is_preparing a.stage) (answer_passes is_waiting d a.answers) t in
    join (is_sound (answers_as d answer.Ready a)) (is_open a.stage (with_answer d answer.Ready a.answers))
    (is_sound-answers_as d answer.Ready a (is_known_in-ready a.stage s.0)
    (excuses_none-other d answer.Ready a.answers refl) (is_sound-of_attempt a k))
    (is_open-preparing a.stage (with_answer d answer.Ready a.answers) s.0))
    live h can

-- one optional device has the number, so no required one has it
excuses_none-optional : (d : ℕ) (answers : List DeviceAnswer)
    → IsTrue (list_all (λ y. not (nat_eq y.device d) || can_be_excused y) answers)
    → IsTrue (excuses_none d answer.Excused answers)
excuses_none-optional d answers h =
    all_weaker (λ y. not (nat_eq y.device d) || can_be_excused y)
    (λ y. not (nat_eq y.device d && (is_required y && true)))
    (λ y k. by (nat_eq y.device d) y.optional (is_waiting y.answer || is_ready y.answer) k) answers h
  where
    by : (same optional waits : Bool) → IsTrue (not same || (optional && waits))
        → IsTrue (not (same && (not optional && true)))
    by true true waits k = refl
    by true false waits k = k
    by false optional waits k = refl

-- a device is excused
pub are_live-excused : (q d : ℕ) (live : List Attempt) → IsTrue (are_live live) → IsTrue (can_excuse q d live)
    → IsTrue (are_live (after_answer q d answer.Excused live))
are_live-excused q d live h can =
    are_live-changed q (can_excuse_now d) (answers_as d answer.Excused) (inside-answers_as d answer.Excused)
    (λ a here k t.
    let s : IsTrue (is_preparing a.stage) × IsTrue (is_excusable d a.answers) =
    both (is_preparing a.stage) (is_excusable d a.answers) t in
    let devices : IsTrue (have_sound_devices a.answers) = (sound_of a (is_sound-of_attempt a k)).devices in
    let apart : IsTrue (distinct (devices_of a.answers)) =
    (both (has_required a.answers) (distinct (devices_of a.answers)) devices).1 in
    join (is_sound (answers_as d answer.Excused a)) (is_open a.stage (with_answer d answer.Excused a.answers))
    (is_sound-answers_as d answer.Excused a (is_known_in-excused a.stage s.0)
    (excuses_none-optional d a.answers (only_one_device d can_be_excused a.answers apart s.1))
    (is_sound-of_attempt a k))
    (is_open-preparing a.stage (with_answer d answer.Excused a.answers) s.0))
    live h can

-- an attempt enters a stage
pub are_live-moved : (q : ℕ) (stage : Stage) (test : Attempt → Bool) (live : List Attempt) → IsTrue (are_live live)
    → IsTrue (holds q test live) → IsTrue (are_live (after_move q stage live))
are_live-moved q stage test live h can =
    are_live-changed q test (moves_to stage) (inside-moves_to stage) (λ a here k t. is_attempt-moves_to stage a k) live
    h can

-- the cue is carried out
pub are_live-go : (q : ℕ) (live : List Attempt) → IsTrue (are_live live) → IsTrue (can_go q live)
    → IsTrue (are_live (after_move q Decided live))
are_live-go q live h can = are_live-moved q Decided can_go_now live h can

-- the preparation is given up
pub are_live-cancel : (q : ℕ) (r : Reason) (live : List Attempt) → IsTrue (are_live live) → IsTrue (can_cancel q live)
    → IsTrue (are_live (after_move q (Cancelling r) live))
are_live-cancel q r live h can = are_live-moved q (Cancelling r) (λ a. is_preparing a.stage) live h can

-- a device has answered for the last time
pub are_live-settled : (q d : ℕ) (x : Answer) (in_stage : Stage → Bool)
    → ((s : Stage) → IsTrue (in_stage s) → IsTrue (is_known_in s x)) → IsTrue (not (is_excused x))
    → (live : List Attempt)
    → IsTrue (are_live live) → IsTrue (holds q (waits_in in_stage d) live)
    → IsTrue (are_live (without_ended q (after_answer q d x live)))
are_live-settled q d x in_stage known last live h can =
    are_live-ended q (waits_in in_stage d) (answers_as d x) (inside-answers_as d x)
    (λ a here k t.
    let s : IsTrue (in_stage a.stage) × IsTrue (answer_passes is_waiting d a.answers) =
    both (in_stage a.stage) (answer_passes is_waiting d a.answers) t in
    is_sound-answers_as d x a (known a.stage s.0) (excuses_none-other d x a.answers last) (is_sound-of_attempt a k))
    live h can

pub are_live-done : (q d : ℕ) (live : List Attempt) → IsTrue (are_live live) → IsTrue (can_done q d live)
    → IsTrue (are_live (without_ended q (after_answer q d answer.Done live)))
are_live-done q d live h can = are_live-settled q d answer.Done is_decided is_known_in-done refl live h can

pub are_live-let_go : (q d : ℕ) (live : List Attempt) → IsTrue (are_live live) → IsTrue (can_let_go q d live)
    → IsTrue (are_live (without_ended q (after_answer q d answer.LetGo live)))
are_live-let_go q d live h can = are_live-settled q d answer.LetGo is_cancelling is_known_in-let_go refl live h can

pub are_live-failed : (q d : ℕ) (live : List Attempt) → IsTrue (are_live live) → IsTrue (can_fail q d live)
    → IsTrue (are_live (without_ended q (after_answer q d answer.Failed live)))
are_live-failed q d live h can = are_live-settled q d answer.Failed is_concluding is_known_in-failed refl live h can

-- an attempt begins
pub are_live-started : (q : ℕ) (c : List ℕ) (t : ℕ) (parts : List Part) (live : List Attempt) → IsTrue (are_live live)
    → IsTrue (can_start q t parts live) → IsTrue (are_live (after_start q c t parts live))
are_live-started q c t parts live h can =
    let k : CanStart q t parts live = can_start_parts q t parts live can in
    let new : Attempt = new_attempt q c t parts in
    let same : devices_of new.answers ≡ devices_in parts = devices_of-first_answers parts in
    let room : length live < MAX_LIVE = ltb-true (length live) MAX_LIVE k.room in
    are_live_from (live ++ new ∷ [])
    (le-leb (length (live ++ new ∷ [])) MAX_LIVE (omega (arith, length-append live (new ∷ []))))
    (all_push is_attempt live new (attempts_of live h)
    (join (is_sound new) true (is_sound_from new k.number k.time (rw (has_required-first_answers, same) k.devices)
    (all_stand-first_answers parts)) refl))
    (pairwise_push goes_before live new (order_of live h)
    (all_given (λ a. nat_lt a.seq q) (λ a. disjoint (devices_of a.answers) (devices_in parts)) (λ a. goes_before a new)
    (λ a below free. rw same (join (nat_lt a.seq q) (disjoint (devices_of a.answers) (devices_in parts)) below free))
    live k.above (are_free-each (devices_in parts) live k.free)))
