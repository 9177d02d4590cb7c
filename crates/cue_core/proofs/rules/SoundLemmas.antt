-- Every history leads to a state that keeps the rules.
use Rattle.std.proofs.Common.{◌≡◌, List, [], ◌∷◌, length, refl, Bool, true, false, not, ◌&&◌, ◌||◌, nat_le, nat_lt}
use Rattle.std.specs.Prelude.{IsTrue}
use Rattle.std.specs.List.{list_all, list_any}
use Rattle.cue_exchange.specs.declared.attempt.Answer.{Answer}
use Rattle.cue_exchange.specs.declared.attempt.Answer.TheVariants.{Waiting, Ready, Done, LetGo, Failed, Excused}
use Rattle.cue_exchange.specs.declared.attempt.Stage.{Stage}
use Rattle.cue_exchange.specs.declared.attempt.Stage.TheVariants.{Preparing, Decided, Cancelling}
use Rattle.cue_exchange.specs.declared.attempt.DeviceAnswer.{DeviceAnswer}
use Rattle.cue_exchange.specs.declared.attempt.Attempt.{Attempt}
use Rattle.cue_exchange.specs.declared.limits.TheConstants.{MAX_LIVE}
use Rattle.cue_exchange.specs.Answers.{is_waiting, is_excused, is_preparing, is_known_in, is_required, has_required}
use Rattle.cue_exchange.specs.Answers.{may_be_in, waits, some_waits, devices_of}
use Rattle.cue_exchange.specs.Live.{is_attempt, is_sound, is_open, is_number, is_time, have_sound_devices}
use Rattle.cue_exchange.specs.Live.{pairwise, goes_before, disjoint, distinct}
use Rattle.cue_core.specs.declared.event.Event.{Event}
use Rattle.cue_core.specs.State.{ShowState, is_state}
use Rattle.cue_core.specs.Steps.{acceptable}
use Rattle.cue_core.specs.History.{state_of, is_history}
use Rattle.cue_core.proofs.lists.ConditionLemmas.{both, all_from, pairwise_from}
use Rattle.cue_core.proofs.rules.RuleLemmas.{is_state-after, rules_of}
use Rattle.cue_core.proofs.history.TellsLemmas.{is_last}
use Rattle.cue_core.proofs.history.NumberLemmas.{IsSound, Kept, kept-step, kept-none}

-- a device that is Waiting is not done with
waiting_left : (answer : Answer) → IsTrue (is_waiting answer) → is_last answer ≡ false
waiting_left Waiting w = refl
waiting_left Ready w = cc
waiting_left Done w = cc
waiting_left LetGo w = cc
waiting_left Failed w = cc
waiting_left Excused w = cc

-- nor is a required one of a Preparing attempt
required_left : (stage : Stage) (optional : Bool) (answer : Answer) → IsTrue (is_preparing stage)
    → IsTrue (not optional) → IsTrue (is_known_in stage answer && not (not optional && is_excused answer))
    → is_last answer ≡ false
required_left Preparing optional Waiting p r k = refl
required_left Preparing optional Ready p r k = refl
required_left Preparing optional Done p r k = cc
required_left Preparing optional LetGo p r k = cc
required_left Preparing optional Failed p r k = cc
required_left Preparing true Excused p r k = cc
required_left Preparing false Excused p r k = cc
required_left Decided optional answer p r k = cc
required_left (Cancelling c) optional answer p r k = cc

abbrev all_last : List DeviceAnswer → Bool
all_last xs = list_all (λ x. is_last x.answer) xs

some_left : (P S : DeviceAnswer → Bool) → ((x : DeviceAnswer) → IsTrue (P x) → IsTrue (S x) → is_last x.answer ≡ false)
    → (xs : List DeviceAnswer) → IsTrue (list_any P xs) → IsTrue (list_all S xs) → all_last xs ≡ false
some_left P S f [] w k = cc
some_left P S f (x ∷ xs) w k = let s = both (S x) (list_all S xs) k in
    at (P x) (is_last x.answer) (λ p. f x p s.0) (λ g. some_left P S f xs g s.1) w
  where
    at : (b l : Bool) → (IsTrue b → l ≡ false) → (IsTrue (list_any P xs) → all_last xs ≡ false)
        → IsTrue (b || list_any P xs) → (l && all_last xs) ≡ false
    at true l g m w = rw (g refl) refl
    at false true g m w = m w
    at false false g m w = refl

not_all : (b : Bool) → b ≡ false → IsTrue (not b)
not_all b e = rw e refl

waits_left : (stage : Stage) (xs : List DeviceAnswer) → IsTrue (list_all (may_be_in stage) xs) → IsTrue (some_waits xs)
    → IsTrue (not (all_last xs))
waits_left stage xs k o =
    not_all (all_last xs) (some_left waits (may_be_in stage) (λ x w s. waiting_left x.answer w) xs o k)

one_left : (stage : Stage) (xs : List DeviceAnswer) → IsTrue (has_required xs) → IsTrue (list_all (may_be_in stage) xs)
    → IsTrue (is_open stage xs) → IsTrue (not (all_last xs))
one_left Preparing xs n k o =
    not_all (all_last xs) (some_left is_required (may_be_in Preparing)
    (λ x r s. required_left Preparing x.optional x.answer refl r s) xs n k)
one_left Decided xs n k o = waits_left Decided xs k o
one_left (Cancelling r) xs n k o = waits_left (Cancelling r) xs k o

-- the rules of one attempt, one by one
pub record AttemptRules (a : Attempt) : Type 0 where
  pub number : IsTrue (is_number a.seq)
  pub time : IsTrue (is_time a.deadline)
  pub required : IsTrue (has_required a.answers)
  pub distinct : IsTrue (distinct (devices_of a.answers))
  pub stand : IsTrue (list_all (may_be_in a.stage) a.answers)
  pub open_one : IsTrue (is_open a.stage a.answers)

pub attempt_rules : (a : Attempt) → IsTrue (is_attempt a) → AttemptRules a
attempt_rules a h =
    let p = both (is_sound a) (is_open a.stage a.answers) h in
    let q = both (is_number a.seq)
    (is_time a.deadline && (have_sound_devices a.answers && list_all (may_be_in a.stage) a.answers)) p.0 in
    let r = both (is_time a.deadline) (have_sound_devices a.answers && list_all (may_be_in a.stage) a.answers) q.1 in
    let t = both (have_sound_devices a.answers) (list_all (may_be_in a.stage) a.answers) r.1 in
    let u = both (has_required a.answers) (distinct (devices_of a.answers)) t.0 in
    record { number = q.0; time = r.0; required = u.0; distinct = u.1; stand = t.1; open_one = p.1 }

pub sound_of : (s : ShowState) → IsTrue (is_state s) → IsSound s
sound_of s h =
    let rules = rules_of s h in
    let few = both (nat_le (length s.live) MAX_LIVE) (list_all is_attempt s.live && pairwise goes_before s.live)
    rules.live in
    let t = both (list_all is_attempt s.live) (pairwise goes_before s.live) few.1 in
    record {
      rises = pairwise_from goes_before (λ a b. nat_lt a.seq b.seq) s.live
          (λ a b k. (both (nat_lt a.seq b.seq) (disjoint (devices_of a.answers) (devices_of b.answers)) k).0) t.1;
      stand = all_from is_attempt (λ a. list_all (may_be_in a.stage) a.answers) s.live
          (λ a k. (attempt_rules a k).stand)
          t.0;
      within = rules.within;
      left = all_from is_attempt (λ a. not (all_last a.answers)) s.live
          (λ a k. let m = attempt_rules a k in one_left a.stage a.answers m.required m.stand m.open_one) t.0;
    }

pub is_state-history : (h : List Event) → IsTrue (is_history h) → IsTrue (is_state (state_of h))
is_state-history [] p = refl
is_state-history (e ∷ h) p = let q = both (acceptable (state_of h) e) (is_history h) p in
    is_state-after (state_of h) e (is_state-history h q.1) q.0

pub sound-history : (h : List Event) → IsTrue (is_history h) → IsSound (state_of h)
sound-history h p = sound_of (state_of h) (is_state-history h p)

pub kept-history : (h : List Event) → IsTrue (is_history h) → Kept h (state_of h)
kept-history [] p = kept-none
kept-history (e ∷ h) p = let q = both (acceptable (state_of h) e) (is_history h) p in
    kept-step h e (kept-history h q.1) (sound-history h q.1) q.0
