-- Cancels of the Preparing attempts.
use Rattle.std.proofs.Common.{◌≡◌, ℕ, Bool, true, false, not, ◌&&◌, ◌||◌, List, [], ◌∷◌, map, filter, cond, nat_eq}
use Rattle.std.proofs.Common.{if◌then◌else◌, refl, ap, true≢false}
use Rattle.std.specs.List.{list_all, list_any}
use Rattle.cue_exchange.specs.declared.attempt.Reason.{Reason}
use Rattle.cue_exchange.specs.declared.attempt.Reason.TheVariants.{Power}
use Rattle.cue_exchange.specs.declared.attempt.Stage.TheVariants.{Cancelling}
use Rattle.cue_exchange.specs.declared.attempt.Attempt.{Attempt}
use Rattle.cue_exchange.specs.Answers.{is_preparing}
use Rattle.cue_exchange.specs.Steps.{with_change, moves_to, holds}
use Rattle.cue_core.proofs.lists.ConditionLemmas.{join}
use Rattle.cue_core.proofs.lists.AnyLemmas.{all_implied, all_mapped}
use Rattle.cue_core.specs.declared.event.Event.{Event}
use Rattle.cue_core.specs.declared.event.Event.TheVariants.{Cancel}
use Rattle.cue_core.specs.State.{ShowState}
use Rattle.cue_core.specs.Steps.{after, after_events}
use Rattle.cue_core.specs.Batches.{closed_state, ClosedStays}
use Rattle.cue_core.proofs.lists.AnyLemmas.{or_left, or_right, either, gives, given, itself, same, none-filtered}

abbrev cancel : Reason → Attempt → Event
cancel r a = Cancel a.seq r

-- one of the attempts has the number
abbrev named : List Attempt → ℕ → Bool
named todo q = list_any (λ b. nat_eq b.seq q) todo

-- an attempt that is Preparing is still to be cancelled
abbrev is_left : List Attempt → Attempt → Bool
is_left todo a = not (is_preparing a.stage) || named todo a.seq

left-moved : (r : Reason) (b : Attempt) (todo : List Attempt) (a : Attempt) → is_left (b ∷ todo) a ≡ true
    → is_left todo (with_change b.seq (moves_to (Cancelling r)) a) ≡ true
left-moved r b todo a h = by (nat_eq a.seq b.seq) refl
  where
    by : (t : Bool) → nat_eq a.seq b.seq ≡ t → is_left todo (if t then moves_to (Cancelling r) a else a) ≡ true
    by true e = refl
    by false e = given (is_preparing a.stage) _
        (λ p. either (nat_eq b.seq a.seq) _ _
        (λ m. let k : nat_eq a.seq b.seq ≡ true = rw (same b.seq a.seq m) (itself a.seq) in absurd (true≢false (cc)))
        (λ m. m) (gives (is_preparing a.stage) _ h p))

all-cancelled : (r : Reason) (todo : List Attempt) (s : ShowState) → list_all (is_left todo) s.live ≡ true
    → list_all (λ a. not (is_preparing a.stage)) (after_events s (map (cancel r) todo)).live ≡ true
all-cancelled r [] s h = all_implied (is_left []) (λ a. not (is_preparing a.stage)) (λ a k. by (is_preparing a.stage) k)
    s.live h
  where
    by : (b : Bool) → (not b || false) ≡ true → not b ≡ true
    by true k = k
    by false k = refl
all-cancelled r (b ∷ todo) s h =
    all-cancelled r todo (after s (Cancel b.seq r))
    (all_mapped (is_left (b ∷ todo)) (is_left todo) (with_change b.seq (moves_to (Cancelling r))) (left-moved r b todo)
    s.live h)

first-left : (live : List Attempt) → list_all (is_left (filter (λ a. is_preparing a.stage) live)) live ≡ true
first-left [] = refl
first-left (a ∷ rest) = by (is_preparing a.stage) refl (first-left rest)
  where
    by : (b : Bool) → is_preparing a.stage ≡ b
        → list_all (is_left (filter (λ a. is_preparing a.stage) rest)) rest ≡ true
        → ((not b || named (cond b (a ∷ filter (λ a. is_preparing a.stage) rest)
        (filter (λ a. is_preparing a.stage) rest)) a.seq) && list_all
        (is_left (cond b (a ∷ filter (λ a. is_preparing a.stage) rest) (filter (λ a. is_preparing a.stage) rest))) rest)
        ≡ true
    by true e r = join (nat_eq a.seq a.seq || named (filter (λ a. is_preparing a.stage) rest) a.seq) _
        (or_left (nat_eq a.seq a.seq) _ (itself a.seq))
        (all_implied (is_left (filter (λ a. is_preparing a.stage) rest))
        (is_left (a ∷ filter (λ a. is_preparing a.stage) rest))
        (λ x k. given (is_preparing x.stage) _
        (λ p. or_right (nat_eq a.seq x.seq) _ (gives (is_preparing x.stage) _ k p))) rest r)
    by false e r = r

none-preparing : (s : ShowState) → list_all (λ a. not (is_preparing a.stage)) (closed_state s).live ≡ true
unfolding closed_state
none-preparing s = all-cancelled Power (filter (λ a. is_preparing a.stage) s.live) s (first-left s.live)

none-left : (s : ShowState) → list_all (λ a. not (is_preparing a.stage)) s.live ≡ true → closed_state s ≡ s
unfolding closed_state
none-left s h = ap (λ xs. after_events s (map (cancel Power) xs)) (none-filtered (λ a. is_preparing a.stage) s.live h)

pub closed-stays : ClosedStays
closed-stays s = none-left (closed_state s) (none-preparing s)

-- what passes a test holds by its number
pub each-holds : (test : Attempt → Bool) (live : List Attempt)
    → list_all (λ a. not (test a) || holds a.seq test live) live ≡ true
each-holds test [] = refl
each-holds test (a ∷ rest) =
    join (not (test a) || holds a.seq test (a ∷ rest)) _
    (given (test a) _ (λ t. or_left _ _ (join (nat_eq a.seq a.seq) _ (itself a.seq) t)))
    (all_implied (λ x. not (test x) || holds x.seq test rest) (λ x. not (test x) || holds x.seq test (a ∷ rest))
    (λ x k. given (test x) _ (λ t. or_right _ _ (gives (test x) _ k t))) rest (each-holds test rest))
