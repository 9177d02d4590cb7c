-- What is live or Decided after events was so before, or its Start or its Go is one of them.
use Rattle.std.proofs.Common.{◌≡◌, ℕ, Bool, true, false, ◌&&◌, ◌||◌, List, [], ◌∷◌, map, nat_eq, if◌then◌else◌, refl}
use Rattle.std.proofs.Common.{sym, true≢false}
use Rattle.std.specs.List.{list_any}
use Rattle.cue_exchange.specs.declared.attempt.Answer.TheVariants as answers
use Rattle.cue_exchange.specs.declared.attempt.Stage.TheVariants.{Decided, Cancelling}
use Rattle.cue_exchange.specs.declared.attempt.Attempt.{Attempt}
use Rattle.cue_exchange.specs.Answers.{is_decided}
use Rattle.cue_exchange.specs.Steps.{with_change, answers_as, moves_to, after_move, after_answer, holds, goes_on}
use Rattle.cue_core.specs.declared.event.Event.{Event}
use Rattle.cue_core.specs.declared.event.Event.TheVariants as event
use Rattle.cue_core.specs.Events.{is_go_of, is_start_of}
use Rattle.cue_core.specs.State.{ShowState}
use Rattle.cue_core.specs.Steps.{after}
use Rattle.cue_core.specs.Batches.{is_live_in, is_decided_in, LiveByStart, DecidedByGo}
use Rattle.cue_core.proofs.lists.ConditionLemmas.{both, join}
use Rattle.cue_core.proofs.lists.AnyLemmas.{or_left, or_right, or_assoc, either, same, any-append, any-mapped, any-kept}

-- ---- one event

-- nothing else makes an attempt live than its Start, nor Decided than its Go
live-changed : (p q : ℕ) (f : Attempt → Attempt) → ((a : Attempt) → (f a).seq ≡ a.seq) → (live : List Attempt)
    → holds q (λ a. true) (map (with_change p f) live) ≡ true → holds q (λ a. true) live ≡ true
live-changed p q f keeps live h = any-mapped (with_change p f) (λ a. nat_eq a.seq q && true)
    (λ a. nat_eq a.seq q && true)
    one live h
  where
    one : (a : Attempt) → (nat_eq (with_change p f a).seq q && true) ≡ true → (nat_eq a.seq q && true) ≡ true
    one a k = by (nat_eq a.seq p) k
      where
        by : (b : Bool) → (nat_eq (if b then f a else a).seq q && true) ≡ true → (nat_eq a.seq q && true) ≡ true
        by true m = rw (keeps a) at m
        by false m = m

-- a change that decides nothing
decided-changed : (p q : ℕ) (f : Attempt → Attempt) → ((a : Attempt) → (f a).seq ≡ a.seq)
    → ((a : Attempt) → is_decided (f a).stage ≡ true → is_decided a.stage ≡ true) → (live : List Attempt)
    → holds q (λ a. is_decided a.stage) (map (with_change p f) live) ≡ true
    → holds q (λ a. is_decided a.stage) live ≡ true
decided-changed p q f keeps back live h = any-mapped (with_change p f) (λ a. nat_eq a.seq q && is_decided a.stage)
    (λ a. nat_eq a.seq q && is_decided a.stage) one live h
  where
    one : (a : Attempt) → (nat_eq (with_change p f a).seq q && is_decided (with_change p f a).stage) ≡ true
        → (nat_eq a.seq q && is_decided a.stage) ≡ true
    one a k = by (nat_eq a.seq p) k
      where
        by : (b : Bool) → (nat_eq (if b then f a else a).seq q && is_decided (if b then f a else a).stage) ≡ true
            → (nat_eq a.seq q && is_decided a.stage) ≡ true
        by true m = let w = both (nat_eq (f a).seq q) _ m in join (nat_eq a.seq q) _ (rw (keeps a) at w.0) (back a w.1)
        by false m = m

-- Go decides its own attempt alone
decided-gone : (p q : ℕ) (live : List Attempt) → holds q (λ a. is_decided a.stage) (after_move p Decided live) ≡ true
    → (holds q (λ a. is_decided a.stage) live || nat_eq p q) ≡ true
decided-gone p q [] h = absurd (true≢false (sym h))
decided-gone p q (a ∷ rest) h =
    either (nat_eq (with_change p (moves_to Decided) a).seq q && is_decided (with_change p (moves_to Decided) a).stage)
    _ _
    (λ k. by (nat_eq a.seq p) refl k) (λ k. late (nat_eq a.seq q && is_decided a.stage) (decided-gone p q rest k)) h
  where
    late : (b : Bool) → (holds q (λ a. is_decided a.stage) rest || nat_eq p q) ≡ true
        → ((b || holds q (λ a. is_decided a.stage) rest) || nat_eq p q) ≡ true
    late true k = refl
    late false k = k

    first : (b c d : Bool) → b ≡ true → ((b || c) || d) ≡ true
    first b c d k = rw k refl

    by : (b : Bool) → nat_eq a.seq p ≡ b
        → (nat_eq (if b then moves_to Decided a else a).seq q && is_decided (if b then moves_to Decided a else a).stage)
        ≡ true → (((nat_eq a.seq q && is_decided a.stage) || holds q (λ a. is_decided a.stage) rest) || nat_eq p q)
        ≡ true
    by true e m = or_right ((nat_eq a.seq q && is_decided a.stage) || holds q (λ a. is_decided a.stage) rest) _
        (rw (same a.seq p e) at (both (nat_eq a.seq q) _ m).0)
    by false e m = first (nat_eq a.seq q && is_decided a.stage) _ _ m

pub live-back : (s : ShowState) (e : Event) (q : ℕ) → is_live_in (after s e) q ≡ true
    → (is_live_in s q || is_start_of q e) ≡ true
live-back s (event.Device d p) q h = or_left (is_live_in s q) _ h
live-back s (event.NoDevice d) q h = or_left (is_live_in s q) _ h
live-back s (event.Cue c ps) q h = or_left (is_live_in s q) _ h
live-back s (event.NoCue c) q h = or_left (is_live_in s q) _ h
live-back s (event.Place c) q h = or_left (is_live_in s q) _ h
live-back s (event.Start p c t) q h = started (nat_eq p q) (rw any-append at h)
  where
    started : (b : Bool) → (is_live_in s q || ((b && true) || false)) ≡ true → (is_live_in s q || b) ≡ true
    started true k = or_right (is_live_in s q) _ refl
    started false k = k
live-back s (event.Ready p d) q h =
    or_left (is_live_in s q) _ (live-changed p q (answers_as d answers.Ready) (λ a. refl) s.live h)
live-back s (event.Go p) q h = or_left (is_live_in s q) _ (live-changed p q (moves_to Decided) (λ a. refl) s.live h)
live-back s (event.Done p d) q h =
    or_left (is_live_in s q) _
    (live-changed p q (answers_as d answers.Done) (λ a. refl) s.live
    (any-kept (λ a. nat_eq a.seq q && true) (goes_on p) (after_answer p d answers.Done s.live) h))
live-back s (event.Cancel p r) q h =
    or_left (is_live_in s q) _ (live-changed p q (moves_to (Cancelling r)) (λ a. refl) s.live h)
live-back s (event.LetGo p d) q h =
    or_left (is_live_in s q) _
    (live-changed p q (answers_as d answers.LetGo) (λ a. refl) s.live
    (any-kept (λ a. nat_eq a.seq q && true) (goes_on p) (after_answer p d answers.LetGo s.live) h))
live-back s (event.Failed p d) q h =
    or_left (is_live_in s q) _ (live-changed p q (answers_as d answers.Failed) (λ a. refl) s.live
    (any-kept (λ a. nat_eq a.seq q && true) (goes_on p) (after_answer p d answers.Failed s.live) h))
live-back s (event.Excuse p d) q h =
    or_left (is_live_in s q) _ (live-changed p q (answers_as d answers.Excused) (λ a. refl) s.live h)

pub decided-back : (s : ShowState) (e : Event) (q : ℕ) → is_decided_in (after s e) q ≡ true
    → (is_decided_in s q || is_go_of q e) ≡ true
decided-back s (event.Device d p) q h = or_left (is_decided_in s q) _ h
decided-back s (event.NoDevice d) q h = or_left (is_decided_in s q) _ h
decided-back s (event.Cue c ps) q h = or_left (is_decided_in s q) _ h
decided-back s (event.NoCue c) q h = or_left (is_decided_in s q) _ h
decided-back s (event.Place c) q h = or_left (is_decided_in s q) _ h
decided-back s (event.Start p c t) q h = started (nat_eq p q) (rw any-append at h)
  where
    started : (b : Bool) → (is_decided_in s q || ((b && false) || false)) ≡ true → (is_decided_in s q || false) ≡ true
    started true k = k
    started false k = k
decided-back s (event.Ready p d) q h =
    or_left (is_decided_in s q) _ (decided-changed p q (answers_as d answers.Ready) (λ a. refl) (λ a k. k) s.live h)
decided-back s (event.Go p) q h = decided-gone p q s.live h
decided-back s (event.Done p d) q h =
    or_left (is_decided_in s q) _ (decided-changed p q (answers_as d answers.Done) (λ a. refl) (λ a k. k) s.live
    (any-kept (λ a. nat_eq a.seq q && is_decided a.stage) (goes_on p) (after_answer p d answers.Done s.live) h))
decided-back s (event.Cancel p r) q h =
    or_left (is_decided_in s q) _
    (decided-changed p q (moves_to (Cancelling r)) (λ a. refl) (λ a k. absurd (true≢false (sym k))) s.live h)
decided-back s (event.LetGo p d) q h =
    or_left (is_decided_in s q) _ (decided-changed p q (answers_as d answers.LetGo) (λ a. refl) (λ a k. k) s.live
    (any-kept (λ a. nat_eq a.seq q && is_decided a.stage) (goes_on p) (after_answer p d answers.LetGo s.live) h))
decided-back s (event.Failed p d) q h =
    or_left (is_decided_in s q) _ (decided-changed p q (answers_as d answers.Failed) (λ a. refl) (λ a k. k) s.live
    (any-kept (λ a. nat_eq a.seq q && is_decided a.stage) (goes_on p) (after_answer p d answers.Failed s.live) h))
decided-back s (event.Excuse p d) q h =
    or_left (is_decided_in s q) _ (decided-changed p q (answers_as d answers.Excused) (λ a. refl) (λ a k. k) s.live h)

-- ---- lists of events

pub live-by-start : LiveByStart
live-by-start s [] q h = or_left (is_live_in s q) _ h
live-by-start s (e ∷ es) q h =
    either (is_live_in (after s e) q) (list_any (is_start_of q) es) _
    (λ k. or_assoc (is_live_in s q) (is_start_of q e) _ (or_left _ _ (live-back s e q k)))
    (λ k. or_right (is_live_in s q) _ (or_right (is_start_of q e) _ k)) (live-by-start (after s e) es q h)

pub decided-by-go : DecidedByGo
decided-by-go s [] q h = or_left (is_decided_in s q) _ h
decided-by-go s (e ∷ es) q h =
    either (is_decided_in (after s e) q) (list_any (is_go_of q) es) _
    (λ k. or_assoc (is_decided_in s q) (is_go_of q e) _ (or_left _ _ (decided-back s e q k)))
    (λ k. or_right (is_decided_in s q) _ (or_right (is_go_of q e) _ k)) (decided-by-go (after s e) es q h)
