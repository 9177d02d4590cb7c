-- What is Cancelling after events was so before, or its Cancel is one of them.
use Rattle.std.proofs.Common.{◌≡◌, ℕ, Bool, true, false, ◌&&◌, ◌||◌, List, [], ◌∷◌, map, nat_eq, if◌then◌else◌, refl}
use Rattle.std.proofs.Common.{sym, true≢false}
use Rattle.std.specs.List.{list_any}
use Rattle.cue_exchange.specs.declared.attempt.Answer.TheVariants as answers
use Rattle.cue_exchange.specs.declared.attempt.Reason.{Reason}
use Rattle.cue_exchange.specs.declared.attempt.Stage.TheVariants.{Decided, Cancelling}
use Rattle.cue_exchange.specs.declared.attempt.Attempt.{Attempt}
use Rattle.cue_exchange.specs.Answers.{is_cancelling}
use Rattle.cue_exchange.specs.Steps.{with_change, answers_as, moves_to, after_move, after_answer, holds, goes_on}
use Rattle.cue_core.specs.declared.event.Event.{Event}
use Rattle.cue_core.specs.declared.event.Event.TheVariants as event
use Rattle.cue_core.specs.Events.{is_cancel_of}
use Rattle.cue_core.specs.State.{ShowState}
use Rattle.cue_core.specs.Steps.{after, after_events}
use Rattle.cue_core.proofs.lists.ConditionLemmas.{both, join}
use Rattle.cue_core.proofs.lists.AnyLemmas.{or_left, or_right, or_assoc, either, same, any-append, any-implied}
use Rattle.cue_core.proofs.lists.AnyLemmas.{any-mapped, any-kept}
use Rattle.cue_engine.specs.Runs.{is_cancelling_in}

-- a change that cancels nothing
cancelling-changed : (p q : ℕ) (f : Attempt → Attempt) → ((a : Attempt) → (f a).seq ≡ a.seq)
    → ((a : Attempt) → is_cancelling (f a).stage ≡ true → is_cancelling a.stage ≡ true) → (live : List Attempt)
    → holds q (λ a. is_cancelling a.stage) (map (with_change p f) live) ≡ true
    → holds q (λ a. is_cancelling a.stage) live ≡ true
cancelling-changed p q f keeps back live h = any-mapped (with_change p f) (λ a. nat_eq a.seq q && is_cancelling a.stage)
    (λ a. nat_eq a.seq q && is_cancelling a.stage) one live h
  where
    one : (a : Attempt) → (nat_eq (with_change p f a).seq q && is_cancelling (with_change p f a).stage) ≡ true
        → (nat_eq a.seq q && is_cancelling a.stage) ≡ true
    one a k = by (nat_eq a.seq p) k
      where
        by : (b : Bool) → (nat_eq (if b then f a else a).seq q && is_cancelling (if b then f a else a).stage) ≡ true
            → (nat_eq a.seq q && is_cancelling a.stage) ≡ true
        by true m = let w = both (nat_eq (f a).seq q) _ m in join (nat_eq a.seq q) _ (rw (keeps a) at w.0) (back a w.1)
        by false m = m

-- Cancel cancels its own attempt alone
cancelling-moved : (p q : ℕ) (r : Reason) (live : List Attempt)
    → holds q (λ a. is_cancelling a.stage) (after_move p (Cancelling r) live) ≡ true
    → (holds q (λ a. is_cancelling a.stage) live || nat_eq p q) ≡ true
cancelling-moved p q r live h = out (nat_eq p q) (any-mapped (with_change p (moves_to (Cancelling r))) test
    (λ a. test a || nat_eq p q) one live h)
  where
    test : Attempt → Bool
    test a = nat_eq a.seq q && is_cancelling a.stage

    one : (a : Attempt) → test (with_change p (moves_to (Cancelling r)) a) ≡ true → (test a || nat_eq p q) ≡ true
    one a k = by (nat_eq a.seq p) refl k
      where
        by : (b : Bool) → nat_eq a.seq p ≡ b → test (if b then moves_to (Cancelling r) a else a) ≡ true
            → (test a || nat_eq p q) ≡ true
        by true e m = or_right (test a) _ (rw (same a.seq p e) at (both (nat_eq a.seq q) _ m).0)
        by false e m = or_left (test a) _ m

    out : (b : Bool) → list_any (λ a. test a || b) live ≡ true → (list_any test live || b) ≡ true
    out true k = or_right (list_any test live) _ refl
    out false k = or_left (list_any test live) _ (any-implied (λ a. test a || false) test
        (λ a. either (test a) false _ (λ m. m) (λ m. absurd (true≢false (sym m)))) live k)

cancelling-back : (s : ShowState) (e : Event) (q : ℕ) → is_cancelling_in (after s e) q ≡ true
    → (is_cancelling_in s q || is_cancel_of q e) ≡ true
cancelling-back s (event.Start p c t) q h = started (nat_eq p q) (rw any-append at h)
  where
    started : (b : Bool) → (is_cancelling_in s q || ((b && false) || false)) ≡ true
        → (is_cancelling_in s q || false) ≡ true
    started true k = k
    started false k = k
cancelling-back s (event.Ready p d) q h =
    or_left (is_cancelling_in s q) _ (cancelling-changed p q (answers_as d answers.Ready) (λ a. refl) (λ a k. k) s.live
    h)
cancelling-back s (event.Go p) q h =
    or_left (is_cancelling_in s q) _
    (cancelling-changed p q (moves_to Decided) (λ a. refl) (λ a k. absurd (true≢false (sym k))) s.live h)
cancelling-back s (event.Done p d) q h =
    or_left (is_cancelling_in s q) _ (cancelling-changed p q (answers_as d answers.Done) (λ a. refl) (λ a k. k) s.live
    (any-kept (λ a. nat_eq a.seq q && is_cancelling a.stage) (goes_on p) (after_answer p d answers.Done s.live) h))
cancelling-back s (event.Cancel p r) q h = cancelling-moved p q r s.live h
cancelling-back s (event.LetGo p d) q h =
    or_left (is_cancelling_in s q) _ (cancelling-changed p q (answers_as d answers.LetGo) (λ a. refl) (λ a k. k) s.live
    (any-kept (λ a. nat_eq a.seq q && is_cancelling a.stage) (goes_on p) (after_answer p d answers.LetGo s.live) h))
cancelling-back s (event.Failed p d) q h =
    or_left (is_cancelling_in s q) _ (cancelling-changed p q (answers_as d answers.Failed) (λ a. refl) (λ a k. k) s.live
    (any-kept (λ a. nat_eq a.seq q && is_cancelling a.stage) (goes_on p) (after_answer p d answers.Failed s.live) h))
cancelling-back s (event.Excuse p d) q h =
    or_left (is_cancelling_in s q) _ (cancelling-changed p q (answers_as d answers.Excused) (λ a. refl) (λ a k. k)
    s.live h)
cancelling-back s _ q h = or_left (is_cancelling_in s q) _ h

pub cancelling-by-cancel : (s : ShowState) (es : List Event) (q : ℕ) → is_cancelling_in (after_events s es) q ≡ true
    → (is_cancelling_in s q || list_any (is_cancel_of q) es) ≡ true
cancelling-by-cancel s [] q h = or_left (is_cancelling_in s q) _ h
cancelling-by-cancel s (e ∷ es) q h =
    either (is_cancelling_in (after s e) q) (list_any (is_cancel_of q) es) _
    (λ k. or_assoc (is_cancelling_in s q) (is_cancel_of q e) _ (or_left _ _ (cancelling-back s e q k)))
    (λ k. or_right (is_cancelling_in s q) _ (or_right (is_cancel_of q e) _ k)) (cancelling-by-cancel (after s e) es q h)
