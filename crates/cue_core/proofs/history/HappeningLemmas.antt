-- Commands, ticks and recoveries in turn make histories.
use Rattle.std.proofs.Common.{◌≡◌, ℕ, List, [], ◌∷◌, refl, Bool, true, false, ◌&&◌, ◌||◌, nat_eq, nat_le, nat_lt, arith}
use Rattle.std.specs.Prelude.{IsTrue, map, filter, if◌then◌else◌}
use Rattle.std.specs.List.{list_all}
use Rattle.std.proofs.lemmas.Bool.Decides.{nat_tests}
use Rattle.cue_exchange.specs.declared.attempt.Reason.{Reason}
use Rattle.cue_exchange.specs.declared.attempt.Reason.TheVariants.{Deadline, Power}
use Rattle.cue_exchange.specs.declared.attempt.Stage.TheVariants.{Cancelling}
use Rattle.cue_exchange.specs.declared.attempt.Attempt.{Attempt}
use Rattle.cue_exchange.specs.Answers.{is_preparing}
use Rattle.cue_exchange.specs.Live.{is_due}
use Rattle.cue_exchange.specs.Steps.{holds, with_change, moves_to, after_move, can_cancel}
use Rattle.cue_exchange.proofs.ListLemmas.{pairwise_filter}
use Rattle.cue_core.specs.declared.event.Event.{Event}
use Rattle.cue_core.specs.declared.event.Event.TheVariants.{Cancel}
use Rattle.cue_core.specs.State.{ShowState}
use Rattle.cue_core.specs.Steps.{acceptable, after, are_acceptable}
use Rattle.cue_core.specs.History.{state_of, is_history}
use Rattle.cue_core.specs.Happenings.{Happening, commanded, ticked, recovered, can_come, cancels, is_undecided}
use Rattle.cue_core.specs.Happenings.{events_at, onto, history_of, CommandsMakeHistories, CommandsInOrder}
use Rattle.cue_core.proofs.lists.ConditionLemmas.{both, join, all_from, all_zip, same_number, same_self}
use Rattle.cue_core.proofs.live.FindingLemmas.{rising}
use Rattle.cue_core.proofs.rules.SoundLemmas.{is_state-history, sound_of}
use Rattle.cue_core.proofs.history.FactLemmas.{go-after-ready}
use Rattle.cue_core.proofs.verdicts.JudgementLemmas.{judgement_of-acceptable}

-- a test on a number is left alone by a change of another
holds-others : (p q : ℕ) (test : Attempt → Bool) (f : Attempt → Attempt) → ((a : Attempt) → (f a).seq ≡ a.seq)
    → nat_eq p q ≡ false → (live : List Attempt) → holds q test (map (with_change p f) live) ≡ holds q test live
holds-others p q test f keeps n [] = refl
holds-others p q test f keeps n (a ∷ live) = rw (holds-others p q test f keeps n live) (at (nat_eq a.seq p) refl)
  where
    other : nat_eq a.seq p ≡ true → nat_eq a.seq q ≡ false
    other e = let same = same_number a.seq p e in rw same n

    at : (b : Bool) → nat_eq a.seq p ≡ b
        → ((nat_eq (if b then f a else a).seq q && test (if b then f a else a)) || holds q test live)
        ≡ ((nat_eq a.seq q && test a) || holds q test live)
    at true e = rw (keeps a, other e) refl
    at false e = refl

-- cancels of distinct numbers, each of which may be cancelled
in_turn : (r : Reason) (xs : List Attempt) (s : ShowState) → IsTrue (rising xs)
    → IsTrue (list_all (λ b. can_cancel b.seq s.live) xs) → IsTrue (are_acceptable s (map (λ a. Cancel a.seq r) xs))
in_turn r [] s h g = refl
in_turn r (a ∷ xs) s h g =
    let p = both (list_all (λ b. nat_lt a.seq b.seq) xs) (rising xs) h in
    let k = both (can_cancel a.seq s.live) (list_all (λ b. can_cancel b.seq s.live) xs) g in
    join (can_cancel a.seq s.live) (are_acceptable (after s (Cancel a.seq r)) (map (λ b. Cancel b.seq r) xs)) k.0
    (in_turn r xs (after s (Cancel a.seq r)) p.1
    (all_zip (λ b. nat_lt a.seq b.seq) (λ b. can_cancel b.seq s.live)
    (λ b. can_cancel b.seq (after_move a.seq (Cancelling r) s.live)) xs
    (λ b l c. rw (holds-others a.seq b.seq (λ x. is_preparing x.stage) (moves_to (Cancelling r)) (λ x. refl)
    (apart a.seq b.seq l) s.live) c) p.0 k.1))
  where
    apart : (m n : ℕ) → IsTrue (nat_lt m n) → nat_eq m n ≡ false
    apart m n l = Prim.grind (arith, nat_tests, l)

weaker : (b c : Bool) → IsTrue c → IsTrue (b || c)
weaker true c h = refl
weaker false c h = h

-- each attempt that passes is one on which the test holds
each_holds : (pass test : Attempt → Bool) → ((a : Attempt) → IsTrue (pass a) → IsTrue (test a)) → (live : List Attempt)
    → IsTrue (list_all (λ b. holds b.seq test live) (filter pass live))
each_holds pass test f [] = refl
each_holds pass test f (a ∷ live) =
    at (pass a) refl (all_from (λ b. holds b.seq test live) (λ b. holds b.seq test (a ∷ live)) (filter pass live)
    (λ b h. weaker (nat_eq a.seq b.seq && test a) (holds b.seq test live) h) (each_holds pass test f live))
  where
    at : (b : Bool) → pass a ≡ b → IsTrue (list_all (λ x. holds x.seq test (a ∷ live)) (filter pass live))
        → IsTrue (list_all (λ x. holds x.seq test (a ∷ live)) (if b then a ∷ filter pass live else filter pass live))
    at true e h = join (holds a.seq test (a ∷ live)) (list_all (λ x. holds x.seq test (a ∷ live)) (filter pass live))
        (rw (same_self a.seq, f a e) refl) h
    at false e h = h

pub cancels-acceptable : (pass : Attempt → Bool) (r : Reason) (s : ShowState)
    → ((a : Attempt) → IsTrue (pass a) → IsTrue (is_preparing a.stage)) → IsTrue (rising s.live)
    → IsTrue (are_acceptable s (cancels pass r s))
cancels-acceptable pass r s f h =
    in_turn r (filter pass s.live) s (pairwise_filter (λ a b. nat_lt a.seq b.seq) pass s.live h)
    (each_holds pass (λ a. is_preparing a.stage) f s.live)

-- events that are acceptable in turn carry a history on
pub history-onto : (es past : List Event) → IsTrue (is_history past) → IsTrue (are_acceptable (state_of past) es)
    → IsTrue (is_history (onto es past))
history-onto [] past h g = h
history-onto (e ∷ es) past h g =
    let p = both (acceptable (state_of past) e) (are_acceptable (after (state_of past) e) es) g in
    history-onto es (e ∷ past) (join (acceptable (state_of past) e) (is_history past) p.0 h) p.1

pub events-acceptable : (past : List Event) (x : Happening) → IsTrue (is_history past) → IsTrue (can_come x)
    → IsTrue (are_acceptable (state_of past) (events_at (state_of past) x))
events-acceptable past (commanded now from c) h fit =
    judgement_of-acceptable (state_of past) now from c (is_state-history past h) fit
events-acceptable past (ticked now) h fit =
    cancels-acceptable (is_due now) Deadline (state_of past)
    (λ a k. (both (is_preparing a.stage) (nat_le a.deadline now) k).0)
    (sound_of (state_of past) (is_state-history past h)).rises
events-acceptable past recovered h fit = cancels-acceptable is_undecided Power (state_of past) (λ a k. k)
    (sound_of (state_of past) (is_state-history past h)).rises

pub commands-make-histories : CommandsMakeHistories
commands-make-histories [] h = refl
commands-make-histories (x ∷ before) h =
    let p = both (can_come x) (list_all can_come before) h in
    let past = commands-make-histories before p.1 in
    history-onto (events_at (state_of (history_of before)) x) (history_of before) past
    (events-acceptable (history_of before) x past p.0)

pub commands-in-order : CommandsInOrder
commands-in-order hs h = go-after-ready (history_of hs) (commands-make-histories hs h)
