-- Attempts by rising number: put one after the other, and those that are due.
use Rattle.std.proofs.Common.{◌≡◌, ℕ, ◌<◌, ◌≤◌, not, ◌&&◌, IsTrue, List, [], ◌∷◌, ◌++◌}
use Rattle.std.proofs.Common.{map, filter, length, nat_eq, nat_lt, refl, ap, arith}
use Rattle.std.proofs.Common.{length-append}
use Rattle.std.specs.List.{list_all}
use Rattle.std.proofs.lemmas.Bool.{not_from_false, ne_eqb, ltb-true, leb-true, le-leb, lt-ltb, le-ltb}
use Rattle.cue_show.specs.Devices.{disjoint}
use Rattle.cue_exchange.specs.declared.attempt.Attempt.{Attempt}
use Rattle.cue_exchange.specs.declared.limits.TheConstants.{MAX_LIVE}
use Rattle.cue_exchange.specs.Answers.{devices_of}
use Rattle.cue_exchange.specs.Live.{is_attempt, pairwise, goes_before, are_live}
use Rattle.cue_exchange.specs.Live.{is_due, due}
use Rattle.cue_exchange.specs.Steps.{has_room}
use Rattle.cue_exchange.specs.Steps.{is_apart, can_put, with_attempt}
use Rattle.cue_exchange.proofs.ListLemmas.{both, join, all_weaker, all_map, all_front, all_back}
use Rattle.cue_exchange.proofs.ListLemmas.{pairwise_filter, pairwise_front, before_next}
use Rattle.cue_exchange.proofs.LiveLemmas.{are_live_from, room_of, attempts_of, order_of}

-- ---- attempts that are put in turn, by rising number

-- the first of the list are live by themselves
pub are_live-front : (live rest : List Attempt) → IsTrue (are_live (live ++ rest)) → IsTrue (are_live live)
are_live-front live rest h =
    let room : length (live ++ rest) ≤ MAX_LIVE =
    leb-true (length (live ++ rest)) MAX_LIVE (room_of (live ++ rest) h) in
    are_live_from live
    (le-leb (length live) MAX_LIVE (omega (arith, length-append live rest)))
    (all_front is_attempt live rest (attempts_of (live ++ rest) h))
    (pairwise_front goes_before live rest (order_of (live ++ rest) h))

-- behind the live attempts the next one may be put
pub can_put-next : (live rest : List Attempt) (a : Attempt) → IsTrue (are_live (live ++ a ∷ rest))
    → IsTrue (can_put a live)
can_put-next live rest a h =
    let room : length (live ++ a ∷ rest) ≤ MAX_LIVE =
    leb-true (length (live ++ a ∷ rest)) MAX_LIVE (room_of (live ++ a ∷ rest) h) in
    join (has_room live) (is_attempt a && list_all (is_apart a) live)
    (lt-ltb (length live) MAX_LIVE (omega (arith, length-append live (a ∷ rest))))
    (join (is_attempt a) (list_all (is_apart a) live)
    (both (is_attempt a) (list_all is_attempt rest)
    (all_back is_attempt live (a ∷ rest) (attempts_of (live ++ a ∷ rest) h))).0
    (all_weaker (λ b. goes_before b a) (is_apart a)
    (λ b k.
    let t : IsTrue (nat_lt b.seq a.seq) × IsTrue (disjoint (devices_of b.answers) (devices_of a.answers)) =
    both (nat_lt b.seq a.seq) (disjoint (devices_of b.answers) (devices_of a.answers)) k in
    let lt : b.seq < a.seq = ltb-true b.seq a.seq t.0 in
    join (not (nat_eq b.seq a.seq)) (disjoint (devices_of b.answers) (devices_of a.answers))
    (not_from_false (nat_eq b.seq a.seq) (ne_eqb b.seq a.seq (λ e. omega arith))) t.1)
    live (before_next goes_before live rest a (order_of (live ++ a ∷ rest) h))))

-- an attempt that goes behind all others is put last
pub with_attempt-last : (a : Attempt) (live : List Attempt) → IsTrue (list_all (λ b. goes_before b a) live)
    → with_attempt a live ≡ live ++ a ∷ []
with_attempt-last a [] h = refl
with_attempt-last a (b ∷ bs) h =
    let s : IsTrue (goes_before b a) × IsTrue (list_all (λ c. goes_before c a) bs) =
    both (goes_before b a) (list_all (λ c. goes_before c a) bs) h in
    let lt : b.seq < a.seq =
    ltb-true b.seq a.seq (both (nat_lt b.seq a.seq) (disjoint (devices_of b.answers) (devices_of a.answers))
    s.0).0 in
    rw (le-ltb a.seq b.seq (omega arith)) (ap (λ xs. b ∷ xs) (with_attempt-last a bs s.1))

-- and goes last
pub with_attempt-next : (live rest : List Attempt) (a : Attempt) → IsTrue (are_live (live ++ a ∷ rest))
    → with_attempt a live ≡ live ++ a ∷ []
with_attempt-next live rest a h =
    with_attempt-last a live (before_next goes_before live rest a (order_of (live ++ a ∷ rest) h))

-- ---- what is due

-- the numbers of attempts that rise
pub rising-numbers : (live : List Attempt) → IsTrue (pairwise goes_before live)
    → IsTrue (pairwise nat_lt (map (λ a. a.seq) live))
rising-numbers [] h = refl
rising-numbers (a ∷ live) h =
    let s : IsTrue (list_all (goes_before a) live) × IsTrue (pairwise goes_before live) =
    both (list_all (goes_before a) live) (pairwise goes_before live) h in
    join (list_all (nat_lt a.seq) (map (λ b. b.seq) live)) (pairwise nat_lt (map (λ b. b.seq) live))
    (all_map (nat_lt a.seq) (λ b. b.seq) live
    (all_weaker (goes_before a) (λ b. nat_lt a.seq b.seq)
    (λ b k. (both (nat_lt a.seq b.seq) (disjoint (devices_of a.answers) (devices_of b.answers)) k).0) live s.0))
    (rising-numbers live s.1)

-- the numbers of the attempts that are due rise
pub rising-due : (now : ℕ) (live : List Attempt) → IsTrue (are_live live) → IsTrue (pairwise nat_lt (due now live))
rising-due now live h = rising-numbers (filter (is_due now) live)
    (pairwise_filter goes_before (is_due now) live (order_of live h))
