-- What a history tells of every number, and how each event carries it on.
use Rattle.std.proofs.Common.{◌≡◌, ℕ, ◌+◌, List, [], ◌∷◌, ◌++◌, refl, ◌∙◌, subst, Bool, true, false, not, ◌&&◌, ◌||◌}
use Rattle.std.proofs.Common.{inl, inr, nat_eq, nat_le, nat_lt, ◌≤◌, ◌<◌, arith, Option, None, Some}
use Rattle.std.specs.Prelude.{IsTrue, if◌then◌else◌}
use Rattle.std.specs.List.{list_all, list_any}
use Rattle.std.specs.Option.{option_or}
use Rattle.std.proofs.lemmas.List.Folds.{find-append}
use Rattle.std.proofs.lemmas.Bool.Decides.{nat_tests}
use Rattle.cue_exchange.specs.declared.attempt.Reason.{Reason}
use Rattle.cue_exchange.specs.declared.attempt.Answer.{Answer}
use Rattle.cue_exchange.specs.declared.attempt.Answer.TheVariants as answer
use Rattle.cue_exchange.specs.declared.attempt.Stage.{Stage}
use Rattle.cue_exchange.specs.declared.attempt.Stage.TheVariants.{Preparing, Decided, Cancelling}
use Rattle.cue_exchange.specs.declared.attempt.Attempt.{Attempt}
use Rattle.cue_exchange.specs.Answers.{is_waiting, is_excused, is_preparing, is_decided, is_cancelling, is_concluding}
use Rattle.cue_exchange.specs.Answers.{is_known_in, may_be_in, some_waits, answer_passes, is_excusable, all_may_go}
use Rattle.cue_exchange.specs.Answers.{answers_with}
use Rattle.cue_exchange.specs.Live.{attempt_of, has_number}
use Rattle.cue_exchange.specs.Steps.{holds, waits_in, answers_as, moves_to, new_attempt, after_start, after_answer}
use Rattle.cue_exchange.specs.Steps.{after_move}
use Rattle.cue_exchange.specs.Steps.{without_ended, can_start, can_ready, can_go, can_go_now, can_cancel, can_done}
use Rattle.cue_exchange.specs.Steps.{can_let_go, can_fail, can_excuse}
use Rattle.cue_show.specs.Show.{has_cue}
use Rattle.cue_core.specs.declared.event.Event.{Event}
use Rattle.cue_core.specs.declared.event.Event.TheVariants as event
use Rattle.cue_core.specs.State.{ShowState, cue_parts}
use Rattle.cue_core.specs.Steps.{acceptable, after, can_begin}
use Rattle.cue_core.specs.Events.{is_ready_of, is_excuse_of, is_go_of, is_cancel_of, is_end_of}
use Rattle.cue_core.specs.History.{devices_by, state_of}
use Rattle.cue_core.proofs.lists.ConditionLemmas.{both, cases, all_from, all_mapped, same_number, same_self, neither}
use Rattle.cue_core.proofs.live.FindingLemmas.{rising, lacks-below, attempt_of-lacks, attempt_of-without_ended}
use Rattle.cue_core.proofs.live.FindingLemmas.{attempt_of-without_ended_other, if_open, rising-changed, found}
use Rattle.cue_core.proofs.live.FindingLemmas.{found-changed, found-others, found_has, found_passes}
use Rattle.cue_core.proofs.history.AttemptLemmas.{tells-start}
use Rattle.cue_core.proofs.history.TellsLemmas.{Tells, IsQuiet, quiet, is_about, tells-on, devices_by-on}
use Rattle.cue_core.proofs.history.AttemptLemmas.{tells-ready, tells-excuse, tells-go, tells-cancel, IsLastAnswer}
use Rattle.cue_core.proofs.history.AttemptLemmas.{tells-end, of_device, gone_by}
use Rattle.cue_core.proofs.history.TellsLemmas.{is_last}

-- what the rules of a state say that is used here
pub record IsSound (s : ShowState) : Type 0 where
  pub rises : IsTrue (rising s.live)
  pub stand : IsTrue (list_all (λ a. list_all (may_be_in a.stage) a.answers) s.live)
  pub within : IsTrue (list_all (λ a. nat_le a.seq s.last_seq) s.live)
  pub left : IsTrue (list_all (λ a. not (list_all (λ x. is_last x.answer) a.answers)) s.live)

-- what the history says of a number, live or not
abbrev pub Settles : List Event → ℕ → Option Attempt → Type 0
Settles h q None = IsTrue (list_all (λ d. list_any (is_end_of q d) h) (devices_by h q))
Settles h q (Some a) = Tells h q a

pub record Kept (h : List Event) (s : ShowState) : Type 0 where
  pub settles : (q : ℕ) → Settles h q (attempt_of s.live q)
  pub unused : (q : ℕ) → s.last_seq < q → list_any (is_about q) h ≡ false

-- ---- events of another number

skips : (b c : Bool) → b ≡ false → (b || c) ≡ c
skips false c e = refl
skips true c e = cc

settles-on : (q : ℕ) (e : Event) (h : List Event) (o : Option Attempt) → IsQuiet q e → Settles h q o
    → Settles (e ∷ h) q o
settles-on q e h None n k =
    rw (devices_by-on q e h n.start) (all_from (λ d. list_any (is_end_of q d) h) (λ d. list_any (is_end_of q d) (e ∷ h))
    (devices_by h q) (λ d l. rw (skips (is_end_of q d e) (list_any (is_end_of q d) h) (n.end d)) l) k)
settles-on q e h (Some a) n k = tells-on q e h a n k

kept_number : (d : ℕ) (given : Answer) (a : Attempt) → (answers_as d given a).seq ≡ a.seq
kept_number d given a = refl

moved_number : (stage : Stage) (a : Attempt) → (moves_to stage a).seq ≡ a.seq
moved_number stage a = refl

started_other : (q : ℕ) (a : Attempt) (live : List Attempt) → nat_eq a.seq q ≡ false
    → attempt_of (live ++ a ∷ []) q ≡ attempt_of live q
started_other q a live n = find-append (has_number q) live (a ∷ []) ∙ at (attempt_of live q) (nat_eq a.seq q) n
  where
    at : (o : Option Attempt) (b : Bool) → b ≡ false → option_or o (if b then Some a else None) ≡ o
    at None true e = cc
    at None false e = refl
    at (Some x) b e = refl

ended_other : (p q d : ℕ) (given : Answer) (live : List Attempt) → nat_eq p q ≡ false
    → attempt_of (without_ended p (after_answer p d given live)) q ≡ attempt_of live q
ended_other p q d given live n = attempt_of-without_ended_other p q (after_answer p d given live) n
    ∙ found-others p q (answers_as d given) (kept_number d given) live n

pub attempt_of-after_other : (s : ShowState) (q : ℕ) (e : Event) → is_about q e ≡ false
    → attempt_of (after s e).live q ≡ attempt_of s.live q
attempt_of-after_other s q (event.Device d port) n = refl
attempt_of-after_other s q (event.NoDevice d) n = refl
attempt_of-after_other s q (event.Cue c parts) n = refl
attempt_of-after_other s q (event.NoCue c) n = refl
attempt_of-after_other s q (event.Place c) n = refl
attempt_of-after_other s q (event.Start p c t) n = started_other q (new_attempt p c t (cue_parts s.show c)) s.live n
attempt_of-after_other s q (event.Ready p d) n =
    found-others p q (answers_as d answer.Ready) (kept_number d answer.Ready) s.live n
attempt_of-after_other s q (event.Go p) n = found-others p q (moves_to Decided) (moved_number Decided) s.live n
attempt_of-after_other s q (event.Done p d) n = ended_other p q d answer.Done s.live n
attempt_of-after_other s q (event.Cancel p r) n =
    found-others p q (moves_to (Cancelling r)) (moved_number (Cancelling r)) s.live n
attempt_of-after_other s q (event.LetGo p d) n = ended_other p q d answer.LetGo s.live n
attempt_of-after_other s q (event.Failed p d) n = ended_other p q d answer.Failed s.live n
attempt_of-after_other s q (event.Excuse p d) n =
    found-others p q (answers_as d answer.Excused) (kept_number d answer.Excused) s.live n

step_other : (h : List Event) (s : ShowState) (q : ℕ) (e : Event) → Kept h s → is_about q e ≡ false
    → Settles (e ∷ h) q (attempt_of (after s e).live q)
step_other h s q e k n =
    rw (attempt_of-after_other s q e n) (settles-on q e h (attempt_of s.live q) (quiet q e n) (k.settles q))

-- ---- events of the number itself

told_at : (h : List Event) (q : ℕ) (o : Option Attempt) (a : Attempt) → o ≡ Some a → Settles h q o → Tells h q a
told_at h q o a e k = let P : Option Attempt → Type 0 = λ x. Settles h q x in subst P e k

none_about : (q : ℕ) (P : Event → Bool) (h : List Event) → ((e : Event) → is_about q e ≡ false → P e ≡ false)
    → list_any (is_about q) h ≡ false → list_any P h ≡ false
none_about q P [] f n = refl
none_about q P (e ∷ h) f n = let k = neither (is_about q e) (list_any (is_about q) h) n in
    rw (f e k.0) (none_about q P h f k.1)

started_found : (q : ℕ) (a : Attempt) (live : List Attempt) → attempt_of live q ≡ None → nat_eq a.seq q ≡ true
    → attempt_of (live ++ a ∷ []) q ≡ Some a
started_found q a live n e = find-append (has_number q) live (a ∷ []) ∙ rw (n, e) refl

step_start : (h : List Event) (q : ℕ) (c : List ℕ) (t : ℕ) → Kept h (state_of h) → (state_of h).last_seq < q
    → IsTrue (list_all (λ a. nat_lt a.seq q) (state_of h).live)
    → Settles (event.Start q c t ∷ h) q
    (attempt_of (after_start q c t (cue_parts (state_of h).show c) (state_of h).live) q)
step_start h q c t k above below =
    let fresh = k.unused q above in
    let none = attempt_of-lacks q (state_of h).live (lacks-below q (state_of h).live below) in
    rw (started_found q (new_attempt q c t (cue_parts (state_of h).show c)) (state_of h).live none (same_self q))
    (tells-start q c t (cue_parts (state_of h).show c) h
    (none_about q (is_go_of q) h (λ e n. (quiet q e n).go) fresh)
    (none_about q (is_cancel_of q) h (λ e n. (quiet q e n).cancel) fresh)
    (λ d. none_about q (is_ready_of q d) h (λ e n. (quiet q e n).ready d) fresh)
    (λ d. none_about q (is_excuse_of q d) h (λ e n. (quiet q e n).excuse d) fresh)
    (λ d. none_about q (is_end_of q d) h (λ e n. (quiet q e n).end d) fresh)
    (rw (same_self q) refl))

-- the stage of the attempt, and how its devices stand
stands_at : (s : ShowState) (q : ℕ) (a : Attempt) → IsSound s → attempt_of s.live q ≡ Some a
    → IsTrue (list_all (may_be_in a.stage) a.answers)
stands_at s q a i e = found_has (λ b. list_all (may_be_in b.stage) b.answers) (has_number q) s.live a i.stand e

step_ready : (h : List Event) (s : ShowState) (q d : ℕ) → Kept h s → IsSound s → IsTrue (can_ready q d s.live)
    → Settles (event.Ready q d ∷ h) q (attempt_of (after_answer q d answer.Ready s.live) q)
step_ready h s q d k i g =
    let f = found q (waits_in is_preparing d) s.live i.rises g in
    let p = both (is_preparing f.0.stage) (answer_passes is_waiting d f.0.answers) f.2 in
    rw (found-changed q (answers_as d answer.Ready) (kept_number d answer.Ready) s.live f.0 f.1)
    (tells-ready q d h f.0 p.1 (told_at h q (attempt_of s.live q) f.0 f.1 (k.settles q)))

step_excuse : (h : List Event) (s : ShowState) (q d : ℕ) → Kept h s → IsSound s → IsTrue (can_excuse q d s.live)
    → Settles (event.Excuse q d ∷ h) q (attempt_of (after_answer q d answer.Excused s.live) q)
step_excuse h s q d k i g =
    let f = found q (λ a. is_preparing a.stage && is_excusable d a.answers) s.live i.rises g in
    rw (found-changed q (answers_as d answer.Excused) (kept_number d answer.Excused) s.live f.0 f.1)
    (tells-excuse q d h f.0 (told_at h q (attempt_of s.live q) f.0 f.1 (k.settles q)))

step_go : (h : List Event) (s : ShowState) (q : ℕ) → Kept h s → IsSound s → IsTrue (can_go q s.live)
    → Settles (event.Go q ∷ h) q (attempt_of (after_move q Decided s.live) q)
step_go h s q k i g =
    let f = found q can_go_now s.live i.rises g in
    let p = both (is_preparing f.0.stage) (all_may_go f.0.answers) f.2 in
    rw (found-changed q (moves_to Decided) (moved_number Decided) s.live f.0 f.1)
    (tells-go q h f.0 p.0 (stands_at s q f.0 i f.1) (told_at h q (attempt_of s.live q) f.0 f.1 (k.settles q)))

step_cancel : (h : List Event) (s : ShowState) (q : ℕ) (r : Reason) → Kept h s → IsSound s
    → IsTrue (can_cancel q s.live)
    → Settles (event.Cancel q r ∷ h) q (attempt_of (after_move q (Cancelling r) s.live) q)
step_cancel h s q r k i g =
    let f = found q (λ a. is_preparing a.stage) s.live i.rises g in
    rw (found-changed q (moves_to (Cancelling r)) (moved_number (Cancelling r)) s.live f.0 f.1)
    (tells-cancel q r h f.0 f.2 (stands_at s q f.0 i f.1) (told_at h q (attempt_of s.live q) f.0 f.1 (k.settles q)))

-- an answer of d that is the last, in a stage that is not Preparing
known_with : (stage : Stage) (b optional : Bool) (given answer : Answer) → IsTrue (is_known_in stage given)
    → is_excused given ≡ false → IsTrue (is_known_in stage answer && not (not optional && is_excused answer))
    → IsTrue (is_known_in stage (if b then given else answer) && not
    (not optional && is_excused (if b then given else answer)))
known_with stage true true given answer p n k = rw p refl
known_with stage true false given answer p n k = rw (p, n) refl
known_with stage false optional given answer p n k = k

stand_with : (d : ℕ) (given : Answer) (a : Attempt) → IsTrue (is_known_in a.stage given) → is_excused given ≡ false
    → IsTrue (list_all (may_be_in a.stage) a.answers)
    → IsTrue (list_all (may_be_in a.stage) (answers_as d given a).answers)
stand_with d given a p n k = rw (all_mapped (may_be_in a.stage) (answers_with d given) a.answers)
    (all_from (may_be_in a.stage) (λ x. may_be_in a.stage (answers_with d given x)) a.answers
    (λ x l. known_with a.stage (nat_eq x.device d) x.optional given x.answer p n l) k)

settles_if_open : (h : List Event) (q : ℕ) (a : Attempt) → is_preparing a.stage ≡ false
    → IsTrue (list_all (may_be_in a.stage) a.answers) → Tells h q a → Settles h q (if_open a)
settles_if_open h q a p k t = at (some_waits a.answers) refl
  where
    at : (b : Bool) → some_waits a.answers ≡ b → Settles h q (if b then Some a else None)
    at true e = t
    at false e = gone_by q h a p k e t

step_end : (h : List Event) (s : ShowState) (q d : ℕ) (given : Answer) (e : Event) (a : Attempt) → Kept h s → IsSound s
    → attempt_of s.live q ≡ Some a → is_preparing a.stage ≡ false → IsTrue (is_known_in a.stage given)
    → is_excused given ≡ false → IsTrue (is_last given) → IsLastAnswer q d e
    → Settles (e ∷ h) q (attempt_of (without_ended q (after_answer q d given s.live)) q)
step_end h s q d given e a k i f p known excused l n =
    rw (attempt_of-without_ended q (after_answer q d given s.live)
    (rising-changed q (answers_as d given) (kept_number d given) s.live i.rises))
    (rw (found-changed q (answers_as d given) (kept_number d given) s.live a f)
    (settles_if_open (e ∷ h) q (answers_as d given a) p (stand_with d given a known excused (stands_at s q a i f))
    (tells-end q d given e h a p l n (told_at h q (attempt_of s.live q) a f (k.settles q)))))

decided_knows : (stage : Stage) → IsTrue (is_decided stage) → (is_preparing stage ≡ false)
    × IsTrue (is_known_in stage answer.Done)
decided_knows Preparing p = cc
decided_knows Decided p = (refl, refl)
decided_knows (Cancelling r) p = cc

cancelling_knows : (stage : Stage) → IsTrue (is_cancelling stage) → (is_preparing stage ≡ false)
    × IsTrue (is_known_in stage answer.LetGo)
cancelling_knows Preparing p = cc
cancelling_knows Decided p = cc
cancelling_knows (Cancelling r) p = (refl, refl)

closing_knows : (stage : Stage) → IsTrue (is_concluding stage) → (is_preparing stage ≡ false)
    × IsTrue (is_known_in stage answer.Failed)
closing_knows Preparing p = cc
closing_knows Decided p = (refl, refl)
closing_knows (Cancelling r) p = (refl, refl)

step_done : (h : List Event) (s : ShowState) (q d : ℕ) → Kept h s → IsSound s → IsTrue (can_done q d s.live)
    → Settles (event.Done q d ∷ h) q (attempt_of (without_ended q (after_answer q d answer.Done s.live)) q)
step_done h s q d k i g =
    let f = found q (waits_in is_decided d) s.live i.rises g in
    let p = decided_knows f.0.stage (both (is_decided f.0.stage) (answer_passes is_waiting d f.0.answers) f.2).0 in
    step_end h s q d answer.Done (event.Done q d) f.0 k i f.1 p.0 p.1 refl refl
    (record { start = refl; go = refl; cancel = refl; end = λ n. of_device q d n })

step_let_go : (h : List Event) (s : ShowState) (q d : ℕ) → Kept h s → IsSound s → IsTrue (can_let_go q d s.live)
    → Settles (event.LetGo q d ∷ h) q (attempt_of (without_ended q (after_answer q d answer.LetGo s.live)) q)
step_let_go h s q d k i g =
    let f = found q (waits_in is_cancelling d) s.live i.rises g in
    let p = cancelling_knows f.0.stage (both (is_cancelling f.0.stage) (answer_passes is_waiting d f.0.answers)
    f.2).0 in
    step_end h s q d answer.LetGo (event.LetGo q d) f.0 k i f.1 p.0 p.1 refl refl
    (record { start = refl; go = refl; cancel = refl; end = λ n. of_device q d n })

step_failed : (h : List Event) (s : ShowState) (q d : ℕ) → Kept h s → IsSound s → IsTrue (can_fail q d s.live)
    → Settles (event.Failed q d ∷ h) q (attempt_of (without_ended q (after_answer q d answer.Failed s.live)) q)
step_failed h s q d k i g =
    let f = found q (waits_in is_concluding d) s.live i.rises g in
    let p = closing_knows f.0.stage (both (is_concluding f.0.stage) (answer_passes is_waiting d f.0.answers) f.2).0 in
    step_end h s q d answer.Failed (event.Failed q d) f.0 k i f.1 p.0 p.1 refl refl
    (record { start = refl; go = refl; cancel = refl; end = λ n. of_device q d n })

-- ---- all events

-- what is said of the number p of the event is said of q, which it is
at_number : (h : List Event) (o : ℕ → Option Attempt) (p q : ℕ) → IsTrue (nat_eq p q) → Settles h p (o p)
    → Settles h q (o q)
at_number h o p q e k = let P : ℕ → Type 0 = λ n. Settles h n (o n) in subst P (same_number p q e) k

below_of : (last q : ℕ) (live : List Attempt) → last < q → IsTrue (list_all (λ a. nat_le a.seq last) live)
    → IsTrue (list_all (λ a. nat_lt a.seq q) live)
below_of last q live l h = all_from (λ a. nat_le a.seq last) (λ a. nat_lt a.seq q) live (λ a k. at a.seq k) h
  where
    at : (n : ℕ) → IsTrue (nat_le n last) → IsTrue (nat_lt n q)
    at n k = Prim.grind (arith, nat_tests, k, l)

next_above : (s : ShowState) (q : ℕ) (c : List ℕ) (t : ℕ) → IsTrue (can_begin s.show s.live s.last_seq q c t)
    → s.last_seq < q
next_above s q c t g = at q
    (same_number q (s.last_seq + 1)
    (both (nat_eq q (s.last_seq + 1)) (has_cue s.show c && can_start q t (cue_parts s.show c) s.live) g).0)
  where
    at : (n : ℕ) → n ≡ s.last_seq + 1 → s.last_seq < n
    at n e = omega arith

step_same : (h : List Event) (q : ℕ) (e : Event) → Kept h (state_of h) → IsSound (state_of h)
    → IsTrue (acceptable (state_of h) e) → IsTrue (is_about q e)
    → Settles (e ∷ h) q (attempt_of (after (state_of h) e).live q)
step_same h q (event.Device d port) k i g n = cc
step_same h q (event.NoDevice d) k i g n = cc
step_same h q (event.Cue c parts) k i g n = cc
step_same h q (event.NoCue c) k i g n = cc
step_same h q (event.Place c) k i g n = cc
step_same h q (event.Start p c t) k i g n = let above = next_above (state_of h) p c t g in
    at_number (event.Start p c t ∷ h) (λ m. attempt_of (after (state_of h) (event.Start p c t)).live m) p q n
    (step_start h p c t k above (below_of (state_of h).last_seq p (state_of h).live above i.within))
step_same h q (event.Ready p d) k i g n =
    at_number (event.Ready p d ∷ h) (λ m. attempt_of (after (state_of h) (event.Ready p d)).live m) p q n
    (step_ready h (state_of h) p d k i g)
step_same h q (event.Go p) k i g n =
    at_number (event.Go p ∷ h) (λ m. attempt_of (after (state_of h) (event.Go p)).live m) p q n
    (step_go h (state_of h) p k i g)
step_same h q (event.Done p d) k i g n =
    at_number (event.Done p d ∷ h) (λ m. attempt_of (after (state_of h) (event.Done p d)).live m) p q n
    (step_done h (state_of h) p d k i g)
step_same h q (event.Cancel p r) k i g n =
    at_number (event.Cancel p r ∷ h) (λ m. attempt_of (after (state_of h) (event.Cancel p r)).live m) p q n
    (step_cancel h (state_of h) p r k i g)
step_same h q (event.LetGo p d) k i g n =
    at_number (event.LetGo p d ∷ h) (λ m. attempt_of (after (state_of h) (event.LetGo p d)).live m) p q n
    (step_let_go h (state_of h) p d k i g)
step_same h q (event.Failed p d) k i g n =
    at_number (event.Failed p d ∷ h) (λ m. attempt_of (after (state_of h) (event.Failed p d)).live m) p q n
    (step_failed h (state_of h) p d k i g)
step_same h q (event.Excuse p d) k i g n =
    at_number (event.Excuse p d ∷ h) (λ m. attempt_of (after (state_of h) (event.Excuse p d)).live m) p q n
    (step_excuse h (state_of h) p d k i g)

step_settles : (h : List Event) (q : ℕ) (e : Event) → Kept h (state_of h) → IsSound (state_of h)
    → IsTrue (acceptable (state_of h) e) → Settles (e ∷ h) q (attempt_of (after (state_of h) e).live q)
step_settles h q e k i g =
    elim (cases (is_about q e)) [ inl n ↦ step_same h q e k i g n | inr n ↦ step_other h (state_of h) q e k n ]

-- ---- no event is of a number above the last

-- the number of a live attempt is at most the last
at_most_last : (s : ShowState) (q : ℕ) (test : Attempt → Bool) → IsSound s → IsTrue (holds q test s.live)
    → q ≤ s.last_seq
at_most_last s q test i g =
    let f = found q test s.live i.rises g in
    at f.0.seq (found_passes (has_number q) s.live f.0 f.1)
    (found_has (λ a. nat_le a.seq s.last_seq) (has_number q) s.live f.0 i.within f.1)
  where
    at : (n : ℕ) → IsTrue (nat_eq n q) → IsTrue (nat_le n s.last_seq) → q ≤ s.last_seq
    at n e l = Prim.grind (arith, nat_tests, e, l)

below_other : (p last q : ℕ) → p ≤ last → last < q → nat_eq p q ≡ false
below_other p last q a b = Prim.grind (arith, nat_tests)

pub last-after : (s : ShowState) (e : Event) → IsTrue (acceptable s e) → s.last_seq ≤ (after s e).last_seq
last-after s (event.Device d port) g = omega arith
last-after s (event.NoDevice d) g = omega arith
last-after s (event.Cue c parts) g = omega arith
last-after s (event.NoCue c) g = omega arith
last-after s (event.Place c) g = omega arith
last-after s (event.Start p c t) g = let above = next_above s p c t g in omega arith
last-after s (event.Ready p d) g = omega arith
last-after s (event.Go p) g = omega arith
last-after s (event.Done p d) g = omega arith
last-after s (event.Cancel p r) g = omega arith
last-after s (event.LetGo p d) g = omega arith
last-after s (event.Failed p d) g = omega arith
last-after s (event.Excuse p d) g = omega arith

above_other : (s : ShowState) (q : ℕ) (e : Event) → IsSound s → IsTrue (acceptable s e) → (after s e).last_seq < q
    → is_about q e ≡ false
above_other s q (event.Device d port) i g l = refl
above_other s q (event.NoDevice d) i g l = refl
above_other s q (event.Cue c parts) i g l = refl
above_other s q (event.NoCue c) i g l = refl
above_other s q (event.Place c) i g l = refl
above_other s q (event.Start p c t) i g l = below_other p p q (omega arith) l
above_other s q (event.Ready p d) i g l = below_other p s.last_seq q (at_most_last s p (waits_in is_preparing d) i g) l
above_other s q (event.Go p) i g l = below_other p s.last_seq q (at_most_last s p can_go_now i g) l
above_other s q (event.Done p d) i g l = below_other p s.last_seq q (at_most_last s p (waits_in is_decided d) i g) l
above_other s q (event.Cancel p r) i g l = below_other p s.last_seq q (at_most_last s p (λ a. is_preparing a.stage) i g)
    l
above_other s q (event.LetGo p d) i g l = below_other p s.last_seq q (at_most_last s p (waits_in is_cancelling d) i g) l
above_other s q (event.Failed p d) i g l = below_other p s.last_seq q (at_most_last s p (waits_in is_concluding d) i g)
    l
above_other s q (event.Excuse p d) i g l =
    below_other p s.last_seq q (at_most_last s p (λ a. is_preparing a.stage && is_excusable d a.answers) i g) l

or_none : (b c : Bool) → b ≡ false → c ≡ false → (b || c) ≡ false
or_none false c e f = f
or_none true c e f = cc

pub kept-step : (h : List Event) (e : Event) → Kept h (state_of h) → IsSound (state_of h)
    → IsTrue (acceptable (state_of h) e) → Kept (e ∷ h) (state_of (e ∷ h))
kept-step h e k i g = record {
  settles = λ q. step_settles h q e k i g;
  unused = λ q l. let grew = last-after (state_of h) e g in
      or_none (is_about q e) (list_any (is_about q) h) (above_other (state_of h) q e i g l) (k.unused q (omega arith));
}

pub kept-none : Kept [] (state_of [])
kept-none = record { settles = λ q. refl; unused = λ q l. refl }
