-- Each event keeps the rules of a state.
use Rattle.std.proofs.Common.{◌≡◌, ℕ, ◌+◌, ◌≤◌, List, [], ◌∷◌, ◌++◌, refl, sym, ◌∙◌, ap, subst, Bool, true, false, not}
use Rattle.std.proofs.Common.{◌&&◌, nat_eq, nat_le, arith, Option, None, Some}
use Rattle.std.specs.Prelude.{IsTrue, is_some, map, option_and_then, unwrap_or}
use Rattle.std.specs.List.{list_all}
use Rattle.std.proofs.lemmas.Bool.Decides.{nat_tests}
use Rattle.std.proofs.lemmas.List.Folds.{find-append}
use Rattle.cue_show.specs.declared.part.Part.{Part}
use Rattle.cue_show.specs.Number.{same_text}
use Rattle.cue_show.specs.Show.{ShowLists, parts_of, has_cue, following, is_place_of, is_show, with_device}
use Rattle.cue_show.specs.Show.{without_device, with_cue, without_cue, with_place}
use Rattle.cue_show.proofs.ShowLemmas.{is_show-with_device, is_show-without_device, is_show-with_cue}
use Rattle.cue_show.proofs.ShowLemmas.{is_show-without_cue, is_show-with_place, is_place_of-following}
use Rattle.cue_exchange.specs.declared.attempt.Answer.{Answer}
use Rattle.cue_exchange.specs.declared.attempt.Answer.TheVariants as answer
use Rattle.cue_exchange.specs.declared.attempt.Stage.TheVariants.{Decided, Cancelling}
use Rattle.cue_exchange.specs.declared.attempt.Attempt.{Attempt}
use Rattle.cue_exchange.specs.declared.limits.TheConstants.{MAX_NUMBER}
use Rattle.cue_exchange.specs.Answers.{may_be_in, some_waits}
use Rattle.cue_exchange.specs.Answers.{is_decided}
use Rattle.cue_exchange.specs.Answers.{is_cancelling, is_concluding}
use Rattle.cue_exchange.specs.Live.{attempt_of, attempt_of_cue, has_number, are_live, is_attempt, is_number}
use Rattle.cue_exchange.specs.Live.{has_cue as is_of_cue}
use Rattle.cue_exchange.specs.Live.{is_time, have_sound_devices}
use Rattle.cue_exchange.specs.Steps.{holds, waits_in, with_change, answers_as, moves_to, new_attempt, after_start}
use Rattle.cue_exchange.specs.Steps.{after_answer}
use Rattle.cue_exchange.specs.Steps.{goes_on, without_ended, ended_in, can_start}
use Rattle.cue_exchange.proofs.StepLemmas.{are_live-ready, are_live-go, are_live-cancel, are_live-done, are_live-let_go}
use Rattle.cue_exchange.proofs.LiveLemmas.{attempts_of}
use Rattle.cue_exchange.proofs.StepLemmas.{are_live-failed, are_live-excused, are_live-started}
use Rattle.cue_exchange.proofs.LiveLemmas.{can_start_parts, is_sound-of_attempt}
use Rattle.cue_exchange.proofs.ListLemmas.{all_push, all_filter}
use Rattle.cue_core.specs.declared.event.Event.{Event}
use Rattle.cue_core.specs.declared.event.Event.TheVariants as event
use Rattle.cue_core.specs.State.{ShowState, cue_parts, is_at_cue, is_ended, are_tied}
use Rattle.cue_core.specs.State.{is_state}
use Rattle.cue_core.specs.Steps.{acceptable, after, can_begin, place_after, ended_as, after_last_answer}
use Rattle.cue_core.proofs.lists.ConditionLemmas.{both, join, all_zip, all_from, same_number}
use Rattle.cue_core.proofs.live.FindingLemmas.{rising, rising-changed, attempt_of-without_ended}
use Rattle.cue_core.proofs.live.FindingLemmas.{if_open, found-closed, found, found-changed, found_none_kept, found_has}
use Rattle.cue_core.proofs.live.FindingLemmas.{found_passes, passes_none}
use Rattle.cue_core.proofs.rules.AtCueLemmas.{is_at, at-with_cue, at-without_cue, are_of_parts-first_answers, KeepsCue}
use Rattle.cue_core.proofs.rules.AtCueLemmas.{cue-answers_as, cue-moves_to, at-changed, within-changed, ended-from}
use Rattle.cue_core.proofs.rules.AtCueLemmas.{ended-changed, rises_of}

pub record Rules (s : ShowState) : Type 0 where
  pub show : IsTrue (is_show s.show)
  pub live : IsTrue (are_live s.live)
  pub at : IsTrue (list_all (is_at_cue s.show) s.live)
  pub within : IsTrue (list_all (λ a. nat_le a.seq s.last_seq) s.live)
  pub last : IsTrue (nat_le s.last_seq MAX_NUMBER)
  pub ended : IsTrue (is_ended s.live s.last_seq s.ended)

pub rules_of : (s : ShowState) → IsTrue (is_state s) → Rules s
rules_of s h =
    let p = both (is_show s.show) (are_live s.live && are_tied s) h in
    let q = both (are_live s.live) (are_tied s) p.1 in
    let u = both (list_all (is_at_cue s.show) s.live)
    (list_all (λ a. nat_le a.seq s.last_seq) s.live &&
    (nat_le s.last_seq MAX_NUMBER && is_ended s.live s.last_seq s.ended)) q.1 in
    let w = both (list_all (λ a. nat_le a.seq s.last_seq) s.live)
    (nat_le s.last_seq MAX_NUMBER && is_ended s.live s.last_seq s.ended) u.1 in
    let x = both (nat_le s.last_seq MAX_NUMBER) (is_ended s.live s.last_seq s.ended) w.1 in
    record { show = p.0; live = q.0; at = u.0; within = w.0; last = x.0; ended = x.1 }

pub is_state-from : (s : ShowState) → Rules s → IsTrue (is_state s)
is_state-from s r =
    join (is_show s.show) (are_live s.live && are_tied s) r.show
    (join (are_live s.live) (are_tied s) r.live
    (join (list_all (is_at_cue s.show) s.live)
    (list_all (λ a. nat_le a.seq s.last_seq) s.live &&
    (nat_le s.last_seq MAX_NUMBER && is_ended s.live s.last_seq s.ended)) r.at
    (join (list_all (λ a. nat_le a.seq s.last_seq) s.live)
    (nat_le s.last_seq MAX_NUMBER && is_ended s.live s.last_seq s.ended) r.within
    (join (nat_le s.last_seq MAX_NUMBER) (is_ended s.live s.last_seq s.ended) r.last r.ended))))

-- ---- each event

rules-show : (s : ShowState) (show : ShowLists) → Rules s → IsTrue (is_show show)
    → ((a : Attempt) → IsTrue (is_at_cue s.show a) → IsTrue (is_at_cue show a))
    → Rules (record { show = show; live = s.live; last_seq = s.last_seq; ended = s.ended })
rules-show s show r h f =
    record {
      show = h;
      live = r.live;
      at = all_from (is_at_cue s.show) (is_at_cue show) s.live f r.at;
      within =
          r.within;
      last = r.last;
      ended = r.ended;
    }

-- no live attempt is at the cue
free_of : (s : ShowState) (c : List ℕ) → IsTrue (not (is_some (attempt_of_cue s.live c)))
    → IsTrue (list_all (λ a. not (same_text a.cue c)) s.live)
free_of s c h = passes_none (is_of_cue c) s.live (none (attempt_of_cue s.live c) h)
  where
    none : (o : Option Attempt) → IsTrue (not (is_some o)) → o ≡ None
    none None k = refl
    none (Some a) k = cc

rules-no_cue : (s : ShowState) (c : List ℕ) → Rules s → IsTrue (acceptable s (event.NoCue c))
    → Rules (after s (event.NoCue c))
rules-no_cue s c r g = record {
  show = is_show-without_cue s.show c r.show;
  live = r.live;
  at = all_zip (is_at_cue s.show) (λ a. not (same_text a.cue c)) (is_at_cue (without_cue s.show c)) s.live
      (λ a h k. at-without_cue s.show c a r.show k h) r.at
      (free_of s c (both (has_cue s.show c) (not (is_some (attempt_of_cue s.live c))) g).1);
  within = r.within;
  last = r.last;
  ended = r.ended;
}

-- a change of the attempts that keeps each at its cue
rules-changed : (s : ShowState) (q : ℕ) (f : Attempt → Attempt) → KeepsCue f → Rules s
    → IsTrue (are_live (map (with_change q f) s.live))
    → Rules (record { show = s.show; live = map (with_change q f) s.live; last_seq = s.last_seq; ended = s.ended })
rules-changed s q f k r h = record {
  show = r.show;
  live = h;
  at = at-changed s.show q f k s.live r.at;
  within = within-changed s.last_seq q f k s.live r.within;
  last = r.last;
  ended = ended-changed s q f k r.ended;
}

-- what follows the cue of an attempt is a place
pub is_place_of-after : (show : ShowLists) (live : List Attempt) (q : ℕ)
    → IsTrue (is_place_of show (place_after show live q))
is_place_of-after show live q = by (attempt_of live q)
  where
    by : (o : Option Attempt) → IsTrue (is_place_of show (option_and_then (λ a. following show a.cue) o))
    by None = refl
    by (Some a) = is_place_of-following show a.cue

rules-go : (s : ShowState) (q : ℕ) → Rules s → IsTrue (acceptable s (event.Go q)) → Rules (after s (event.Go q))
rules-go s q r g = record {
  show = is_show-with_place s.show (place_after s.show s.live q) r.show (is_place_of-after s.show s.live q);
  live = are_live-go q s.live r.live g;
  at = at-changed s.show q (moves_to Decided) (cue-moves_to Decided) s.live r.at;
  within = within-changed s.last_seq q (moves_to Decided) (cue-moves_to Decided) s.live r.within;
  last = r.last;
  ended = ended-changed s q (moves_to Decided) (cue-moves_to Decided) r.ended;
}

-- ---- a start

pub record Begins (s : ShowState) (q : ℕ) (c : List ℕ) (t : ℕ) : Type 0 where
  pub next : q ≡ s.last_seq + 1
  pub cue : IsTrue (has_cue s.show c)
  pub start : IsTrue (can_start q t (cue_parts s.show c) s.live)
  pub number : IsTrue (is_number q)

pub begins : (s : ShowState) (q : ℕ) (c : List ℕ) (t : ℕ) → IsTrue (can_begin s.show s.live s.last_seq q c t)
    → Begins s q c t
begins s q c t g =
    let p = both (nat_eq q (s.last_seq + 1)) (has_cue s.show c && can_start q t (cue_parts s.show c) s.live) g in
    let u = both (has_cue s.show c) (can_start q t (cue_parts s.show c) s.live) p.1 in
    record {
      next = same_number q (s.last_seq + 1) p.0;
      cue = u.0;
      start = u.1;
      number =
          (can_start_parts q t (cue_parts s.show c) s.live u.1).number;
    }

at-new : (show : ShowLists) (q : ℕ) (c : List ℕ) (t : ℕ) → IsTrue (has_cue show c)
    → IsTrue (is_at_cue show (new_attempt q c t (cue_parts show c)))
at-new show q c t h = by (parts_of show c) h
  where
    by : (o : Option (List Part)) → IsTrue (is_some o) → IsTrue (is_at (new_attempt q c t (unwrap_or o [])) o)
    by None k = cc
    by (Some p) k = are_of_parts-first_answers p

none-started : (q : ℕ) (a : Attempt) (live : List Attempt) → attempt_of live q ≡ None → nat_eq a.seq q ≡ false
    → attempt_of (live ++ a ∷ []) q ≡ None
none-started q a live n e = find-append (has_number q) live (a ∷ []) ∙ rw (n, e) refl

rules-start : (s : ShowState) (q : ℕ) (c : List ℕ) (t : ℕ) → Rules s → IsTrue (acceptable s (event.Start q c t))
    → Rules (after s (event.Start q c t))
rules-start s q c t r g =
    let b = begins s q c t g in
    record {
      show = r.show;
      live = are_live-started q c t (cue_parts s.show c) s.live r.live b.start;
      at = all_push (is_at_cue s.show) s.live (new_attempt q c t (cue_parts s.show c)) r.at (at-new s.show q c t b.cue);
      within = all_push (λ a. nat_le a.seq q) s.live (new_attempt q c t (cue_parts s.show c))
          (all_from (λ a. nat_le a.seq s.last_seq) (λ a. nat_le a.seq q) s.live (λ a k. later a.seq b.next k) r.within)
          (itself q);
      last = (both (nat_le 1 q) (nat_le q MAX_NUMBER) b.number).1;
      ended = ended-from s.live (after_start q c t (cue_parts s.show c) s.live) s.last_seq q
          (let n = b.next in omega arith)
          s.ended (λ p l n. none-started p (new_attempt q c t (cue_parts s.show c)) s.live n (other p b.next l))
          r.ended;
    }
  where
    later : (n : ℕ) → q ≡ s.last_seq + 1 → IsTrue (nat_le n s.last_seq) → IsTrue (nat_le n q)
    later n e k = Prim.grind (arith, nat_tests, k, e)

    itself : (n : ℕ) → IsTrue (nat_le n n)
    itself n = Prim.grind (arith, nat_tests)

    other : (p : ℕ) → q ≡ s.last_seq + 1 → p ≤ s.last_seq → nat_eq q p ≡ false
    other p e k = Prim.grind (arith, nat_tests, k, e)

-- ---- a last answer

-- after a last answer q is either live with a device that is to answer, or has ended
after_last_answer-ended : (s : ShowState) (q : ℕ) (live : List Attempt) (a : Attempt) → IsTrue (rising live)
    → attempt_of live q ≡ Some a → IsTrue (is_number q) → IsTrue (nat_le q s.last_seq)
    → IsTrue (is_ended live s.last_seq s.ended)
    → IsTrue (is_ended (without_ended q live) s.last_seq (ended_as q (ended_in q live) s.ended))
after_last_answer-ended s q live a rises e number most h = by (some_waits a.answers) refl
  where
    gone : some_waits a.answers ≡ false → attempt_of (without_ended q live) q ≡ None
    gone w = attempt_of-without_ended q live rises ∙ (ap (λ o. option_and_then if_open o) e ∙ rw w refl)

    by : (w : Bool) → some_waits a.answers ≡ w
        → IsTrue (is_ended (without_ended q live) s.last_seq (ended_as q (ended_in q live) s.ended))
    by true w = rw (found-closed q live rises, e, w)
        (ended-from live (without_ended q live) s.last_seq s.last_seq (omega arith) s.ended
        (λ p l n. found_none_kept (has_number p) (goes_on q) live n) h)
    by false w = rw (found-closed q live rises, e, w)
        (join (is_number q) (nat_le q s.last_seq && not (is_some (attempt_of (without_ended q live) q))) number
        (join (nat_le q s.last_seq) (not (is_some (attempt_of (without_ended q live) q))) most (rw (gone w) refl)))

rules-after_last_answer : (s : ShowState) (q d : ℕ) (given : Answer) (test : Attempt → Bool) → Rules s
    → IsTrue (holds q test s.live) → IsTrue (are_live (without_ended q (after_answer q d given s.live)))
    → Rules (after_last_answer s q (after_answer q d given s.live))
rules-after_last_answer s q d given test r g h =
    let f = found q test s.live (rises_of s.live r.live) g in
    let same = same_number f.0.seq q (found_passes (has_number q) s.live f.0 f.1) in
    record {
      show = r.show;
      live = h;
      at = all_filter (is_at_cue s.show) (goes_on q) (after_answer q d given s.live)
          (at-changed s.show q (answers_as d given) (cue-answers_as d given) s.live r.at);
      within = all_filter (λ a. nat_le a.seq s.last_seq) (goes_on q) (after_answer q d given s.live)
          (within-changed s.last_seq q (answers_as d given) (cue-answers_as d given) s.live r.within);
      last = r.last;
      ended = after_last_answer-ended s q (after_answer q d given s.live) (answers_as d given f.0)
          (rising-changed q (answers_as d given) (cue-answers_as d given).seq s.live (rises_of s.live r.live))
          (found-changed q (answers_as d given) (cue-answers_as d given).seq s.live f.0 f.1)
          (rw same at (number_of f.0 (found_has is_attempt (has_number q) s.live f.0 (attempts_of s.live r.live) f.1)))
          (rw same at (found_has (λ a. nat_le a.seq s.last_seq) (has_number q) s.live f.0 r.within f.1))
          (ended-changed s q (answers_as d given) (cue-answers_as d given) r.ended);
    }
  where
    number_of : (a : Attempt) → IsTrue (is_attempt a) → IsTrue (is_number a.seq)
    number_of a k = (both (is_number a.seq)
        (is_time a.deadline && (have_sound_devices a.answers && list_all (may_be_in a.stage) a.answers))
        (is_sound-of_attempt a k)).0

rules-after : (s : ShowState) (e : Event) → Rules s → IsTrue (acceptable s e) → Rules (after s e)
rules-after s (event.Device d port) r g =
    rules-show s (with_device s.show d port) r (is_show-with_device s.show d port r.show g) (λ a h. h)
rules-after s (event.NoDevice d) r g =
    rules-show s (without_device s.show d) r (is_show-without_device s.show d r.show g) (λ a h. h)
rules-after s (event.Cue c parts) r g =
    rules-show s (with_cue s.show c parts) r (is_show-with_cue s.show c parts r.show g)
    (λ a h. at-with_cue s.show c parts a h)
rules-after s (event.NoCue c) r g = rules-no_cue s c r g
rules-after s (event.Place c) r g =
    rules-show s (with_place s.show (Some c)) r (is_show-with_place s.show (Some c) r.show g) (λ a h. h)
rules-after s (event.Start q c t) r g = rules-start s q c t r g
rules-after s (event.Ready q d) r g = rules-changed s q (answers_as d answer.Ready) (cue-answers_as d answer.Ready) r
    (are_live-ready q d s.live r.live g)
rules-after s (event.Go q) r g = rules-go s q r g
rules-after s (event.Done q d) r g = rules-after_last_answer s q d answer.Done (waits_in is_decided d) r g
    (are_live-done q d s.live r.live g)
rules-after s (event.Cancel q reason) r g =
    rules-changed s q (moves_to (Cancelling reason)) (cue-moves_to (Cancelling reason)) r
    (are_live-cancel q reason s.live r.live g)
rules-after s (event.LetGo q d) r g = rules-after_last_answer s q d answer.LetGo (waits_in is_cancelling d) r g
    (are_live-let_go q d s.live r.live g)
rules-after s (event.Failed q d) r g = rules-after_last_answer s q d answer.Failed (waits_in is_concluding d) r g
    (are_live-failed q d s.live r.live g)
rules-after s (event.Excuse q d) r g = rules-changed s q (answers_as d answer.Excused) (cue-answers_as d answer.Excused)
    r (are_live-excused q d s.live r.live g)

pub is_state-after : (s : ShowState) (e : Event) → IsTrue (is_state s) → IsTrue (acceptable s e)
    → IsTrue (is_state (after s e))
is_state-after s e h g = is_state-from (after s e) (rules-after s e (rules_of s h) g)

-- the fields of a state after the event keep the rules
pub kept : (s old : ShowState) (e : Event) → s ≡ old → IsTrue (is_state s) → IsTrue (acceptable old e)
    → IsTrue (is_state (after s e))
kept s old e v i g = let P : ShowState → Type 0 = λ t. IsTrue (acceptable t e) in
    is_state-after s e i (subst P (sym v) g)

-- and so do fields that are those of the state after the event
pub kept_as : (s old new : ShowState) (e : Event) → new ≡ after s e → s ≡ old → IsTrue (is_state s)
    → IsTrue (acceptable old e) → IsTrue (is_state new)
kept_as s old new e n v i g = let P : ShowState → Type 0 = λ t. IsTrue (is_state t) in
    subst P (sym n) (kept s old e v i g)
