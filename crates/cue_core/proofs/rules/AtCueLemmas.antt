-- What keeps each live attempt at its cue.
use Rattle.std.proofs.Common.{◌≡◌, ℕ, ◌≤◌, List, [], ◌∷◌, ◌++◌, refl, sym, ◌∙◌, ap, Bool, true, false, not}
use Rattle.std.proofs.Common.{cond, ◌&&◌, nat_eq, nat_le, nat_lt, arith, Option, None, Some}
use Rattle.std.specs.Prelude.{IsTrue, is_some, map, if◌then◌else◌}
use Rattle.std.specs.List.{list_all}
use Rattle.std.specs.Map.{lookup}
use Rattle.std.specs.Option.{option_map, option_map_or}
use Rattle.std.specs.Cmp.{nat_eq_equiv, bool_eq_equiv}
use Rattle.std.proofs.lemmas.Bool.Decides.{nat_tests}
use Rattle.cue_show.specs.declared.part.Part.{Part}
use Rattle.cue_show.specs.Number.{same_text}
use Rattle.cue_show.specs.Show.{ShowLists, parts_of, is_show}
use Rattle.cue_show.specs.Show.{with_cue, without_cue}
use Rattle.cue_show.proofs.ShowLemmas.{parts_of-without_cue}
use Rattle.cue_show.proofs.TextLemmas.{same_text-swapped}
use Rattle.cue_exchange.specs.declared.attempt.Answer.{Answer}
use Rattle.cue_exchange.specs.declared.attempt.Stage.{Stage}
use Rattle.cue_exchange.specs.declared.attempt.Attempt.{Attempt}
use Rattle.cue_exchange.specs.declared.attempt.DeviceAnswer.{DeviceAnswer}
use Rattle.cue_exchange.specs.Answers.{devices_of, first_answers, answers_on_entry, with_answer}
use Rattle.cue_exchange.specs.Live.{disjoint, attempt_of, are_live, is_number}
use Rattle.cue_exchange.specs.Live.{goes_before}
use Rattle.cue_exchange.specs.Steps.{with_change, answers_as, moves_to}
use Rattle.cue_exchange.proofs.LiveLemmas.{order_of}
use Rattle.cue_core.specs.declared.event.Ended.{Ended}
use Rattle.cue_core.specs.State.{ShowState, is_of_part, are_of_parts, is_at_cue, is_ended}
use Rattle.cue_core.proofs.lists.ConditionLemmas.{both, join, all_from, all_mapped, pairwise_from}
use Rattle.cue_core.proofs.live.FindingLemmas.{rising, attempt_of-changed}

-- ---- the cue of each attempt

at_from : (show new : ShowLists) (a : Attempt) → parts_of new a.cue ≡ parts_of show a.cue → IsTrue (is_at_cue show a)
    → IsTrue (is_at_cue new a)
at_from show new a e h = rw e h

looked_up-push : (c : List ℕ) (x : List ℕ × List Part) (es : List (List ℕ × List Part)) (p : List Part)
    → lookup (same_text c) es ≡ Some p → lookup (same_text c) (es ++ x ∷ []) ≡ Some p
looked_up-push c x [] p h = cc
looked_up-push c x (e ∷ es) p h = at (same_text c e.0) h (looked_up-push c x es p)
  where
    at : (b : Bool) → cond b (Some e.1) (lookup (same_text c) es) ≡ Some p
        → (lookup (same_text c) es ≡ Some p → lookup (same_text c) (es ++ x ∷ []) ≡ Some p)
        → cond b (Some e.1) (lookup (same_text c) (es ++ x ∷ [])) ≡ Some p
    at true h f = h
    at false h f = f h

abbrev pub is_at : Attempt → Option (List Part) → Bool
is_at a o = option_map_or (λ parts. are_of_parts parts a.answers) o false

parts_at : (a : Attempt) (o : Option (List Part)) → IsTrue (is_at a o) → (p : List Part) × (o ≡ Some p)
parts_at a None h = cc
parts_at a (Some p) h = (p, refl)

pub at-with_cue : (show : ShowLists) (c : List ℕ) (parts : List Part) (a : Attempt) → IsTrue (is_at_cue show a)
    → IsTrue (is_at_cue (with_cue show c parts) a)
at-with_cue show c parts a h =
    let p = parts_at a (parts_of show a.cue) h in
    at_from show (with_cue show c parts) a (looked_up-push a.cue (c, parts) show.cues p.0 p.1 ∙ sym p.1) h

pub at-without_cue : (show : ShowLists) (c : List ℕ) (a : Attempt) → IsTrue (is_show show)
    → IsTrue (not (same_text a.cue c)) → IsTrue (is_at_cue show a) → IsTrue (is_at_cue (without_cue show c) a)
at-without_cue show c a rules other h = at_from show (without_cue show c) a (parts_of-without_cue show c a.cue rules
    ∙ by (same_text c a.cue) (by_other (same_text a.cue c) (same_text c a.cue) (same_text-swapped a.cue c) other)) h
  where
    by_other : (b d : Bool) → b ≡ d → IsTrue (not b) → d ≡ false
    by_other true d e n = cc
    by_other false d e n = sym e

    by : (b : Bool) → b ≡ false → cond b None (parts_of show a.cue) ≡ parts_of show a.cue
    by true e = cc
    by false e = refl

-- the devices of the answers are those of the parts, whatever they have answered
pub are_of_parts-with_answer : (parts : List Part) (d : ℕ) (given : Answer) (xs : List DeviceAnswer)
    → are_of_parts parts (with_answer d given xs) ≡ are_of_parts parts xs
are_of_parts-with_answer [] d given [] = refl
are_of_parts-with_answer [] d given (x ∷ xs) = refl
are_of_parts-with_answer (p ∷ ps) d given [] = refl
are_of_parts-with_answer (p ∷ ps) d given (x ∷ xs) =
    ap (λ b. is_of_part p x && b) (are_of_parts-with_answer ps d given xs)

pub are_of_parts-entered : (parts : List Part) (stage : Stage) (xs : List DeviceAnswer)
    → are_of_parts parts (answers_on_entry stage xs) ≡ are_of_parts parts xs
are_of_parts-entered [] stage [] = refl
are_of_parts-entered [] stage (x ∷ xs) = refl
are_of_parts-entered (p ∷ ps) stage [] = refl
are_of_parts-entered (p ∷ ps) stage (x ∷ xs) = ap (λ b. is_of_part p x && b) (are_of_parts-entered ps stage xs)

pub are_of_parts-first_answers : (parts : List Part) → IsTrue (are_of_parts parts (first_answers parts))
are_of_parts-first_answers [] = refl
are_of_parts-first_answers (p ∷ ps) = rw (nat_eq_equiv.refl p.device, bool_eq_equiv.refl p.optional)
    (are_of_parts-first_answers ps)

-- a change that keeps cue and devices keeps each attempt at its cue
pub record KeepsCue (f : Attempt → Attempt) : Type 0 where
  pub cue : (a : Attempt) → (f a).cue ≡ a.cue
  pub seq : (a : Attempt) → (f a).seq ≡ a.seq
  pub devices : (parts : List Part) (a : Attempt) → are_of_parts parts (f a).answers ≡ are_of_parts parts a.answers

pub cue-answers_as : (d : ℕ) (given : Answer) → KeepsCue (answers_as d given)
cue-answers_as d given =
    record { cue = λ a. refl; seq = λ a. refl; devices = λ parts a. are_of_parts-with_answer parts d given a.answers }

pub cue-moves_to : (stage : Stage) → KeepsCue (moves_to stage)
cue-moves_to stage = record {
  cue = λ a. refl;
  seq = λ a. refl;
  devices = λ parts a. are_of_parts-entered parts stage
      a.answers;
}

pub at-changed : (show : ShowLists) (q : ℕ) (f : Attempt → Attempt) → KeepsCue f → (live : List Attempt)
    → IsTrue (list_all (is_at_cue show) live) → IsTrue (list_all (is_at_cue show) (map (with_change q f) live))
at-changed show q f k live h =
    rw (all_mapped (is_at_cue show) (with_change q f) live)
    (all_from (is_at_cue show) (λ a. is_at_cue show (with_change q f a)) live (λ a l. by a (nat_eq a.seq q) l) h)
  where
    passes : (a : Attempt) (o : Option (List Part)) → IsTrue (is_at a o) → IsTrue (is_at (f a) o)
    passes a None l = l
    passes a (Some parts) l = rw (k.devices parts a) l

    by : (a : Attempt) (b : Bool) → IsTrue (is_at_cue show a) → IsTrue (is_at_cue show (if b then f a else a))
    by a true l = rw (k.cue a) (passes a (parts_of show a.cue) l)
    by a false l = l

pub within-changed : (last q : ℕ) (f : Attempt → Attempt) → KeepsCue f → (live : List Attempt)
    → IsTrue (list_all (λ a. nat_le a.seq last) live)
    → IsTrue (list_all (λ a. nat_le a.seq last) (map (with_change q f) live))
within-changed last q f k live h = rw (all_mapped (λ a. nat_le a.seq last) (with_change q f) live)
    (all_from (λ a. nat_le a.seq last) (λ a. nat_le (with_change q f a).seq last) live (λ a l. by a (nat_eq a.seq q) l)
    h)
  where
    by : (a : Attempt) (b : Bool) → IsTrue (nat_le a.seq last) → IsTrue (nat_le (if b then f a else a).seq last)
    by a true l = rw (k.seq a) l
    by a false l = l

-- ---- the attempt that ended last

-- it stays one where no attempt of its number becomes live, and the last number does not fall
pub ended-from : (live new : List Attempt) (last next : ℕ) → last ≤ next → (o : Option Ended)
    → ((q : ℕ) → q ≤ last → attempt_of live q ≡ None → attempt_of new q ≡ None) → IsTrue (is_ended live last o)
    → IsTrue (is_ended new next o)
ended-from live new last next grew None stays h = refl
ended-from live new last next grew (Some e) stays h =
    let p = both (is_number e.seq) (nat_le e.seq last && not (is_some (attempt_of live e.seq))) h in
    let q = both (nat_le e.seq last) (not (is_some (attempt_of live e.seq))) p.1 in
    join (is_number e.seq) (nat_le e.seq next && not (is_some (attempt_of new e.seq))) p.0
    (join (nat_le e.seq next) (not (is_some (attempt_of new e.seq))) (later e.seq q.0)
    (rw (stays e.seq (below e.seq q.0) (none (attempt_of live e.seq) q.1)) refl))
  where
    later : (n : ℕ) → IsTrue (nat_le n last) → IsTrue (nat_le n next)
    later n k = Prim.grind (arith, nat_tests, k, grew)

    below : (n : ℕ) → IsTrue (nat_le n last) → n ≤ last
    below n k = Prim.grind (arith, nat_tests, k)

    none : (o : Option Attempt) → IsTrue (not (is_some o)) → o ≡ None
    none None k = refl
    none (Some a) k = cc

none-changed : (p q : ℕ) (f : Attempt → Attempt) → KeepsCue f → (live : List Attempt) → attempt_of live q ≡ None
    → attempt_of (map (with_change p f) live) q ≡ None
none-changed p q f k live n = attempt_of-changed p q f k.seq live ∙ ap (λ o. option_map (with_change p f) o) n

pub ended-changed : (s : ShowState) (p : ℕ) (f : Attempt → Attempt) → KeepsCue f
    → IsTrue (is_ended s.live s.last_seq s.ended) → IsTrue (is_ended (map (with_change p f) s.live) s.last_seq s.ended)
ended-changed s p f k h = ended-from s.live (map (with_change p f) s.live) s.last_seq s.last_seq (omega arith) s.ended
    (λ q l n. none-changed p q f k s.live n) h

pub rises_of : (live : List Attempt) → IsTrue (are_live live) → IsTrue (rising live)
rises_of live h = pairwise_from goes_before (λ a b. nat_lt a.seq b.seq) live
    (λ a b k. (both (nat_lt a.seq b.seq) (disjoint (devices_of a.answers) (devices_of b.answers)) k).0)
    (order_of live h)
