-- A live attempt is at the cue of its Start, and its cue has the parts that it had then.
use Rattle.std.proofs.Common.{◌≡◌, ℕ, ◌+◌, Bool, true, false, not, cond, ◌&&◌, List, [], ◌∷◌, ◌++◌}
use Rattle.std.proofs.Common.{map, filter, if◌then◌else◌, nat_eq, nat_le, Option, None, Some, is_some, unwrap_or}
use Rattle.std.proofs.Common.{refl, sym, ap, ◌∙◌, subst, true≢false, arith, IsTrue}
use Rattle.std.specs.List.{AllByRecursion, list_all, list_any}
use Rattle.std.proofs.lemmas.Bool.Decides.{nat_tests}
use Rattle.cue_show.specs.declared.part.Part.{Part}
use Rattle.cue_show.specs.Number.{same_text}
use Rattle.cue_show.specs.Show.{ShowLists, can_add_cue, has_cue, is_cue_of, is_full, is_show, parts_of, with_cue}
use Rattle.cue_show.specs.Show.{with_place, without_cue}
use Rattle.cue_show.proofs.ChangeLemmas.{parts_of-with_cue_other}
use Rattle.cue_show.proofs.ShowLemmas.{parts_of-without_cue}
use Rattle.cue_show.proofs.TestLemmas.{not_so}
use Rattle.cue_show.proofs.TextLemmas.{same_text-swapped, same_text-true}
use Rattle.cue_exchange.specs.declared.attempt.Answer.{Answer}
use Rattle.cue_exchange.specs.declared.attempt.Answer.TheVariants as answer
use Rattle.cue_exchange.specs.declared.attempt.Stage.TheVariants.{Decided, Cancelling}
use Rattle.cue_exchange.specs.declared.attempt.Attempt.{Attempt}
use Rattle.cue_exchange.specs.Live.{attempt_of_cue}
use Rattle.cue_exchange.specs.Live.{has_cue as is_of_cue}
use Rattle.cue_exchange.specs.Steps.{after_answer, answers_as, goes_on, moves_to, new_attempt, with_change}
use Rattle.cue_core.specs.declared.event.Event.{Event}
use Rattle.cue_core.specs.declared.event.Event.TheVariants as event
use Rattle.cue_core.specs.Events.{is_start_of}
use Rattle.cue_core.specs.History.{is_history, parts_by, state_of}
use Rattle.cue_core.specs.State.{ShowState, cue_parts}
use Rattle.cue_core.specs.Steps.{acceptable, place_after}
use Rattle.cue_core.proofs.lists.AnyLemmas.{itself}
use Rattle.cue_core.proofs.lists.ConditionLemmas.{both}
use Rattle.cue_core.proofs.live.FindingLemmas.{passes_none}
use Rattle.cue_core.proofs.rules.AtCueLemmas.{KeepsCue, cue-answers_as, cue-moves_to}
use Rattle.cue_core.proofs.rules.RuleLemmas.{begins, rules_of}
use Rattle.cue_core.proofs.rules.SoundLemmas.{is_state-history}
use Rattle.cue_outbox.proofs.ListLemmas.{each_append, each_filter, each_map, each_passes, each_weaker}
use Rattle.cue_stage.specs.Tasks.{cue_by}

-- the attempt has started, at this cue, and the cue has the parts that it had then
abbrev pub IsBegun : List Event → ShowLists → Attempt → Type 0
IsBegun h show a = (list_any (is_start_of a.seq) h ≡ true) × (a.cue ≡ cue_by h a.seq)
    × (parts_of show a.cue ≡ Some (parts_by h a.seq))

abbrev pub AreBegun : List Event → ShowLists → List Attempt → Type 0
AreBegun h show live = AllByRecursion (IsBegun h show) live

-- ---- changes of the show

-- a cue that comes is another one
parts_with_cue : (show : ShowLists) (c : List ℕ) (parts : List Part) (x : List ℕ) (ps : List Part)
    → IsTrue (can_add_cue show c parts) → parts_of show x ≡ Some ps → parts_of (with_cue show c parts) x ≡ Some ps
parts_with_cue show c parts x ps can is = by (same_text x c) refl
  where
    absent : has_cue show c ≡ false
    absent = not_so (has_cue show c)
        (both (not (has_cue show c)) (not (is_full show) && is_cue_of show (c, parts)) can).0

    by : (b : Bool) → same_text x c ≡ b → parts_of (with_cue show c parts) x ≡ Some ps
    by true same =
        let there : parts_of show c ≡ Some ps = subst (λ (y : List ℕ). parts_of show y ≡ Some ps)
        (same_text-true x c same) is in
        absurd (true≢false (sym (ap is_some there) ∙ absent))
    by false other = parts_of-with_cue_other show c parts x other ∙ is

-- a cue that goes is that of no live attempt
parts_without_cue : (show : ShowLists) (c x : List ℕ) (ps : List Part) → IsTrue (is_show show)
    → IsTrue (not (same_text x c)) → parts_of show x ≡ Some ps → parts_of (without_cue show c) x ≡ Some ps
parts_without_cue show c x ps rules other is =
    let none : same_text c x ≡ false = same_text-swapped c x ∙ not_so (same_text x c) other in
    parts_of-without_cue show c x rules ∙ (ap (λ (b : Bool). cond b None (parts_of show x)) none ∙ is)

none_there : (o : Option Attempt) → IsTrue (not (is_some o)) → o ≡ None
none_there None k = refl
none_there (Some a) k = absurd (true≢false (sym k))

-- two facts of each give a third
pub each_both : {A : Type 0} (P Q R : A → Type 0) → ((x : A) → P x → Q x → R x) → (xs : List A) → AllByRecursion P xs
    → AllByRecursion Q xs → AllByRecursion R xs
each_both P Q R f [] h k = tt
each_both P Q R f (x ∷ xs) h k = (f x h.0 k.0, each_both P Q R f xs h.1 k.1)

begun_without_cue : (h : List Event) (s : ShowState) (c : List ℕ) → IsTrue (is_show s.show)
    → IsTrue (acceptable s (event.NoCue c)) → AreBegun h s.show s.live → AreBegun h (without_cue s.show c) s.live
begun_without_cue h s c rules ok begun =
    let free : IsTrue (list_all (λ a. not (is_of_cue c a)) s.live) =
    passes_none (is_of_cue c) s.live (none_there (attempt_of_cue s.live c)
    (both (has_cue s.show c) (not (is_some (attempt_of_cue s.live c))) ok).1) in
    each_both (IsBegun h s.show) (λ a. IsTrue (not (is_of_cue c a))) (IsBegun h (without_cue s.show c))
    (λ a b other. (b.0, b.1, parts_without_cue s.show c a.cue (parts_by h a.seq) rules other b.2)) s.live begun
    (each_passes (λ a. not (is_of_cue c a)) s.live free)

-- ---- changes of attempts

begun_changed : (h : List Event) (show : ShowLists) (q : ℕ) (f : Attempt → Attempt) → KeepsCue f
    → (live : List Attempt) → AreBegun h show live → AreBegun h show (map (with_change q f) live)
begun_changed h show q f k live begun = each_map (IsBegun h show) (with_change q f) live
    (each_weaker (IsBegun h show) (λ a. IsBegun h show (with_change q f a)) (λ a b. by a (nat_eq a.seq q) b) live begun)
  where
    by : (a : Attempt) (c : Bool) → IsBegun h show a → IsBegun h show (if c then f a else a)
    by a true b = (
      ap (λ (n : ℕ). list_any (is_start_of n) h) (k.seq a) ∙ b.0,
      k.cue a ∙ b.1 ∙ ap (cue_by h) (sym (k.seq a)),
      ap (parts_of show) (k.cue a) ∙ b.2 ∙ ap (λ (n : ℕ). Some (parts_by h n)) (sym (k.seq a)),
    )
    by a false b = b

begun_ended : (h : List Event) (show : ShowLists) (q d : ℕ) (given : Answer) (live : List Attempt)
    → AreBegun h show live
    → AreBegun h show (filter (goes_on q) (after_answer q d given live))
begun_ended h show q d given live begun = each_filter (IsBegun h show) (goes_on q) (after_answer q d given live)
    (begun_changed h show q (answers_as d given) (cue-answers_as d given) live begun)

-- ---- a start

-- another attempt stays as it is
begun_still : (h : List Event) (show : ShowLists) (q : ℕ) (c : List ℕ) (t : ℕ) (a : Attempt) → nat_eq q a.seq ≡ false
    → IsBegun h show a → IsBegun (event.Start q c t ∷ h) show a
begun_still h show q c t a other b = rw other b

parts_there : (o : Option (List Part)) → IsTrue (is_some o) → o ≡ Some (unwrap_or o [])
parts_there None k = absurd (true≢false (sym k))
parts_there (Some ps) k = refl

-- and the new one is begun
begun_new : (h : List Event) (q : ℕ) (c : List ℕ) (t : ℕ) → IsTrue (has_cue (state_of h).show c)
    → IsBegun (event.Start q c t ∷ h) (state_of h).show (new_attempt q c t (cue_parts (state_of h).show c))
begun_new h q c t there = rw (itself q) (refl, refl, parts_there (parts_of (state_of h).show c) there)

older : (n last q : ℕ) → q ≡ last + 1 → IsTrue (nat_le n last) → nat_eq q n ≡ false
older n last q e le = grind (arith, nat_tests)

begun_start : (h : List Event) (q : ℕ) (c : List ℕ) (t : ℕ) → IsTrue (is_history h)
    → IsTrue (acceptable (state_of h) (event.Start q c t)) → AreBegun h (state_of h).show (state_of h).live
    → AreBegun (event.Start q c t ∷ h) (state_of h).show
    ((state_of h).live ++ new_attempt q c t (cue_parts (state_of h).show c) ∷ [])
begun_start h q c t p ok begun =
    let s : ShowState = state_of h in
    let b = begins s q c t ok in
    each_append (IsBegun (event.Start q c t ∷ h) s.show) s.live (new_attempt q c t (cue_parts s.show c) ∷ [])
    (each_both (IsBegun h s.show) (λ a. IsTrue (nat_le a.seq s.last_seq)) (IsBegun (event.Start q c t ∷ h) s.show)
    (λ a one le. begun_still h s.show q c t a (older a.seq s.last_seq q b.next le) one) s.live begun
    (each_passes (λ a. nat_le a.seq s.last_seq) s.live (rules_of s (is_state-history h p)).within))
    (begun_new h q c t b.cue, tt)

-- ---- all events

begun_after : (h : List Event) (e : Event) → IsTrue (is_history h) → IsTrue (acceptable (state_of h) e)
    → AreBegun h (state_of h).show (state_of h).live
    → AreBegun (e ∷ h) (state_of (e ∷ h)).show (state_of (e ∷ h)).live
begun_after h (event.Device d port) p ok begun = begun
begun_after h (event.NoDevice d) p ok begun = begun
begun_after h (event.Cue c parts) p ok begun =
    each_weaker (IsBegun h (state_of h).show) (IsBegun h (with_cue (state_of h).show c parts))
    (λ a b. (b.0, b.1, parts_with_cue (state_of h).show c parts a.cue (parts_by h a.seq) ok b.2)) (state_of h).live
    begun
begun_after h (event.NoCue c) p ok begun =
    begun_without_cue h (state_of h) c (rules_of (state_of h) (is_state-history h p)).show ok begun
begun_after h (event.Place c) p ok begun = begun
begun_after h (event.Start q c t) p ok begun = begun_start h q c t p ok begun
begun_after h (event.Ready q d) p ok begun =
    begun_changed h (state_of h).show q (answers_as d answer.Ready) (cue-answers_as d answer.Ready) (state_of h).live
    begun
begun_after h (event.Go q) p ok begun =
    begun_changed h (with_place (state_of h).show (place_after (state_of h).show (state_of h).live q)) q
    (moves_to Decided) (cue-moves_to Decided) (state_of h).live begun
begun_after h (event.Done q d) p ok begun =
    begun_ended h (state_of h).show q d answer.Done (state_of h).live begun
begun_after h (event.Cancel q r) p ok begun =
    begun_changed h (state_of h).show q (moves_to (Cancelling r)) (cue-moves_to (Cancelling r)) (state_of h).live begun
begun_after h (event.LetGo q d) p ok begun =
    begun_ended h (state_of h).show q d answer.LetGo (state_of h).live begun
begun_after h (event.Failed q d) p ok begun =
    begun_ended h (state_of h).show q d answer.Failed (state_of h).live begun
begun_after h (event.Excuse q d) p ok begun =
    begun_changed h (state_of h).show q (answers_as d answer.Excused) (cue-answers_as d answer.Excused)
    (state_of h).live begun

pub begun-history : (h : List Event) → IsTrue (is_history h) → AreBegun h (state_of h).show (state_of h).live
begun-history [] p = tt
begun-history (e ∷ h) p = let w = both (acceptable (state_of h) e) (is_history h) p in
    begun_after h e w.1 w.0 (begun-history h w.1)
