-- A GO for a cue is made, where its attempt is prepared and waits for nobody.
use Rattle.std.proofs.Common.{◌≡◌, ℕ, Bool, true, false, not, ◌&&◌, ◌||◌, List, [], ◌∷◌, filter, cond, nat_eq, nat_lt}
use Rattle.std.proofs.Common.{refl, sym, ap, ◌∙◌, subst, arith, true≢false, Option, None, Some, IsTrue}
use Rattle.std.specs.Prelude.{if◌then◌else◌, is_some}
use Rattle.std.specs.List.{list_all}
use Rattle.std.specs.Option.{option_map_or}
use Rattle.std.proofs.lemmas.Bool.Decides.{nat_tests}
use Rattle.cue_show.specs.declared.part.Part.{Part}
use Rattle.cue_show.specs.Devices.{disjoint, distinct, is_among}
use Rattle.cue_show.specs.Number.{same_text}
use Rattle.cue_show.specs.Show.{ShowLists, parts_of}
use Rattle.cue_show.proofs.TextLemmas.{same_text-itself, same_text-true}
use Rattle.cue_exchange.specs.declared.attempt.Answer.{Answer}
use Rattle.cue_exchange.specs.declared.attempt.Answer.TheVariants as answer
use Rattle.cue_exchange.specs.declared.attempt.Attempt.{Attempt}
use Rattle.cue_exchange.specs.declared.attempt.DeviceAnswer.{DeviceAnswer}
use Rattle.cue_exchange.specs.declared.attempt.Stage.{Stage}
use Rattle.cue_exchange.specs.declared.attempt.Stage.TheVariants.{Preparing}
use Rattle.cue_exchange.specs.Answers.{all_may_go, devices_of, has_required, is_excused, is_known_in, is_ready}
use Rattle.cue_exchange.specs.Answers.{is_required, is_waiting, may_be_in, may_go, some_waits, waits}
use Rattle.cue_exchange.specs.Live.{attempt_of, attempt_of_cue, goes_before, has_number, is_attempt, pairwise}
use Rattle.cue_exchange.proofs.LiveLemmas.{attempts_of, is_sound-of_attempt, order_of, sound_of}
use Rattle.cue_core.specs.declared.command.Code.TheVariants as code
use Rattle.cue_core.specs.declared.command.Command.TheVariants as command
use Rattle.cue_core.specs.declared.event.Event.TheVariants as event
use Rattle.cue_core.specs.Judge.{judgement_of, made_by, on_go_of, refused_with}
use Rattle.cue_core.specs.State.{ShowState, are_of_parts, is_at_cue, is_state}
use Rattle.cue_core.proofs.history.TellsLemmas.{devices-parts}
use Rattle.cue_core.proofs.lists.ConditionLemmas.{all_zip, both, none_passes, same_number}
use Rattle.cue_core.proofs.live.FindingLemmas.{found_has, found_passes}
use Rattle.cue_core.proofs.rules.RuleLemmas.{rules_of}
use Rattle.cue_stage.specs.Waiting.{IsPreparing, awaited}
use Rattle.cue_stage.proofs.AnsweredLemmas.{none_some, sound_found}

-- ---- who may go

empty : (ds : List ℕ) → ((d : ℕ) → IsTrue (is_among d ds) → ⊥) → ds ≡ []
empty [] f = refl
empty (d ∷ ds) f = absurd (f d (first (nat_eq d d) (itself d)))
  where
    itself : (n : ℕ) → IsTrue (nat_eq n n)
    itself n = grind (arith, nat_tests)

    first : (b : Bool) → IsTrue b → IsTrue (b || is_among d ds)
    first true k = refl
    first false k = absurd (true≢false (sym k))

-- where nobody is awaited, no device of the attempt waits
pub nobody_waits : (s : ShowState) (q : ℕ) (a : Attempt) → attempt_of s.live q ≡ Some a
    → ((d : ℕ) → IsTrue (is_among d (awaited s q)) → ⊥) → some_waits a.answers ≡ false
nobody_waits s q a e none =
    none_some a.answers (empty (devices_of (filter waits a.answers))
    (λ d k. none d (subst (λ (o : Option Attempt). IsTrue
    (is_among d (option_map_or (λ b. devices_of (filter waits b.answers)) o []))) (sym e) k)))

goes_now : (x : Answer) → IsTrue (is_known_in Preparing x) → IsTrue (not (is_waiting x))
    → IsTrue (is_ready x || is_excused x)
goes_now answer.Waiting k w = w
goes_now answer.Ready k w = refl
goes_now answer.Done k w = k
goes_now answer.LetGo k w = k
goes_now answer.Failed k w = k
goes_now answer.Excused k w = refl

all_go : (xs : List DeviceAnswer) → IsTrue (list_all (may_be_in Preparing) xs) → some_waits xs ≡ false
    → IsTrue (all_may_go xs)
all_go xs known none =
    all_zip (may_be_in Preparing) (λ x. not (waits x)) may_go xs
    (λ x k w. goes_now x.answer (both (is_known_in Preparing x.answer) (not (is_required x && is_excused x.answer)) k).0 w)
    known (none_passes waits xs none)

-- ---- the attempt at its cue

-- two attempts at one cue have the same devices
same_devices : (show : ShowLists) (a b : Attempt) → IsTrue (is_at_cue show a) → IsTrue (is_at_cue show b)
    → a.cue ≡ b.cue → devices_of a.answers ≡ devices_of b.answers
same_devices show a b h k e = by (parts_of show a.cue) refl h
  where
    by : (o : Option (List Part)) → parts_of show a.cue ≡ o
        → IsTrue (option_map_or (λ parts. are_of_parts parts a.answers) o false)
        → devices_of a.answers ≡ devices_of b.answers
    by None is m = absurd (true≢false (sym m))
    by (Some parts) is m =
        let other : IsTrue (are_of_parts parts b.answers) =
        subst (λ (o : Option (List Part)). IsTrue (option_map_or (λ ps. are_of_parts ps b.answers) o false))
        (ap (parts_of show) (sym e) ∙ is) k in
        devices-parts parts a.answers m ∙ sym (devices-parts parts b.answers other)

never_apart : {A : Type 0} (xs : List DeviceAnswer) → IsTrue (has_required xs)
    → IsTrue (disjoint (devices_of xs) (devices_of xs)) → A
never_apart [] h k = absurd (true≢false (sym h))
never_apart (x ∷ xs) h k =
    absurd (clash (nat_eq x.device x.device) (itself x.device)
    (both (not (is_among x.device (devices_of (x ∷ xs)))) _ k).0)
  where
    itself : (n : ℕ) → IsTrue (nat_eq n n)
    itself n = grind (arith, nat_tests)

    clash : (b : Bool) → IsTrue b → IsTrue (not (b || is_among x.device (devices_of xs))) → ⊥
    clash true m n = true≢false (sym n)
    clash false m n = true≢false (sym m)

-- the attempt with a number is the first at its cue
first_at_cue : (show : ShowLists) (q : ℕ) (a : Attempt) (live : List Attempt) → IsTrue (list_all (is_at_cue show) live)
    → IsTrue (list_all is_attempt live) → IsTrue (pairwise goes_before live) → attempt_of live q ≡ Some a
    → attempt_of_cue live a.cue ≡ Some a
first_at_cue show q a [] h k o e = absurd cc
first_at_cue show q a (b ∷ live) h k o e =
    let at = both (is_at_cue show b) (list_all (is_at_cue show) live) h in
    let good = both (is_attempt b) (list_all is_attempt live) k in
    let order = both (list_all (goes_before b) live) (pairwise goes_before live) o in
    by (nat_eq b.seq q) e (λ m. (
      first_at_cue show q a live at.1 good.1 order.1 m,
      other at.0 good.0 (found_has (is_at_cue show) (has_number q) live a at.1 m)
          (both (nat_lt b.seq a.seq) _ (found_has (goes_before b) (has_number q) live a order.0 m)).1,
    ))
  where
    other : IsTrue (is_at_cue show b) → IsTrue (is_attempt b) → IsTrue (is_at_cue show a)
        → IsTrue (disjoint (devices_of b.answers) (devices_of a.answers)) → same_text b.cue a.cue ≡ false
    other at good mine apart = not_so (same_text b.cue a.cue) refl
      where
        not_so : (c : Bool) → same_text b.cue a.cue ≡ c → c ≡ false
        not_so false is = refl
        not_so true is =
            let same : devices_of b.answers ≡ devices_of a.answers =
            same_devices show b a at mine (same_text-true b.cue a.cue is) in
            never_apart b.answers
            (both (has_required b.answers) (distinct (devices_of b.answers))
            (sound_of b (is_sound-of_attempt b good)).devices).0
            (subst (λ (ds : List ℕ). IsTrue (disjoint (devices_of b.answers) ds)) (sym same) apart)

    by : (c : Bool) → cond c (Some b) (attempt_of live q) ≡ Some a
        → (attempt_of live q ≡ Some a
        → (attempt_of_cue live a.cue ≡ Some a) × (same_text b.cue a.cue ≡ false))
        → cond (same_text b.cue a.cue) (Some b) (attempt_of_cue live a.cue) ≡ Some a
    by true m f =
        let same : b ≡ a = cc in
        let mine : same_text b.cue a.cue ≡ true =
        subst (λ (x : Attempt). same_text x.cue a.cue ≡ true) (sym same) (same_text-itself a.cue) in
        rw mine m
    by false m f = let r = f m in rw r.1 r.0

-- ---- the GO

made_now : (a : Attempt) (q : ℕ) → a.stage ≡ Preparing → a.seq ≡ q → IsTrue (all_may_go a.answers)
    → on_go_of a ≡ made_by (event.Go q ∷ [])
made_now a q is own go = rw (is, go) (ap (λ (n : ℕ). made_by (event.Go n ∷ [])) own)

pub go_is_made : (s : ShowState) (q now port : ℕ) → IsTrue (is_state s) → (p : IsPreparing q s)
    → ((d : ℕ) → IsTrue (is_among d (awaited s q)) → ⊥)
    → judgement_of s now port (command.Go p.attempt.cue) ≡ made_by (event.Go q ∷ [])
go_is_made s q now port h p none =
    let a : Attempt = p.attempt in
    let rules = rules_of s h in
    let at : IsTrue (is_at_cue s.show a) = found_has (is_at_cue s.show) (has_number q) s.live a rules.at p.found in
    let known : IsTrue (list_all (may_be_in Preparing) a.answers) =
    subst (λ (t : Stage). IsTrue (list_all (may_be_in t) a.answers)) p.stage (sound_found s q a h p.found).stand in
    let go : IsTrue (all_may_go a.answers) = all_go a.answers known (nobody_waits s q a p.found none) in
    let first : attempt_of_cue s.live a.cue ≡ Some a =
    first_at_cue s.show q a s.live rules.at (attempts_of s.live rules.live) (order_of s.live rules.live) p.found in
    let own : a.seq ≡ q = same_number a.seq q (found_passes (has_number q) s.live a p.found) in
    there a.cue (parts_of s.show a.cue) at
    ∙ ap (λ (o : Option Attempt). option_map_or on_go_of o (refused_with code.NotLive)) first
    ∙ made_now a q p.stage own go
  where
    there : (c : List ℕ) (o : Option (List Part))
        → IsTrue (option_map_or (λ parts. are_of_parts parts p.attempt.answers) o false)
        → (if not (is_some o) then refused_with code.NoMethod
        else option_map_or on_go_of (attempt_of_cue s.live c) (refused_with code.NotLive))
        ≡ option_map_or on_go_of (attempt_of_cue s.live c) (refused_with code.NotLive)
    there c None k = absurd (true≢false (sym k))
    there c (Some parts) k = refl
