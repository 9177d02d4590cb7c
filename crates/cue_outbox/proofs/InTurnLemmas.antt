-- What events in turn leave of the orders of each live attempt.
use Rattle.std.proofs.Common.{◌≡◌, ℕ, ◌+◌, ◌≤◌, List, [], ◌∷◌, refl, sym, ◌∙◌, subst, Bool, true}
use Rattle.std.proofs.Common.{false, ◌||◌, nat_eq, arith, Option, None, Some, IsTrue}
use Rattle.std.specs.List.{filter_map, cons_option}
use Rattle.std.specs.Option.{option_map_or}
use Rattle.cue_show.specs.Devices.{is_among}
use Rattle.cue_exchange.specs.declared.attempt.Stage.{Stage}
use Rattle.cue_exchange.specs.declared.attempt.Attempt.{Attempt}
use Rattle.cue_exchange.specs.Answers.{is_preparing}
use Rattle.cue_exchange.specs.Live.{attempt_of}
use Rattle.cue_core.specs.declared.event.Event.{Event}
use Rattle.cue_core.specs.declared.event.Event.TheVariants as event
use Rattle.cue_core.specs.State.{ShowState, is_state}
use Rattle.cue_core.specs.Steps.{acceptable, after, are_acceptable, after_events}
use Rattle.cue_core.specs.Pending.{Order}
use Rattle.cue_core.proofs.lists.ConditionLemmas.{both}
use Rattle.cue_core.proofs.rules.RuleLemmas.{begins, is_state-after}
use Rattle.cue_outbox.specs.Asked.{number_asked, is_asked}
use Rattle.cue_outbox.proofs.SinceLemmas.{told, AreAmong, Stays, Since, asks, same_since, since_event, begun, moved_on}
use Rattle.cue_outbox.proofs.SinceLemmas.{stayed}

-- ---- events in turn

grows : (s : ShowState) (e : Event) → IsTrue (acceptable s e) → s.last_seq ≤ (after s e).last_seq
grows s (event.Device d port) g = omega arith
grows s (event.NoDevice d) g = omega arith
grows s (event.Cue c parts) g = omega arith
grows s (event.NoCue c) g = omega arith
grows s (event.Place c) g = omega arith
grows s (event.Start q c t) g = let n : q ≡ s.last_seq + 1 = (begins s q c t g).next in omega arith
grows s (event.Ready q d) g = omega arith
grows s (event.Go q) g = omega arith
grows s (event.Done q d) g = omega arith
grows s (event.Cancel q r) g = omega arith
grows s (event.LetGo q d) g = omega arith
grows s (event.Failed q d) g = omega arith
grows s (event.Excuse q d) g = omega arith

among-trans : (xs ys zs : List (ℕ × Order)) → AreAmong xs ys → AreAmong ys zs → AreAmong xs zs
among-trans xs ys zs h k = record { each = λ test t. k.each test (h.each test t) }

stays-trans : (s t u : ShowState) (a b c : Attempt) → Stays s a t b → Stays t b u c → Stays s a u c
stays-trans s t u a b c h k =
    record { stage = k.stage ∙ h.stage; among = among-trans (told s a) (told t b) (told u c) h.among k.among }

asked_first : (x y : Bool) → x ≡ true → (x || y) ≡ true
asked_first true y e = refl
asked_first false y e = absurd cc

asked_later : (x y : Bool) → y ≡ true → (x || y) ≡ true
asked_later true y e = refl
asked_later false y e = e

asked_never : (x y : Bool) → x ≡ false → y ≡ false → (x || y) ≡ false
asked_never true y e k = absurd cc
asked_never false y e k = k

-- what came first, and then what came since
joined : (s t u : ShowState) (p : ℕ) (c : Attempt) (x y : Bool) → s.last_seq ≤ t.last_seq
    → ((b : Attempt) → attempt_of t.live p ≡ Some b → Since s t p b x) → Since t u p c y → Since s u p c (x || y)
joined s t u p c x y grown before (begun k lt) = begun (asked_later x y k) (omega arith)
joined s t u p c x y grown before (moved_on k b e prepares ends) = by (before b e)
  where
    by : Since s t p b x → Since s u p c (x || y)
    by (begun m lt) = begun (asked_first x y m) lt
    by (moved_on m a f first other) = absurd cc
    by (stayed m a f same) = let P : Stage → Type 0 = λ g. IsTrue (is_preparing g) in
        moved_on (asked_later x y k) a f (subst P same.stage prepares) ends
joined s t u p c x y grown before (stayed k b e same) = by (before b e)
  where
    by : Since s t p b x → Since s u p c (x || y)
    by (begun m lt) = begun (asked_first x y m) lt
    by (moved_on m a f first other) = let P : Stage → Type 0 = λ g. is_preparing g ≡ false in
        moved_on (asked_first x y m) a f first (subst P (sym same.stage) other)
    by (stayed m a f earlier) = stayed (asked_never x y m k) a f (stays-trans s t u a b c earlier same)

asked-next : (q : ℕ) (e : Event) (events : List Event) → is_asked q (e ∷ events) ≡ (asks q e || is_asked q events)
asked-next q e events = by (number_asked e)
  where
    by : (o : Option ℕ) → is_among q (cons_option o (filter_map number_asked events))
        ≡ (option_map_or (λ p. nat_eq p q) o false || is_asked q events)
    by None = refl
    by (Some p) = refl

-- how each attempt that is live after the events came to be so
pub since : (s : ShowState) (events : List Event) (p : ℕ) (b : Attempt) → IsTrue (is_state s)
    → IsTrue (are_acceptable s events) → attempt_of (after_events s events).live p ≡ Some b
    → Since s (after_events s events) p b (is_asked p events)
since s [] p b i g h = same_since s s p b refl h
since s (e ∷ events) p b i g h =
    let k = both (acceptable s e) (are_acceptable (after s e) events) g in
    let P : Bool → Type 0 = λ z. Since s (after_events (after s e) events) p b z in
    subst P (sym (asked-next p e events))
    (joined s (after s e) (after_events (after s e) events) p b (asks p e) (is_asked p events) (grows s e k.0)
    (λ a f. since_event s e p a i k.0 f)
    (since (after s e) events p b (is_state-after s e i k.0) k.1 h))

-- the state after the events keeps its rules
pub is_state-after_events : (s : ShowState) (events : List Event) → IsTrue (is_state s)
    → IsTrue (are_acceptable s events) → IsTrue (is_state (after_events s events))
is_state-after_events s [] i g = i
is_state-after_events s (e ∷ events) i g = let k = both (acceptable s e) (are_acceptable (after s e) events) g in
    is_state-after_events (after s e) events (is_state-after s e i k.0) k.1
