-- A device of an attempt stays in the table, with its port.
use Rattle.std.proofs.Common.{◌≡◌, ℕ, Bool, true, false, not, ◌&&◌, ◌||◌, List, [], ◌∷◌, filter, cond, nat_eq, refl}
use Rattle.std.proofs.Common.{sym, ◌∙◌, subst, true≢false, Option, None, Some, IsTrue}
use Rattle.std.specs.Prelude.{IfSome, is_some}
use Rattle.std.specs.Option.{option_map_or}
use Rattle.cue_show.specs.declared.part.Part.{Part}
use Rattle.cue_show.specs.Devices.{devices_in, is_among}
use Rattle.cue_show.specs.Number.{is_cue_number}
use Rattle.cue_show.specs.Parts.{are_parts}
use Rattle.cue_show.specs.Show.{ShowLists, are_known, has_device, is_cue_of, is_show, parts_of, port_of}
use Rattle.cue_show.proofs.ChangeLemmas.{is_cue_of-parts_of, port_of-with_device_other, port_of-without_device}
use Rattle.cue_exchange.specs.declared.attempt.Attempt.{Attempt}
use Rattle.cue_exchange.specs.Answers.{devices_of, waits}
use Rattle.cue_exchange.specs.Live.{attempt_of, has_number}
use Rattle.cue_core.specs.declared.event.Event.{Event}
use Rattle.cue_core.specs.declared.event.Event.TheVariants as event
use Rattle.cue_core.specs.State.{ShowState, are_of_parts, is_at_cue, is_state}
use Rattle.cue_core.specs.Steps.{acceptable, after}
use Rattle.cue_core.proofs.history.TellsLemmas.{devices-parts}
use Rattle.cue_core.proofs.lists.ConditionLemmas.{both, same_number}
use Rattle.cue_core.proofs.live.FindingLemmas.{found_has}
use Rattle.cue_core.proofs.rules.RuleLemmas.{rules_of}
use Rattle.cue_stage.specs.Waiting.{awaited}
use Rattle.cue_stage.proofs.AnsweredLemmas.{among_waiting}

-- ---- who is awaited is in the table

known_among : (show : ShowLists) (d : ℕ) (ps : List Part) → IsTrue (are_known show ps)
    → IsTrue (is_among d (devices_in ps)) → IsTrue (has_device show d)
known_among show d [] h m = absurd (true≢false (sym m))
known_among show d (p ∷ ps) h m =
    let w = both (has_device show p.device) (are_known show ps) h in
    by (nat_eq p.device d) refl w.0 m (λ k. known_among show d ps w.1 k)
  where
    by : (b : Bool) → nat_eq p.device d ≡ b → IsTrue (has_device show p.device)
        → IsTrue (b || is_among d (devices_in ps))
        → (IsTrue (is_among d (devices_in ps)) → IsTrue (has_device show d)) → IsTrue (has_device show d)
    by true e there k f = subst (λ (n : ℕ). IsTrue (has_device show n)) (same_number p.device d e) there
    by false e there k f = f k

at_table : (show : ShowLists) (d : ℕ) (a : Attempt) → IsTrue (is_show show) → IsTrue (is_at_cue show a)
    → IsTrue (is_among d (devices_of a.answers)) → IsTrue (has_device show d)
at_table show d a h at m = by (parts_of show a.cue) at (is_cue_of-parts_of show a.cue h)
  where
    by : (o : Option (List Part)) → IsTrue (option_map_or (λ parts. are_of_parts parts a.answers) o false)
        → IfSome o (λ parts. IsTrue (is_cue_of show (a.cue, parts))) → IsTrue (has_device show d)
    by None k g = absurd (true≢false (sym k))
    by (Some parts) k g =
        let known : IsTrue (are_known show parts) =
        (both (are_parts parts) (are_known show parts)
        (both (is_cue_number a.cue) (are_parts parts && are_known show parts) g).1).1 in
        known_among show d parts known
        (subst (λ (ds : List ℕ). IsTrue (is_among d ds)) (devices-parts parts a.answers k) m)

pub in_table : (s : ShowState) (q d : ℕ) → IsTrue (is_state s) → IsTrue (is_among d (awaited s q))
    → IsTrue (has_device s.show d)
in_table s q d h m = by (attempt_of s.live q) refl m
  where
    by : (o : Option Attempt) → attempt_of s.live q ≡ o
        → IsTrue (is_among d (option_map_or (λ a. devices_of (filter waits a.answers)) o []))
        → IsTrue (has_device s.show d)
    by None e k = absurd (true≢false (sym k))
    by (Some a) e k =
        at_table s.show d a (rules_of s h).show
        (found_has (is_at_cue s.show) (has_number q) s.live a (rules_of s h).at e) (among_waiting d a.answers k)

-- ---- its port stays

other_device : (show : ShowLists) (d e : ℕ) → IsTrue (has_device show d) → IsTrue (not (has_device show e))
    → nat_eq d e ≡ false
other_device show d e h n = by (nat_eq d e) refl
  where
    clash : (b : Bool) → IsTrue b → IsTrue (not b) → ⊥
    clash true k m = true≢false (sym m)
    clash false k m = true≢false (sym k)

    by : (b : Bool) → nat_eq d e ≡ b → b ≡ false
    by true is = absurd (clash (has_device show e)
        (subst (λ (n : ℕ). IsTrue (has_device show n)) (same_number d e is) h) n)
    by false is = refl

-- what was in the table and still is has its port
pub event_port : (s : ShowState) (e : Event) (d : ℕ) → IsTrue (is_state s) → IsTrue (acceptable s e)
    → IsTrue (has_device s.show d) → IsTrue (has_device (after s e).show d)
    → port_of (after s e).show d ≡ port_of s.show d
event_port s (event.Device n port) d h ok there still =
    port_of-with_device_other s.show n port d
    (other_device s.show d n there (both (not (has_device s.show n)) _ ok).0)
event_port s (event.NoDevice n) d h ok there still =
    let p = port_of-without_device s.show n d (rules_of s h).show in
    p ∙ by (nat_eq n d) (subst (λ (o : Option ℕ). IsTrue (is_some o)) p still)
  where
    by : (b : Bool) → IsTrue (is_some (cond b None (port_of s.show d)))
        → cond b None (port_of s.show d) ≡ port_of s.show d
    by true k = absurd (true≢false (sym k))
    by false k = refl
event_port s _ d h ok there still = refl
