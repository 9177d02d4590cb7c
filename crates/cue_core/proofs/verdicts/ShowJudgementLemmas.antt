-- What judging makes of a command about the show, or of a start, is acceptable in turn.
use Rattle.std.proofs.Common.{◌≡◌, ℕ, ◌+◌, List, [], ◌∷◌, length, refl, Bool, true, false, not, cond, ◌&&◌, nat_eq}
use Rattle.std.proofs.Common.{nat_le, nat_lt, arith, Option, None, Some}
use Rattle.std.specs.Prelude.{IsTrue, is_some, if◌then◌else◌}
use Rattle.std.specs.List.{list_all}
use Rattle.std.specs.Map.{lookup}
use Rattle.std.specs.Option.{option_map_or}
use Rattle.std.proofs.lemmas.Bool.Decides.{nat_tests}
use Rattle.cue_show.specs.declared.part.Part.{Part}
use Rattle.cue_show.specs.DeviceNumber.{is_device, is_port}
use Rattle.cue_show.specs.Devices.{distinct}
use Rattle.cue_show.specs.Number.{is_cue_number, same_text}
use Rattle.cue_show.specs.Parts.{are_parts, is_part, has_required_part, same_parts}
use Rattle.cue_show.specs.Show.{Cues, ShowLists, port_of, parts_of, has_device, has_cue, is_used, is_full, is_place}
use Rattle.cue_show.specs.Show.{are_known, is_cue_of}
use Rattle.cue_show.proofs.ShowLemmas.{show_rules, stack_parts}
use Rattle.cue_show.specs.declared.limits.TheConstants.{MAX_PARTS}
use Rattle.cue_exchange.specs.declared.limits.TheConstants.{MAX_NUMBER}
use Rattle.cue_exchange.specs.Live.{devices_in, attempt_of_cue, is_number, is_time}
use Rattle.cue_exchange.specs.Steps.{are_free, are_sound_parts, has_room, are_below, can_start}
use Rattle.cue_core.specs.declared.limits.TheConstants.{STANDBY_MS}
use Rattle.cue_core.specs.declared.event.Event.{Event}
use Rattle.cue_core.specs.declared.event.Event.TheVariants as event
use Rattle.cue_core.specs.declared.command.Code.TheVariants as code
use Rattle.cue_core.specs.State.{ShowState, cue_parts}
use Rattle.cue_core.specs.Steps.{acceptable, after, are_acceptable}
use Rattle.cue_core.specs.Judge.{made_by, known_already, refused_with, on_add_device, on_remove_device, on_add_cue}
use Rattle.cue_core.specs.Judge.{on_new_cue, on_goto}
use Rattle.cue_core.specs.Judge.{on_remove_cue, on_standby, on_standby_of, prepares}
use Rattle.cue_core.proofs.lists.ConditionLemmas.{both, join, all_from, same_self}
use Rattle.cue_core.proofs.rules.RuleLemmas.{Rules}

pub one : (s : ShowState) (e : Event) → IsTrue (acceptable s e) → IsTrue (are_acceptable s (e ∷ []))
one s e g = join (acceptable s e) true g refl

pub two : (s : ShowState) (e f : Event) → IsTrue (acceptable s e) → IsTrue (acceptable (after s e) f)
    → IsTrue (are_acceptable s (e ∷ f ∷ []))
two s e f g h = join (acceptable s e) (acceptable (after s e) f && true) g (join (acceptable (after s e) f) true h refl)

-- ---- the device table and the cue stack

pub add_device_fits : (s : ShowState) (d port : ℕ) → IsTrue (is_device d && is_port port)
    → IsTrue (are_acceptable s (on_add_device s d port).1)
add_device_fits s d port fit = by (port_of s.show d) refl
  where
    at : (b : Bool) → IsTrue (are_acceptable s (if b then known_already else refused_with code.Duplicate).1)
    at true = refl
    at false = refl

    by : (o : Option ℕ) → port_of s.show d ≡ o
        → IsTrue (are_acceptable s
        (option_map_or (λ p. if nat_eq p port then known_already else refused_with code.Duplicate) o
        (made_by (event.Device d port ∷ []))).1)
    by None e = one s (event.Device d port) (join (not (has_device s.show d)) (is_device d && is_port port) (rw e refl)
        fit)
    by (Some p) e = at (nat_eq p port)

pub remove_device_fits : (s : ShowState) (d : ℕ) → IsTrue (are_acceptable s (on_remove_device s d).1)
remove_device_fits s d = by (has_device s.show d) (is_used s.show d) refl refl
  where
    by : (b u : Bool) → has_device s.show d ≡ b → is_used s.show d ≡ u
        → IsTrue (are_acceptable s (if not b then refused_with code.NoMethod else if u then refused_with code.InUse else
        made_by
        (event.NoDevice d ∷ [])).1)
    by false u e f = refl
    by true true e f = refl
    by true false e f = one s (event.NoDevice d) (join (has_device s.show d) (not (is_used s.show d)) e (rw f refl))

new_cue_fits : (s : ShowState) (c : List ℕ) (parts : List Part) → IsTrue (is_cue_number c && are_parts parts)
    → IsTrue (are_known s.show parts) → IsTrue (are_acceptable s (on_new_cue s c parts).1)
new_cue_fits s c parts fit there = by (parts_of s.show c) refl
  where
    at : (b : Bool) → IsTrue (are_acceptable s (if b then known_already else refused_with code.Duplicate).1)
    at true = refl
    at false = refl

    new : (f : Bool) → is_full s.show ≡ f → parts_of s.show c ≡ None
        → IsTrue (are_acceptable s (if f then refused_with code.Full else made_by (event.Cue c parts ∷ [])).1)
    new true g e = refl
    new false g e =
        let p = both (is_cue_number c) (are_parts parts) fit in
        one s (event.Cue c parts)
        (join (not (has_cue s.show c)) (not (is_full s.show) && is_cue_of s.show (c, parts)) (rw e refl)
        (join (not (is_full s.show)) (is_cue_of s.show (c, parts)) (rw g refl)
        (join (is_cue_number c) (are_parts parts && are_known s.show parts) p.0
        (join (are_parts parts) (are_known s.show parts) p.1 there))))

    by : (o : Option (List Part)) → parts_of s.show c ≡ o
        → IsTrue (are_acceptable s
        (option_map_or (λ old. if same_parts old parts then known_already else refused_with code.Duplicate) o
        (if is_full s.show then refused_with code.Full else made_by (event.Cue c parts ∷ []))).1)
    by None e = new (is_full s.show) refl e
    by (Some old) e = at (same_parts old parts)

pub add_cue_fits : (s : ShowState) (c : List ℕ) (parts : List Part) → IsTrue (is_cue_number c && are_parts parts)
    → IsTrue (are_acceptable s (on_add_cue s c parts).1)
add_cue_fits s c parts fit = by (are_known s.show parts) refl
  where
    by : (b : Bool) → are_known s.show parts ≡ b
        → IsTrue (are_acceptable s (if not b then refused_with code.UnknownDevice else on_new_cue s c parts).1)
    by false e = refl
    by true e = new_cue_fits s c parts fit e

pub goto_fits : (s : ShowState) (c : List ℕ) → IsTrue (are_acceptable s (on_goto s c).1)
goto_fits s c = by (has_cue s.show c) (is_place c s.show.place) refl
  where
    by : (b p : Bool) → has_cue s.show c ≡ b
        → IsTrue (are_acceptable s (if not b then refused_with code.NoMethod else if p then known_already else made_by
        (event.Place c ∷ [])).1)
    by false p e = refl
    by true true e = refl
    by true false e = one s (event.Place c) e

pub remove_cue_fits : (s : ShowState) (c : List ℕ) → IsTrue (are_acceptable s (on_remove_cue s c).1)
remove_cue_fits s c = by (has_cue s.show c) (is_some (attempt_of_cue s.live c)) refl refl
  where
    by : (b l : Bool) → has_cue s.show c ≡ b → is_some (attempt_of_cue s.live c) ≡ l
        → IsTrue (are_acceptable s (if not b then refused_with code.NoMethod else if l then refused_with code.Busy else
        made_by
        (event.NoCue c ∷ [])).1)
    by false l e f = refl
    by true true e f = refl
    by true false e f = one s (event.NoCue c) (join (has_cue s.show c) (not (is_some (attempt_of_cue s.live c))) e
        (rw f refl))

-- ---- a start

-- the parts of a cue of the stack are ones that a cue can have
stacked : (show : ShowLists) (c : List ℕ) (es : Cues) (parts : List Part) → IsTrue (list_all (is_cue_of show) es)
    → lookup (same_text c) es ≡ Some parts → IsTrue (are_parts parts)
stacked show c [] parts h e = cc
stacked show c (x ∷ es) parts h e =
    let p = both (is_cue_of show x) (list_all (is_cue_of show) es) h in
    at (same_text c x.0) e (both (is_cue_number x.0) (are_parts x.1 && are_known show x.1) p.0).1
    (stacked show c es parts p.1)
  where
    at : (b : Bool) → cond b (Some x.1) (lookup (same_text c) es) ≡ Some parts
        → IsTrue (are_parts x.1 && are_known show x.1)
        → (lookup (same_text c) es ≡ Some parts → IsTrue (are_parts parts)) → IsTrue (are_parts parts)
    at true e k f = let same : x.1 ≡ parts = cc in rw (← same) (both (are_parts x.1) (are_known show x.1) k).0
    at false e k f = f e

sound_parts : (parts : List Part) → IsTrue (are_parts parts) → IsTrue (are_sound_parts parts)
sound_parts parts h =
    let p = both (has_required_part parts)
    (nat_le (length parts) MAX_PARTS && (distinct (devices_in parts) && list_all is_part parts)) h in
    let q = both (nat_le (length parts) MAX_PARTS) (distinct (devices_in parts) && list_all is_part parts) p.1 in
    let r = both (distinct (devices_in parts)) (list_all is_part parts) q.1 in
    join (has_required_part parts) (distinct (devices_in parts)) p.0 r.0

start_fits : (s : ShowState) (c : List ℕ) (t : ℕ) (parts : List Part) → Rules s → parts_of s.show c ≡ Some parts
    → IsTrue (are_free (devices_in parts) s.live) → IsTrue (has_room s.live) → nat_le MAX_NUMBER s.last_seq ≡ false
    → IsTrue (is_time t)
    → IsTrue (acceptable s (event.Start (s.last_seq + 1) c t))
start_fits s c t parts r e free room below time =
    join (nat_eq (s.last_seq + 1) (s.last_seq + 1))
    (has_cue s.show c && can_start (s.last_seq + 1) t (cue_parts s.show c) s.live) (same_self (s.last_seq + 1))
    (join (has_cue s.show c) (can_start (s.last_seq + 1) t (cue_parts s.show c) s.live) (rw e refl)
    (rw e
    (join (is_number (s.last_seq + 1))
    (is_time t && (has_room s.live &&
    (are_below (s.last_seq + 1) s.live && (are_free (devices_in parts) s.live && are_sound_parts parts))))
    (number s.last_seq below)
    (join (is_time t) (has_room s.live &&
    (are_below (s.last_seq + 1) s.live && (are_free (devices_in parts) s.live && are_sound_parts parts))) time
    (join (has_room s.live) (are_below (s.last_seq + 1) s.live &&
    (are_free (devices_in parts) s.live && are_sound_parts parts)) room
    (join (are_below (s.last_seq + 1) s.live) (are_free (devices_in parts) s.live && are_sound_parts parts)
    (all_from (λ a. nat_le a.seq s.last_seq) (λ a. nat_lt a.seq (s.last_seq + 1)) s.live (λ a k. above a.seq k)
    r.within)
    (join (are_free (devices_in parts) s.live) (are_sound_parts parts) free
    (sound_parts parts (stacked s.show c s.show.cues parts
    (stack_parts s.show s.show.cues (show_rules s.show r.show).stack).each e)))))))))
  where
    number : (n : ℕ) → nat_le MAX_NUMBER n ≡ false → IsTrue (nat_le 1 (n + 1) && nat_le (n + 1) MAX_NUMBER)
    number n k = let up : IsTrue (nat_le 1 (n + 1)) = Prim.grind (arith, nat_tests) in
        let low : IsTrue (nat_le (n + 1) MAX_NUMBER) = Prim.grind (arith, nat_tests, k) in
        join (nat_le 1 (n + 1)) (nat_le (n + 1) MAX_NUMBER) up low

    above : (n : ℕ) → IsTrue (nat_le n s.last_seq) → IsTrue (nat_lt n (s.last_seq + 1))
    above n k = Prim.grind (arith, nat_tests, k)

standby_of_fits : (s : ShowState) (now : ℕ) (c : List ℕ) (parts : List Part) → Rules s → parts_of s.show c ≡ Some parts
    → IsTrue (are_acceptable s (on_standby_of s now c parts).1)
standby_of_fits s now c parts r e = by (prepares s c) (are_free (devices_in parts) s.live) (has_room s.live)
    (nat_le MAX_NUMBER s.last_seq) (is_time (now + STANDBY_MS)) refl refl refl refl
  where
    by : (p f h l m : Bool) → are_free (devices_in parts) s.live ≡ f → has_room s.live ≡ h
        → nat_le MAX_NUMBER s.last_seq ≡ l → is_time (now + STANDBY_MS) ≡ m
        → IsTrue (are_acceptable s (if p then known_already else if not f then refused_with code.Busy else if not h then
        refused_with
        code.Full else if l then refused_with code.Exhausted else if not m then refused_with code.Clock else made_by
        (event.Start (s.last_seq + 1) c (now + STANDBY_MS) ∷ [])).1)
    by true f h l m a b d g = refl
    by false false h l m a b d g = refl
    by false true false l m a b d g = refl
    by false true true true m a b d g = refl
    by false true true false false a b d g = refl
    by false true true false true a b d g =
        one s (event.Start (s.last_seq + 1) c (now + STANDBY_MS)) (start_fits s c (now + STANDBY_MS) parts r e a b d g)

pub standby_fits : (s : ShowState) (now : ℕ) (c : List ℕ) → Rules s → IsTrue (are_acceptable s (on_standby s now c).1)
standby_fits s now c r = by (parts_of s.show c) refl
  where
    by : (o : Option (List Part)) → parts_of s.show c ≡ o
        → IsTrue (are_acceptable s (option_map_or (on_standby_of s now c) o (refused_with code.NoMethod)).1)
    by None e = refl
    by (Some parts) e = standby_of_fits s now c parts r e
