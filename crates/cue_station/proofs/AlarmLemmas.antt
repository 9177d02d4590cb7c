-- What the alarms come to.
use Rattle.std.proofs.Common.{◌≡◌, ◌+◌, ◌∙◌, ℕ, Bool, true, false, not, ◌&&◌, ◌||◌, if◌then◌else◌, List, [], ◌∷◌, ◌++◌, map}
use Rattle.std.proofs.Common.{Option, None, Some, nat_le, refl}
use Rattle.std.specs.List.{list_any}
use Rattle.std.specs.Option.{option_to_list}
use Rattle.std.proofs.lemmas.List.Folds.{list_any-append}
use Rattle.cue_view.specs.declared.view.Trouble.{Trouble}
use Rattle.cue_station.specs.declared.alarms.Facts.{Facts}
use Rattle.cue_station.specs.declared.limits.TheConstants.{OTHER_MS, SHOWN_MS, STATUS_MS}
use Rattle.cue_view.specs.declared.view.Alarm.{Alarm}
use Rattle.cue_view.specs.declared.view.Alarm.TheVariants as alarm
use Rattle.cue_view.specs.Sight.{is_age}
use Rattle.cue_station.specs.Alarms.{doubt, either_by, is_asked_since, is_in_sight, is_within}
use Rattle.cue_station.specs.Alarms.{not_shown, not_shown_by, old_by}
use Rattle.cue_station.specs.Alarms.{old_store, other_by, other_store, relay_stopped}
use Rattle.cue_station.specs.Alarms.{silence}
use Rattle.cue_station.specs.Alarms.{silence_by, silent_in, stopped_by}
use Rattle.cue_station.specs.Network.{is_stopped}
use Rattle.cue_station.specs.Warning.{AgeIsSaid, SilenceIsSaid, is_silence}

-- ---- a test of each alarm

-- the test of two lists, one after the other
pub any_in : (p : Alarm → Bool) (xs ys : List Alarm) (b c : Bool) → list_any p xs ≡ b → list_any p ys ≡ c
    → list_any p (xs ++ ys) ≡ (b || c)
any_in p xs ys b c first second = rw (list_any-append p xs ys, first, second) refl

pub any_of_none : {A : Type 0} (p : Alarm → Bool) (f : A → Alarm) → ((x : A) → p (f x) ≡ false) → (xs : List A)
    → list_any p (map f xs) ≡ false
any_of_none p f fails [] = refl
any_of_none p f fails (x ∷ xs) = rw (fails x) (any_of_none p f fails xs)

any_if : (p : Alarm → Bool) (a : Alarm) → p a ≡ false → (b : Bool)
    → list_any p (option_to_list (if b then Some a else None)) ≡ false
any_if p a fails true = rw fails refl
any_if p a fails false = refl

or_none : (b : Bool) → (b || false) ≡ b
or_none true = refl
or_none false = refl

pub none_other : (p : Alarm → Bool) → ((s : ℕ) → p (alarm.OtherStore s) ≡ false) → (since asked : Option ℕ) (now : ℕ)
    → list_any p (option_to_list (other_by since asked now)) ≡ false
none_other p fails None asked now = refl
none_other p fails (Some s) asked now =
    any_if p (alarm.OtherStore s) (fails s) (is_asked_since s asked && nat_le (s + OTHER_MS) now)

none_not_shown : (p : Alarm → Bool) → ((s : ℕ) → p (alarm.NotShown s) ≡ false) → (since read : Option ℕ)
    → list_any p (option_to_list (not_shown_by since read)) ≡ false
none_not_shown p fails None read = refl
none_not_shown p fails (Some s) None = refl
none_not_shown p fails (Some s) (Some r) = any_if p (alarm.NotShown s) (fails s) (nat_le (s + SHOWN_MS) r)

none_either : (p : Alarm → Bool) (one other : Option Alarm) → list_any p (option_to_list one) ≡ false
    → list_any p (option_to_list other) ≡ false → list_any p (option_to_list (either_by one other)) ≡ false
none_either p None other h k = k
none_either p (Some a) other h k = h

-- what answers at the port is not what the store shows
pub none_doubt : (p : Alarm → Bool) → ((s : ℕ) → p (alarm.OtherStore s) ≡ false)
    → ((s : ℕ) → p (alarm.NotShown s) ≡ false) → (f : Facts) → list_any p (option_to_list (doubt f)) ≡ false
none_doubt p other unshown f =
    none_either p (other_store f) (not_shown f) (none_other p other f.differs f.asked f.at)
    (none_not_shown p unshown f.unshown f.read)

pub none_stopped : (p : Alarm → Bool) → ((s : ℕ) → p (alarm.RelayStopped s) ≡ false) → (since : Option ℕ) (now : ℕ)
    → list_any p (option_to_list (stopped_by since now)) ≡ false
none_stopped p fails None now = refl
none_stopped p fails (Some s) now = any_if p (alarm.RelayStopped s) (fails s) (is_stopped s now)

-- the last three of seven lists pass no test
none_of_three : (p : Alarm → Bool) (e f g : List Alarm) → list_any p e ≡ false → list_any p f ≡ false
    → list_any p g ≡ false → list_any p (e ++ (f ++ g)) ≡ false
none_of_three p e f g he hf hg = any_in p e (f ++ g) false false he (any_in p f g false false hf hg)

-- of seven lists the first alone passes the test, or not
pub first_only : (p : Alarm → Bool) (a b c d e f g : List Alarm) (x : Bool) → list_any p a ≡ x → list_any p b ≡ false
    → list_any p c ≡ false → list_any p d ≡ false → list_any p e ≡ false → list_any p f ≡ false
    → list_any p g ≡ false → list_any p (a ++ (b ++ (c ++ (d ++ (e ++ (f ++ g)))))) ≡ x
first_only p a b c d e f g x ha hb hc hd he hf hg =
    let rest : list_any p (d ++ (e ++ (f ++ g))) ≡ false =
    any_in p d (e ++ (f ++ g)) false false hd (none_of_three p e f g he hf hg)
    in let more : list_any p (b ++ (c ++ (d ++ (e ++ (f ++ g))))) ≡ false =
    any_in p b (c ++ (d ++ (e ++ (f ++ g)))) false false hb (any_in p c (d ++ (e ++ (f ++ g))) false false hc rest)
    in any_in p a (b ++ (c ++ (d ++ (e ++ (f ++ g))))) x false ha more ∙ or_none x

-- the same of the fourth
fourth_only : (p : Alarm → Bool) (a b c d e f g : List Alarm) (x : Bool) → list_any p a ≡ false → list_any p b ≡ false
    → list_any p c ≡ false → list_any p d ≡ x → list_any p e ≡ false → list_any p f ≡ false
    → list_any p g ≡ false → list_any p (a ++ (b ++ (c ++ (d ++ (e ++ (f ++ g)))))) ≡ x
fourth_only p a b c d e f g x ha hb hc hd he hf hg =
    let rest : list_any p (d ++ (e ++ (f ++ g))) ≡ x =
    any_in p d (e ++ (f ++ g)) x false hd (none_of_three p e f g he hf hg) ∙ or_none x
    in any_in p a (b ++ (c ++ (d ++ (e ++ (f ++ g))))) false x ha
    (any_in p b (c ++ (d ++ (e ++ (f ++ g)))) false x hb (any_in p c (d ++ (e ++ (f ++ g))) false x hc rest))

-- ---- silence

silence_of : (alive nobody : Bool) (asked : Option ℕ)
    → list_any is_silence (option_to_list (silence_by alive nobody asked)) ≡ not alive
silence_of true nobody asked = refl
silence_of false true asked = refl
silence_of false false asked = refl

no_silence : (young : Bool) (why : Option Trouble) (read : Option ℕ)
    → list_any is_silence (option_to_list (old_by young why read)) ≡ false
no_silence true why read = refl
no_silence false None read = refl
no_silence false (Some w) read = refl

pub silence_said : SilenceIsSaid
silence_said f back failures network =
    first_only is_silence (option_to_list (silence f)) (option_to_list (doubt f))
    (option_to_list (relay_stopped f))
    (option_to_list (old_store f)) (map alarm.ClockPutBack back) (map alarm.Failed failures)
    (map alarm.DeviceSilent (silent_in network)) (not (is_within STATUS_MS f.at f.asked))
    (silence_of (is_within STATUS_MS f.at f.asked) f.nobody f.asked) (none_doubt is_silence (λ s. refl) (λ s. refl) f)
    (none_stopped is_silence (λ s. refl) f.stamped f.at)
    (no_silence (is_in_sight f) f.trouble f.read)
    (any_of_none is_silence alarm.ClockPutBack (λ x. refl) back)
    (any_of_none is_silence alarm.Failed (λ x. refl) failures)
    (any_of_none is_silence alarm.DeviceSilent (λ x. refl) (silent_in network))

-- ---- age

no_age : (alive nobody : Bool) (asked : Option ℕ)
    → list_any is_age (option_to_list (silence_by alive nobody asked)) ≡ false
no_age true nobody asked = refl
no_age false true asked = refl
no_age false false asked = refl

age_of : (young : Bool) (why : Option Trouble) (read : Option ℕ)
    → list_any is_age (option_to_list (old_by young why read)) ≡ not young
age_of true why read = refl
age_of false None read = refl
age_of false (Some w) read = refl

pub age_said : AgeIsSaid
age_said f back failures network =
    fourth_only is_age (option_to_list (silence f)) (option_to_list (doubt f)) (option_to_list (relay_stopped f))
    (option_to_list (old_store f)) (map alarm.ClockPutBack back) (map alarm.Failed failures)
    (map alarm.DeviceSilent (silent_in network)) (not (is_in_sight f))
    (no_age (is_within STATUS_MS f.at f.asked) f.nobody f.asked) (none_doubt is_age (λ s. refl) (λ s. refl) f)
    (none_stopped is_age (λ s. refl) f.stamped f.at) (age_of (is_in_sight f) f.trouble f.read)
    (any_of_none is_age alarm.ClockPutBack (λ x. refl) back)
    (any_of_none is_age alarm.Failed (λ x. refl) failures)
    (any_of_none is_age alarm.DeviceSilent (λ x. refl) (silent_in network))
