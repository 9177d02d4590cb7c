-- That a failure was seen can be said exactly where its alarm is shown.
use Rattle.std.proofs.Common.{◌≡◌, refl, sym, ap, ap₂, ◌∙◌, ℕ, Bool, true, false, ◌||◌, cond, List, [], ◌∷◌, ◌++◌}
use Rattle.std.proofs.Common.{map, filter, Option, None, Some, nat_eq}
use Rattle.std.proofs.lemmas.List.Elements.{filter-append}
use Rattle.std.proofs.lemmas.List.Folds.{list_any-append}
use Rattle.std.specs.List.{list_any, filter_map, flat_map}
use Rattle.std.specs.Option.{option_map_or, option_to_list}
use Rattle.cue_show.proofs.TestLemmas.{neither}
use Rattle.cue_exchange.specs.Live.{attempt_of}
use Rattle.cue_exchange.specs.declared.attempt.Attempt.{Attempt}
use Rattle.cue_exchange.specs.declared.attempt.DeviceAnswer.{DeviceAnswer}
use Rattle.cue_view.specs.declared.button.Button.{Button}
use Rattle.cue_view.specs.declared.button.Button.TheVariants as button
use Rattle.cue_view.specs.declared.view.Alarm.{Alarm}
use Rattle.cue_view.specs.declared.view.Alarm.TheVariants as alarm
use Rattle.cue_view.specs.declared.view.Contacted.{Contacted}
use Rattle.cue_view.specs.declared.view.Next.{Next}
use Rattle.cue_view.specs.declared.view.Next.TheVariants as next
use Rattle.cue_view.specs.declared.view.Trouble.{Trouble}
use Rattle.cue_station.specs.declared.alarms.Facts.{Facts}
use Rattle.cue_station.specs.declared.heard.Copied.{Copied}
use Rattle.cue_station.specs.declared.lighting.Footing.{Footing}
use Rattle.cue_station.specs.declared.limits.TheConstants.{STATUS_MS}
use Rattle.cue_station.specs.declared.memory.Reading.{Reading}
use Rattle.cue_station.specs.declared.memory.Seen.{Seen}
use Rattle.cue_station.specs.Turns.{Turn}
use Rattle.cue_station.specs.Alarms.{alarms_by, awaited_by, is_in_sight, is_within, old_by}
use Rattle.cue_station.specs.Alarms.{doubt, old_store, put_back_in, relay_stopped, silence, silence_by, silent_in}
use Rattle.cue_station.specs.Drawing.{alarms_of, facts_of, failures_shown, live_by}
use Rattle.cue_station.specs.Following.{next_in}
use Rattle.cue_station.specs.Keeping.{failed_of, numbers_of, shown_failures}
use Rattle.cue_station.specs.Lighting.{go_and_cancel, keys_of, keys_of_choice, may_in, standby_of}
use Rattle.cue_station.specs.Network.{network_by, relayed_of}
use Rattle.cue_station.specs.Offering.{is_lit, same_button}
use Rattle.cue_station.specs.Reading.{reading_of, seen_since}
use Rattle.cue_station.specs.Showing.{since_in}
use Rattle.cue_station.specs.Smaller.{failure_of, is_failure_of, of_attempt, smaller_of}
use Rattle.cue_station.specs.Viewing.{LightsBy}
use Rattle.cue_station.proofs.AlarmLemmas.{any_of_none, first_only, none_doubt, none_stopped}

-- ---- what is not there is not lit

dark_one : (b x : Button) (rest : List Button) → same_button b x ≡ false → is_lit b rest ≡ false → (t : Bool)
    → is_lit b (cond t (x ∷ rest) rest) ≡ false
dark_one b x rest e k true = ap (λ v. v || is_lit b rest) e ∙ k
dark_one b x rest e k false = k

dark-filter : (p : Button → Bool) (b : Button) (xs : List Button) → is_lit b xs ≡ false
    → is_lit b (filter p xs) ≡ false
dark-filter p b [] h = refl
dark-filter p b (x ∷ xs) h =
    let k = neither (same_button b x) (is_lit b xs) h in
    dark_one b x (filter p xs) k.0 (dark-filter p b xs k.1) (p x)

-- those before it are passed over
skip : (p : Button → Bool) (b : Button) (xs ys : List Button) → is_lit b xs ≡ false
    → is_lit b (filter p (xs ++ ys)) ≡ is_lit b (filter p ys)
skip p b xs ys h =
    ap (is_lit b) (filter-append p xs ys) ∙ list_any-append (same_button b) (filter p xs) (filter p ys)
    ∙ ap (λ v. v || is_lit b (filter p ys)) (dark-filter p b xs h)

dark-map : {A : Type 0} (b : Button) (f : A → Button) → ((x : A) → same_button b (f x) ≡ false) → (xs : List A)
    → is_lit b (map f xs) ≡ false
dark-map b f h [] = refl
dark-map b f h (x ∷ xs) = ap (λ v. v || is_lit b (map f xs)) (h x) ∙ dark-map b f h xs

dark_two : (b : Button) (xs ys : List Button) → is_lit b xs ≡ false → is_lit b ys ≡ false → is_lit b (xs ++ ys) ≡ false
dark_two b xs ys h k = list_any-append (same_button b) xs ys ∙ ap₂ (λ v w. v || w) h k

attempts-dark : (q : ℕ) (live : List Attempt) → is_lit (button.Seen q) (flat_map of_attempt live) ≡ false
attempts-dark q [] = refl
attempts-dark q (a ∷ live) =
    dark_two (button.Seen q) (of_attempt a) (flat_map of_attempt live)
    (dark-map (button.Seen q) (λ (x : DeviceAnswer). button.Release a.seq x.device) (λ x. refl) a.answers)
    (attempts-dark q live)

found_dark : (q : ℕ) (o : Option Attempt) → is_lit (button.Seen q) (option_map_or go_and_cancel o []) ≡ false
found_dark q None = refl
found_dark q (Some a) = refl

choice_dark : (q : ℕ) (live : List Attempt) (chosen : Option ℕ)
    → is_lit (button.Seen q) (keys_of_choice live chosen) ≡ false
choice_dark q live None = refl
choice_dark q live (Some p) = found_dark q (attempt_of live p)

standby_dark : (q : ℕ) (n : Next) → is_lit (button.Seen q) (standby_of n) ≡ false
standby_dark q (next.Cue cue) = refl
standby_dark q next.Empty = refl
standby_dark q next.End = refl
standby_dark q next.Unknown = refl

keys-dark : (q : ℕ) (f : Footing) (c : Copied) → is_lit (button.Seen q) (keys_of f c) ≡ false
keys-dark q f c =
    dark_two (button.Seen q) (keys_of_choice c.state.live f.chosen ++ keys_of_choice c.state.live f.going)
    (standby_of (next_in c))
    (dark_two (button.Seen q) (keys_of_choice c.state.live f.chosen) (keys_of_choice c.state.live f.going)
    (choice_dark q c.state.live f.chosen) (choice_dark q c.state.live f.going))
    (standby_dark q (next_in c))

-- ---- what is there for a failure

seen-kept : (p : Button → Bool) → ((q : ℕ) → p (button.Seen q) ≡ true) → (qs : List ℕ)
    → filter p (map button.Seen qs) ≡ map button.Seen qs
seen-kept p h [] = refl
seen-kept p h (q ∷ qs) = ap₂ (λ t rest. cond t (button.Seen q ∷ rest) rest) (h q) (seen-kept p h qs)

seen-there : (q : ℕ) (qs : List ℕ) → is_lit (button.Seen q) (map button.Seen qs) ≡ list_any (nat_eq q) qs
seen-there q [] = refl
seen-there q (p ∷ qs) = ap (λ v. nat_eq q p || v) (seen-there q qs)

failures-there : (q : ℕ) (all : List Alarm) → list_any (nat_eq q) (filter_map failure_of all)
    ≡ list_any (is_failure_of q) all
failures-there q [] = refl
failures-there q (alarm.NobodyListens ∷ all) = failures-there q all
failures-there q (alarm.Silent since ∷ all) = failures-there q all
failures-there q (alarm.OtherStore since ∷ all) = failures-there q all
failures-there q (alarm.NotShown since ∷ all) = failures-there q all
failures-there q (alarm.RelayStopped since ∷ all) = failures-there q all
failures-there q (alarm.Unread why ∷ all) = failures-there q all
failures-there q (alarm.Old read ∷ all) = failures-there q all
failures-there q (alarm.ClockPutBack p ∷ all) = failures-there q all
failures-there q (alarm.Failed p ∷ all) = ap (λ v. nat_eq q p || v) (failures-there q all)
failures-there q (alarm.DeviceSilent d ∷ all) = failures-there q all

-- ---- before a copy was read there is none

no_silence : (q : ℕ) (alive nobody : Bool) (asked : Option ℕ)
    → list_any (is_failure_of q) (option_to_list (silence_by alive nobody asked)) ≡ false
no_silence q true nobody asked = refl
no_silence q false true asked = refl
no_silence q false false asked = refl

no_age : (q : ℕ) (young : Bool) (why : Option Trouble) (read : Option ℕ)
    → list_any (is_failure_of q) (option_to_list (old_by young why read)) ≡ false
no_age q true why read = refl
no_age q false None read = refl
no_age q false (Some w) read = refl

none_failed : (q : ℕ) (f : Facts) (back failures : List ℕ) (network : List Contacted) → failures ≡ []
    → list_any (is_failure_of q) (alarms_by f back failures network) ≡ false
none_failed q f back failures network h =
    first_only (is_failure_of q) (option_to_list (silence f)) (option_to_list (doubt f))
    (option_to_list (relay_stopped f)) (option_to_list (old_store f)) (map alarm.ClockPutBack back)
    (map alarm.Failed failures) (map alarm.DeviceSilent (silent_in network)) false
    (no_silence q (is_within STATUS_MS f.at f.asked) f.nobody f.asked)
    (none_doubt (is_failure_of q) (λ s. refl) (λ s. refl) f)
    (none_stopped (is_failure_of q) (λ s. refl) f.stamped f.at)
    (no_age q (is_in_sight f) f.trouble f.read)
    (any_of_none (is_failure_of q) alarm.ClockPutBack (λ x. refl) back)
    (ap (λ qs. list_any (is_failure_of q) (map alarm.Failed qs)) h)
    (any_of_none (is_failure_of q) alarm.DeviceSilent (λ x. refl) (silent_in network))

unread-none : (turns : List Turn) (now wall q : ℕ) → reading_of turns ≡ None
    → list_any (is_failure_of q) (alarms_of turns now wall) ≡ false
unread-none turns now wall q h =
    none_failed q (facts_of turns now) (put_back_in (λ p. seen_since p turns) now wall (live_by (reading_of turns)))
    (numbers_of (failures_shown turns)) (awaited_by (reading_of turns) (network_by (relayed_of turns) now))
    (ap (λ o. numbers_of (shown_failures o (failed_of turns))) h)

-- ---- both

pub seen-lit : (f : Footing) (seen : List Seen) (r : Option Reading) (cues : List (List ℕ)) (all : List Alarm)
    (lit : List Button) → LightsBy f seen r cues all lit → (turns : List Turn) (now wall : ℕ) → r ≡ reading_of turns
    → all ≡ alarms_of turns now wall → (q : ℕ) → is_lit (button.Seen q) lit ≡ list_any (is_failure_of q) all
seen-lit f seen None cues all lit e turns now wall er ea q =
    ap (is_lit (button.Seen q)) e
    ∙ sym (ap (list_any (is_failure_of q)) ea ∙ unread-none turns now wall q (sym er))
seen-lit f seen (Some r) cues all lit e turns now wall er ea q =
    let may = may_in f (since_in seen) r.copy in
    let b = button.Seen q in
    let last = map button.Seen (filter_map failure_of all) in
    ap (is_lit b) e
    ∙ skip may b (keys_of f r.copy) (smaller_of r.copy.state.live cues all) (keys-dark q f r.copy)
    ∙ skip may b (flat_map of_attempt r.copy.state.live) (map button.MoveTo cues ++ last)
    (attempts-dark q r.copy.state.live)
    ∙ skip may b (map button.MoveTo cues) last (dark-map b button.MoveTo (λ x. refl) cues)
    ∙ ap (is_lit b) (seen-kept may (λ p. refl) (filter_map failure_of all))
    ∙ seen-there q (filter_map failure_of all) ∙ failures-there q all
