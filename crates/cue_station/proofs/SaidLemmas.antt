-- A failure of a live attempt has its alarm at once.
use Rattle.std.proofs.Common.{◌≡◌, refl, ap, ◌∙◌, sym, ℕ, Bool, true, false, not, ◌&&◌, ◌||◌, cond, List, [], ◌∷◌, ◌++◌}
use Rattle.std.proofs.Common.{Some, filter, map, nat_eq, take}
use Rattle.std.specs.List.{flat_map, list_any}
use Rattle.std.specs.Option.{option_to_list}
use Rattle.std.proofs.lemmas.List.Elements.{filter-append}
use Rattle.std.proofs.lemmas.List.Folds.{list_any-append}
use Rattle.cue_show.proofs.TestLemmas.{same_number}
use Rattle.cue_view.specs.declared.view.Alarm.TheVariants as alarm
use Rattle.cue_view.specs.declared.view.Contacted.{Contacted}
use Rattle.cue_exchange.specs.declared.attempt.Attempt.{Attempt}
use Rattle.cue_view.specs.declared.view.Told.{Told}
use Rattle.cue_station.specs.declared.alarms.Facts.{Facts}
use Rattle.cue_station.specs.declared.limits.TheConstants.{KEPT_FAILURES}
use Rattle.cue_station.specs.declared.memory.Reading.{Reading}
use Rattle.cue_station.specs.Turns.{Turn}
use Rattle.cue_station.specs.Alarms.{acknowledged_of, alarms_by, doubt, is_acknowledged, old_store, put_back_in}
use Rattle.cue_station.specs.Alarms.{awaited_by, relay_stopped, silence, silent_in}
use Rattle.cue_station.specs.Drawing.{alarms_of, facts_of, failures_shown, live_by}
use Rattle.cue_station.specs.Faults.{failing_in, is_failing}
use Rattle.cue_station.specs.Keeping.{failed_after, failed_of, has_number, is_fresh, numbers_of, shown_failures, stays}
use Rattle.cue_station.specs.Keeping.{told_ended, told_if_failing, told_live, told_now, with_kept}
use Rattle.cue_station.specs.Network.{network_by, relayed_of}
use Rattle.cue_station.specs.Reading.{reading_of, seen_since}
use Rattle.cue_station.specs.Readings.{FailingIsSaid}
use Rattle.cue_station.specs.Smaller.{is_failure_of}

or_true : (b : Bool) → (b || true) ≡ true
or_true true = refl
or_true false = refl

pub any_after : {A : Type 0} (p : A → Bool) (xs ys : List A) → list_any p ys ≡ true → list_any p (xs ++ ys) ≡ true
any_after p xs ys h = list_any-append p xs ys ∙ ap (λ v. list_any p xs || v) h ∙ or_true (list_any p xs)

pub any_before : {A : Type 0} (p : A → Bool) (xs ys : List A) → list_any p xs ≡ true → list_any p (xs ++ ys) ≡ true
any_before p xs ys h = list_any-append p xs ys ∙ ap (λ v. v || list_any p ys) h

-- ---- what nobody has seen is kept

-- what keeps each with the number q keeps the first
pub one_kept : (q : ℕ) (t : Told) (more : List Told) (keeps : Bool) → (nat_eq q t.seq ≡ true → keeps ≡ true) → (b : Bool)
    → nat_eq q t.seq ≡ b → (b ≡ false → has_number q more ≡ true)
    → has_number q (cond keeps (t ∷ more) more) ≡ true
one_kept q t more keeps k true e rest =
    ap (λ v. has_number q (cond v (t ∷ more) more)) (k e) ∙ ap (λ v. v || has_number q more) e
one_kept q t more true k false e rest = ap (λ v. v || has_number q more) e ∙ rest refl
one_kept q t more false k false e rest = rest refl

fresh_live : (seen : List ℕ) (kept : List Told) (a : Attempt) (q : ℕ) → is_acknowledged seen q ≡ false
    → nat_eq q a.seq ≡ true → is_fresh seen kept (told_live a) ≡ true
unfolding is_fresh
fresh_live seen kept a q h e =
    ap (λ n. not (is_acknowledged seen n) && (true || not (has_number a.seq kept))) (sym (same_number q a.seq e))
    ∙ ap (λ v. not v && (true || not (has_number a.seq kept))) h

live_one : (seen : List ℕ) (kept : List Told) (q : ℕ) → is_acknowledged seen q ≡ false → (a : Attempt)
    (xs : List Attempt) (ys : List Told) → (list_any (nat_eq q) (map (λ (x : Attempt). x.seq) xs) ≡ true
    → has_number q (filter (is_fresh seen kept) ys) ≡ true) → (b : Bool)
    → list_any (nat_eq q) (map (λ (x : Attempt). x.seq) (cond b (a ∷ xs) xs)) ≡ true
    → has_number q (filter (is_fresh seen kept) (cond b (told_live a ∷ []) [] ++ ys)) ≡ true
live_one seen kept q h a xs ys more true k =
    one_kept q (told_live a) (filter (is_fresh seen kept) ys) (is_fresh seen kept (told_live a))
    (fresh_live seen kept a q h) (nat_eq q a.seq) refl
    (λ e. more (sym (ap (λ v. v || list_any (nat_eq q) (map (λ (x : Attempt). x.seq) xs)) e) ∙ k))
live_one seen kept q h a xs ys more false k = more k

live_kept : (seen : List ℕ) (kept : List Told) (q : ℕ) → is_acknowledged seen q ≡ false → (live : List Attempt)
    → list_any (nat_eq q) (failing_in live) ≡ true
    → has_number q (filter (is_fresh seen kept) (flat_map told_if_failing live)) ≡ true
live_kept seen kept q h [] k = k
live_kept seen kept q h (a ∷ live) k =
    live_one seen kept q h a (filter is_failing live) (flat_map told_if_failing live) (live_kept seen kept q h live)
    (is_failing a) k

-- a failure of a live attempt is kept
now_kept : (seen : List ℕ) (r : Reading) (old : List Told) (q : ℕ) → is_acknowledged seen q ≡ false
    → list_any (nat_eq q) (failing_in r.copy.state.live) ≡ true → has_number q (failed_after seen (Some r) old) ≡ true
now_kept seen r old q h k =
    let live = flat_map told_if_failing r.copy.state.live in
    let fresh = filter (is_fresh seen old) (told_now r.copy) in
    any_before (λ (t : Told). nat_eq q t.seq) fresh (take KEPT_FAILURES (filter (stays seen (Some r) fresh) old))
    (ap (has_number q) (filter-append (is_fresh seen old) live (told_ended r.copy))
    ∙ any_before (λ (t : Told). nat_eq q t.seq) (filter (is_fresh seen old) live)
    (filter (is_fresh seen old) (told_ended r.copy)) (live_kept seen old q h r.copy.state.live k))

-- ---- and has its alarm

numbered : (q : ℕ) (all : List Told) → list_any (nat_eq q) (numbers_of all) ≡ has_number q all
numbered q [] = refl
numbered q (t ∷ all) = ap (λ v. nat_eq q t.seq || v) (numbered q all)

called : (q : ℕ) (qs : List ℕ) → list_any (is_failure_of q) (map alarm.Failed qs) ≡ list_any (nat_eq q) qs
called q [] = refl
called q (p ∷ qs) = ap (λ v. nat_eq q p || v) (called q qs)

failure_said : (f : Facts) (back failures : List ℕ) (network : List Contacted) (q : ℕ)
    → list_any (nat_eq q) failures ≡ true → list_any (is_failure_of q) (alarms_by f back failures network) ≡ true
failure_said f back failures network q there =
    let p = is_failure_of q in
    let silent = map alarm.DeviceSilent (silent_in network) in
    let failed = map alarm.Failed failures in
    let clocks = map alarm.ClockPutBack back in
    let old = option_to_list (old_store f) in
    let stopped = option_to_list (relay_stopped f) in
    let other = option_to_list (doubt f) in
    any_after p (option_to_list (silence f)) (other ++ (stopped ++ (old ++ (clocks ++ (failed ++ silent)))))
    (any_after p other (stopped ++ (old ++ (clocks ++ (failed ++ silent))))
    (any_after p stopped (old ++ (clocks ++ (failed ++ silent)))
    (any_after p old (clocks ++ (failed ++ silent))
    (any_after p clocks (failed ++ silent)
    (any_before p failed silent (called q failures ∙ there))))))

-- what is shown of what went wrong has its alarm
pub shown_said : (turns : List Turn) (now wall q : ℕ) → has_number q (failures_shown turns) ≡ true
    → list_any (is_failure_of q) (alarms_of turns now wall) ≡ true
shown_said turns now wall q h =
    failure_said (facts_of turns now) (put_back_in (λ n. seen_since n turns) now wall (live_by (reading_of turns)))
    (numbers_of (failures_shown turns)) (awaited_by (reading_of turns) (network_by (relayed_of turns) now)) q
    (numbered q (failures_shown turns) ∙ h)

pub failing_said : FailingIsSaid
failing_said t past r q keeps read there fresh =
    let turns = t ∷ past in
    let seen = acknowledged_of turns in
    let old = with_kept t.input.heard (failed_of past) in
    ap (list_any (is_failure_of q)) keeps.alarm
    ∙ shown_said turns t.input.at t.input.wall q
    (ap (λ o. has_number q (shown_failures o (failed_after seen o old))) read ∙ now_kept seen r old q fresh there)
