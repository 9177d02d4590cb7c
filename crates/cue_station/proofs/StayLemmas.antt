-- What is kept of a failure stays until somebody says that it was seen.
use Rattle.std.proofs.Common.{◌≡◌, refl, ap, ap₂, ◌∙◌, sym, ◌≤◌, ℕ, suc, zero, Bool, true, false, not, ◌&&◌, ◌||◌, cond}
use Rattle.std.proofs.Common.{List, [], ◌∷◌, ◌++◌, append-nil, filter, length, take, Some, is_some}
use Rattle.std.proofs.Common.{arith, nat_eq, nat_le}
use Rattle.std.specs.List.{list_any}
use Rattle.cue_show.proofs.TestLemmas.{both, same_number}
use Rattle.cue_view.specs.declared.view.Told.{Told}
use Rattle.cue_station.specs.declared.heard.Heard.{Heard}
use Rattle.cue_station.specs.declared.heard.Heard.TheVariants as heard
use Rattle.cue_station.specs.declared.limits.TheConstants.{KEPT_FAILURES}
use Rattle.cue_station.specs.declared.memory.Reading.{Reading}
use Rattle.cue_station.specs.Alarms.{acknowledged_of, is_acknowledged}
use Rattle.cue_station.specs.Drawing.{failures_shown}
use Rattle.cue_station.specs.Keeping.{failed_after, failed_of, has_number, is_fresh, is_other, knows, shown_failures}
use Rattle.cue_station.specs.Keeping.{stays, told_now, with_kept}
use Rattle.cue_station.specs.Readings.{FailureIsKept}
use Rattle.cue_station.specs.Smaller.{is_failure_of}
use Rattle.cue_station.proofs.SaidLemmas.{any_after, any_before, shown_said}

or_more : (b c d : Bool) → (c ≡ true → d ≡ true) → (b || c) ≡ true → (b || d) ≡ true
or_more true c d h e = refl
or_more false c d h e = h e

or_first : (b c : Bool) → (b || c) ≡ true → c ≡ false → b ≡ true
or_first true c h e = refl
or_first false c h e = sym e ∙ h

-- ---- the first of those that are left

first_one : (test : Told → Bool) (x : Told) (n : ℕ) (xs ys : List Told) (b : Bool)
    → (list_any test xs ≡ true → list_any test (take n ys) ≡ true)
    → (list_any test xs ≡ true → list_any test (take (suc n) ys) ≡ true) → list_any test (cond b (x ∷ xs) xs) ≡ true
    → list_any test (take (suc n) (cond b (x ∷ ys) ys)) ≡ true
first_one test x n xs ys true h k e = or_more (test x) (list_any test xs) (list_any test (take n ys)) h e
first_one test x n xs ys false h k e = k e

first_left : (test p : Told → Bool) (n : ℕ) (xs ys : List Told) → length xs ≤ n → list_any test (filter p xs) ≡ true
    → list_any test (take n (filter p (xs ++ ys))) ≡ true
first_left test p n [] ys h k = absurd (cc)
first_left test p zero (x ∷ xs) ys h k = absurd (omega arith)
first_left test p (suc n) (x ∷ xs) ys h k =
    first_one test x n (filter p xs) (filter p (xs ++ ys)) (p x) (first_left test p n xs ys (omega arith))
    (first_left test p (suc n) xs ys (omega arith)) k

-- ---- what was known is left

known_one : (q : ℕ) (t : Told) (old : Bool) (more : List Told) (keeps : Bool) → (nat_eq q t.seq ≡ true → keeps ≡ true)
    → (old ≡ true → list_any (knows q) more ≡ true) → (b : Bool) → nat_eq q t.seq ≡ b → (knows q t || old) ≡ true
    → list_any (knows q) (cond keeps (t ∷ more) more) ≡ true
known_one q t old more keeps h rest true e k =
    ap (λ v. list_any (knows q) (cond v (t ∷ more) more)) (h e)
    ∙ or_more (knows q t) old (list_any (knows q) more) rest k
known_one q t old more true h rest false e k = or_more (knows q t) old (list_any (knows q) more) rest k
known_one q t old more false h rest false e k = rest (sym (ap (λ v. (v && is_some t.cue) || old) e) ∙ k)

known_left : (q : ℕ) (p : Told → Bool) → ((t : Told) → nat_eq q t.seq ≡ true → p t ≡ true) → (xs : List Told)
    → list_any (knows q) xs ≡ true → list_any (knows q) (filter p xs) ≡ true
known_left q p h [] k = k
known_left q p h (t ∷ xs) k =
    known_one q t (list_any (knows q) xs) (filter p xs) (p t) (h t) (known_left q p h xs) (nat_eq q t.seq) refl k

-- what is known has its number
has_first : (b c x y : Bool) → (x ≡ true → y ≡ true) → ((b && c) || x) ≡ true → (b || y) ≡ true
has_first true c x y h k = refl
has_first false c x y h k = h k

known_has : (q : ℕ) (xs : List Told) → list_any (knows q) xs ≡ true → has_number q xs ≡ true
known_has q [] k = k
known_has q (t ∷ xs) k =
    has_first (nat_eq q t.seq) (is_some t.cue) (list_any (knows q) xs) (has_number q xs) (known_has q xs) k

-- ---- what a copy tells anew of what is kept has its cue

cue_known : (q : ℕ) (seen : List ℕ) (old : List Told) (t : Told) → has_number q old ≡ true
    → is_fresh seen old t ≡ true → nat_eq q t.seq ≡ true → is_some t.cue ≡ true
unfolding is_fresh
cue_known q seen old t h k e =
    or_first (is_some t.cue) (not (has_number t.seq old))
    (both (not (is_acknowledged seen t.seq)) (is_some t.cue || not (has_number t.seq old)) k).1
    (ap (λ n. not (has_number n old)) (sym (same_number q t.seq e)) ∙ ap not h)

told_first : (b c x y : Bool) → (b ≡ true → c ≡ true) → (x ≡ true → y ≡ true) → (b || x) ≡ true
    → ((b && c) || y) ≡ true
told_first true c x y h rest k = ap (λ v. v || y) (h refl)
told_first false c x y h rest k = rest k

told_one : (q : ℕ) (t : Told) (more : List Told) (b : Bool)
    → (b ≡ true → nat_eq q t.seq ≡ true → is_some t.cue ≡ true)
    → (has_number q more ≡ true → list_any (knows q) more ≡ true) → has_number q (cond b (t ∷ more) more) ≡ true
    → list_any (knows q) (cond b (t ∷ more) more) ≡ true
told_one q t more true h rest k =
    told_first (nat_eq q t.seq) (is_some t.cue) (has_number q more) (list_any (knows q) more) (h refl) rest k
told_one q t more false h rest k = rest k

told_known : (q : ℕ) (seen : List ℕ) (old : List Told) → has_number q old ≡ true → (now : List Told)
    → has_number q (filter (is_fresh seen old) now) ≡ true → list_any (knows q) (filter (is_fresh seen old) now) ≡ true
told_known q seen old h [] k = k
told_known q seen old h (t ∷ now) k =
    told_one q t (filter (is_fresh seen old) now) (is_fresh seen old t) (cue_known q seen old t h)
    (told_known q seen old h now) k

-- ---- what is kept stays

stays_true : (q : ℕ) (seen : List ℕ) (r : Reading) (fresh : List Told) (t : Told) → is_acknowledged seen q ≡ false
    → nat_le q r.copy.state.last_seq ≡ true → has_number q fresh ≡ false → nat_eq q t.seq ≡ true
    → stays seen (Some r) fresh t ≡ true
unfolding stays
stays_true q seen r fresh t h l f e =
    ap (λ n. not (is_acknowledged seen n) && (nat_le n r.copy.state.last_seq && not (has_number n fresh)))
    (sym (same_number q t.seq e))
    ∙ ap (λ v. not v && (nat_le q r.copy.state.last_seq && not (has_number q fresh))) h
    ∙ ap₂ (λ v w. v && not w) l f

-- what was kept stands before what was kept elsewhere
kept_apart : (h : Heard) (old : List Told) → (more : List Told) × (with_kept h old ≡ old ++ more)
kept_apart (heard.Kept k) old = (filter (is_other old) k.failed.items, refl)
kept_apart h old = ([], sym (append-nil old))

stays_by : (q : ℕ) (seen : List ℕ) (r : Reading) (old more all : List Told) → all ≡ old ++ more
    → list_any (knows q) old ≡ true → length old ≤ KEPT_FAILURES → nat_le q r.copy.state.last_seq ≡ true
    → is_acknowledged seen q ≡ false → (b : Bool) → has_number q (filter (is_fresh seen all) (told_now r.copy)) ≡ b
    → list_any (knows q) (failed_after seen (Some r) all) ≡ true
stays_by q seen r old more all e known few older h true told =
    let fresh = filter (is_fresh seen all) (told_now r.copy) in
    any_before (knows q) fresh (take KEPT_FAILURES (filter (stays seen (Some r) fresh) all))
    (told_known q seen all
    (ap (has_number q) e ∙ any_before (λ (t : Told). nat_eq q t.seq) old more (known_has q old known))
    (told_now r.copy) told)
stays_by q seen r old more all e known few older h false told =
    let fresh = filter (is_fresh seen all) (told_now r.copy) in
    let p = stays seen (Some r) fresh in
    any_after (knows q) fresh (take KEPT_FAILURES (filter p all))
    (ap (λ l. list_any (knows q) (take KEPT_FAILURES (filter p l))) e
    ∙ first_left (knows q) p KEPT_FAILURES old more few
    (known_left q p (λ t k. stays_true q seen r fresh t h older told k) old known))

pub failure_kept : FailureIsKept
failure_kept t past r q keeps read known few older fresh =
    let turns = t ∷ past in
    let seen = acknowledged_of turns in
    let all = with_kept t.input.heard (failed_of past) in
    let apart = kept_apart t.input.heard (failed_of past) in
    let shown : list_any (knows q) (failures_shown turns) ≡ true =
    ap (λ o. list_any (knows q) (shown_failures o (failed_after seen o all))) read
    ∙ stays_by q seen r (failed_of past) apart.0 all apart.1 known few older fresh
    (has_number q (filter (is_fresh seen all) (told_now r.copy))) refl in (
      ap (list_any (knows q)) keeps.failed ∙ shown,
      ap (list_any (is_failure_of q)) keeps.alarm
          ∙ shown_said turns t.input.at t.input.wall q (known_has q (failures_shown turns) shown),
    )
