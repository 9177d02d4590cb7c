-- What is pressed at a panel, over all that happens.
use Rattle.std.proofs.Common.{◌≡◌, ◌∙◌, refl, ap, inl, inr, arith, ℕ, ◌+◌, ◌-◌, ◌<◌, ◌≤◌, ◌^◌, ◌⊎◌, Bool}
use Rattle.std.proofs.Common.{true, false, not, ◌&&◌, if◌then◌else◌, min, List, [], ◌∷◌, ◌++◌, length, Option, None, Some}
use Rattle.std.proofs.Common.{nat_le, nat_lt}
use Rattle.std.proofs.lemmas.Bool.Decides.{nat_tests}
use Rattle.std.proofs.lemmas.List.{length-append}
use Rattle.cue_midi.specs.declared.heard.Heard.{Heard}
use Rattle.cue_midi.specs.declared.heard.Heard.TheVariants as midi
use Rattle.cue_panel.specs.Dropped.{after, with_waited}
use Rattle.cue_panel.specs.Laws.{AreUnsettled, AtMostOneEach, EachOfAMessage, Happening, IsAmong, IsMeant, IsOfMessage}
use Rattle.cue_panel.specs.Laws.{IsUnsettled, StrikeIsMeant, TriesApart, WaitedIsCounted, WaitedPressesNothing, begins}
use Rattle.cue_panel.specs.Laws.{empties, hand_by, hand_then, hears, intent_in, is_opened, listed, message_in, messages}
use Rattle.cue_panel.specs.Laws.{pressed, pressed_by, spoken_intent, undoes}
use Rattle.cue_panel.specs.Listening.{at, opens}
use Rattle.cue_panel.specs.Taking.{counted_if, hand_of, hand_of_show, is_first, is_key}
use Rattle.cue_panel.specs.Taking.{passed_of, show_taken, strike_of, struck_or, taken_of, unmeant, unstruck}
use Rattle.cue_panel.specs.declared.dropped.Dropped.{Dropped}
use Rattle.cue_panel.specs.declared.listening.TheConstants.{AGAIN_MS}
use Rattle.cue_panel.specs.declared.player.Setting.{Setting}
use Rattle.cue_panel.specs.declared.taking.Source.{Source}
use Rattle.cue_panel.specs.declared.taking.Source.TheVariants as source
use Rattle.cue_panel.specs.declared.taking.Strike.{Strike}
use Rattle.cue_panel.specs.declared.taking.Taken.{Taken}
use Rattle.cue_panel.specs.declared.taking.Taken.TheVariants as taken
use Rattle.cue_presses.proofs.HandLemmas.{pressed-is_meant}
use Rattle.cue_presses.specs.declared.address.Spoken.{Spoken}
use Rattle.cue_presses.specs.declared.address.Spoken.TheVariants as spoken
use Rattle.cue_presses.specs.declared.hand.Hand.{Hand}
use Rattle.cue_presses.specs.declared.hand.Struck.{Struck}
use Rattle.cue_presses.specs.declared.hand.Struck.TheVariants as struck
use Rattle.cue_presses.specs.declared.intent.Intent.{Intent}
use Rattle.cue_presses.specs.declared.keys.Keys.{Keys}
use Rattle.cue_presses.specs.declared.pressing.Press.{Press}
use Rattle.cue_presses.specs.declared.settling.Settling.{Settling}
use Rattle.cue_presses.specs.declared.settling.TheConstants.{AWAY_MS, SETTLE_MS}
use Rattle.cue_presses.specs.declared.tally.Passed.{Passed}
use Rattle.cue_presses.specs.Address.{spoken_to}
use Rattle.cue_presses.specs.Hand.{after as moved, comes_of, counted, has_room, meant_by, opened_at}
use Rattle.cue_presses.specs.Keys.{intent_of}
use Rattle.cue_presses.specs.Meaning.{meaning}
use Rattle.cue_presses.specs.Settling.{is_over, opened, read}
use Rattle.cue_presses.specs.Taps.{is_second_tap}
use Rattle.cue_view.specs.declared.view.View.{View}

-- ---- each press is of a message

among-more : (x z : Strike) (zs ys : List Strike) → IsAmong x zs ⊎ IsAmong x ys → IsAmong x (z ∷ zs) ⊎ IsAmong x ys
among-more x z zs ys (inl b) = inl (inr b)
among-more x z zs ys (inr b) = inr b

among-both : (x : Strike) (xs ys : List Strike) → IsAmong x (xs ++ ys) → IsAmong x xs ⊎ IsAmong x ys
among-both x [] ys a = inr a
among-both x (z ∷ zs) ys (inl e) = inl (inl e)
among-both x (z ∷ zs) ys (inr a) = among-more x z zs ys (among-both x zs ys a)

among-listed : (o : Option Strike) (x : Strike) → IsAmong x (listed o) → o ≡ Some x
among-listed None x a = absurd a
among-listed (Some y) x (inl e) = ap (λ (z : Strike). Some z) e
among-listed (Some y) x (inr a) = absurd a

-- it is of the first thing that happens
first-of : (s : Setting) (h : Hand) (y : Happening) (ys : List Happening) (x : Strike) → IsAmong x (pressed_by s h y)
    → IsOfMessage s h (y ∷ ys) x
first-of s h (hears m v o w) ys x a =
    record {
      before = [];
      message = m;
      shown = v;
      came = o;
      shown_then = w;
      more = ys;
      splits = refl;
      means = among-listed (strike_of (taken_of s h v m)) x a;
    }
first-of s h (is_opened now) ys x a = absurd a
first-of s h (begins now) ys x a = absurd a
first-of s h empties ys x a = absurd a
first-of s h (undoes passed) ys x a = absurd a

-- or of a later one
later-of : (s : Setting) (h : Hand) (y : Happening) (ys : List Happening) (x : Strike)
    → IsOfMessage s (hand_then s h y) ys x → IsOfMessage s h (y ∷ ys) x
later-of s h y ys x r =
    record {
      before = y ∷ r.before;
      message = r.message;
      shown = r.shown;
      came = r.came;
      shown_then = r.shown_then;
      more = r.more;
      splits = ap (λ (zs : List Happening). y ∷ zs) r.splits;
      means = r.means;
    }

of-either : (s : Setting) (h : Hand) (y : Happening) (ys : List Happening) (x : Strike)
    → (IsAmong x (pressed s (hand_then s h y) ys) → IsOfMessage s (hand_then s h y) ys x)
    → IsAmong x (pressed_by s h y) ⊎ IsAmong x (pressed s (hand_then s h y) ys) → IsOfMessage s h (y ∷ ys) x
of-either s h y ys x later (inl b) = first-of s h y ys x b
of-either s h y ys x later (inr b) = later-of s h y ys x (later b)

pub each-of_message : EachOfAMessage
each-of_message s h [] x a = absurd a
each-of_message s h (y ∷ ys) x a =
    of-either s h y ys x (each-of_message s (hand_then s h y) ys x)
    (among-both x (pressed_by s h y) (pressed s (hand_then s h y) ys) a)

-- ---- at most one each

one-listed : (o : Option Strike) → length (listed o) ≤ 1
one-listed None = omega arith
one-listed (Some x) = omega arith

one-each : (s : Setting) (h : Hand) (y : Happening) → length (pressed_by s h y) ≤ message_in y
one-each s h (hears m v o w) = one-listed (strike_of (taken_of s h v m))
one-each s h (is_opened now) = omega arith
one-each s h (begins now) = omega arith
one-each s h empties = omega arith
one-each s h (undoes passed) = omega arith

sum-most : (a b c d n : ℕ) → n ≡ a + b → a ≤ c → b ≤ d → n ≤ c + d
sum-most a b c d n e p q = omega arith

pub at-most_one_each : AtMostOneEach
at-most_one_each s h [] = omega arith
at-most_one_each s h (y ∷ ys) =
    sum-most (length (pressed_by s h y)) (length (pressed s (hand_then s h y) ys)) (message_in y) (messages ys)
    (length (pressed_by s h y ++ pressed s (hand_then s h y) ys))
    (length-append (pressed_by s h y) (pressed s (hand_then s h y) ys)) (one-each s h y)
    (at-most_one_each s (hand_then s h y) ys)

-- ---- what is meant

abbrev press_in : Option Strike → Option Press
press_in (Some x) = Some x.press
press_in None = None

-- what is pressed of what was struck
struck-presses : (t : Struck) (f : Source) (i : Intent) (x : Strike) → strike_of (taken.Struck f i t) ≡ Some x
    → t ≡ struck.Presses x.press
struck-presses (struck.Presses p) f i x e = let q : Some p ≡ Some x.press = ap press_in e in cc
struck-presses (struck.Refused w) f i x e = cc
struck-presses struck.Waited f i x e = cc
struck-presses struck.Flooded f i x e = cc
struck-presses struck.Tap f i x e = cc

unmeant-none : (sp : Spoken) (h : Hand) → strike_of (unmeant sp h) ≡ None
unmeant-none sp h = by (has_room h)
  where
    by : (t : Bool) → strike_of (if t then taken.Spoken sp else taken.Flooded) ≡ None
    by true = refl
    by false = refl

unstruck-none : (a b : Bool) (p : Passed) → strike_of (unstruck a b p) ≡ None
unstruck-none true b p = refl
unstruck-none false true p = refl
unstruck-none false false p = refl

none-some : (o : Option Strike) (x : Strike) → o ≡ None → o ≡ Some x → ⊥
none-some None x a b = cc
none-some (Some y) x a b = cc

show-meant : (s : Setting) (h : Hand) (v : View) (m : Heard) (x : Strike) (sp : Spoken)
    → intent_in s h m ≡ spoken_intent sp → strike_of (show_taken sp h v) ≡ Some x → IsMeant s h v m x
show-meant s h v m x (spoken.Intent i) q e =
    record {
      intent = i;
      intends = q;
      meant = pressed-is_meant h v i x.press (struck-presses (comes_of h v i) source.Show i x e);
    }
show-meant s h v m x spoken.Elsewhere q e = absurd (none-some None x refl e)
show-meant s h v m x (spoken.OtherCommand n) q e =
    absurd (none-some (strike_of (unmeant (spoken.OtherCommand n) h)) x (unmeant-none (spoken.OtherCommand n) h) e)
show-meant s h v m x spoken.NoCue q e =
    absurd (none-some (strike_of (unmeant spoken.NoCue h)) x (unmeant-none spoken.NoCue h) e)
show-meant s h v m x spoken.OtherList q e =
    absurd (none-some (strike_of (unmeant spoken.OtherList h)) x (unmeant-none spoken.OtherList h) e)
show-meant s h v m x spoken.Unfit q e =
    absurd (none-some (strike_of (unmeant spoken.Unfit h)) x (unmeant-none spoken.Unfit h) e)

key-meant : (s : Setting) (h : Hand) (v : View) (m : Heard) (x : Strike) (o : Option Intent) (f : Source) (a b : Bool)
    (p : Passed) → intent_in s h m ≡ o → strike_of (struck_or o f h v (unstruck a b p)) ≡ Some x → IsMeant s h v m x
key-meant s h v m x (Some i) f a b p q e =
    record {
      intent = i;
      intends = q;
      meant = pressed-is_meant h v i x.press (struck-presses (comes_of h v i) f i x e);
    }
key-meant s h v m x None f a b p q e = absurd (none-some (strike_of (unstruck a b p)) x (unstruck-none a b p) e)

pub strike-is_meant : StrikeIsMeant
strike-is_meant s h v (midi.Show show) x e =
    show-meant s h v (midi.Show show) x (spoken_to s.address show) refl e
strike-is_meant s h v (midi.NoteOn c n w) x e =
    let m : Heard = midi.NoteOn c n w in
    key-meant s h v m x (intent_of s.keys h.pedals m) (source.Key (passed_of m)) (is_first s.keys h m)
    (is_key s.keys m) (passed_of m) refl e
strike-is_meant s h v (midi.Controller c n w) x e =
    let m : Heard = midi.Controller c n w in
    key-meant s h v m x (intent_of s.keys h.pedals m) (source.Key (passed_of m)) (is_first s.keys h m)
    (is_key s.keys m) (passed_of m) refl e
strike-is_meant s h v (midi.Ignored k) x e =
    let m : Heard = midi.Ignored k in
    key-meant s h v m x (intent_of s.keys h.pedals m) (source.Key (passed_of m)) (is_first s.keys h m)
    (is_key s.keys m) (passed_of m) refl e

-- ---- what waited

-- what somebody intends has waited
waits-for : (h : Hand) (v : View) (i : Intent) → is_over h.settling ≡ false → comes_of h v i ≡ struck.Waited
waits-for h v i e =
    ap (λ (t : Bool). if not t then struck.Waited
    else if not (has_room h) then struck.Flooded
    else if is_second_tap i h.last_go h.at then struck.Tap else meant_by (meaning v h.passed i)) e

none-struck : (f : Source) (i : Intent) (t : Struck) → t ≡ struck.Waited → strike_of (taken.Struck f i t) ≡ None
none-struck f i t e = ap (λ (u : Struck). strike_of (taken.Struck f i u)) e

none-key : (h : Hand) (v : View) (o : Option Intent) (f : Source) (a b : Bool) (p : Passed) → is_over h.settling ≡ false
    → strike_of (struck_or o f h v (unstruck a b p)) ≡ None
none-key h v (Some i) f a b p e = none-struck f i (comes_of h v i) (waits-for h v i e)
none-key h v None f a b p e = unstruck-none a b p

none-show : (h : Hand) (v : View) (sp : Spoken) → is_over h.settling ≡ false → strike_of (show_taken sp h v) ≡ None
none-show h v (spoken.Intent i) e = none-struck source.Show i (comes_of h v i) (waits-for h v i e)
none-show h v spoken.Elsewhere e = refl
none-show h v (spoken.OtherCommand n) e = unmeant-none (spoken.OtherCommand n) h
none-show h v spoken.NoCue e = unmeant-none spoken.NoCue h
none-show h v spoken.OtherList e = unmeant-none spoken.OtherList h
none-show h v spoken.Unfit e = unmeant-none spoken.Unfit h

-- no message presses
none-taken : (s : Setting) (h : Hand) (v : View) (m : Heard) → is_over h.settling ≡ false
    → strike_of (taken_of s h v m) ≡ None
none-taken s h v (midi.Show show) e = none-show h v (spoken_to s.address show) e
none-taken s h v (midi.NoteOn c n w) e =
    let m : Heard = midi.NoteOn c n w in
    none-key h v (intent_of s.keys h.pedals m) (source.Key (passed_of m)) (is_first s.keys h m) (is_key s.keys m)
    (passed_of m) e
none-taken s h v (midi.Controller c n w) e =
    let m : Heard = midi.Controller c n w in
    none-key h v (intent_of s.keys h.pedals m) (source.Key (passed_of m)) (is_first s.keys h m) (is_key s.keys m)
    (passed_of m) e
none-taken s h v (midi.Ignored k) e =
    let m : Heard = midi.Ignored k in
    none-key h v (intent_of s.keys h.pedals m) (source.Key (passed_of m)) (is_first s.keys h m) (is_key s.keys m)
    (passed_of m) e

-- nor does one settle
counted-settles : (h : Hand) → (counted h).settling ≡ h.settling
counted-settles h = by (is_over h.settling && has_room h)
  where
    by : (t : Bool) → (if t then record h { count = h.count + 1 } else h).settling ≡ h.settling
    by true = refl
    by false = refl

key-settles : (k : Keys) (h : Hand) (m : Heard) (o : Option Intent) → (counted_if o (moved k m h)).settling ≡ h.settling
key-settles k h m (Some i) = counted-settles (moved k m h)
key-settles k h m None = refl

show-settles : (h : Hand) (sp : Spoken) → (hand_of_show sp h).settling ≡ h.settling
show-settles h (spoken.Intent i) = counted-settles h
show-settles h spoken.Elsewhere = refl
show-settles h (spoken.OtherCommand n) = counted-settles h
show-settles h spoken.NoCue = counted-settles h
show-settles h spoken.OtherList = counted-settles h
show-settles h spoken.Unfit = counted-settles h

message-settles : (s : Setting) (h : Hand) (m : Heard) → (hand_of s h m).settling ≡ h.settling
message-settles s h (midi.Show show) = show-settles h (spoken_to s.address show)
message-settles s h (midi.NoteOn c n w) =
    key-settles s.keys h (midi.NoteOn c n w) (intent_of s.keys h.pedals (midi.NoteOn c n w))
message-settles s h (midi.Controller c n w) =
    key-settles s.keys h (midi.Controller c n w) (intent_of s.keys h.pedals (midi.Controller c n w))
message-settles s h (midi.Ignored k) =
    key-settles s.keys h (midi.Ignored k) (intent_of s.keys h.pedals (midi.Ignored k))

opened-settles : (now : ℕ) → now < 2 ^ 64 - 1 → is_over (opened now) ≡ false
opened-settles now high = by (nat_le (min (now + SETTLE_MS) (2 ^ 64 - 1)) now) refl
  where
    by : (t : Bool) → nat_le (min (now + SETTLE_MS) (2 ^ 64 - 1)) now ≡ t → t ≡ false
    by true h = absurd (grind (arith, nat_tests, h, high))
    by false h = refl

read-settles : (s : Settling) (now : ℕ) → now < 2 ^ 64 - 1 → is_over s ≡ false → is_over (read s now) ≡ false
read-settles s now high e = by (nat_lt AWAY_MS (now - s.empty))
  where
    by : (t : Bool) → is_over (if t then opened now else s) ≡ false
    by true = opened-settles now high
    by false = e

stays-unsettled : (s : Setting) (h : Hand) (y : Happening) → IsUnsettled y → is_over h.settling ≡ false
    → is_over (hand_then s h y).settling ≡ false
stays-unsettled s h (is_opened now) u e = opened-settles now u
stays-unsettled s h (begins now) u e = read-settles h.settling now u e
stays-unsettled s h empties u e = absurd u
stays-unsettled s h (hears m v o w) u e =
    ap (λ (x : Option Strike). is_over (hand_by x o w (hand_of s h m)).settling) (none-taken s h v m e)
    ∙ ap (λ (x : Settling). is_over x) (message-settles s h m) ∙ e
stays-unsettled s h (undoes passed) u e = e

none-by : (s : Setting) (h : Hand) (y : Happening) → is_over h.settling ≡ false → pressed_by s h y ≡ []
none-by s h (hears m v o w) e = ap (λ (x : Option Strike). listed x) (none-taken s h v m e)
none-by s h (is_opened now) e = refl
none-by s h (begins now) e = refl
none-by s h empties e = refl
none-by s h (undoes passed) e = refl

none-pressed : (s : Setting) (h : Hand) (xs : List Happening) → is_over h.settling ≡ false → AreUnsettled xs
    → pressed s h xs ≡ []
none-pressed s h [] e all = refl
none-pressed s h (y ∷ ys) e all =
    ap (λ (l : List Strike). l ++ pressed s (hand_then s h y) ys) (none-by s h y e)
    ∙ none-pressed s (hand_then s h y) ys (stays-unsettled s h y all.0 e) all.1

pub waited-presses_nothing : WaitedPressesNothing
waited-presses_nothing s h now xs high all = none-pressed s (opened_at now h) xs (opened-settles now high) all

counted-struck : (d : Dropped) (f : Source) (i : Intent) (t : Struck) → t ≡ struck.Waited
    → after (taken.Struck f i t) d ≡ with_waited d
counted-struck d f i t e = ap (λ (u : Struck). after (taken.Struck f i u) d) e

counted-key : (h : Hand) (v : View) (d : Dropped) (i : Intent) (o : Option Intent) (f : Source) (other : Taken)
    → is_over h.settling ≡ false → o ≡ Some i → after (struck_or o f h v other) d ≡ with_waited d
counted-key h v d i (Some j) f other e q = counted-struck d f j (comes_of h v j) (waits-for h v j e)
counted-key h v d i None f other e q = cc

counted-show : (h : Hand) (v : View) (d : Dropped) (i : Intent) (sp : Spoken) → is_over h.settling ≡ false
    → spoken_intent sp ≡ Some i → after (show_taken sp h v) d ≡ with_waited d
counted-show h v d i (spoken.Intent j) e q = counted-struck d source.Show j (comes_of h v j) (waits-for h v j e)
counted-show h v d i spoken.Elsewhere e q = cc
counted-show h v d i (spoken.OtherCommand n) e q = cc
counted-show h v d i spoken.NoCue e q = cc
counted-show h v d i spoken.OtherList e q = cc
counted-show h v d i spoken.Unfit e q = cc

pub waited-is_counted : WaitedIsCounted
waited-is_counted s h v (midi.Show show) i d e q = counted-show h v d i (spoken_to s.address show) e q
waited-is_counted s h v (midi.NoteOn c n w) i d e q =
    let m : Heard = midi.NoteOn c n w in
    counted-key h v d i (intent_of s.keys h.pedals m) (source.Key (passed_of m))
    (unstruck (is_first s.keys h m) (is_key s.keys m) (passed_of m)) e q
waited-is_counted s h v (midi.Controller c n w) i d e q =
    let m : Heard = midi.Controller c n w in
    counted-key h v d i (intent_of s.keys h.pedals m) (source.Key (passed_of m))
    (unstruck (is_first s.keys h m) (is_key s.keys m) (passed_of m)) e q
waited-is_counted s h v (midi.Ignored k) i d e q =
    let m : Heard = midi.Ignored k in
    counted-key h v d i (intent_of s.keys h.pedals m) (source.Key (passed_of m))
    (unstruck (is_first s.keys h m) (is_key s.keys m) (passed_of m)) e q

-- ---- a device

soon-not_due : (now later : ℕ) → later < now + 1000 → nat_le AGAIN_MS (later - now) ≡ false
soon-not_due now later soon = by (nat_le AGAIN_MS (later - now)) refl
  where
    by : (t : Bool) → nat_le AGAIN_MS (later - now) ≡ t → t ≡ false
    by true h = absurd (grind (arith, nat_tests, h, soon))
    by false h = refl

pub tries-apart : TriesApart
tries-apart l now later e soon =
    ap (λ (t : Bool). opens (if t then record l { tries = at now } else l) false later) e
    ∙ soon-not_due now later soon
