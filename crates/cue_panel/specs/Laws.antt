-- The laws of a panel, over all lists of what happens at it.
use Rattle.std.specs.Prelude.{◌≡◌, ◌⊎◌, ◌<◌, ◌≤◌, ℕ, ◌+◌, ◌-◌, ◌^◌, true, false, List, [], ◌∷◌, ◌++◌, length, ⊤}
use Rattle.std.specs.Prelude.{Option, None, Some}
use Rattle.cue_midi.specs.declared.heard.Heard.{Heard}
use Rattle.cue_midi.specs.declared.heard.Heard.TheVariants as midi
use Rattle.cue_panel.specs.Dropped.{after, with_waited}
use Rattle.cue_panel.specs.Listening.{after_try, opens}
use Rattle.cue_panel.specs.Outcomes.{hand_after}
use Rattle.cue_panel.specs.Taking.{hand_of, strike_of, taken_of}
use Rattle.cue_panel.specs.declared.dropped.Dropped.{Dropped}
use Rattle.cue_panel.specs.declared.listening.Listening.{Listening}
use Rattle.cue_panel.specs.declared.outcome.Outcome.{Outcome}
use Rattle.cue_panel.specs.declared.player.Setting.{Setting}
use Rattle.cue_panel.specs.declared.taking.Strike.{Strike}
use Rattle.cue_presses.specs.declared.address.Spoken.{Spoken}
use Rattle.cue_presses.specs.declared.address.Spoken.TheVariants as spoken
use Rattle.cue_presses.specs.declared.hand.Hand.{Hand}
use Rattle.cue_presses.specs.declared.intent.Intent.{Intent}
use Rattle.cue_presses.specs.Address.{spoken_to}
use Rattle.cue_presses.specs.Hand.{Meant, begun, emptied, opened_at}
use Rattle.cue_presses.specs.Keys.{intent_of}
use Rattle.cue_presses.specs.Settling.{is_over}
use Rattle.cue_view.specs.declared.view.View.{View}

-- ---- what happens

-- what happens at a panel
pub data Happening : Type 0 where
  -- a device is opened at this moment
  is_opened : (now : ℕ) → Happening
  -- a round begins at this moment
  begins : (now : ℕ) → Happening
  -- a reading finds nothing
  empties : Happening
  -- A message is heard while a view is shown. If it presses, this comes of it, with that view after it.
  hears : (message : Heard) (shown : View) (came : Outcome) (shown_then : View) → Happening
  -- what was passed before a press counts again
  undoes : (passed : Option ℕ) → Happening

-- the hand once this came of what was to be pressed
abbrev pub hand_by : Option Strike → Outcome → View → Hand → Hand
hand_by (Some x) o v h = hand_after x.press o v h
hand_by None o v h = h

-- the hand after it
abbrev pub hand_then : Setting → Hand → Happening → Hand
hand_then s h (is_opened now) = opened_at now h
hand_then s h (begins now) = begun now h
hand_then s h empties = emptied h
hand_then s h (hears m v o v_then) = hand_by (strike_of (taken_of s h v m)) o v_then (hand_of s h m)
hand_then s h (undoes passed) = record h { passed = passed }

-- and after all of these
abbrev pub hand_at : Setting → Hand → List Happening → Hand
hand_at s h [] = h
hand_at s h (x ∷ xs) = hand_at s (hand_then s h x) xs

-- ---- what is pressed

abbrev pub listed : Option Strike → List Strike
listed (Some x) = x ∷ []
listed None = []

abbrev pub pressed_by : Setting → Hand → Happening → List Strike
pressed_by s h (hears m v o v_then) = listed (strike_of (taken_of s h v m))
pressed_by s h (is_opened now) = []
pressed_by s h (begins now) = []
pressed_by s h empties = []
pressed_by s h (undoes passed) = []

-- all that is pressed, in order
abbrev pub pressed : Setting → Hand → List Happening → List Strike
pressed s h [] = []
pressed s h (x ∷ xs) = pressed_by s h x ++ pressed s (hand_then s h x) xs

abbrev pub IsAmong : Strike → List Strike → Type 0
IsAmong x [] = ⊥
IsAmong x (y ∷ ys) = (y ≡ x) ⊎ IsAmong x ys

-- It is what a message means that was heard, by the hand that all before it has made, and the view that was shown then.
pub record IsOfMessage (s : Setting) (h : Hand) (xs : List Happening) (x : Strike) : Type 0 where
  pub before : List Happening
  pub message : Heard
  pub shown : View
  pub came : Outcome
  pub shown_then : View
  pub more : List Happening
  pub splits : xs ≡ before ++ hears message shown came shown_then ∷ more
  pub means : strike_of (taken_of s (hand_at s h before) shown message) ≡ Some x

abbrev pub EachOfAMessage : Type 0
EachOfAMessage =
    (s : Setting) (h : Hand) (xs : List Happening) (x : Strike) → IsAmong x (pressed s h xs) → IsOfMessage s h xs x

-- how many messages were heard
abbrev pub message_in : Happening → ℕ
message_in (hears m v o v_then) = 1
message_in (is_opened now) = 0
message_in (begins now) = 0
message_in empties = 0
message_in (undoes passed) = 0

abbrev pub messages : List Happening → ℕ
messages [] = 0
messages (x ∷ xs) = message_in x + messages xs

-- no more is pressed than messages were heard
abbrev pub AtMostOneEach : Type 0
AtMostOneEach = (s : Setting) (h : Hand) (xs : List Happening) → length (pressed s h xs) ≤ messages xs

-- ---- what is meant

abbrev pub spoken_intent : Spoken → Option Intent
spoken_intent (spoken.Intent i) = Some i
spoken_intent _ = None

-- what somebody intends by a message
abbrev pub intent_in : Setting → Hand → Heard → Option Intent
intent_in s h (midi.Show show) = spoken_intent (spoken_to s.address show)
intent_in s h (midi.NoteOn channel note velocity) = intent_of s.keys h.pedals (midi.NoteOn channel note velocity)
intent_in s h (midi.Controller channel number value) = intent_of s.keys h.pedals (midi.Controller channel number value)
intent_in s h (midi.Ignored kind) = intent_of s.keys h.pedals (midi.Ignored kind)

-- what is pressed is what was intended, and of the cue that was named
pub record IsMeant (s : Setting) (h : Hand) (v : View) (m : Heard) (x : Strike) : Type 0 where
  pub intent : Intent
  pub intends : intent_in s h m ≡ Some intent
  pub meant : Meant h v intent x.press

abbrev pub StrikeIsMeant : Type 0
StrikeIsMeant =
    (s : Setting) (h : Hand) (v : View) (m : Heard) (x : Strike) → strike_of (taken_of s h v m) ≡ Some x
    → IsMeant s h v m x

-- ---- what waited

-- no reading finds nothing, and each moment is one that a clock can count beyond
abbrev pub IsUnsettled : Happening → Type 0
IsUnsettled (is_opened now) = now < 2 ^ 64 - 1
IsUnsettled (begins now) = now < 2 ^ 64 - 1
IsUnsettled empties = ⊥
IsUnsettled (hears m v o v_then) = ⊤
IsUnsettled (undoes passed) = ⊤

abbrev pub AreUnsettled : List Happening → Type 0
AreUnsettled [] = ⊤
AreUnsettled (x ∷ xs) = IsUnsettled x × AreUnsettled xs

-- what comes of a device that is opened, before a reading has found nothing, presses nothing
abbrev pub WaitedPressesNothing : Type 0
WaitedPressesNothing =
    (s : Setting) (h : Hand) (now : ℕ) (xs : List Happening) → now < 2 ^ 64 - 1 → AreUnsettled xs
    → pressed s (opened_at now h) xs ≡ []

-- each press of that is counted
abbrev pub WaitedIsCounted : Type 0
WaitedIsCounted =
    (s : Setting) (h : Hand) (v : View) (m : Heard) (i : Intent) (d : Dropped) → is_over h.settling ≡ false
    → intent_in s h m ≡ Some i → after (taken_of s h v m) d ≡ with_waited d

-- ---- a device

-- a device is tried at a moment; within a second after it none is
abbrev pub TriesApart : Type 0
TriesApart =
    (l : Listening) (now later : ℕ) → opens l false now ≡ true → later < now + 1000
    → opens (after_try l false now) false later ≡ false
