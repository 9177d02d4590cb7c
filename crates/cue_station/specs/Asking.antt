-- What became of the presses that were sent.
use Rattle.std.specs.Prelude.{ℕ, ℤ, ◌+◌, Bool, true, false, not, ◌&&◌, ◌||◌, if◌then◌else◌, List, [], ◌∷◌, ◌++◌}
use Rattle.std.specs.Prelude.{map}
use Rattle.std.specs.Prelude.{Option, None, Some, is_some, is_none, nat_eq, nat_le, nat_lt}
use Rattle.std.specs.List.{list_any, list_all}
use Rattle.std.specs.Option.{option_eq, option_map, option_map_or}
use Rattle.cue_show.specs.Number.{same_text}
use Rattle.cue_exchange.specs.Answers.{answer_passes, is_cancelling, is_decided, is_preparing, is_waiting}
use Rattle.cue_exchange.specs.Steps.{holds}
use Rattle.cue_exchange.specs.Live.{attempt_of, attempt_of_cue}
use Rattle.cue_exchange.specs.declared.attempt.Attempt.{Attempt}
use Rattle.cue_core.specs.Events.{is_start_of, is_go_of, is_cancel_of}
use Rattle.cue_desk.specs.Answered.{counts}
use Rattle.cue_desk.specs.declared.replying.Replied.{Replied}
use Rattle.cue_desk.specs.declared.replying.Replied.TheVariants as replied
use Rattle.cue_view.specs.declared.button.Button.{Button}
use Rattle.cue_view.specs.declared.button.Button.TheVariants as button
use Rattle.cue_station.specs.declared.heard.Copied.{Copied}
use Rattle.cue_station.specs.declared.heard.Heard.{Heard}
use Rattle.cue_station.specs.declared.heard.Heard.TheVariants as heard
use Rattle.cue_station.specs.declared.heard.Send.{Send}
use Rattle.cue_station.specs.declared.limits.TheConstants.{TAP_MS}
use Rattle.cue_station.specs.declared.memory.Answered.{Answered}
use Rattle.cue_station.specs.declared.memory.Pending.{Pending}
use Rattle.cue_station.specs.declared.memory.Reading.{Reading}
use Rattle.cue_station.specs.declared.memory.Word.{Word}
use Rattle.cue_view.specs.declared.view.Became.{Became}
use Rattle.cue_view.specs.declared.view.Became.TheVariants as became
use Rattle.cue_view.specs.declared.view.Said.{Said}
use Rattle.cue_station.specs.Turns.{Turn}
use Rattle.cue_station.specs.Reading.{reading_of, answered_of, is_status}

-- a message was sent that is no question for the status: that of a press
abbrev pub is_press_sent : Option Send → Bool
is_press_sent None = false
is_press_sent (Some s) = not (is_status s.order)

-- ---- what came to its socket

-- what the reply to one press says: its numbers are 0 or 1. Made and refused are both 1 if only some of several cues
-- were stood by; none if it speaks of nothing
abbrev pub word_by : ℤ → ℤ → ℤ → ℤ → Option Became
word_by made known refused code =
    if counts made known refused 1 0 0 then Some became.Made
    else if counts made known refused 0 1 0 then Some became.Known
    else if counts made known refused 0 0 1 then Some (became.Refused code)
    else if counts made known refused 1 0 1 then Some (became.Partly code) else None

abbrev pub word_in : Replied → Option Became
word_in (replied.Reply made known refused code) = word_by made known refused code
word_in (replied.Status u) = None

-- what came to the socket of the ask n, if it answers it
abbrev pub word_to : ℕ → Heard → Option Became
word_to n (heard.Replied m r) = if nat_eq m n then word_in r else None
word_to n (heard.Nobody m) = if nat_eq m n then Some became.Nobody else None
word_to n _ = None

-- the same, with the moment at which it came
abbrev pub answer_to : ℕ → Heard → ℕ → Option Word
answer_to n h at = option_map (λ w. record { at = at; became = w }) (word_to n h)

-- ---- what the store shows of it

abbrev pub if_known : Bool → Bool → Became
if_known true true = became.Carried
if_known true false = became.Lost
if_known false true = became.Carried
if_known false false = became.Unknown

-- the attempt q is in the copy, or its start is among the events
abbrev pub is_known : ℕ → Copied → Bool
is_known q c = is_some (attempt_of c.state.live q) || list_any (is_start_of q) c.events.items

-- q was given; it was given up
abbrev pub was_given : ℕ → Copied → Bool
was_given q c = list_any (is_go_of q) c.events.items || holds q (λ a. is_decided a.stage) c.state.live

abbrev pub was_given_up : ℕ → Copied → Bool
was_given_up q c = list_any (is_cancel_of q) c.events.items || holds q (λ a. is_cancelling a.stage) c.state.live

-- what the copy shows of a press
abbrev pub shown_of : Button → Copied → Became
shown_of (button.Go cue q) c = if_known (is_known q c) (was_given q c)
shown_of (button.Cancel cue q) c = if_known (is_known q c) (was_given_up q c)
shown_of (button.Standby cue) c = if_known false (is_some (attempt_of_cue c.state.live cue))
shown_of (button.Release q d) c = became.Unknown
shown_of (button.MoveTo cue) c = became.Unknown
shown_of (button.Choose q) c = became.Unknown
shown_of (button.Seen q) c = became.Unknown

-- a status was asked after the moment, and answered; and the copy was begun later than that answer came
abbrev pub is_settled : ℕ → Option Answered → ℕ → Bool
is_settled sent None begun = false
is_settled sent (Some a) begun = nat_lt sent a.asked && nat_lt a.came begun

-- what the copy shows, if it settles what was sent at the moment
abbrev pub settled_by : Button → ℕ → Option Answered → Option Reading → Option Became
settled_by b sent a None = None
settled_by b sent a (Some r) = if is_settled sent a r.at then Some (shown_of b r.copy) else None

-- ---- what the store shows of what was said to be carried out

-- the newest attempt that the copy knows of; 0 if it knows of none
abbrev pub newest_in : Option Reading → ℕ
newest_in None = 0
newest_in (Some r) = r.copy.state.last_seq

-- The copy shows that the press was carried out. `before` was the newest attempt when it was sent.
abbrev pub is_shown_in : Button → ℕ → Copied → Bool
is_shown_in (button.Standby cue) before c =
    is_some (attempt_of_cue c.state.live cue) || nat_lt before c.state.last_seq
is_shown_in (button.Go cue q) before c = was_given q c || not (is_known q c)
is_shown_in (button.Cancel cue q) before c = was_given_up q c || not (is_known q c)
is_shown_in (button.Release q d) before c =
    not (option_map_or (λ (a : Attempt). answer_passes is_waiting d a.answers) (attempt_of c.state.live q) false)
is_shown_in (button.MoveTo cue) before c = option_eq same_text (Some cue) c.state.show.place
is_shown_in (button.Choose q) before c = true
is_shown_in (button.Seen q) before c = true

abbrev pub is_shown_by : Button → ℕ → Option Reading → Bool
is_shown_by b before None = false
is_shown_by b before (Some r) = is_shown_in b before r.copy

-- ---- turn by turn

-- what was known first
abbrev pub first_of : {A : Type 0} → Option A → Option A → Option A
first_of None new = new
first_of (Some old) new = Some old

-- A press, once something more was heard: the first answer that came to its socket counts, the first copy that settles
-- it, and any copy that shows it.
abbrev pub followed : Heard → ℕ → Option Answered → Option Reading → Pending → Pending
followed h at a r p =
    record {
      at = p.at;
      ask = p.ask;
      button = p.button;
      before = p.before;
      answer = first_of p.answer (answer_to p.ask h at);
      settled = first_of p.settled (settled_by p.button p.at a r);
      shown = p.shown || is_shown_by p.button p.before r;
    }

-- a press that was sent just now, when this was the newest attempt
abbrev pub fresh : ℕ → ℕ → ℕ → Button → Pending
fresh at ask before b =
    record { at = at; ask = ask; button = b; before = before; answer = None; settled = None; shown = false }

-- the press that is sent at this moment, with r as the newest copy
abbrev pub sent_press : Heard → ℕ → Option Reading → Option Send → List Pending
sent_press (heard.Pressed view b) at r (Some s) =
    if is_press_sent (Some s) then fresh at s.ask (newest_in r) b ∷ [] else []
sent_press _ at r s = []

-- the presses that were sent before, once this was heard
abbrev pub heard_presses : Turn → List Turn → List Pending → List Pending
heard_presses t past ps =
    map (followed t.input.heard t.input.at (answered_of (t ∷ past)) (reading_of (t ∷ past))) ps

-- each press that was sent, and what became of it; the newest first
abbrev pub presses_of : List Turn → List Pending
presses_of [] = []
presses_of (t ∷ past) =
    sent_press t.input.heard t.input.at (reading_of (t ∷ past)) t.sent ++ heard_presses t past (presses_of past)

-- the newest
abbrev pub newest_of : {A : Type 0} → List A → Option A
newest_of [] = None
newest_of (x ∷ xs) = Some x

-- the one before it
abbrev pub second_of : {A : Type 0} → List A → Option A
second_of [] = None
second_of (x ∷ xs) = newest_of xs

-- ---- what is said of a press

-- what came to its own socket; else what the first copy showed that settles it; else that it is open
abbrev pub became_by : Option Word → Option Became → Became
became_by (Some w) settled = w.became
became_by None (Some shown) = shown
became_by None None = became.Open

-- a copy was begun later than the answer came: one of the same millisecond may be of before
abbrev pub is_read_later : Option Word → Option Reading → Bool
is_read_later None r = false
is_read_later (Some w) None = false
is_read_later (Some w) (Some r) = nat_lt w.at r.at

-- A press is open until it is answered and a copy was begun later than that, or until a copy settles it.
abbrev pub is_open : Option Reading → Pending → Bool
is_open r p = not (is_read_later p.answer r) && is_none p.settled

-- the press, if there is one that passes the test
abbrev pub only : (Pending → Bool) → Option Pending → Option Pending
only test None = None
only test (Some p) = if test p then Some p else None

-- the press, if there is one and it is open
abbrev pub if_open : Option Reading → Option Pending → Option Pending
if_open r o = only (is_open r) o

-- it was carried out, or was so already
abbrev pub is_done : Became → Bool
is_done became.Made = true
is_done became.Known = true
is_done became.Carried = true
is_done _ = false

-- an attempt of the cue prepares: it is neither given nor given up
abbrev pub stands : List ℕ → Copied → Bool
stands cue c =
    option_map_or (λ (a : Attempt). is_preparing a.stage) (attempt_of_cue c.state.live cue) false

-- the newest copy has the cue standing by no more
abbrev pub stands_no_more : List ℕ → Option Reading → Bool
stands_no_more cue None = false
stands_no_more cue (Some r) = not (stands cue r.copy)

-- it is a STANDBY whose cue the newest copy has standing by no more
abbrev pub has_ended : Button → Option Reading → Bool
has_ended (button.Standby cue) r = stands_no_more cue r
has_ended _ r = false

-- a STANDBY that was made is over once a copy that was begun later has its cue standing by no more
abbrev pub is_over : Option Reading → Pending → Bool
is_over r p = is_done (became_by p.answer p.settled) && (is_read_later p.answer r && has_ended p.button r)

-- the reply says that it was carried out, or was so already
abbrev pub is_said : Became → Bool
is_said became.Made = true
is_said became.Known = true
is_said _ = false

-- the reply says so, and no copy has shown it
abbrev pub is_unshown : Pending → Bool
is_unshown p = is_said (became_by p.answer p.settled) && not p.shown

-- since when the reply says so, and no copy has shown it
abbrev pub unshown_since : Pending → Option ℕ
unshown_since p = if is_unshown p then option_map (λ (w : Word). w.at) p.answer else None

abbrev pub unshown_by : Option Pending → Option ℕ
unshown_by None = None
unshown_by (Some p) = unshown_since p

-- since when the last press is said to be carried out, and no copy has shown it
abbrev pub unshown_of : List Turn → Option ℕ
unshown_of turns = unshown_by (newest_of (presses_of turns))

-- That it was carried out is what a copy has shown: until then the reply alone says so.
abbrev pub became_now : Option Reading → Pending → Became
became_now r p =
    if is_unshown p then became.Unshown else if is_over r p then became.Over else became_by p.answer p.settled

abbrev pub said_by : Option Reading → Pending → Said
said_by r p = record { ask = p.ask; button = p.button; became = became_now r p }

-- what is said of the last press that was sent
abbrev pub said_of : List Turn → Option Said
said_of turns = option_map (said_by (reading_of turns)) (newest_of (presses_of turns))

-- what is said of the press before it
abbrev pub said_before : List Turn → Option Said
said_before turns = option_map (said_by (reading_of turns)) (second_of (presses_of turns))

-- ---- which presses are open

-- no press is open
abbrev pub is_quiet : List Turn → Bool
is_quiet turns = list_all (λ p. not (is_open (reading_of turns) p)) (presses_of turns)

-- the attempt of a GO
abbrev pub go_number : Button → Option ℕ
go_number (button.Go c q) = Some q
go_number _ = None

abbrev pub going_by : Option Pending → Option ℕ
going_by None = None
going_by (Some p) = go_number p.button

-- the attempt of the last press, if that is a GO that is open
abbrev pub going_of : List Turn → Option ℕ
going_of turns = going_by (if_open (reading_of turns) (newest_of (presses_of turns)))

-- the two are there, and are the same attempt
abbrev pub is_same_attempt : Option ℕ → Option ℕ → Bool
is_same_attempt None other = false
is_same_attempt (Some q) None = false
is_same_attempt (Some q) (Some p) = nat_eq q p

-- It is the GO of the last press once more, within a second of it. A GO of another attempt is a press of its own:
-- somebody chose that one meanwhile.
abbrev pub is_tap : ℕ → Button → Option Pending → Bool
is_tap now b None = false
is_tap now b (Some p) = is_same_attempt (go_number b) (go_number p.button) && nat_le now (p.at + TAP_MS)

-- a go or a cancel
abbrev pub is_final : Button → Bool
is_final (button.Go c q) = true
is_final (button.Cancel c q) = true
is_final (button.Standby c) = false
is_final (button.Release q d) = false
is_final (button.MoveTo c) = false
is_final (button.Choose q) = false
is_final (button.Seen q) = false

-- no go and no cancel is open
abbrev pub is_calm : List Turn → Bool
is_calm turns = list_all (λ p. not (is_open (reading_of turns) p && is_final p.button)) (presses_of turns)

-- the press with the ask n is open
abbrev pub is_open_ask : ℕ → Option Reading → List Pending → Bool
is_open_ask n r ps = list_any (λ p. is_open r p && nat_eq p.ask n) ps
