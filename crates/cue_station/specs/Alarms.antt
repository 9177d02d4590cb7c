-- What is wrong, the loudest first.
use Rattle.std.specs.Prelude.{◌+◌, ◌%◌, replicate, slice_set, ℕ, pos, Bool, true, false, not, ◌&&◌, if◌then◌else◌}
use Rattle.std.specs.Prelude.{List, [], ◌∷◌, ◌++◌}
use Rattle.std.specs.Prelude.{map, filter, length, Option, None, Some, nat_eq, nat_le, nat_lt}
use Rattle.std.specs.List.{list_any}
use Rattle.std.specs.Option.{option_eq, option_map, option_to_list}
use Rattle.std.specs.Ordering.{int_eq}
use Rattle.cue_show.specs.Number.{same_text}
use Rattle.cue_exchange.specs.Answers.{answer_passes, is_preparing, is_waiting}
use Rattle.cue_exchange.specs.declared.attempt.Attempt.{Attempt}
use Rattle.cue_core.specs.State.{ShowState}
use Rattle.cue_core.specs.declared.limits.TheConstants.{STANDBY_MS}
use Rattle.cue_desk.specs.declared.replying.Replied.TheVariants as replied
use Rattle.cue_desk.specs.declared.replying.Status.{Status}
use Rattle.cue_station.specs.declared.alarms.Facts.{Facts}
use Rattle.cue_view.specs.declared.button.Button.TheVariants as button
use Rattle.cue_station.specs.declared.heard.Heard.{Heard}
use Rattle.cue_station.specs.declared.heard.Heard.TheVariants as heard
use Rattle.cue_view.specs.declared.view.Trouble.{Trouble}
use Rattle.cue_view.specs.declared.view.Trouble.TheVariants as trouble
use Rattle.cue_station.specs.declared.limits.TheConstants.{COPY_MS, KEPT_SEEN, OTHER_MS, SHOWN_MS, STATUS_MS}
use Rattle.cue_station.specs.declared.memory.Answered.{Answered}
use Rattle.cue_station.specs.declared.memory.Question.{Question}
use Rattle.cue_station.specs.declared.memory.Reading.{Reading}
use Rattle.cue_station.specs.declared.memory.Shown.{Shown}
use Rattle.cue_view.specs.declared.view.Alarm.{Alarm}
use Rattle.cue_view.specs.declared.view.Alarm.TheVariants as alarm
use Rattle.cue_view.specs.declared.view.Contacted.{Contacted}
use Rattle.cue_station.specs.Turns.{Turn}
use Rattle.cue_station.specs.Offering.{is_offered, kept_of}
use Rattle.cue_station.specs.Reading.{reading_of, answered_of, question_of, ended_number, ended_outcome}
use Rattle.cue_station.specs.Network.{is_stopped}

-- ---- what stands

-- a moment that is known, and so long ago at most
abbrev pub is_within : ℕ → ℕ → Option ℕ → Bool
is_within long now None = false
is_within long now (Some m) = nat_le now (m + long)

-- when the status was asked that was answered last
abbrev pub asked_at : Option Answered → Option ℕ
asked_at None = None
asked_at (Some a) = Some a.asked

-- the moment for which the copy stands
abbrev pub read_at : Option Reading → Option ℕ
read_at None = None
read_at (Some r) = Some r.at

-- somebody answered a status that was asked lately
abbrev pub is_alive : ℕ → Option Answered → Bool
is_alive now a = is_within STATUS_MS now (asked_at a)

abbrev pub is_young : ℕ → Option Reading → Bool
is_young now r = is_within COPY_MS now (read_at r)

-- the status tells of this state, as far as a status tells of one
abbrev pub agrees : Status → ShowState → Bool
agrees u s =
    int_eq u.last (pos s.last_seq) && (option_eq same_text u.place s.show.place
    && (int_eq u.live (pos (length s.live)) && (int_eq u.ended (pos (ended_number s.ended))
    && int_eq u.outcome (pos (ended_outcome s.ended)))))

abbrev pub agree_by : Option Answered → Option Reading → Bool
agree_by (Some a) (Some r) = agrees a.status r.copy.state
agree_by _ _ = false

-- the files were not there when they were looked at last
abbrev pub is_missing : Option Trouble → Bool
is_missing (Some trouble.Missing) = true
is_missing _ = false

-- the copy that stands for this moment is young, and its files were there when they were looked at last
abbrev pub in_sight_by : ℕ → Option Trouble → Option ℕ → Bool
in_sight_by now why read = is_within COPY_MS now read && not (is_missing why)

-- the copy is in sight, somebody at our port answered lately, and what he answered is of the store that was copied
abbrev pub stands_by : ℕ → Option Trouble → Option Answered → Option Reading → Bool
stands_by now why a r = in_sight_by now why (read_at r) && (is_alive now a && agree_by a r)

-- the copy is young and somebody answered lately, but what he answered is not of that store
abbrev pub differs_by : ℕ → Option Answered → Option Reading → Bool
differs_by now a r = is_young now r && (is_alive now a && not (agree_by a r))

-- ---- what the desk remembers

-- nobody listened when the status was asked last; the number is that of the newest ask for it
abbrev pub nobody_by : Option ℕ → Heard → Bool → Bool
nobody_by None h old = old
nobody_by (Some asked) (heard.Nobody n) old = if nat_eq n asked then true else old
nobody_by (Some asked) (heard.Replied n (replied.Status u)) old = if nat_eq n asked then false else old
nobody_by (Some asked) _ old = old

abbrev pub nobody_of : List Turn → Bool
nobody_of [] = false
nobody_of (t ∷ past) =
    nobody_by (option_map (λ (q : Question). q.ask) (question_of past)) t.input.heard (nobody_of past)

-- why the store could not be read when it was looked at last
abbrev pub trouble_with : Heard → Option Trouble → Option Trouble
trouble_with (heard.Unread why) old = Some why
trouble_with (heard.Copied c) old = None
trouble_with (heard.Same begun) old = None
trouble_with _ old = old

abbrev pub trouble_of : List Turn → Option Trouble
trouble_of [] = None
trouble_of (t ∷ past) = trouble_with t.input.heard (trouble_of past)

-- since when something lasts that is so, or is not so, at this moment
abbrev pub lasting : Bool → ℕ → Option ℕ → Option ℕ
lasting false now old = None
lasting true now None = Some now
lasting true now (Some since) = Some since

-- since when a young copy is not what is served
abbrev pub differs_since : List Turn → Option ℕ
differs_since [] = None
differs_since (t ∷ past) =
    lasting (differs_by t.input.at (answered_of (t ∷ past)) (reading_of (t ∷ past))) t.input.at (differs_since past)

-- The attempts that were seen, each at a place of its own: of numbers that are 64 apart the one that was seen last. 0
-- is the number of none.
abbrev pub nothing_seen : List ℕ
nothing_seen = replicate KEPT_SEEN 0

abbrev pub with_seen : ℕ → List ℕ → List ℕ
with_seen q old = slice_set old (q % KEPT_SEEN) q

-- with each of these, in order
abbrev pub with_each : List ℕ → List ℕ → List ℕ
with_each [] old = old
with_each (q ∷ qs) old = with_each qs (with_seen q old)

-- a press that a young view offered says that q was seen; and what was seen elsewhere was seen
abbrev pub acknowledged_by : Heard → ℕ → List Shown → List ℕ → List ℕ
acknowledged_by (heard.Pressed view (button.Seen q)) now views old =
    if is_offered view now (button.Seen q) views then with_seen q old else old
acknowledged_by (heard.Kept k) now views old = with_each k.seen.items old
acknowledged_by _ now views old = old

-- the attempts that were seen, here or elsewhere
abbrev pub acknowledged_of : List Turn → List ℕ
acknowledged_of [] = nothing_seen
acknowledged_of (t ∷ past) = acknowledged_by t.input.heard t.input.at (kept_of past) (acknowledged_of past)

-- q was seen: q itself, and no other attempt in its place
abbrev pub is_acknowledged : List ℕ → ℕ → Bool
is_acknowledged seen q = list_any (nat_eq q) seen

-- ---- each alarm

-- nobody answers at the port
abbrev pub silence_by : Bool → Bool → Option ℕ → Option Alarm
silence_by true nobody asked = None
silence_by false true asked = Some alarm.NobodyListens
silence_by false false asked = Some (alarm.Silent asked)

abbrev pub silence : Facts → Option Alarm
silence f = silence_by (is_within STATUS_MS f.at f.asked) f.nobody f.asked

-- a status came that was asked later than at the moment
abbrev pub is_asked_since : ℕ → Option ℕ → Bool
is_asked_since since None = false
is_asked_since since (Some asked) = nat_lt since asked

-- What is served has not been what the store shows for a second, by a status that was asked meanwhile: one of before may
-- only be older than the copy.
abbrev pub other_by : Option ℕ → Option ℕ → ℕ → Option Alarm
other_by None asked now = None
other_by (Some since) asked now =
    if is_asked_since since asked && nat_le (since + OTHER_MS) now then Some (alarm.OtherStore since) else None

abbrev pub other_store : Facts → Option Alarm
other_store f = other_by f.differs f.asked f.at

-- the last press was said to be carried out, and a copy that was begun a second later does not show it
abbrev pub not_shown_by : Option ℕ → Option ℕ → Option Alarm
not_shown_by (Some since) (Some read) =
    if nat_le (since + SHOWN_MS) read then Some (alarm.NotShown since) else None
not_shown_by _ _ = None

abbrev pub not_shown : Facts → Option Alarm
not_shown f = not_shown_by f.unshown f.read

-- the one, else the other
abbrev pub either_by : Option Alarm → Option Alarm → Option Alarm
either_by None other = other
either_by (Some a) other = Some a

-- what answers at the port is not what the store shows
abbrev pub doubt : Facts → Option Alarm
doubt f = either_by (other_store f) (not_shown f)

-- the relay has stopped
abbrev pub stopped_by : Option ℕ → ℕ → Option Alarm
stopped_by None now = None
stopped_by (Some since) now = if is_stopped since now then Some (alarm.RelayStopped since) else None

abbrev pub relay_stopped : Facts → Option Alarm
relay_stopped f = stopped_by f.stamped f.at

-- the store is in sight
abbrev pub is_in_sight : Facts → Bool
is_in_sight f = in_sight_by f.at f.trouble f.read

-- the store is not in sight: why, if it could not be read when it was looked at last
abbrev pub old_by : Bool → Option Trouble → Option ℕ → Option Alarm
old_by true why read = None
old_by false (Some why) read = Some (alarm.Unread why)
old_by false None read = Some (alarm.Old read)

abbrev pub old_store : Facts → Option Alarm
old_store f = old_by (is_in_sight f) f.trouble f.read

-- the ten seconds of the attempt are over by our clock since it is seen, and not by that of the wall
abbrev pub is_over_by : Option ℕ → ℕ → ℕ → Attempt → Bool
is_over_by None now wall a = false
is_over_by (Some since) now wall a =
    is_preparing a.stage && (nat_lt wall a.deadline && nat_le (since + STANDBY_MS) now)

abbrev pub is_put_back : (ℕ → Option ℕ) → ℕ → ℕ → Attempt → Bool
is_put_back since now wall a = is_over_by (since a.seq) now wall a

abbrev pub put_back_in : (ℕ → Option ℕ) → ℕ → ℕ → List Attempt → List ℕ
put_back_in since now wall live = map (λ a. a.seq) (filter (is_put_back since now wall) live)

-- a live attempt waits for the device
abbrev pub is_awaited : List Attempt → ℕ → Bool
is_awaited live d = list_any (λ a. answer_passes is_waiting d a.answers) live

-- what the relay says of the devices for which an attempt of the newest copy waits
abbrev pub awaited_by : Option Reading → List Contacted → List Contacted
awaited_by None network = []
awaited_by (Some r) network = filter (λ c. is_awaited r.copy.state.live c.device) network

-- the devices that the relay calls silent
abbrev pub silent_in : List Contacted → List ℕ
silent_in network = map (λ c. c.device) (filter (λ c. c.silent) network)

-- ---- all of them

abbrev pub alarms_by : Facts → List ℕ → List ℕ → List Contacted → List Alarm
alarms_by f put_back failed network =
    option_to_list (silence f) ++ (option_to_list (doubt f) ++ (option_to_list (relay_stopped f)
    ++ (option_to_list (old_store f) ++ (map alarm.ClockPutBack put_back ++ (map alarm.Failed failed
    ++ map alarm.DeviceSilent (silent_in network))))))
