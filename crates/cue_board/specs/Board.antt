-- The board: what each line says of the view, from its front on. Names and notes of the show file follow after that.
use Rattle.std.specs.Prelude.{◌≡◌, ◌≤◌, ◌⊎◌, ℕ, suc, Bool, true, false, ◌&&◌, ◌==◌, nat_le, length, replicate, count_by}
use Rattle.std.specs.Prelude.{◌+◌, ◌-◌, ◌/◌, find, min}
use Rattle.std.specs.Prelude.{List, [], ◌∷◌, ◌++◌, map, take, drop, codes, string_bytes}
use Rattle.std.specs.Prelude.{Option, None, Some, is_some, nat_eq, if◌then◌else◌}
use Rattle.std.specs.Fmt.{decimal}
use Rattle.std.specs.List.{flat_map}
use Rattle.cue_exchange.specs.Answers.{is_decided, some_waits}
use Rattle.cue_exchange.specs.declared.attempt.Answer.{Answer}
use Rattle.cue_exchange.specs.declared.attempt.Answer.TheVariants as answer
use Rattle.cue_exchange.specs.declared.attempt.DeviceAnswer.{DeviceAnswer}
use Rattle.cue_exchange.specs.declared.attempt.Stage.{Stage}
use Rattle.cue_exchange.specs.declared.attempt.Stage.TheVariants as stage
use Rattle.cue_show.specs.Number.{same_text}
use Rattle.cue_show.specs.Show.{is_place}
use Rattle.cue_words.specs.Answered.{answer_words, reason_words}
use Rattle.cue_view.specs.declared.view.Alarm.{Alarm}
use Rattle.cue_view.specs.declared.view.Alarm.TheVariants as alarm
use Rattle.cue_view.specs.declared.view.Contacted.{Contacted}
use Rattle.cue_view.specs.declared.view.LiveAttempt.{LiveAttempt}
use Rattle.cue_view.specs.declared.view.Next.{Next}
use Rattle.cue_view.specs.declared.view.Next.TheVariants as next
use Rattle.cue_view.specs.declared.view.View.{View}
use Rattle.cue_view.specs.Late.{relay_late, serve_late}
use Rattle.cue_view.specs.Sight.{is_in_sight}
use Rattle.cue_board.specs.Alarms.{alarm_words}
use Rattle.cue_board.specs.Claims.{answer_says, has_answer_said}
use Rattle.cue_columns.specs.Columns.{fit_of}
use Rattle.cue_board.specs.Ends.{last_said, last_takes}
use Rattle.cue_board.specs.Progress.{progress_of}
use Rattle.cue_board.specs.Times.{seconds}
use Rattle.cue_board.specs.Together.{with_said}
use Rattle.cue_show_file.specs.Together.{others_of}
use Rattle.cue_show_file.specs.declared.together.Group.{Group}
use Rattle.cue_columns.specs.declared.columns.TheConstants.{COLUMNS}
use Rattle.cue_board.specs.declared.board.TheConstants.{CLAIMED}
use Rattle.cue_board.specs.declared.line.BoardLine.{BoardLine}
use Rattle.cue_board.specs.declared.live.TheConstants.{NAME_AT}
use Rattle.cue_board.specs.declared.names.Names.{Names}
use Rattle.cue_board.specs.declared.progress.Progress.{Progress}
use Rattle.cue_board.specs.declared.progress.Progress.TheVariants as progress
use Rattle.cue_board.specs.declared.stack.TheConstants.{ALWAYS, SHOWN}

-- ---- the live attempts

-- whether GO can be given for an attempt that prepares
abbrev pub readiness : Progress → List ℕ
readiness progress.Ready = codes "ready, GO can be given"
readiness progress.Held = codes "held, GO is dark"
readiness _ = codes "preparing"

-- with what is left of its ten seconds
abbrev pub preparing_at : Progress → ℕ → List ℕ
preparing_at p left = readiness p ++ (codes ", " ++ (seconds left ++ codes " s left"))

-- given, and since when that is seen
abbrev pub given_at : ℕ → Option ℕ → List ℕ
given_at at (Some given) = codes "given, at least " ++ (seconds (at - given) ++ codes " s ago")
given_at at None = codes "given"

-- how far an attempt has come at this moment
abbrev pub stage_at : ℕ → LiveAttempt → Progress → List ℕ
stage_at at a progress.Ready = preparing_at progress.Ready a.left
stage_at at a progress.Held = preparing_at progress.Held a.left
stage_at at a progress.Preparing = preparing_at progress.Preparing a.left
stage_at at a progress.Over = codes "its ten seconds are over"
stage_at at a progress.Unseen = codes "was preparing when this was read"
stage_at at a progress.Given = given_at at a.given
stage_at at a (progress.GivenUp reason) = codes "given up: " ++ reason_words reason

-- its cue, its number, and how far it has come
unfoldable pub attempt_said : View → LiveAttempt → List ℕ
attempt_said v a =
    codes "LIVE   cue " ++ (a.cue ++ (codes ", attempt " ++ (decimal a.seq
    ++ (codes ": " ++ stage_at v.at a (progress_of (is_in_sight v) a)))))

-- whether the cue may go without the device
abbrev pub kind_words : Bool → List ℕ
kind_words true = codes "optional  "
kind_words false = codes "          "

-- a text, with spaces after it up to a column
abbrev pub padded : ℕ → List ℕ → List ℕ
padded column t = t ++ replicate (column - length t) 32

-- a device of it: its number, and what it has answered
abbrev pub device_answered : DeviceAnswer → List ℕ
device_answered a = codes "         device " ++ (decimal a.device ++ (codes ": " ++ answer_words a.answer))

-- and whether it is optional
unfoldable pub device_said : DeviceAnswer → List ℕ
device_said a = padded NAME_AT (device_answered a) ++ kind_words a.optional

-- an attempt with all of its devices
abbrev pub attempt_lines : View → LiveAttempt → List (List ℕ)
attempt_lines v a = attempt_said v a ∷ map device_said a.devices

-- each live attempt of a view
abbrev pub live_said : View → List LiveAttempt → List (List ℕ)
live_said v [] = codes "LIVE   nothing is stood by" ∷ []
live_said v (a ∷ more) = flat_map (attempt_lines v) (a ∷ more)

-- ---- the live attempts if there is little room

-- a number for each answer, in the order in which they are shown
abbrev pub answer_rank : Answer → ℕ
answer_rank answer.Waiting = 0
answer_rank answer.Failed = 1
answer_rank answer.Ready = 2
answer_rank answer.Done = 3
answer_rank answer.LetGo = 4
answer_rank answer.Excused = 5

-- the numbers of the devices that have this answer, each after a space
abbrev pub numbers_of : Answer → List DeviceAnswer → List ℕ
numbers_of kind [] = []
numbers_of kind (a ∷ more) =
    if answer_rank a.answer == answer_rank kind then (codes " " ++ decimal a.device) ++ numbers_of kind more
    else numbers_of kind more

-- the line of an answer, if a device has it
unfoldable pub answer_lines : List DeviceAnswer → Answer → List (List ℕ)
answer_lines answers kind =
    if length (numbers_of kind answers) == 0 then []
    else (codes "         " ++ (answer_words kind ++ (codes ":" ++ numbers_of kind answers))) ∷ []

-- an attempt with a line for each answer that devices of it have
abbrev pub attempt_brief : View → LiveAttempt → List (List ℕ)
attempt_brief v a =
    attempt_said v a ∷ (answer_lines a.devices answer.Waiting ++ (answer_lines a.devices answer.Failed
    ++ (answer_lines a.devices answer.Ready ++ (answer_lines a.devices answer.Done
    ++ (answer_lines a.devices answer.LetGo ++ answer_lines a.devices answer.Excused)))))

-- ---- the stack

-- which cue is next, with those that are stood by together with it, or why none is
unfoldable pub next_said : List Group → Next → List ℕ
next_said groups (next.Cue cue) = codes "NEXT   cue " ++ (cue ++ with_said (others_of groups cue))
next_said groups next.Empty = codes "NEXT   the stack has no cue"
next_said groups next.End = codes "NEXT   no cue: the stack is at its end"
next_said groups next.Unknown = codes "NEXT   not known: move to a cue"

-- how many cues stand before this one
abbrev pub cues_before : List ℕ → List (List ℕ) → ℕ
cues_before cue [] = 0
cues_before cue (c ∷ cs) = if same_text c cue then 0 else suc (cues_before cue cs)

-- how many stand before the place; 0 if there is none
abbrev pub before_place : Option (List ℕ) → List (List ℕ) → ℕ
before_place None cues = 0
before_place (Some cue) cues = cues_before cue cues

-- so many cues around the place, a third of them before it
abbrev pub around : ℕ → Option (List ℕ) → List (List ℕ) → List (List ℕ)
around shown place cues = take shown (drop (before_place place cues - shown / 3) cues)

-- a cue of the stack, with a mark if it is the place
unfoldable pub cue_said : Option (List ℕ) → List ℕ → List ℕ
cue_said place cue = if is_place cue place then codes " -->   " ++ cue else codes "       " ++ cue

-- the next cue, room for its note, and so many cues of the stack around the place
abbrev pub stack_said : ℕ → List Group → View → List (List ℕ)
stack_said shown groups v =
    next_said groups v.next ∷ codes "       " ∷ codes "STACK"
    ∷ map (cue_said v.place) (around shown v.place v.stack.items)

-- ---- the whole

-- the attempt, if it is live
abbrev pub live_of : ℕ → List LiveAttempt → Option LiveAttempt
live_of q live = find (λ (a : LiveAttempt). nat_eq a.seq q) live

-- what goes wrong in an attempt at this stage
abbrev pub fault_at : Stage → List ℕ
fault_at stage.Preparing = codes " prepares"
fault_at stage.Decided = codes " fails"
fault_at (stage.Cancelling reason) = codes " lost its standby: " ++ reason_words reason

-- the devices that failed
abbrev pub failed_devices : List DeviceAnswer → List ℕ
failed_devices answers =
    if length (numbers_of answer.Failed answers) == 0 then []
    else codes ": device" ++ numbers_of answer.Failed answers

-- a live attempt in which something goes wrong: its cue, what, and by which devices
unfoldable pub fault_words : LiveAttempt → List ℕ
fault_words a = codes "cue " ++ (a.cue ++ (fault_at a.stage ++ failed_devices a.devices))

-- a failure has a line while its attempt is live; after that the line of the attempt that ended last tells it
abbrev pub is_called : List LiveAttempt → Alarm → Bool
is_called live (alarm.Failed q) = is_some (live_of q live)
is_called live _ = true

-- the loudest alarm that has a line
unfoldable pub loudest : View → Option Alarm
loudest v = find (is_called v.live.items) v.alarms.items

-- the words of the live attempt, else those of the alarm
abbrev pub fault_or : List ℕ → Option LiveAttempt → List ℕ
fault_or words None = words
fault_or words (Some a) = fault_words a

abbrev pub words_of : ℕ → View → Alarm → List ℕ
words_of port v (alarm.Failed q) = fault_or (alarm_words port v.at (alarm.Failed q)) (live_of q v.live.items)
words_of port v a = alarm_words port v.at a

-- no order reaches a device meanwhile: the controller or the relay has stopped
abbrev pub holds_back : Alarm → Bool
holds_back alarm.NobodyListens = true
holds_back (alarm.Silent asked) = true
holds_back (alarm.RelayStopped since) = true
holds_back _ = false

-- the cue was given, and waits for a device
abbrev pub is_owed : LiveAttempt → Bool
is_owed a = is_decided a.stage && some_waits a.devices

-- that a cue may move these devices
unfoldable pub owed_text : List ℕ → List ℕ → List ℕ
owed_text cue numbers = codes "OWED   once back, cue " ++ (cue ++ (codes " may move device" ++ numbers))

-- the cue, and the devices that it waits for
unfoldable pub owed_words : LiveAttempt → List ℕ
owed_words a = owed_text a.cue (numbers_of answer.Waiting a.devices)

-- the line of an attempt whose GO is owed to devices of it
unfoldable pub owed_line : LiveAttempt → List (List ℕ)
owed_line a = if is_owed a then owed_words a ∷ [] else []

-- what each cue that was given moves by itself, once what an alarm holds back is back
abbrev pub owed_said : Alarm → List LiveAttempt → List (List ℕ)
owed_said a live = if holds_back a then flat_map owed_line live else []

-- what the devices say of it that failed in a live attempt
abbrev pub fault_says : List Contacted → Option LiveAttempt → List (List ℕ)
fault_says network None = []
fault_says network (Some a) = flat_map (answer_says network a.seq) a.devices

abbrev pub alarm_says : View → Alarm → List (List ℕ)
alarm_says v (alarm.Failed q) = fault_says v.network.items (live_of q v.live.items)
alarm_says v _ = []

-- an alarm, what moves once it is over, and what devices say of it
abbrev pub called : ℕ → View → Option Alarm → List (List ℕ)
called port v None = []
called port v (Some a) = (codes "ALARM  " ++ words_of port v a) ∷ (owed_said a v.live.items ++ alarm_says v a)

abbrev pub alarm_said : ℕ → View → List (List ℕ)
alarm_said port v = called port v (loudest v)

-- how old the copy is that is shown
abbrev pub age_said : ℕ → Option ℕ → List ℕ
age_said at (Some read) = codes "READ   " ++ (seconds (at - read) ++ codes " s ago")
age_said at None = codes "READ   nothing yet"

-- for how long it is silent, if it is late
unfoldable pub silent_for : List ℕ → List ℕ → List ℕ
silent_for who silent = codes "; " ++ (who ++ (codes " silent for " ++ (silent ++ codes " s")))

abbrev pub late_said : List ℕ → Option ℕ → List ℕ
late_said who (Some silent) = silent_for who (seconds silent)
late_said who None = []

-- the age, and who is late
abbrev pub read_said : View → List ℕ
read_said v =
    age_said v.at v.read
    ++ (late_said (codes "serve") (serve_late v) ++ late_said (codes "relay") (relay_late v))

-- the attempt that ended last, and the age of what is shown
abbrev pub ends_said : Names → View → List (List ℕ)
ends_said names v = last_said names v.network.items v.last ++ (read_said v ∷ [])

-- the loudest alarm, the stack, each live attempt with its devices, the last attempt, and the age
abbrev pub board_with : ℕ → Names → View → List (List ℕ)
board_with shown names v =
    alarm_said names.port v
    ++ (stack_said shown names.together.now v ++ (live_said v v.live.items ++ ends_said names v))

-- the same without cues, and with a line for each answer in place of one for each device
abbrev pub board_brief : Names → View → List (List ℕ)
board_brief names v =
    alarm_said names.port v
    ++ (stack_said 0 names.together.now v
    ++ (flat_map (attempt_brief v) v.live.items ++ ends_said names v))

-- with so many cues; if none has room, the devices share lines
abbrev pub board_said : ℕ → Names → View → List (List ℕ)
board_said shown names v = if shown == 0 then board_brief names v else board_with shown names v

-- ---- how many cues it shows

-- how many lines it takes what moves by itself, and an alarm with it
abbrev pub owed_takes : Alarm → List LiveAttempt → ℕ
owed_takes a live = if holds_back a then count_by is_owed live else 0

-- and what devices say of it
abbrev pub fault_takes : List Contacted → Option LiveAttempt → ℕ
fault_takes network None = 0
fault_takes network (Some a) = count_by (has_answer_said network a.seq) a.devices

abbrev pub says_takes : View → Alarm → ℕ
says_takes v (alarm.Failed q) = fault_takes v.network.items (live_of q v.live.items)
says_takes v _ = 0

abbrev pub called_takes : View → Option Alarm → ℕ
called_takes v None = 0
called_takes v (Some a) = 1 + (owed_takes a v.live.items + says_takes v a)

abbrev pub alarm_takes : View → ℕ
alarm_takes v = called_takes v (loudest v)

-- the lines that the live attempts leave of so many: each has one, and one for each of its devices
abbrev pub room_after : ℕ → List LiveAttempt → ℕ
room_after room [] = room
room_after room (a ∷ live) = room_after (room - 1 - length a.devices) live

-- if there is none, one line says so
abbrev pub room_beside_live : ℕ → List LiveAttempt → ℕ
room_beside_live room [] = room - 1
room_beside_live room (a ∷ live) = room_after room (a ∷ live)

-- how many cues have room beside these attempts and the lines that are always there
abbrev pub cues_within : ℕ → List LiveAttempt → ℕ
cues_within room live =
    if nat_le SHOWN (room_beside_live (room - ALWAYS) live) then SHOWN else room_beside_live (room - ALWAYS) live

-- how many cues are shown, if what a relay says takes so many lines, and what devices say of themselves so many
abbrev pub cues_in : Option ℕ → View → ℕ → ℕ → ℕ
cues_in None v heard claims = SHOWN
cues_in (Some room) v heard claims =
    cues_within (room - heard - claims - alarm_takes v - last_takes v.network.items v.last) v.live.items

-- cues leave room for a few lines of claims, but not the last cue
abbrev pub cues_beside : Option ℕ → View → ℕ → ℕ → ℕ
cues_beside room v heard claims =
    if cues_in room v heard (min claims CLAIMED) == 0 then cues_in room v heard 0
    else cues_in room v heard (min claims CLAIMED)

-- how many lines of claims have room beside so many others
abbrev pub claims_within : Option ℕ → ℕ → ℕ → ℕ → ℕ
claims_within None lines heard claims = claims
claims_within (Some room) lines heard claims = min claims (room - lines - heard)

-- what a line says of the view
unfoldable pub said_of : BoardLine → List ℕ
said_of line = string_bytes line.said

-- a line as it is shown: as much as fits of what it says of the view, and then of what follows
unfoldable pub text_of : BoardLine → List ℕ
text_of line = fit_of COLUMNS (string_bytes line.said ++ string_bytes line.rest)

-- the line is as much as fits of this front and of something after it
abbrev pub Begins : List ℕ → List ℕ → Type 0
Begins front line = (rest : List ℕ) × (line ≡ fit_of COLUMNS (front ++ rest))

-- There are as many lines as fronts, and each line begins with its own.
abbrev pub EachBegins : List (List ℕ) → List (List ℕ) → Type 0
EachBegins [] [] = Unit {0}
EachBegins (f ∷ fs) (l ∷ ls) = Begins f l × EachBegins fs ls
EachBegins [] (l ∷ ls) = ⊥
EachBegins (f ∷ fs) [] = ⊥

-- The first lines begin with the fronts, each with its own; what a relay says of its devices follows after them.
pub record Begin (fronts lines : List (List ℕ)) : Type 0 where
  pub first : List (List ℕ)
  pub heard : List (List ℕ)
  pub whole : lines ≡ first ++ heard
  pub each : EachBegins fronts first

-- The lines have room; or no cue is shown, and the devices share lines: nothing more can give way.
abbrev pub HasRoom : Option ℕ → Names → View → List (List ℕ) → Type 0
HasRoom None names v lines = Unit {0}
HasRoom (Some room) names v lines = (length lines ≤ room) ⊎ Begin (board_brief names v) lines
