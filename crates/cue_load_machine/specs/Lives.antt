-- What a whole life of a load comes to: the copy first, then one sending after the other.
use Rattle.std.specs.Prelude.{◌≡◌, ◌≤◌, ◌<◌, ◌⊎◌, ◌+◌, ℕ, ℤ, Bool, true, false, List, [], ◌∷◌, ◌++◌, length}
use Rattle.std.specs.Prelude.{slice_get, slice_set}
use Rattle.std.specs.Prelude.{Option, Some, None, option_to_list, ⊤}
use Rattle.cue_machine.specs.declared.machine.Machine.{Ghosts}
use Rattle.cue_machine.specs.Living.{Turn, all_posted}
use Rattle.cue_machine.specs.Posting.{Given, Posted}
use Rattle.cue_desk.specs.declared.replying.Replied.{Replied}
use Rattle.cue_loading.specs.Steps.{goes_on}
use Rattle.cue_load_machine.specs.declared.asks.Ask.{Ask}
use Rattle.cue_load_machine.specs.declared.asks.Refusal.{Refusal}
use Rattle.cue_load_machine.specs.declared.machine.LoadMachine.{LoadMachine}
use Rattle.cue_load_machine.specs.declared.stage.LoadEnd.TheVariants as end
use Rattle.cue_load_machine.specs.declared.stage.Stage.{Stage}
use Rattle.cue_load_machine.specs.declared.stage.Stage.TheVariants as stage
use Rattle.cue_load_machine.specs.declared.stage.Try.{Try}
use Rattle.cue_load_machine.specs.declared.stage.Waits.{Waits}
use Rattle.cue_load_machine.specs.Asks.{replies, stops_by}
use Rattle.cue_load_machine.specs.Stages.{first_slot, late_at, next_slot, one_less, sent, spent}
use Rattle.cue_load_machine.specs.Steps.{State, Steps, after_loss, answered, begins, copies, is_over, message_given}
use Rattle.cue_load_machine.specs.Steps.{first_stage, is_refused, reply_to, silent, wakes}

-- a load as a machine
abbrev pub load_machine : Ghosts LoadMachine
load_machine = record { steps = Steps; after_loss = after_loss; wakes = wakes; is_over = is_over }

abbrev pub post : Given → Bool → Posted
post given lost = record { given = given; lost = lost }

-- ---- one sending

-- One sending of a message: the turn in which it left, and those after it, until it was answered or given up.
pub record Sending : Type 0 where
  pub of : Try
  pub ask : Ask
  pub left : Turn
  pub after : List Turn

-- the replies to it that were heard in these turns: each came at the socket by which it was sent, from the controller's
-- port of this machine, and is one to what was asked
abbrev pub replies_in : ℕ → Ask → ℕ → List Turn → List Replied
replies_in port a socket [] = []
replies_in port a socket (t ∷ ts) =
    option_to_list (reply_to port a socket t.heard.input t.heard.bytes) ++ replies_in port a socket ts

abbrev pub told : State → Sending → List Replied
told s x = replies_in s.port x.ask x.of.socket x.after

-- none of these replies stops the load
abbrev pub AllGoOn : Refusal → List Replied → Type 0
AllGoOn f [] = ⊤
AllGoOn f (r ∷ rs) = (stops_by f r ≡ None) × AllGoOn f rs

-- more replies than these are waited for
abbrev pub AreSome : Ask → List Replied → Type 0
AreSome a rs = AllGoOn a.refusal rs × ((rs ≡ []) ⊎ (length rs < replies a.form))

-- the last of these replies, before which more were waited for
pub record EndsWith (a : Ask) (rs : List Replied) (last : Replied) : Type 0 where
  pub before : List Replied
  pub all : rs ≡ before ++ last ∷ []
  pub some : AreSome a before

-- from when on the next reply to it is waited for: from the moment at which the last one of these turns came, or, if
-- none came, from this one
abbrev pub since_by : ℕ → ℕ → Option Replied → ℕ
since_by since now None = since
since_by since now (Some r) = now

abbrev pub since_in : ℕ → Ask → ℕ → List Turn → ℕ → ℕ
since_in port a socket [] since = since
since_in port a socket (t ∷ ts) since =
    since_in port a socket ts
    (since_by since t.heard.now (reply_to port a socket t.heard.input t.heard.bytes))

-- when it was sent, or when the last reply to it came
abbrev pub awaited_since : State → Sending → ℕ
awaited_since s x = since_in s.port x.ask x.of.socket x.after x.left.heard.now

-- when the last of its turns was heard, the time for the next reply had passed
pub record IsLate (s : State) (x : Sending) : Type 0 where
  pub before : List Turn
  pub last : Turn
  pub all : x.after ≡ before ++ last ∷ []
  pub late : late_at x.ask.form (awaited_since s x) ≤ last.heard.now

-- how it ended: not yet; all its replies came; one of them stopped the load; its time passed before; nobody listened
pub data How : Type 0 where
  waits : How
  done : How
  stops : ℤ → How
  late : How
  nobody : How

abbrev pub IsHow : State → Sending → How → Type 0
IsHow s x waits = AreSome x.ask (told s x)
IsHow s x done =
    (last : Replied) × (ended : EndsWith x.ask (told s x) last) × (stops_by x.ask.refusal last ≡ None)
    × (replies x.ask.form ≤ length ended.before + 1)
IsHow s x (stops code) =
    (last : Replied) × EndsWith x.ask (told s x) last × (stops_by x.ask.refusal last ≡ Some code)
IsHow s x late = AreSome x.ask (told s x) × IsLate s x
IsHow s x nobody = AreSome x.ask (told s x)

-- in none of these turns was it heard that nobody listens where a socket sends
abbrev pub NoneRefused : ℕ → List Turn → Type 0
NoneRefused socket [] = ⊤
NoneRefused socket (t ∷ ts) = (is_refused socket t.heard.input ≡ false) × NoneRefused socket ts

-- in the last of these turns it was, and in none before it
pub record LastRefused (socket : ℕ) (ts : List Turn) : Type 0 where
  pub before : List Turn
  pub last : Turn
  pub all : ts ≡ before ++ last ∷ []
  pub none : NoneRefused socket before
  pub refused : is_refused socket last.heard.input ≡ true

-- that nobody listens is heard last, if it ended so, and else not at all
abbrev pub Hears : How → ℕ → List Turn → Type 0
Hears waits socket ts = NoneRefused socket ts
Hears done socket ts = NoneRefused socket ts
Hears (stops code) socket ts = NoneRefused socket ts
Hears late socket ts = NoneRefused socket ts
Hears nobody socket ts = LastRefused socket ts

-- Its message left once, by its socket, and nothing left after it; and it ended so.
pub record IsSending (s : State) (x : Sending) (how : How) : Type 0 where
  pub there : slice_get s.asks x.of.place ≡ Some x.ask
  pub lost : Bool
  pub left : x.left.posted ≡ post (message_given s.port x.ask x.of.socket) lost ∷ []
  pub nothing : all_posted x.after ≡ []
  pub ends : IsHow s x how
  pub hears : Hears how x.of.socket x.after

-- ---- one after the other

-- a message that was sent, once these turns were heard
abbrev pub waits_by : Waits → ℕ → Option Replied → Waits
waits_by w now None = w
waits_by w now (Some r) = one_less w now

abbrev pub waits_after : ℕ → Ask → ℕ → List Turn → Waits → Waits
waits_after port a socket [] w = w
waits_after port a socket (t ∷ ts) w =
    waits_after port a socket ts
    (waits_by w t.heard.now (reply_to port a socket t.heard.input t.heard.bytes))

abbrev pub waits_in : State → Sending → Waits
waits_in s x = waits_after s.port x.ask x.of.socket x.after (sent x.ask.form x.of x.left.heard.now)

-- how the load stands after it: it waits; the next message is to be sent; it has stopped; the same message is to be
-- sent again, if it may be; or it is over, since nobody listens
abbrev pub stage_after : State → Sending → How → Stage
stage_after s x waits = stage.Waits (waits_in s x)
stage_after s x done = answered s.asks x.ask (spent x.of)
stage_after s x (stops code) = stage.Over (end.Refused x.of.place code)
stage_after s x late = silent s.asks x.ask.form (spent x.of)
stage_after s x nobody = stage.Over (end.Nobody x.of.place)

-- After these sendings, the newest first, the load stands so: each was to be the next, from the first message on.
abbrev pub AreSendings : State → List Sending → Stage → Type 0
AreSendings s [] at = at ≡ begins s.asks 0 0
AreSendings s (x ∷ xs) at =
    (how : How) × IsSending s x how × AreSendings s xs (stage.Sends x.of) × (at ≡ stage_after s x how)

-- all their turns, in order
abbrev pub turns_of : List Sending → List Turn
turns_of [] = []
turns_of (x ∷ xs) = turns_of xs ++ x.left ∷ x.after

-- these replies are kept from a place on
abbrev pub put : List (Option Replied) → ℕ → List Replied → List (Option Replied)
put answers slot [] = answers
put answers slot (r ∷ rs) = put (slice_set answers slot (Some r)) (next_slot slot) rs

-- what is told of each message that asks one thing: the newest reply to it, or to one that asked it with others
abbrev pub answers_after : State → List Sending → List (Option Replied)
answers_after s [] = s.answers
answers_after s (x ∷ xs) = put (answers_after s xs) (first_slot x.ask.form x.of.place) (told s x)

-- ---- lives

-- These turns are those of sendings, one after the other, and it stands and tells as they say.
pub record HasSent (s : State) (ts : List Turn) (answers : List (Option Replied)) (at : Stage) : Type 0 where
  pub sendings : List Sending
  pub all : ts ≡ turns_of sendings
  pub are : AreSendings s sendings at
  pub told : answers ≡ answers_after s sendings

-- nothing was done yet
abbrev pub IsNew : State → Type 0
IsNew s = s.at ≡ first_stage s.asks s.copy

-- The copy went out in the first turn, and nothing else did; if it was lost, only a load that takes nothing away goes
-- on.
pub record HasCopied (s : State) (text : List ℕ) (ts : List Turn) (answers : List (Option Replied)) (at : Stage)
    : Type 0 where
  pub first : Turn
  pub rest : List Turn
  pub all : ts ≡ first ∷ rest
  pub lost : Bool
  pub posted : first.posted ≡ post (copies text) lost ∷ []
  pub goes :
      ((rest ≡ []) × (at ≡ stage.Over end.NotKept) × (lost ≡ true))
      ⊎ (((lost ≡ false) ⊎ (goes_on s.manner false ≡ true)) × HasSent s rest answers at)

abbrev pub Stands : State → Option (List ℕ) → List Turn → List (Option Replied) → Stage → Type 0
Stands s None ts answers at = HasSent s ts answers at
Stands s (Some text) ts answers at = (ts ≡ []) ⊎ HasCopied s text ts answers at
