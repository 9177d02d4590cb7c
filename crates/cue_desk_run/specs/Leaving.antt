-- What leaves a desk: of each thing that it hears, what its machine says to send, once.
use Rattle.std.specs.Prelude.{◌≡◌, ◌⊎◌, ℕ, ◌+◌, Bool, true, false, not, ◌&&◌, List, [], ◌∷◌, Option, None, Some, is_some}
use Rattle.std.specs.Prelude.{Result, Ok, Err}
use Rattle.cue_ask_machine.specs.declared.letters.Letter.{Letter}
use Rattle.cue_ask_machine.specs.Letters.{IsLetterOf}
use Rattle.cue_ask_machine.specs.Naming.{SaysWho}
use Rattle.cue_asker.specs.declared.naming.AskerName.{AskerName}
use Rattle.cue_desk.specs.Together.{companions_of}
use Rattle.cue_station.specs.declared.heard.Heard.{Heard}
use Rattle.cue_station.specs.declared.heard.Input.{Input}
use Rattle.cue_station.specs.declared.heard.Send.{Send}
use Rattle.cue_station.specs.declared.station.Station.{Station}
use Rattle.cue_station.specs.declared.station.Step.{Step}
use Rattle.cue_station.specs.Evening.{Plays}
use Rattle.cue_station.specs.Memory.{IsAfter, StepKeeps}
use Rattle.cue_station.specs.Stepping.{IsSame}
use Rattle.cue_view.specs.declared.view.View.{View}
use Rattle.cue_desk_run.specs.declared.outlet.Outlet.{Outlet}
use Rattle.cue_desk_run.specs.declared.outlet.Way.{Way}
use Rattle.cue_desk_run.specs.declared.sources.Sources.{Sources}
use Rattle.cue_desk_run.specs.Failing.{Fails, untried}
use Rattle.cue_desk_run.specs.Working.{AreUnpressed}

-- ---- the way out

-- nothing has left, and nothing was tried
pub record IsUnused (o : Outlet) : Type 0 where
  pub count : o.count ≡ 0
  pub newest : o.newest.items ≡ []
  pub tries : o.tries ≡ untried

-- nothing left: the count, the newest and the way are as they were
pub record NothingLeaves (old new : Outlet) : Type 0 where
  pub way : new.way ≡ old.way
  pub count : new.count ≡ old.count
  pub newest : new.newest ≡ old.newest

-- one message left, and it is this one
pub record MessageLeaves (message : List ℕ) (old new : Outlet) : Type 0 where
  pub way : new.way ≡ old.way
  pub count : new.count ≡ old.count + 1
  pub newest : new.newest.items ≡ message

-- it is said who asks, unless nobody is named or it is a question for the status
abbrev pub is_said : Bool → Option AskerName → Bool
is_said status name = not status && is_some name

-- the datagram is the message that says a name
abbrev pub SaysWhoAsks : List ℕ → Type 0
SaysWhoAsks bytes = (name : List ℕ) × SaysWho name bytes

-- the way that the sources of a desk say
abbrev pub way_of : Sources → Way
way_of s = record { port = s.port; name = s.name; together = s.together }

-- ---- what the machine says to send

-- it has the number and the words of what the machine says to send, with the cues that stand by together with its own
pub record IsLetterFor (w : Way) (s : Send) (l : Letter) : Type 0 where
  pub number : l.number ≡ s.ask
  pub words : IsLetterOf s.order (companions_of w.together.now s.order) l

-- one letter left, and it is the one for this
pub record LetterLeaves (s : Send) (old new : Outlet) : Type 0 where
  pub letter : Letter
  pub is_for : IsLetterFor old.way s letter
  pub leaves : MessageLeaves letter.message.items old new

-- it left; or nothing did, and the fault is kept
abbrev pub LeavesOrFails : Send → (old new : Outlet) → Type 0
LeavesOrFails s old new =
    (LetterLeaves s old new × (new.tries.has_failed ≡ false)) ⊎ (NothingLeaves old new × Fails old.tries new.tries)

-- what is to be sent leaves, or its fault is kept; if there is nothing to send all is as it was
abbrev pub Sends : Option Send → (old new : Outlet) → Type 0
Sends None old new = new ≡ old
Sends (Some s) old new = LeavesOrFails s old new

-- the same of one step after the other
abbrev pub SendsAll : List Step → (old new : Outlet) → Type 0
SendsAll [] old new = new ≡ old
SendsAll (s ∷ more) old new = (mid : Outlet) × (Sends s.send old mid × SendsAll more mid new)

-- ---- what the desk hears

-- Its machine made a step of this at some moment. The view of that step is the newest, and what it says to send leaves,
-- once: nothing else does.
pub record HearsSending (h : Heard) (old new : Station) (v : View) (o o_then : Outlet) : Type 0 where
  pub at : ℕ
  pub wall : ℕ
  pub send : Option Send
  pub keeps : StepKeeps old (record { at = at; wall = wall; heard = h }) new (record { view = v; send = send })
  pub sends : Sends send o o_then

-- it heard this; or it could not, all is as it was, and nothing left
abbrev pub SendsIf : Bool → Heard → (old new : Station) → (v v_then : View) → (o o_then : Outlet) → Type 0
SendsIf true h old new v v_then o o_then = HearsSending h old new v_then o o_then
SendsIf false h old new v v_then o o_then = IsSame old new × ((v_then ≡ v) × (o_then ≡ o))

-- It heard one thing after the other, and none of them was a press. Of each its machine made a step, and what that says
-- to send left, once, in order: nothing else did.
pub record OnlySends (old new : Station) (o o_then : Outlet) : Type 0 where
  pub heard : List Input
  pub steps : List Step
  pub unpressed : AreUnpressed heard
  pub plays : Plays old heard steps new
  pub sends : SendsAll steps o o_then

-- A desk that has just begun: nothing has left but what its steps since then say, and none of them was of a press.
pub record Begins (s : Station) (o : Outlet) : Type 0 where
  pub first : Station
  pub new : IsAfter [] first
  pub fresh : Outlet
  pub unused : IsUnused fresh
  pub sends : OnlySends first s fresh o

-- this step is the first, and not of a press
pub record IsFirstStep (old new : Station) (step : Step) : Type 0 where
  pub input : Input
  pub unpressed : AreUnpressed (input ∷ [])
  pub keeps : StepKeeps old input new step
