-- What joins two calls: the struct that C hands back unchanged is the device that the call before has left.
use Rattle.std.specs.Prelude.{◌≡◌, ◌≤◌, ℕ, false, List, [], ◌∷◌, Option, Some}
use Rattle.cue_show.specs.declared.limits.TheConstants.{MAX_DEVICE_NUMBER}
use Rattle.cue_device.specs.declared.hearing.Device.{Device}
use Rattle.cue_device.specs.declared.hearing.Told.TheVariants.{Prepared, Moved, GaveUp, Cannot}
use Rattle.cue_device.specs.declared.words.Order.{Order}
use Rattle.cue_device.specs.declared.words.Order.TheVariants.{Move}
use Rattle.cue_device.specs.Datagrams.{HasTask}
use Rattle.cue_device.specs.Hearing.{device_at_rest, task_now}
use Rattle.cue_device.specs.Histories.{Happening, KeepsNumbers, device_after, latest, orders_of}
use Rattle.cue_device.specs.Laws.{has_moved}
use Rattle.cue_device_c.specs.Calls.{Ends, Hears, IsMade, IsRestarted, Names, Tells, Ticks}
use Rattle.cue_device_c.specs.Codes.{order_of}
use Rattle.cue_device_c.specs.State.{device_of, numbers_of}
use Rattle.cue_device_c.specs.declared.answer.CueAnswer.{CueAnswer}
use Rattle.cue_device_c.specs.declared.codes.TheConstants.{PREPARE, MOVE, GIVE_UP}
use Rattle.cue_device_c.specs.declared.state.CueDevice.{CueDevice}
use Rattle.cue_device_c.specs.declared.state.CuePlace.{CuePlace}

-- ---- one device

-- a device that there may be: its number is one of a device, and what it is asked to prepare for is a task
pub record MayBe (d : Device) : Type 0 where
  pub number : d.number ≤ MAX_DEVICE_NUMBER
  pub task : HasTask (task_now d.attempt)

-- the numbers of a device stand for that device, whatever places stand beside them
abbrev pub StandForIt : Type 0
StandForIt = (d : Device) (controller only : CuePlace) → MayBe d → device_of (numbers_of d controller only) ≡ Some d

-- ---- a life over calls

-- what C calls of a device that it has made
pub data Call : Type 0 where
  hears : List ℕ → CuePlace → Call
  prepared : Call
  moved : Call
  gave_up : Call
  cannot : Call
  ticks : Call
  hears_only : CuePlace → Call

-- time has passed, and the struct stays
pub record Stays (old new : CueDevice) (answer : CueAnswer) (given : ℕ) : Type 0 where
  pub state : new ≡ old
  pub ticked : Ticks old answer given

-- what the call makes of the struct, what it has to send, and what it gives
abbrev pub Makes : Call → CueDevice → CueDevice → CueAnswer → ℕ → Type 0
Makes (hears datagram from) old new answer given = Hears datagram from old new answer given
Makes prepared old new answer given = Ends PREPARE (λ q. Prepared q) old new answer given
Makes moved old new answer given = Ends MOVE (λ q. Moved q) old new answer given
Makes gave_up old new answer given = Ends GIVE_UP (λ q. GaveUp q) old new answer given
Makes cannot old new answer given = Tells (λ q. Cannot q) old new answer given
Makes ticks old new answer given = Stays old new answer given
Makes (hears_only sender) old new answer given = Names sender old new given

-- a call, with what it left and gave
pub record Step : Type 0 where
  pub call : Call
  pub left : CueDevice
  pub answer : CueAnswer
  pub given : ℕ

-- the struct after all calls, the latest first
abbrev pub left_by : CueDevice → List Step → CueDevice
left_by first [] = first
left_by first (s ∷ ss) = s.left

-- each call was handed what the one before it had left
abbrev pub Life : CueDevice → List Step → Type 0
Life first [] = Unit {0}
Life first (s ∷ ss) = Makes s.call (left_by first ss) s.left s.answer s.given × Life first ss

-- what the machine was told by the call: the order that it gave, for the attempt of the last number
abbrev pub told_at : Step → Option Order
told_at s = order_of s.given s.left.last

-- what it was told by all of them, the latest first
abbrev pub told_by : List Step → List Order
told_by [] = []
told_by (s ∷ ss) = latest (told_at s) (told_by ss)

-- The struct stands for a device of this number, the attempts up to over being over at first, after all that happened
-- to it; and the machine was told what that device ordered.
pub record LivesAs (number over : ℕ) (first : CueDevice) (ss : List Step) : Type 0 where
  pub history : List Happening
  pub keeps : KeepsNumbers (device_at_rest number over) history
  pub stands : device_of (left_by first ss) ≡ Some (device_after (device_at_rest number over) history)
  pub told : told_by ss ≡ orders_of (device_at_rest number over) history

-- Whatever is called in whatever order, if each call is handed what the one before left: at each moment the struct
-- stands for the device that was made, after what has happened to it. So what cue_device::laws says of a device holds
-- of the struct.
abbrev pub LivesOverCalls : Type 0
LivesOverCalls = (number given : ℕ) (first : CueDevice) (ss : List Step) → number ≤ MAX_DEVICE_NUMBER
    → IsMade number first given → Life first ss → LivesAs number 0 first ss

-- and after a restart
abbrev pub LivesAfterARestart : Type 0
LivesAfterARestart = (number kept given : ℕ) (from : CuePlace) (first : CueDevice) (ss : List Step)
    → number ≤ MAX_DEVICE_NUMBER → IsRestarted number kept from first given → Life first ss
    → LivesAs number kept first ss

-- so in such a life C is told to move at most once for each number
abbrev pub MovesOnceOverCalls : Type 0
MovesOnceOverCalls = (number q given : ℕ) (first : CueDevice) (s : Step) (ss : List Step)
    → number ≤ MAX_DEVICE_NUMBER → IsMade number first given → Life first (s ∷ ss) → told_at s ≡ Some (Move q)
    → has_moved q (told_by ss) ≡ false
