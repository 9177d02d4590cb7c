-- A house: a stage, and the desks at which people press. What may happen in it, and who gives commands.
--
-- All that a house is follows from the list of what happened in it, the latest first: on its stage, or at one of its
-- desks. So of each press it is known what had happened on the stage by then.
use Rattle.std.specs.Prelude.{◌≡◌, ◌⊎◌, ℕ, Bool, true, if◌then◌else◌, List, [], ◌∷◌, Some, Ok, nat_eq, IsTrue}
use Rattle.std.specs.List.{Contains}
use Rattle.cue_show.specs.Number.{is_cue_number}
use Rattle.cue_osc.specs.Reading.{datagram_at}
use Rattle.cue_engine.specs.Given.{Input, datagram, tick}
use Rattle.cue_engine.specs.Incidents.{committed, stopped_in_commit}
use Rattle.cue_desk.specs.declared.orders.DeskCommand.{DeskCommand}
use Rattle.cue_desk.specs.declared.orders.DeskCommand.TheVariants as order
use Rattle.cue_desk.specs.Together.{message_with}
use Rattle.cue_station.specs.declared.heard.Send.{Send}
use Rattle.cue_station.specs.Laws.{KeepsLaw}
use Rattle.cue_station.specs.Turns.{Turn}
use Rattle.cue_stage.specs.Stage.{Beginning, Happening, meets, Happens}
use Rattle.cue_house.specs.Asking.{AsksForGo}

-- What happens in a house: something on its stage; or a turn of the desk with this number, with what came to it, the
-- view that it showed, and the message that it sent.
pub data Occurrence : Type 0 where
  on_stage : Happening → Occurrence
  at_desk : (desk : ℕ) → Turn → Occurrence

-- what has happened on the stage, the latest first
abbrev pub stage_of : List Occurrence → List Happening
stage_of [] = []
stage_of (on_stage h ∷ past) = h ∷ stage_of past
stage_of (at_desk n t ∷ past) = stage_of past

-- the turns of the desk n, the latest first
abbrev pub turns_of : ℕ → List Occurrence → List Turn
turns_of n [] = []
turns_of n (on_stage h ∷ past) = turns_of n past
turns_of n (at_desk m t ∷ past) = if nat_eq m n then t ∷ turns_of n past else turns_of n past

-- On the stage all happens in turn, and each desk keeps its law.
pub record Lives (from : Beginning) (house : List Occurrence) : Type 0 where
  pub stage : Happens from (stage_of house)
  pub desks : (n : ℕ) → KeepsLaw (turns_of n house)

-- ---- who gives commands

-- the cue that a command names is a cue number; one that names none is as good
abbrev pub names_cue : DeskCommand → Bool
names_cue (order.OfCue verb cue) = is_cue_number cue
names_cue _ = true

-- In this turn a desk sends a message, and these are its bytes: they are read as its command, by itself or with the
-- cues that are stood by with it.
pub record HandsOver (t : Turn) (bytes : List ℕ) : Type 0 where
  pub message : Send
  pub sent : t.sent ≡ Some message
  pub others : List (List ℕ)
  pub read : datagram_at bytes ≡ Ok (message_with message.order others)
  pub named : IsTrue (names_cue message.order)

-- by now some desk has sent a message with these bytes
abbrev pub WasHandedOver : List Occurrence → List ℕ → Type 0
WasHandedOver [] bytes = ⊥
WasHandedOver (on_stage h ∷ past) bytes = WasHandedOver past bytes
WasHandedOver (at_desk n t ∷ past) bytes = HandsOver t bytes ⊎ WasHandedOver past bytes

-- an input that asks for a go has the bytes of a message that some desk has sent
abbrev pub IsFromDesk : List Occurrence → ℕ → Input → Type 0
IsFromDesk house now (datagram from bytes) =
    (cue : List ℕ) → AsksForGo now (datagram from bytes) cue → WasHandedOver house bytes
IsFromDesk house now tick = Unit {0}

-- each of these inputs that asks for a go has such bytes
abbrev pub AreFromDesks : List Occurrence → List (ℕ × Input) → Type 0
AreFromDesks house inputs = (i : ℕ × Input) → Contains inputs i → IsFromDesk house i.0 i.1

-- what happens on the stage brings no other go to the controller
abbrev pub BringsNoOther : List Occurrence → Happening → Type 0
BringsNoOther house (meets (committed inputs)) = AreFromDesks house inputs
BringsNoOther house (meets (stopped_in_commit inputs n one other)) = AreFromDesks house inputs
BringsNoOther house _ = Unit {0}

-- Only desks command: whatever asks for a go has the bytes of a message that some desk had sent before. It may come
-- late, and in any number of copies.
abbrev pub OnlyDesksCommand : List Occurrence → Type 0
OnlyDesksCommand [] = Unit {0}
OnlyDesksCommand (on_stage h ∷ past) = BringsNoOther past h × OnlyDesksCommand past
OnlyDesksCommand (at_desk n t ∷ past) = OnlyDesksCommand past
