-- In a house a device moves only after a press.
use Rattle.std.proofs.Common.{◌≡◌, inl, inr, ℕ, Bool, true, false, cond, List, [], ◌∷◌, nat_eq, subst}
use Rattle.std.specs.List.{Contains}
use Rattle.cue_show.proofs.TestLemmas.{same_self}
use Rattle.cue_core.specs.Happenings.{onto}
use Rattle.cue_engine.specs.Given.{Input, datagram, tick}
use Rattle.cue_engine.specs.Incidents.{formed, stopped_in_form, committed, handed_out, handed_some, stopped}
use Rattle.cue_engine.specs.Incidents.{stopped_in_commit, recovered, stopped_in_recovery, refused}
use Rattle.cue_engine.specs.Runs.{joined_list}
use Rattle.cue_station.specs.Laws.{Keeps, KeepsLaw}
use Rattle.cue_station.specs.Turns.{Turn}
use Rattle.cue_stage.specs.Stage.{Happening, meets, befalls}
use Rattle.cue_stage.specs.Tasks.{cue_by}
use Rattle.cue_house.specs.Asking.{AsksForGo}
use Rattle.cue_house.specs.Decisions.{BringsGo, OneAsks, WasAsked, WasGivenAsAsked}
use Rattle.cue_house.specs.House.{Occurrence, on_stage, at_desk, BringsNoOther, IsFromDesk}
use Rattle.cue_house.specs.House.{OnlyDesksCommand, WasHandedOver, stage_of, turns_of}
use Rattle.cue_house.specs.Presses.{AMotionWasPressed, WasPressed}
use Rattle.cue_house.proofs.DecidedLemmas.{a_motion_was_asked}
use Rattle.cue_house.proofs.HandedLemmas.{handed_go}
use Rattle.cue_house.proofs.PressedLemmas.{press_of}

-- ---- the desks of a house

-- each desk keeps its law
abbrev pub Desks : List Occurrence → Type 0
Desks house = (n : ℕ) → KeepsLaw (turns_of n house)

pub earlier_desks : (n : ℕ) (t : Turn) (past : List Occurrence) → Desks (at_desk n t ∷ past) → Desks past
earlier_desks n t past desks m = by (nat_eq n m) (desks m)
  where
    by : (b : Bool) → KeepsLaw (cond b (t ∷ turns_of m past) (turns_of m past)) → KeepsLaw (turns_of m past)
    by true law = law.1
    by false law = law

this_desk : (n : ℕ) (t : Turn) (past : List Occurrence) → Desks (at_desk n t ∷ past) → Keeps t (turns_of n past)
this_desk n t past desks = by (nat_eq n n) (same_self n) (desks n)
  where
    by : (b : Bool) → b ≡ true → KeepsLaw (cond b (t ∷ turns_of n past) (turns_of n past)) → Keeps t (turns_of n past)
    by true is law = law.0
    by false is law = absurd cc

-- ---- what was handed over was pressed

handed_pressed : (house : List Occurrence) (bytes : List ℕ) (now from : ℕ) (cue : List ℕ) → Desks house
    → WasHandedOver house bytes → AsksForGo now (datagram from bytes) cue → WasPressed house cue
handed_pressed [] bytes now from cue desks handed asks = absurd handed
handed_pressed (on_stage h ∷ past) bytes now from cue desks handed asks =
    handed_pressed past bytes now from cue desks handed asks
handed_pressed (at_desk n t ∷ past) bytes now from cue desks (inl handed) asks =
    inl (press_of t (turns_of n past) handed.message cue (this_desk n t past desks)
    (earlier_desks n t past desks n) handed.sent (handed_go t bytes now from cue handed asks))
handed_pressed (at_desk n t ∷ past) bytes now from cue desks (inr earlier) asks =
    inr (handed_pressed past bytes now from cue (earlier_desks n t past desks) earlier asks)

from_desk : (house : List Occurrence) (now : ℕ) (input : Input) (cue : List ℕ) → Desks house
    → IsFromDesk house now input → AsksForGo now input cue → WasPressed house cue
from_desk house now (datagram from bytes) cue desks is asks =
    handed_pressed house bytes now from cue desks (is cue asks) asks
from_desk house now tick cue desks is asks = absurd asks.brings

one_pressed : (house : List Occurrence) (inputs : List (ℕ × Input)) (cue : List ℕ) → Desks house
    → ((i : ℕ × Input) → Contains inputs i → IsFromDesk house i.0 i.1) → OneAsks inputs cue → WasPressed house cue
one_pressed house inputs cue desks are one =
    from_desk house one.input.0 one.input.1 cue desks (are one.input one.there) one.asks

pub brought_pressed : (house : List Occurrence) (h : Happening) (cue : List ℕ) → Desks house → BringsNoOther house h
    → BringsGo h cue → WasPressed house cue
brought_pressed house (meets formed) cue desks only brings = absurd brings
brought_pressed house (meets (stopped_in_form one other)) cue desks only brings = absurd brings
brought_pressed house (meets (committed inputs)) cue desks only brings =
    one_pressed house inputs cue desks only brings
brought_pressed house (meets handed_out) cue desks only brings = absurd brings
brought_pressed house (meets (handed_some n)) cue desks only brings = absurd brings
brought_pressed house (meets (stopped n one other)) cue desks only brings = absurd brings
brought_pressed house (meets (stopped_in_commit inputs n one other)) cue desks only brings =
    one_pressed house inputs cue desks only brings
brought_pressed house (meets (recovered s)) cue desks only brings = absurd brings
brought_pressed house (meets (stopped_in_recovery one other)) cue desks only brings = absurd brings
brought_pressed house (meets (refused one other)) cue desks only brings = absurd brings
brought_pressed house (befalls d what) cue desks only brings = absurd brings

asked_pressed : (house : List Occurrence) (cue : List ℕ) → Desks house → OnlyDesksCommand house
    → WasAsked (stage_of house) cue → WasPressed house cue
asked_pressed [] cue desks only asked = absurd asked
asked_pressed (on_stage h ∷ past) cue desks only (inl brings) = brought_pressed past h cue desks only.0 brings
asked_pressed (on_stage h ∷ past) cue desks only (inr asked) = asked_pressed past cue desks only.1 asked
asked_pressed (at_desk n t ∷ past) cue desks only asked =
    inr (asked_pressed past cue (earlier_desks n t past desks) only asked)

-- ---- from a finger to a machine

pub a_motion_was_pressed : AMotionWasPressed
a_motion_was_pressed from house x y d q keeps lives only moved =
    let asked : WasGivenAsAsked (stage_of house) (joined_list keeps.kept) q =
    a_motion_was_asked from (stage_of house) x y d q keeps moved in
    asked_pressed house (cue_by (onto (joined_list keeps.kept) []) q) lives.desks only
    (subst (WasAsked (stage_of house)) asked.of_start asked.given.asked)
