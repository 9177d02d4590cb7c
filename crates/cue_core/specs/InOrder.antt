-- The order in which the events of an attempt come.
use Rattle.std.specs.Prelude.{ℕ, Bool, true, not, ◌&&◌, ◌||◌, List, [], ◌∷◌, IsTrue}
use Rattle.std.specs.List.{list_any, list_all}
use Rattle.cue_show.specs.declared.part.Part.{Part}
use Rattle.cue_core.specs.declared.event.Event.{Event}
use Rattle.cue_core.specs.declared.event.Event.TheVariants.{Go, Cancel}
use Rattle.cue_core.specs.Events.{is_start_of, is_go_of, is_cancel_of}
use Rattle.cue_core.specs.History.{is_history, parts_by, stood_by, was_excused}

-- the device of the part stood by in q, or it is optional and was excused
abbrev pub may_go_by : List Event → ℕ → Part → Bool
may_go_by past q p = stood_by past q p.device || (p.optional && was_excused past q p.device)

-- what must have been accepted before the event: before Go, the Start, Ready of each required device, Ready or Excuse
-- of each optional one, and no Cancel; before Cancel, no Go
abbrev pub keeps_order : List Event → Event → Bool
keeps_order past (Go q) =
    list_any (is_start_of q) past && (list_all (may_go_by past q) (parts_by past q)
    && not (list_any (is_cancel_of q) past))
keeps_order past (Cancel q r) = not (list_any (is_go_of q) past)
keeps_order past _ = true

-- each event of the history keeps the order
abbrev pub is_in_order : List Event → Bool
is_in_order [] = true
is_in_order (e ∷ past) = keeps_order past e && is_in_order past

-- Go comes only after Ready of each required device, Ready or Excuse of each optional one, and no Cancel; and after
-- Go no Cancel comes.
abbrev pub GoAfterReady : Type 0
GoAfterReady = (h : List Event) → IsTrue (is_history h) → IsTrue (is_in_order h)
