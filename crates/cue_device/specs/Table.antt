-- The table of what a device makes of each order of the controller, by the place of its number q and the phase of the
-- attempt.
use Rattle.std.specs.Prelude.{ℕ, Bool, if◌then◌else◌, Some, None}
use Rattle.cue_device.specs.declared.asked.Command.{Command}
use Rattle.cue_device.specs.declared.asked.Command.TheVariants.{Standby, Go, Cancel}
use Rattle.cue_device.specs.declared.phase.Phase.{Phase}
use Rattle.cue_device.specs.declared.phase.Phase.TheVariants.{Preparing, Ready, Moving, Done, LettingGo, LetGo, Failed}
use Rattle.cue_device.specs.declared.phase.Cell.{Cell}
use Rattle.cue_device.specs.declared.words.Order.{Order}
use Rattle.cue_device.specs.declared.words.Order.TheVariants.{Prepare, Move, GiveUp}
use Rattle.cue_device.specs.declared.words.Answer.{Answer}
use Rattle.cue_device.specs.declared.words.Answer.TheVariants.{StandingBy, Complete, Cancelled, Abort}

-- nothing is ordered and nothing is answered; the phase stays
abbrev pub stay : Phase → Cell
stay phase = record { phase = phase; order = None; answer = None }

-- this is answered, and nothing is ordered; this is the phase from now on
abbrev pub say : Phase → Answer → Cell
say phase answer = record { phase = phase; order = None; answer = Some answer }

-- this is ordered, and nothing is answered yet; this is the phase from now on
abbrev pub act : Phase → Order → Cell
act phase order = record { phase = phase; order = Some order; answer = None }

-- ---- the attempt's own number

-- A standby for the task that is known. Once the device was ordered to move it is a late copy, and is not answered.
-- After it gave up or failed, nothing is prepared for the number any more.
abbrev pub same_standby : ℕ → Phase → Cell
same_standby q Preparing = stay Preparing
same_standby q Ready = say Ready (StandingBy q)
same_standby q Moving = stay Moving
same_standby q Done = stay Done
same_standby q LettingGo = stay LettingGo
same_standby q LetGo = say LetGo (Abort q)
same_standby q Failed = say Failed (Abort q)

-- a standby for another task: the number came back with another meaning, and what is prepared is given up
abbrev pub other_standby : ℕ → Phase → Cell
other_standby q Preparing = record { phase = Failed; order = Some (GiveUp q); answer = Some (Abort q) }
other_standby q Ready = record { phase = Failed; order = Some (GiveUp q); answer = Some (Abort q) }
other_standby q Moving = say Failed (Abort q)
other_standby q Done = say Failed (Abort q)
other_standby q LettingGo = say Failed (Abort q)
other_standby q LetGo = say Failed (Abort q)
other_standby q Failed = say Failed (Abort q)

-- a go
abbrev pub same_go : ℕ → Phase → Cell
same_go q Preparing = say Failed (Abort q)
same_go q Ready = act Moving (Move q)
same_go q Moving = stay Moving
same_go q Done = say Done (Complete q)
same_go q LettingGo = say Failed (Abort q)
same_go q LetGo = say Failed (Abort q)
same_go q Failed = say Failed (Abort q)

-- A cancel. In one life of a store none comes to a device that was ordered to go; in a store that was restored from a
-- copy the attempt can end by the answer.
abbrev pub same_cancel : ℕ → Phase → Cell
same_cancel q Preparing = act LettingGo (GiveUp q)
same_cancel q Ready = act LettingGo (GiveUp q)
same_cancel q Moving = stay Moving
same_cancel q Done = say Done (Cancelled q)
same_cancel q LettingGo = stay LettingGo
same_cancel q LetGo = say LetGo (Cancelled q)
same_cancel q Failed = say Failed (Cancelled q)

-- ---- a number above all that was heard of

-- a standby, if the machine is free or still does what an earlier number asked for
abbrev pub new_standby : ℕ → Bool → Cell
new_standby q free = if free then act Preparing (Prepare q) else say Failed (Abort q)

-- a go: it was never prepared here
abbrev pub new_go : ℕ → Cell
new_go q = say Failed (Abort q)

-- a cancel: there is nothing to give up
abbrev pub new_cancel : ℕ → Cell
new_cancel q = say LetGo (Cancelled q)

-- what is made of an order of the controller with a new number
abbrev pub new_number : Bool → Command → Cell
new_number free (Standby q task) = new_standby q free
new_number free (Go q) = new_go q
new_number free (Cancel q) = new_cancel q

-- ---- what the machine reports of the attempt's own number

-- it has prepared
abbrev pub prepared_in : ℕ → Phase → Cell
prepared_in q Preparing = say Ready (StandingBy q)
prepared_in q Ready = stay Ready
prepared_in q Moving = stay Moving
prepared_in q Done = stay Done
prepared_in q LettingGo = stay LettingGo
prepared_in q LetGo = stay LetGo
prepared_in q Failed = stay Failed

-- it has moved
abbrev pub moved_in : ℕ → Phase → Cell
moved_in q Preparing = stay Preparing
moved_in q Ready = stay Ready
moved_in q Moving = say Done (Complete q)
moved_in q Done = stay Done
moved_in q LettingGo = stay LettingGo
moved_in q LetGo = stay LetGo
moved_in q Failed = stay Failed

-- it has given up what it prepared
abbrev pub gave_up_in : ℕ → Phase → Cell
gave_up_in q Preparing = stay Preparing
gave_up_in q Ready = stay Ready
gave_up_in q Moving = stay Moving
gave_up_in q Done = stay Done
gave_up_in q LettingGo = say LetGo (Cancelled q)
gave_up_in q LetGo = stay LetGo
gave_up_in q Failed = stay Failed

-- it cannot go on
abbrev pub cannot_in : ℕ → Phase → Cell
cannot_in q Preparing = say Failed (Abort q)
cannot_in q Ready = say Failed (Abort q)
cannot_in q Moving = say Failed (Abort q)
cannot_in q Done = stay Done
cannot_in q LettingGo = say Failed (Abort q)
cannot_in q LetGo = stay LetGo
cannot_in q Failed = say Failed (Abort q)

-- ---- a number that is over

-- nothing is prepared and nothing moves for it, and there is nothing to give up
abbrev pub answer_over : Command → Answer
answer_over (Standby q task) = Abort q
answer_over (Go q) = Abort q
answer_over (Cancel q) = Cancelled q
