-- Helper: the rounds of a run: what was offered, and what one group comes to.
use Rattle.std.specs.Prelude.{◌≡◌, ◌≤◌, ◌+◌, ◌⊎◌, ◌↔◌, ◌^◌, ◌-◌, ℕ, Bool, true, false, length, min, IsTrue}
use Rattle.std.specs.Prelude.{List, [], ◌∷◌, ◌++◌, Option, Some, None, Result, Ok, Err}
use Rattle.cue_disk.specs.declared.disk.Disk.{Ghosts}
use Rattle.cue_keeper.specs.declared.fault.Fault.{Fault}
use Rattle.cue_keeper.specs.declared.fault.Fault.TheVariants.{Broken, Memory, Disk, Full}
use Rattle.cue_keeper.specs.declared.keeper.Keeper.{Keeper}
use Rattle.cue_keeper.specs.Accepting.{Accepts}
use Rattle.cue_keeper.specs.Pairs.{LeavesPairsAtEachMoment}
use Rattle.cue_keeper.specs.Stands.{StandsEither, folded_all}
use Rattle.cue_keeper.specs.Observed as kept
use Rattle.cue_engine.specs.declared.engine.Engine.{Engine}
use Rattle.cue_engine.specs.Given.{Input}
use Rattle.cue_engine.specs.Groups.{batches_given}
use Rattle.cue_engine.specs.Lives.{Life, with_all, RunsWith, InEachLifeWith, View, view_of, IsSound}
use Rattle.cue_engine.specs.Taking.{IsOffered, WhateverWasOffered}
use Rattle.cue_engine.specs.Observed.{keeper_of, state_of, queue_of, offered_of, offered_sends_of, has_room}
use Rattle.cue_engine.specs.Observed.{HasRoomForAll}
use Rattle.cue_engine.specs.Wires.{Handed, AllHanded, HandedSoFar}
use Rattle.cue_run.specs.declared.turns.RunFault.{RunFault}
use Rattle.cue_run.specs.declared.turns.RunFault.TheVariants as fault
use Rattle.cue_run.specs.declared.groups.round.Round.{Round}
use Rattle.cue_run.specs.declared.groups.offering.Stop.{Stop}
use Rattle.cue_run.specs.declared.groups.offering.Stop.TheVariants as stop
use Rattle.cue_run.specs.declared.groups.offering.First.{First}
use Rattle.cue_run.specs.declared.groups.offering.First.TheVariants as first
use Rattle.cue_run.specs.Running.{given_answers, HasRun, Keeps, Works, Refuses}
use Rattle.cue_run.specs.Through.{Past, point_of, Leads, steps_of, inputs_of}
use Rattle.cue_engine.specs.Sources.{Answer, comes, ends, fails, GaveAll}

-- ---- what was offered

-- What was offered stays, and nothing else has changed.
pub record StaysOffered {D : Type 0} {disk : Ghosts D} (old new : Engine D disk) : Type 0 where
  pub keeper : keeper_of new ≡ keeper_of old
  pub queue : queue_of new ≡ queue_of old
  pub batches : offered_of new ≡ offered_of old
  pub sends : offered_sends_of new ≡ offered_sends_of old

-- Inputs were offered after those before them, as the source gave them, and nothing else has changed. So many were
-- offered before, and so many are now.
pub record HasOffered {D : Type 0} {disk : Ghosts D} (size count count_then : ℕ) (old new : Engine D disk)
    (left left_then : Option (List Answer)) : Type 0 where
  pub inputs : List (ℕ × Input)
  pub number : count_then ≡ count + length inputs
  pub gave : GaveAll size left (given_answers inputs) left_then
  pub offered : WhateverWasOffered old (λ before. IsOffered (before ++ inputs) new)
  pub keeper : keeper_of new ≡ keeper_of old
  pub queue : queue_of new ≡ queue_of old

-- why an engine refuses what it is offered
abbrev pub IsTurnedDown : {D : Type 0} {disk : Ghosts D} → Fault → Keeper D disk → Type 0
IsTurnedDown f keeper = ((f ≡ Broken) ↔ (kept.is_broken keeper ≡ true)) × ((f ≡ Broken) ⊎ (f ≡ Memory))

-- no further input was offered: nothing waits, the source failed, or the engine refused what came
abbrev pub CutShort : {D : Type 0} {disk : Ghosts D} → ℕ → Option RunFault → Keeper D disk
    → (left left_then : Option (List Answer)) → Type 0
CutShort size None keeper left left_then = left_then ≡ left
CutShort size (Some fault.Source) keeper left left_then = GaveAll size left (fails ∷ []) left_then
CutShort size (Some (fault.Engine f)) keeper left left_then =
    ((t : ℕ × Input) × GaveAll size left (comes t.0 t.1 ∷ []) left_then) × IsTurnedDown f keeper

-- what is offered now can be committed together, if there was room for one input more
abbrev pub StillFits : {D : Type 0} {disk : Ghosts D} → (old new : Engine D disk) → Type 0
StillFits old new = IsTrue (has_room old) → HasRoomForAll new

-- one input more was offered, or none: the source failed, or the engine refused what came
abbrev pub OfferedOne : {D T : Type 0} {disk : Ghosts D} → (size count count_then : ℕ) → Result T RunFault
    → (old new : Engine D disk) → (left left_then : Option (List Answer)) → Type 0
OfferedOne size count count_then (Ok done) old new left left_then =
    HasOffered size count count_then old new left left_then × (count_then ≡ count + 1) × StillFits old new
OfferedOne size count count_then (Err why) old new left left_then =
    StaysOffered old new × (count_then ≡ count) × CutShort size (Some why) (keeper_of old) left left_then

-- whichever source gave the input, P holds of its buffer's size, and of what it had left before and after
abbrev pub WhicheverGave : ℕ × Input → (ℕ → (left left_then : Option (List Answer)) → Type 0) → Type 0
WhicheverGave t P =
    (size : ℕ) (left left_then : Option (List Answer))
    → GaveAll size left (comes t.0 t.1 ∷ []) left_then
    → P size left left_then

-- the next input was offered, or nothing was there
abbrev pub OfferedNext : {D : Type 0} {disk : Ghosts D} → (size count count_then : ℕ) → Result Bool RunFault
    → (old new : Engine D disk) → (left left_then : Option (List Answer)) → Type 0
OfferedNext size count count_then (Ok false) old new left left_then =
    StaysOffered old new × (count_then ≡ count) × (left_then ≡ left)
OfferedNext size count count_then r old new left left_then = OfferedOne size count count_then r old new left left_then

-- the first input of a group was offered, or the source ended
abbrev pub OfferedFirst : {D : Type 0} {disk : Ghosts D} → (size count count_then : ℕ) → Result First RunFault
    → (old new : Engine D disk) → (left left_then : Option (List Answer)) → Type 0
OfferedFirst size count count_then (Ok first.End) old new left left_then =
    StaysOffered old new × (count_then ≡ count) × GaveAll size left (ends ∷ []) left_then
OfferedFirst size count count_then r old new left left_then = OfferedOne size count count_then r old new left left_then

-- nothing was offered: the source ended or failed, or the engine refused what came
abbrev pub StoppedAtFirst : {D : Type 0} {disk : Ghosts D} → ℕ → Stop → Keeper D disk
    → (left left_then : Option (List Answer)) → Type 0
StoppedAtFirst size stop.Ended keeper left left_then = GaveAll size left (ends ∷ []) left_then
StoppedAtFirst size (stop.Fault why) keeper left left_then = CutShort size (Some why) keeper left left_then

-- how many answers cut a group short that were no input of it
abbrev pub answers_beside : Option RunFault → ℕ
answers_beside None = 0
answers_beside (Some why) = 1

-- Inputs were offered for as long as some waited, and this cut them short.
pub record Gathered {D : Type 0} {disk : Ghosts D} (size count count_then : ℕ) (why : Option RunFault)
    (old new : Engine D disk) (left left_then : Option (List Answer)) : Type 0 where
  pub mid : Option (List Answer)
  pub offered : HasOffered size count count_then old new left mid
  pub cut : CutShort size why (keeper_of old) mid left_then

-- A group of so many inputs at most was offered, of one at least, and with the answer that cut it short there are no
-- more; or none was.
abbrev pub OfferedGroup : {D : Type 0} {disk : Ghosts D} → (size room count : ℕ) → Result (Option RunFault) Stop
    → (old new : Engine D disk) → (left left_then : Option (List Answer)) → Type 0
OfferedGroup size room count (Ok cut) old new left left_then =
    Gathered size 0 count cut old new left left_then × (1 ≤ count) × (count + answers_beside cut ≤ room)
    × StillFits old new
OfferedGroup size room count (Err stop) old new left left_then =
    StaysOffered old new × StoppedAtFirst size stop (keeper_of old) left left_then

-- ---- one round

-- all were handed over, and as many were refused as a number of 64 bits can say
pub record HandedCounted (told : Option (List Handed)) (sent : List (ℕ × List ℕ)) (unsent : ℕ)
    (told_then : Option (List Handed)) : Type 0 where
  pub refused : ℕ
  pub handed : AllHanded told sent refused told_then
  pub counted : unsent ≡ min refused (2 ^ 64 - 1)

-- so far some of what was owed were handed over, and the others are left
pub record CountedSoFar (told : Option (List Handed)) (owed left : List (ℕ × List ℕ)) (unsent : ℕ)
    (told_then : Option (List Handed)) : Type 0 where
  pub refused : ℕ
  pub handed : HandedSoFar told owed left refused told_then
  pub counted : unsent ≡ min refused (2 ^ 64 - 1)

-- the fault that cut a group short ends the run
abbrev pub stop_of : Option RunFault → Option Stop
stop_of None = None
stop_of (Some why) = Some (stop.Fault why)

-- how a run ends after its last round
abbrev pub fault_of : Stop → Option RunFault
fault_of stop.Ended = None
fault_of (stop.Fault why) = Some why

-- what was offered was committed and handed out
pub record TookGroup {D : Type 0} {disk : Ghosts D} (count : ℕ) (cut : Option RunFault) (round : Round)
    (old new : Engine D disk) (told told_then : Option (List Handed)) : Type 0 where
  pub turns : round.turns ≡ count
  pub stop : round.stop ≡ stop_of cut
  pub accepts : Accepts (offered_of old) None (keeper_of old) (keeper_of new)
  pub handed : HandedCounted told (offered_sends_of old) round.unsent told_then

-- its commit was refused, and nothing was handed out
pub record LostGroup {D : Type 0} {disk : Ghosts D} (round : Round) (old new : Engine D disk)
    (told told_then : Option (List Handed)) : Type 0 where
  pub why : Fault
  pub turns : round.turns ≡ 0
  pub unsent : round.unsent ≡ 0
  pub stop : round.stop ≡ Some (stop.Fault (fault.Engine why))
  pub accepts : Accepts (offered_of old) (Some why) (keeper_of old) (keeper_of new)
  pub not_full : HasRoomForAll old → why ≡ Full → ⊥
  pub told_same : told_then ≡ told

-- why no round follows
abbrev pub StoppedBy : {D : Type 0} {disk : Ghosts D} → (size most : ℕ) → Option Stop → (old new : Keeper D disk)
    → (left left_then : Option (List Answer)) → Type 0
StoppedBy size most None old new left left_then = left_then ≡ left
StoppedBy size most (Some stop.Ended) old new left left_then = GaveAll size left (ends ∷ []) left_then
StoppedBy size most (Some (stop.Fault fault.Source)) old new left left_then = GaveAll size left (fails ∷ []) left_then
StoppedBy size most (Some (stop.Fault (fault.Engine f))) old new left left_then =
    Refuses size most f old new left left_then

-- At each moment from the old keeper to the new one a crash leaves the state from before these inputs, or the one after
-- all of them.
abbrev pub LeavesEitherAtEachMoment :
    {D : Type 0} {disk : Ghosts D} → List (ℕ × Input) → (old new : Keeper D disk) → Type 0
LeavesEitherAtEachMoment {disk = disk} inputs old new =
    disk.is_honest (kept.first_of old) → disk.is_honest (kept.second_of old) → kept.is_broken old ≡ false
    → LeavesPairsAtEachMoment disk.moment disk.held_at (kept.first_of old) (kept.second_of old) (kept.first_of new)
    (kept.second_of new)
    (StandsEither (kept.state_of old) (folded_all (kept.state_of old) (batches_given (kept.state_of old) inputs)))

-- What became of the group that was given to the disks: it was taken, or nothing was, and then the wire is told nothing
-- and no round follows.
abbrev pub TookAllOrNone : {D : Type 0} {disk : Ghosts D} → (group inputs : List (ℕ × Input)) → Option Stop
    → (old new : Keeper D disk) → (told told_then : Option (List Handed)) → Type 0
TookAllOrNone group inputs stop old new told told_then =
    ((inputs ≡ group) × Works old new) ⊎ ((inputs ≡ []) × (told_then ≡ told) × (stop ≡ None → ⊥))

-- One round: one group was taken and handed out, or none.
pub record HasRound {D : Type 0} {disk : Ghosts D} (size room : ℕ) (round : Round) (old new : Engine D disk)
    (left left_then : Option (List Answer)) (told told_then : Option (List Handed)) : Type 0 where
  pub mid : Option (List Answer)
  pub taken : HasRun size left (state_of old) [] told round.turns round.unsent mid (state_of new) told_then
  pub why : StoppedBy size room round.stop (keeper_of old) (keeper_of new) mid left_then
  pub at_most : round.turns ≤ room
  pub some : round.stop ≡ None → 1 ≤ round.turns
  pub none_taken : kept.is_broken (keeper_of old) ≡ true → round.turns ≡ 0
  pub rests : kept.is_broken (keeper_of old) ≡ true → kept.pair_of (keeper_of new) ≡ kept.pair_of (keeper_of old)
  pub keeps : Keeps (keeper_of old) (keeper_of new)
  pub works : (round.stop ≡ Some (stop.Fault (fault.Engine Disk)) → ⊥) → Works (keeper_of old) (keeper_of new)
  -- what was given to the disks, if anything was, and the answer after it that is no input of it
  pub group : List (ℕ × Input)
  pub after : List Answer
  pub one_more : length after ≤ 1
  pub came : GaveAll size left (given_answers group ++ after) left_then
  pub moments : LeavesEitherAtEachMoment group (keeper_of old) (keeper_of new)
  pub became : TookAllOrNone group taken.inputs round.stop (keeper_of old) (keeper_of new) told told_then

-- ---- rounds in order

-- up to the present moments the disks held this
abbrev pub IsPastOf : View → Past → Type 0
IsPastOf view past =
    ((k : ℕ) → k ≤ view.first.moment → past.first k ≡ view.first.held_at k)
    × ((k : ℕ) → k ≤ view.second.moment → past.second k ≡ view.second.held_at k)

-- So far a life went through these inputs in groups, each committed and handed out, and through the hand-out before
-- them: over whatever the disks held up to now and may have held later.
pub record WentThrough {D : Type 0} {disk : Ghosts D} (inputs : List (ℕ × Input)) (old new : Engine D disk)
    (told told_then : Option (List Handed)) (life : Life) : Type 0 where
  pub groups : List (List (ℕ × Input))
  pub all : inputs_of groups ≡ inputs
  pub runs : RunsWith (with_all life (steps_of groups)) (state_of new) []
  pub steps :
      (past : Past)
      → (IsSound (view_of old) → IsPastOf (view_of new) past)
      → Leads (view_of old) past life (steps_of groups) (point_of (view_of old) told)
      (point_of (view_of new) told_then)

-- So far this was taken by rounds that did not stop the run, and nothing is owed or offered.
pub record RanSoFar {D : Type 0} {disk : Ghosts D} (size turns unsent : ℕ) (old new : Engine D disk)
    (left left_then : Option (List Answer)) (told told_then : Option (List Handed)) : Type 0 where
  pub taken : HasRun size left (state_of old) (queue_of old) told turns unsent left_then (state_of new) told_then
  pub works : Works (keeper_of old) (keeper_of new)
  pub none_taken : kept.is_broken (keeper_of old) ≡ true → turns ≡ 0
  pub rests : kept.is_broken (keeper_of old) ≡ true → kept.pair_of (keeper_of new) ≡ kept.pair_of (keeper_of old)
  pub emptied : queue_of new ≡ []
  pub dropped : IsOffered [] new
  pub through :
      InEachLifeWith (state_of old) (queue_of old) (λ life. WentThrough taken.inputs old new told told_then life)
