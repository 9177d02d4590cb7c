-- Inputs are offered, one after the other.
use Rattle.std.proofs.Common.{ℕ, ◌+◌, ◌≤◌, List, [], ◌∷◌, ◌++◌, length, Option, Some, None, refl, ◌∙◌, arith}
use Rattle.std.proofs.Common.{length-append, append_assoc, append-nil, Bool, true, false, Result, Ok, Err, IsTrue}
use Rattle.cue_disk.specs.declared.disk.Disk.{Ghosts}
use Rattle.cue_keeper.specs.declared.keeper.Keeper.{Keeper}
use Rattle.cue_engine.specs.declared.engine.Engine.{Engine}
use Rattle.cue_engine.specs.Given.{Input}
use Rattle.cue_engine.specs.Taking.{IsOffered}
use Rattle.cue_engine.specs.Observed.{keeper_of, has_room, HasRoomForAll}
use Rattle.cue_engine.specs.Sources.{Answer, comes, ends, fails, GaveAll}
use Rattle.cue_run.specs.declared.turns.RunFault.{RunFault}
use Rattle.cue_run.specs.declared.turns.RunFault.TheVariants as fault
use Rattle.cue_run.specs.declared.groups.offering.Stop.{Stop}
use Rattle.cue_run.specs.declared.groups.offering.Stop.TheVariants as stop
use Rattle.cue_run.specs.Running.{given_answers}
use Rattle.cue_run.specs.Grouping.{StaysOffered, HasOffered, CutShort, Gathered, OfferedNext, answers_beside}
use Rattle.cue_run.specs.Grouping.{StoppedAtFirst}
use Rattle.cue_run.proofs.RunLemmas.{gave_none, gave_all_more, gave_join}

module _ {D : Type 0} {disk : Ghosts D} where
  -- what was offered stays
  pub stays_offered : {inputs : List (ℕ × Input)} {old new : Engine D disk} → StaysOffered old new
      → IsOffered inputs old → IsOffered inputs new
  stays_offered stays is =
      record { batches = rw (stays.batches, stays.keeper) is.batches; sends = rw (stays.sends, stays.keeper) is.sends }

  -- and still fits
  still_fits : {old new : Engine D disk} → StaysOffered old new → HasRoomForAll old → HasRoomForAll new
  still_fits stays fits = rw (stays.keeper, stays.batches) fits

  -- the next input was offered where there was room for it, or nothing was
  pub fits_after : (size a b : ℕ) (r : Result Bool RunFault) (old new : Engine D disk)
      (left left_then : Option (List Answer)) → IsTrue (has_room old)
      → OfferedNext size a b r old new left left_then → HasRoomForAll old → HasRoomForAll new
  fits_after size a b (Ok true) old new left left_then room next fits = next.2 room
  fits_after size a b (Ok false) old new left left_then room next fits = still_fits next.0 fits
  fits_after size a b (Err why) old new left left_then room next fits = still_fits next.0 fits

  pub offers_none : {size count : ℕ} {engine : Engine D disk} {left : Option (List Answer)}
      → HasOffered size count count engine engine left left
  offers_none {size = size} {left = left} = record {
    inputs = [];
    number = omega arith;
    gave = gave_none size left;
    offered = λ before is. rw append-nil is;
    keeper = refl;
    queue = refl;
  }

  pub offers_join : {size a b c : ℕ} {x y z : Engine D disk} {left mid left_then : Option (List Answer)}
      → HasOffered size a b x y left mid → HasOffered size b c y z mid left_then
      → HasOffered size a c x z left left_then
  offers_join {size = size} {left = left} {mid = mid} {left_then = left_then} h k = record {
    inputs = h.inputs ++ k.inputs;
    number = omega (arith, h.number, k.number, length-append h.inputs k.inputs);
    gave = gave_join size left mid left_then h.inputs k.inputs h.gave k.gave;
    offered = λ before is. rw (← append_assoc before h.inputs k.inputs)
        (k.offered (before ++ h.inputs) (h.offered before is));
    keeper = k.keeper ∙ h.keeper;
    queue = k.queue ∙ h.queue;
  }

  -- the first of a group, and those after it
  pub gathered_after : {size a b c : ℕ} {why : Option RunFault} {x y z : Engine D disk}
      {left mid left_then : Option (List Answer)} → HasOffered size a b x y left mid
      → Gathered size b c why y z mid left_then → Gathered size a c why x z left left_then
  gathered_after h more =
      record { mid = more.mid; offered = offers_join h more.offered; cut = rw (← h.keeper) more.cut }

  -- the inputs of a group came in turn, and the answer that cut it short after them
  pub came_in_turn : {size count room : ℕ} {why : Option RunFault} {old new : Engine D disk}
      {left left_then : Option (List Answer)} (group : Gathered size 0 count why old new left left_then)
      → count + answers_beside why ≤ room
      → (after : List Answer) × (length after ≤ 1) × (length group.offered.inputs + length after ≤ room)
      × GaveAll size left (given_answers group.offered.inputs ++ after) left_then
  came_in_turn {size} {count} {room} {why} {old} {new} {left} {left_then} group fits =
      let after = after_them why fits group.cut in (
        after.0,
        after.1,
        after.2,
        gave_all_more size left (given_answers group.offered.inputs) group.mid after.0 left_then group.offered.gave
            after.3,
      )
    where
      after_them : (w : Option RunFault) → count + answers_beside w ≤ room
          → CutShort size w (keeper_of old) group.mid left_then
          → (after : List Answer) × (length after ≤ 1) × (length group.offered.inputs + length after ≤ room)
          × GaveAll size group.mid after left_then
      after_them None few cut =
          ([], omega arith, omega (arith, few, group.offered.number), rw cut (gave_none size group.mid))
      after_them (Some fault.Source) few cut =
          (fails ∷ [], omega arith, omega (arith, few, group.offered.number), cut)
      after_them (Some (fault.Engine f)) few cut =
          (comes cut.0.0.0 cut.0.0.1 ∷ [], omega arith, omega (arith, few, group.offered.number), cut.0.1)

  -- the answer that came where nothing was offered
  pub came_none : (size : ℕ) (keeper : Keeper D disk) (left left_then : Option (List Answer)) (why : Stop)
      → StoppedAtFirst size why keeper left left_then
      → (after : List Answer) × (length after ≤ 1) × GaveAll size left after left_then
  came_none size keeper left left_then stop.Ended is = (ends ∷ [], omega arith, is)
  came_none size keeper left left_then (stop.Fault fault.Source) is = (fails ∷ [], omega arith, is)
  came_none size keeper left left_then (stop.Fault (fault.Engine f)) is =
      (comes is.0.0.0 is.0.0.1 ∷ [], omega arith, is.0.1)
