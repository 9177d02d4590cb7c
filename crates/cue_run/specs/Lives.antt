-- A run in the life of a store: each input that it took is an incident, and so is each hand-out.
use Rattle.std.specs.Prelude.{◌≡◌, ◌≤◌, ◌⊎◌, ℕ, List, [], ◌∷◌, ◌++◌, length, Option, Some, None}
use Rattle.cue_disk.specs.Disk.{Contents}
use Rattle.cue_core.specs.State.{ShowState}
use Rattle.cue_keeper.specs.declared.fault.Fault.TheVariants.{Memory}
use Rattle.cue_outbox.specs.Sending.{datagrams}
use Rattle.cue_engine.specs.Given.{Input}
use Rattle.cue_engine.specs.Incidents.{Incident, committed, handed_out, stopped_in_commit}
use Rattle.cue_engine.specs.Headline.{all_handed}
use Rattle.cue_engine.specs.Lives.{Life, with_all, with_next, store_now, RunsWith, RestsWith}
use Rattle.cue_engine.specs.Permitted.{IsWithin}
use Rattle.cue_engine.specs.Sources.{Answer, ends, fails, GaveAll}
use Rattle.cue_engine.specs.Wires.{Handed, AreHanded}
use Rattle.cue_run.specs.declared.turns.Ended.{Ended}
use Rattle.cue_run.specs.declared.turns.RunFault.{RunFault}
use Rattle.cue_run.specs.declared.turns.RunFault.TheVariants as fault
use Rattle.cue_run.specs.Running.{given_answers}

-- what was owed at first was handed out, and each input was committed and handed out, one after the other: in words in
-- which there are no groups
abbrev pub turns_of : List (ℕ × Input) → List Incident
turns_of [] = handed_out ∷ []
turns_of (input ∷ inputs) = handed_out ∷ committed (input ∷ []) ∷ turns_of inputs

-- What the source gave after the inputs that were taken, as a run that was asked for so many ended for this reason:
-- these inputs, which were refused together, and this answer, which is no input of a group. If there was no fault, the
-- run had its turns and the source gave nothing more, or it gave the end. If it failed, it gave that. If the engine took
-- no more, some inputs were refused, and one answer more may have come after them; or there was no memory for the
-- buffer, and then no input was taken and the source gave nothing.
abbrev pub GaveLast : (asked turns : ℕ) → Option RunFault → (refused : List (ℕ × Input)) → (after : List Answer) → Type 0
GaveLast asked turns None refused after =
    (refused ≡ []) × (((turns ≡ asked) × (after ≡ [])) ⊎ (after ≡ ends ∷ []))
GaveLast asked turns (Some fault.Source) refused after = (refused ≡ []) × (after ≡ fails ∷ [])
GaveLast asked turns (Some (fault.Engine f)) refused after =
    ((f ≡ Memory) × (turns ≡ 0) × (refused ≡ []) × (after ≡ [])) ⊎ ((1 ≤ length refused) × (length after ≤ 1))

-- A life goes on through a run that was asked for so many inputs and ended so. If the source says what it has left, it
-- gave the inputs that were taken first, then what it gave last, and it has left the rest. By now an engine runs with
-- this state and owes nothing, and the life has as handed over what the wire reports.
pub record GoesThrough (size asked : ℕ) (ended : Ended) (left left_then : Option (List Answer))
    (told told_then : Option (List Handed)) (life : Life) (state : ShowState) : Type 0 where
  pub inputs : List (ℕ × Input)
  -- the inputs that were refused last; none, if none were
  pub refused : List (ℕ × Input)
  -- the answer of the source after them that is no input of a group, if there is one
  pub after : List Answer
  pub number : length inputs ≡ ended.turns
  pub last : GaveLast asked ended.turns ended.fault refused after
  pub came : GaveAll size left (given_answers (inputs ++ refused) ++ after) left_then
  pub runs : RunsWith (with_all life (turns_of inputs)) state []
  pub handed : AreHanded told (datagrams (all_handed (store_now life) (turns_of inputs))) told_then

-- However a run ended, by a fault of a device too, the engine may be closed then, and the disks hold these, with power
-- lost or not. The life goes on at rest, as after a stop within a commit of the inputs that were refused last (none, if
-- no commit was refused). Nothing was owed any more.
pub record EndsAtRest (life : Life) (one other : Contents) : Type 0 where
  pub refused : List (ℕ × Input)
  pub rests :
      (x y : Contents)
      → IsWithin one x
      → IsWithin other y
      → RestsWith (with_next life (stopped_in_commit refused 0 x y)) x y
