-- A run, step by step: at each moment of it the promise holds, and what it hands out was committed before.
use Rattle.std.specs.Prelude.{◌≡◌, ◌≤◌, ◌⊎◌, ℕ, List, [], ◌∷◌, ◌++◌, length, Option}
use Rattle.cue_disk.specs.declared.disk.Disk.{Ghosts}
use Rattle.cue_disk.specs.Disk.{Contents, IsImage}
use Rattle.cue_core.specs.State.{ShowState}
use Rattle.cue_outbox.specs.Sending.{datagrams}
use Rattle.cue_engine.specs.declared.engine.Engine.{Engine}
use Rattle.cue_engine.specs.Observed.{state_of, queue_of, first_of, second_of}
use Rattle.cue_engine.specs.Given.{Input}
use Rattle.cue_engine.specs.Incidents.{Incident, committed, handed_out, stopped, stopped_in_commit}
use Rattle.cue_engine.specs.Headline.{handed_in, IsPromised}
use Rattle.cue_engine.specs.Lives.{Life, with_all, with_next, store_now, RunsWith, RestsWith, InEachLifeWith, View}
use Rattle.cue_engine.specs.Lives.{view_of, IsSound}
use Rattle.cue_engine.specs.Permitted.{IsWithin, IsFromTo}
use Rattle.cue_engine.specs.Sources.{Answer, GaveAll}
use Rattle.cue_engine.specs.Wires.{Handed, AreHanded}
use Rattle.cue_run.specs.Running.{given_answers}

-- ---- where a stop finds a run

-- how far a run has come: the moment of each disk, and what the wire reports
pub record Point : Type 0 where
  pub first : ℕ
  pub second : ℕ
  pub told : Option (List Handed)

-- where two disks stand, and a wire
abbrev pub point_of : View → Option (List Handed) → Point
point_of view told = record { first = view.first.moment; second = view.second.moment; told = told }

-- what each of two disks held at each moment of its own
pub record Past : Type 0 where
  pub first : ℕ → Contents
  pub second : ℕ → Contents

-- what the two disks of a view held
abbrev pub past_of : View → Past
past_of view = record { first = view.first.held_at; second = view.second.held_at }

-- A stop within a step: a commit is cut off; of what is handed out the first n datagrams have been handed over.
abbrev pub stop_in : Incident → ℕ → Contents → Contents → Incident
stop_in (committed inputs) n one other = stopped_in_commit inputs n one other
stop_in step n one other = stopped n one other

-- Within a step from the one point to the other, wherever a stop finds each of the two disks: whatever a crash leaves
-- of them there, the promise holds of the life so far and of the step cut off; and, with power lost or not, the life
-- goes on at rest.
pub record IsSafe (past : Past) (life : Life) (step : Incident) (from to : Point) : Type 0 where
  pub later : (from.first ≤ to.first) × (from.second ≤ to.second)
  pub promised :
      (n i j : ℕ) (x y : List ℕ)
      → IsFromTo from.first to.first i → IsFromTo from.second to.second j
      → IsImage (past.first i) x → IsImage (past.second j) y
      → IsPromised life.began life.store
      (life.incidents ++ stop_in step n (past.first i) (past.second j) ∷ []) x y
  pub rests :
      (n i j : ℕ) (one other : Contents)
      → IsFromTo from.first to.first i → IsFromTo from.second to.second j
      → IsWithin (past.first i) one → IsWithin (past.second j) other
      → RestsWith (with_next life (stop_in step n one other)) one other

-- ---- steps

-- What a step does. A hand-out takes no moment of either disk, and tells the wire all that is owed by then: since the
-- start, or for what was committed in a step before it. A commit tells the wire nothing.
abbrev pub Does : Life → Incident → (from to : Point) → Type 0
Does life handed_out from to =
    (to.first ≡ from.first) × (to.second ≡ from.second)
    × AreHanded from.told (datagrams (handed_in (store_now life) handed_out)) to.told
Does life step from to = to.told ≡ from.told

-- These steps lead from the one point to the other: each begins where the one before it ended. Each is safe if the
-- disks were sound at the start.
abbrev pub Leads : (start : View) → Past → Life → List Incident → (from to : Point) → Type 0
Leads start past life [] from to = to ≡ from
Leads start past life (step ∷ steps) from to =
    (next : Point) × Does life step from next × (IsSound start → IsSafe past life step from next)
    × Leads start past (with_next life step) steps next to

-- what was owed at first is handed out, and then of each group in turn: it is committed, and what it owes is handed out
abbrev pub steps_of : List (List (ℕ × Input)) → List Incident
steps_of [] = handed_out ∷ []
steps_of (group ∷ groups) = handed_out ∷ committed group ∷ steps_of groups

-- the inputs of all groups, in order
abbrev pub inputs_of : List (List (ℕ × Input)) → List (ℕ × Input)
inputs_of [] = []
inputs_of (group ∷ groups) = group ++ inputs_of groups

-- ---- a run

-- A life goes through a run, from a start to an end: so many inputs were taken, in groups, and the run ended after its
-- last hand-out, or with a group whose commit was refused or failed on a disk.
pub record GoesInSteps (size turns : ℕ) (left left_then : Option (List Answer)) (start end : View)
    (told told_then : Option (List Handed)) (life : Life) (state : ShowState) : Type 0 where
  pub groups : List (List (ℕ × Input))
  -- the inputs whose commit was refused last; none, if no commit was refused
  pub refused : List (ℕ × Input)
  -- the answer of the source after them that is no input of a group, if there is one
  pub after : List Answer
  pub number : length (inputs_of groups) ≡ turns
  pub one_more : length after ≤ 1
  pub came : GaveAll size left (given_answers (inputs_of groups ++ refused) ++ after) left_then
  -- where the last hand-out ended
  pub last : Point
  pub steps : Leads start (past_of end) life (steps_of groups) (point_of start told) last
  pub runs : RunsWith (with_all life (steps_of groups)) state []
  -- the refused commit tells the wire nothing, and is safe, too
  pub told_last : told_then ≡ last.told
  pub safe : IsSound start
      → IsSafe (past_of end) (with_all life (steps_of groups)) (committed refused) last (point_of end told_then)

-- Each life that has come to the old engine goes through the run to the new one.
abbrev pub RunsThrough : {D : Type 0} {disk : Ghosts D} → (size turns : ℕ) → (old new : Engine D disk)
    → (left left_then : Option (List Answer)) → (told told_then : Option (List Handed)) → Type 0
RunsThrough size turns old new left left_then told told_then =
    InEachLifeWith (state_of old) (queue_of old)
    (λ life. GoesInSteps size turns left left_then (view_of old) (view_of new) told told_then life (state_of new))

-- ---- no moment is left out

-- One of these steps of a life led from one point to another of which P holds, and is safe.
abbrev pub InOneOf : Past → Life → List Incident → ((from to : Point) → Type 0) → Type 0
InOneOf past life [] P = ⊥
InOneOf past life (step ∷ steps) P =
    ((from : Point) × (to : Point) × P from to × IsSafe past life step from to)
    ⊎ InOneOf past (with_next life step) steps P

-- the steps of a run, and then the commit that was refused last
abbrev pub all_steps : List (List (ℕ × Input)) → List (ℕ × Input) → List Incident
all_steps groups refused = steps_of groups ++ committed refused ∷ []

-- Whatever run a life goes through, on sound disks: each moment of the first disk from its start to its end lies in one
-- of its steps, or in the commit that was refused last, and so does each moment of the second.
abbrev pub EachMomentIsSafe : {D : Type 0} → Ghosts D → Type 0
EachMomentIsSafe {D} disk =
    (size turns : ℕ) (left left_then : Option (List Answer)) (old new : Engine D disk)
    (told told_then : Option (List Handed)) (life : Life) (state : ShowState)
    → (run : GoesInSteps size turns left left_then (view_of old) (view_of new) told told_then life state)
    → IsSound (view_of old)
    → ((i : ℕ) → IsFromTo (disk.moment (first_of old)) (disk.moment (first_of new)) i
    → InOneOf (past_of (view_of new)) life (all_steps run.groups run.refused)
    (λ from to. IsFromTo from.first to.first i))
    × ((j : ℕ) → IsFromTo (disk.moment (second_of old)) (disk.moment (second_of new)) j
    → InOneOf (past_of (view_of new)) life (all_steps run.groups run.refused)
    (λ from to. IsFromTo from.second to.second j))
