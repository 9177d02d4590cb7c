-- The life of a store that the calls themselves make: each call goes on with it.
use Rattle.std.specs.Prelude.{◌≡◌, ℕ, Bool, false, List, [], ◌∷◌, ◌++◌, Option, IsTrue}
use Rattle.std.specs.List.{AllByRecursion, list_all}
use Rattle.cue_disk.specs.declared.disk.Disk.{Ghosts}
use Rattle.cue_disk.specs.Disk.{Contents, IsImage}
use Rattle.cue_snap.specs.Pair.{AfterBarrier}
use Rattle.cue_core.specs.declared.event.Event.{Event}
use Rattle.cue_core.specs.State.{ShowState, is_state}
use Rattle.cue_core.specs.Steps.{after_events}
use Rattle.cue_core.specs.Batches.{closed_state}
use Rattle.cue_keeper.specs.Observed as kept
use Rattle.cue_outbox.specs.Sending.{Send, all_pending, datagrams}
use Rattle.cue_engine.specs.declared.engine.Engine.{Engine}
use Rattle.cue_engine.specs.Observed.{keeper_of, first_of, second_of}
use Rattle.cue_engine.specs.Given.{Input}
use Rattle.cue_engine.specs.Runs.{joined_list, rests}
use Rattle.cue_engine.specs.InBytes.{BytesRest}
use Rattle.cue_engine.specs.Incidents.{Incident, stopped_in_commit, Store, running, at_rest}
use Rattle.cue_engine.specs.Incidents.{unformed, Happens, left_by_all}
use Rattle.cue_engine.specs.Headline.{BeginsWith, AreKept, all_handed, handed_in, IsPromised}
use Rattle.cue_engine.specs.Wires.{Handed, AreHanded}
use Rattle.cue_engine.specs.Permitted.{IsWithin, IsFromTo, IsStop, IsOnDisks}

-- ---- a life

-- The life of a store so far: the state and the store that it began with, and its incidents in order.
pub record Life : Type 0 where
  pub began : ShowState
  pub store : Store
  pub incidents : List Incident

-- the life after these incidents more
abbrev pub with_all : Life → List Incident → Life
with_all life more = record { began = life.began; store = life.store; incidents = life.incidents ++ more }

-- the life after one incident more
abbrev pub with_next : Life → Incident → Life
with_next life next = with_all life (next ∷ [])

-- the store that it has come to
abbrev pub store_now : Life → Store
store_now life = left_by_all life.store life.incidents

-- It began with a state that keeps the rules, and each incident was permitted.
pub record IsLife (life : Life) : Type 0 where
  pub rules : IsTrue (is_state life.began)
  pub begins : BeginsWith life.store life.began
  pub happens : Happens life.store life.incidents

-- By now an engine runs with this state, and this queue is what it owes.
pub record RunsWith (life : Life) (state : ShowState) (queue : List (ℕ × List ℕ)) : Type 0 where
  pub lived : IsLife life
  pub owed : List (ℕ × Send)
  pub runs : store_now life ≡ running state owed
  pub owes : queue ≡ datagrams owed

-- By now no engine runs over the store, which was formed, and its disks hold these.
pub record RestsWith (life : Life) (one other : Contents) : Type 0 where
  pub lived : IsLife life
  pub rests : store_now life ≡ at_rest one other

-- By now no store is formed, and the disks hold these.
pub record RestsUnformed (life : Life) (one other : Contents) : Type 0 where
  pub lived : IsLife life
  pub rests : store_now life ≡ unformed one other

-- By now no engine runs over the store, formed or not, and its disks hold these.
pub record LiesOn (life : Life) (one other : Contents) : Type 0 where
  pub lived : IsLife life
  pub lies : IsOnDisks (store_now life) one other

-- Of each life that has come to an engine with this state and this queue P holds.
abbrev pub InEachLifeWith : ShowState → List (ℕ × List ℕ) → (Life → Type 0) → Type 0
InEachLifeWith state queue P = (life : Life) → RunsWith life state queue → P life

-- Of each life that has come to rest on disks that hold these P holds.
abbrev pub InEachLifeAt : Contents → Contents → (Life → Type 0) → Type 0
InEachLifeAt one other P = (life : Life) → RestsWith life one other → P life

-- Of each life that has come to disks that hold these, and to no store yet, P holds.
abbrev pub InEachLifeBefore : Contents → Contents → (Life → Type 0) → Type 0
InEachLifeBefore one other P = (life : Life) → RestsUnformed life one other → P life

-- Of each life that has come to disks that hold these, and to a store that was formed or to none yet, P holds.
abbrev pub InEachLifeOn : Contents → Contents → (Life → Type 0) → Type 0
InEachLifeOn one other P = (life : Life) → LiesOn life one other → P life

-- ---- what a stop may find

-- One disk: what it holds at each moment of its own, and which of them is now.
pub record Side : Type 0 where
  pub held_at : ℕ → Contents
  pub moment : ℕ

-- Two disks: what a stop may find of each, whether both are honest, and whether a call on one of them has failed.
pub record View : Type 1 where
  pub first : Side
  pub second : Side
  pub are_honest : Type 0
  pub is_broken : Bool

-- the view of one disk
abbrev pub side_of : {D : Type 0} → Ghosts D → D → Side
side_of disk one = record { held_at = disk.held_at one; moment = disk.moment one }

-- the view of two disks before any call on them
abbrev pub view_of_disks : {D : Type 0} → Ghosts D → (first second : D) → View
view_of_disks disk first second = record {
  first = side_of disk first;
  second = side_of disk second;
  are_honest = disk.is_honest first × disk.is_honest second;
  is_broken = false;
}

-- the view of an engine's two disks
abbrev pub view_of : {D : Type 0} {disk : Ghosts D} → Engine D disk → View
view_of {disk = disk} engine = record {
  first = side_of disk (first_of engine);
  second = side_of disk (second_of engine);
  are_honest = disk.is_honest (first_of engine) × disk.is_honest (second_of engine);
  is_broken = kept.is_broken (keeper_of engine);
}

-- the disks are honest, and no call on them has failed
abbrev pub IsSound : View → Type 0
IsSound view = view.are_honest × (view.is_broken ≡ false)

-- Within `take` or `commit` of these inputs on sound disks: wherever a stop finds the two, and whatever a crash leaves
-- of them there, the promise holds.
abbrev pub IsPromisedWithin : (old new : View) → Life → List (ℕ × Input) → Type 0
IsPromisedWithin old new life inputs =
    IsSound old
    → (n i j : ℕ) (x y : List ℕ)
    → IsFromTo old.first.moment new.first.moment i → IsFromTo old.second.moment new.second.moment j
    → IsImage (new.first.held_at i) x → IsImage (new.second.held_at j) y
    → IsPromised life.began life.store
    (life.incidents ++ stopped_in_commit inputs n (new.first.held_at i) (new.second.held_at j) ∷ []) x y

-- Within such a call on sound disks: wherever a stop finds the two, with power lost or not, the life goes on at rest.
abbrev pub RestsWithin : (old new : View) → Life → List (ℕ × Input) → Type 0
RestsWithin old new life inputs =
    IsSound old
    → (n i j : ℕ) (one other : Contents)
    → IsFromTo old.first.moment new.first.moment i → IsFromTo old.second.moment new.second.moment j
    → IsWithin (new.first.held_at i) one → IsWithin (new.second.held_at j) other
    → RestsWith (with_next life (stopped_in_commit inputs n one other)) one other

-- a call that has a barrier, from the old view to the new one: from the barrier on each pair has P
abbrev pub HasBarrier : (old new : View) → (List ℕ → List ℕ → Type 0) → Type 0
HasBarrier old new P = AfterBarrier (λ (d : Side). d.moment) (λ (d : Side). d.held_at) old.first old.second new.first
    new.second P

-- a stop finds the two disks at these moments, both up to the barrier or both from it on
abbrev pub IsStopOf : (old new : View) (P : List ℕ → List ℕ → Type 0) → HasBarrier old new P → ℕ → ℕ → Type 0
IsStopOf old new P barrier i j = IsStop (λ (d : Side). d.moment) (λ (d : Side). d.held_at) old.first old.second
    new.first new.second P barrier i j

-- Wherever a stop finds the two disks within a call that has a barrier, with power lost or not, Q holds of what they
-- hold from then on. P is what the call says of them from the barrier on.
pub record LeavesAtEachStop (old new : View) (P : List ℕ → List ℕ → Type 0) (Q : Contents → Contents → Type 0)
    : Type 0 where
  pub barrier : HasBarrier old new P
  pub each : (i j : ℕ) (one other : Contents) → IsStopOf old new P barrier i j
      → IsWithin (new.first.held_at i) one → IsWithin (new.second.held_at j) other → Q one other

-- Some of what was owed was handed over, and then the engine stopped so, with power lost or not. The life goes on at
-- rest, and has as handed over what the wire reports.
pub record StopsAs (stop : ℕ → Contents → Contents → Incident) (life : Life) (one other : Contents)
    (told told_then : Option (List Handed)) : Type 0 where
  pub n : ℕ
  pub handed : (x y : Contents) → AreHanded told (datagrams (handed_in (store_now life) (stop n x y))) told_then
  pub rests : (x y : Contents) → IsWithin one x → IsWithin other y → RestsWith (with_next life (stop n x y)) x y

-- A recovery gave this state and this queue: the state of the kept batches, with its undecided attempts cancelled, and
-- what is pending in it; and no GO_2PC was handed to the network for an attempt whose decision the kept batches lack.
pub record IsGivenBack (life : Life) (state : ShowState) (queue : List (ℕ × List ℕ)) : Type 0 where
  pub kept : List (List Event)
  pub prefix : AreKept life.began life.incidents kept
  pub gives : state ≡ closed_state (after_events life.began (joined_list kept))
  pub owes : queue ≡ datagrams (all_pending (closed_state (after_events life.began (joined_list kept))))
  pub decided :
      IsTrue (list_all (rests life.began (joined_list kept)) (all_handed life.store life.incidents))
  pub in_bytes :
      AllByRecursion (λ d. BytesRest life.began (joined_list kept) d.1)
      (datagrams (all_handed life.store life.incidents))
