-- What a page lets the desk hear.
use Rattle.std.specs.Prelude.{◌≡◌, ◌⊎◌, ℕ, ◌≤◌, Bool, true, false, List, [], ◌∷◌, map, filter, Option, None, Some}
use Rattle.cue_desk_run.specs.Working.{HearsIf, OnlyLooks, Stays}
use Rattle.cue_request.specs.declared.identity.PageIdentity.{PageIdentity}
use Rattle.cue_request.specs.declared.lock.Guard.{Guard}
use Rattle.cue_request.specs.declared.request.Refusal.{Refusal}
use Rattle.cue_request.specs.Locks.{after_press, verdict_on}
use Rattle.cue_station.specs.declared.heard.Heard.TheVariants as heard
use Rattle.cue_station.specs.declared.station.Station.{Station}
use Rattle.cue_view.specs.declared.view.View.{View}
use Rattle.cue_connection.specs.Asking.{AsksIn}
use Rattle.cue_connection.specs.Stages.{AsksOnce, is_asking, is_here_at}
use Rattle.cue_connection.specs.declared.asking.Asking.{Asking}
use Rattle.cue_connection.specs.declared.asking.Asking.TheVariants as asking
use Rattle.cue_connection.specs.declared.asking.Pressed.{Pressed}
use Rattle.cue_connection.specs.declared.connection.Connection.{Connection}
use Rattle.cue_web.specs.declared.wire.Came.{Came}
use Rattle.cue_web.specs.declared.wire.Came.TheVariants as came
use Rattle.cue_web.specs.declared.wire.Wire.{Wire}

-- The desk heard of this press once at most, as one of the view that it names.
pub record HearsOnce (p : Pressed) (old new : Station) (v v_then : View) : Type 0 where
  pub is_heard : Bool
  pub hears : HearsIf is_heard (heard.Pressed p.view p.button) old new v v_then

-- a press that the lock refuses is not heard
abbrev pub HearsUnless : Option Refusal → Pressed → (old new : Station) → (v v_then : View) → Type 0
HearsUnless (Some why) p old new v v_then = Stays old new v v_then
HearsUnless None p old new v v_then = HearsOnce p old new v v_then

-- what a connection lets the desk hear that asks this at a moment: its press, if the lock lets it, and nothing else
abbrev pub Answers : Guard → ℕ → Asking → (old new : Station) → (v v_then : View) → Type 0
Answers g now (asking.Press (Some p)) old new v v_then =
    HearsUnless (verdict_on p.button g now p.said) p old new v v_then
Answers g now _ old new v v_then = Stays old new v v_then

-- the guard of the lock that this asking leaves: a press is counted as its word is right or wrong, whether it is let
-- through or refused, and nothing else is counted
abbrev pub guard_after : Guard → ℕ → Asking → Guard
guard_after g now (asking.Press (Some p)) = after_press p.button g now p.said
guard_after g now _ = g

-- ---- one connection

-- it is still there
abbrev pub is_here : Wire → Bool
is_here w = is_here_at w.connection.stage

-- the bytes of a reading stand in its room
abbrev pub IsWithin : Came → ℕ → Type 0
IsWithin (came.Bytes n) size = n ≤ size
IsWithin _ size = Unit {0}

-- one that asks no more keeps nothing of what comes, and does not ask again
abbrev pub IsDropped : (c c_then : Connection) → Type 0
IsDropped c c_then =
    is_asking c.stage ≡ false → (is_asking c_then.stage ≡ false) × (c_then.input ≡ c.input)

-- It was answered what it asked: a request that came whole, and it asks nothing more. The lock counts what it says.
pub record ServesAsked (identity : PageIdentity) (g g_then : Guard) (now : ℕ) (c c_then : Wire)
    (old new : Station) (v v_then : View) : Type 0 where
  pub asks : Asking
  pub came : AsksIn identity c_then.connection.input.items asks
  pub first : is_asking c.connection.stage ≡ true
  pub over : is_asking c_then.connection.stage ≡ false
  pub answers : Answers g now asks old new v v_then
  pub counted : g_then ≡ guard_after g now asks

-- It was not answered: the desk heard nothing of it, and the lock counts nothing.
pub record ServesNothing (g g_then : Guard) (old new : Station) (v v_then : View) : Type 0 where
  pub unheard : Stays old new v v_then
  pub uncounted : g_then ≡ g

-- a connection is served: it asked, or nothing came of it
abbrev pub Serves : PageIdentity → (g g_then : Guard) → ℕ → (c c_then : Wire) → (old new : Station)
    → (v v_then : View) → Type 0
Serves identity g g_then now c c_then old new v v_then =
    ServesAsked identity g g_then now c c_then old new v v_then ⊎ ServesNothing g g_then old new v v_then

-- ---- one connection after the other

-- A connection was served at a moment: by which guard of the lock, and which one it left; what the connection was and
-- became, and what the desk was and became.
pub record Serving : Type 0 where
  pub at : ℕ
  pub guard : Guard
  pub guard_then : Guard
  pub before : Wire
  pub after : Wire
  pub old : Station
  pub new : Station
  pub view : View
  pub view_then : View

-- What the desk heard of it is what its own bytes ask and its lock lets through, and it does not ask again.
pub record IsServed (identity : PageIdentity) (s : Serving) : Type 0 where
  pub serves : Serves identity s.guard s.guard_then s.at s.before s.after s.old s.new s.view s.view_then
  pub once : AsksOnce s.before.connection.stage s.after.connection.stage

-- the desk heard nothing but looks, and these connections, which were served one after the other
abbrev pub OnlyServed : PageIdentity → List Serving → (old new : Station) → Type 0
OnlyServed identity [] old new = OnlyLooks old new
OnlyServed identity (s ∷ more) old new =
    OnlyLooks old s.old × IsServed identity s × OnlyServed identity more s.new new

-- the lock is handed on: each connection is judged by the guard that the one before it left, from this guard to that
abbrev pub HandsOn : List Serving → (g g_then : Guard) → Type 0
HandsOn [] g g_then = g_then ≡ g
HandsOn (s ∷ more) g g_then = (s.guard ≡ g) × HandsOn more s.guard_then g_then

-- each was served at this moment
abbrev pub AreAt : ℕ → List Serving → Type 0
AreAt now [] = Unit {0}
AreAt now (s ∷ more) = (s.at ≡ now) × AreAt now more

-- Whatever the page served: the desk heard nothing but looks and connections that were served, the lock was handed on
-- from each to the next, and the page is where it was.
pub record OnlyAsked (page page_then : PageIdentity) (g g_then : Guard) (old new : Station) : Type 0 where
  pub servings : List Serving
  pub lock : HandsOn servings g g_then
  pub heard : OnlyServed page servings old new
  pub identity : page_then ≡ page

-- Each of these connections was served at this moment, once and in order, and they were left like this. Nothing else
-- was heard, and the lock was handed on from each to the next.
pub record ServesEach (page page_then : PageIdentity) (g g_then : Guard) (now : ℕ) (here left : List Wire)
    (old new : Station) : Type 0 where
  pub servings : List Serving
  pub moment : AreAt now servings
  pub lock : HandsOn servings g g_then
  pub each : map (λ (s : Serving). s.before) servings ≡ here
  pub leaves : map (λ (s : Serving). s.after) servings ≡ left
  pub heard : OnlyServed page servings old new
  pub identity : page_then ≡ page

-- A round: each connection that is here is served, and those that are still there stay as they were left.
pub record HasRound (page page_then : PageIdentity) (g g_then : Guard) (now : ℕ) (here here_then : List Wire)
    (old new : Station) : Type 0 where
  pub left : List Wire
  pub served : ServesEach page page_then g g_then now here left old new
  pub stay : here_then ≡ filter is_here left
