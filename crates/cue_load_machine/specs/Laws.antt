-- What no life of a load does, whatever is heard and in whatever order, and whatever is lost.
use Rattle.std.specs.Prelude.{◌≡◌, ◌≤◌, ◌+◌, ◌⊎◌, ℕ, Bool, true, false, List, [], ◌∷◌, ◌++◌, Some, ⊤}
use Rattle.cue_machine.specs.Living.{AreTurns, Turn, all_posted}
use Rattle.cue_machine.specs.Posting.{Posted}
use Rattle.cue_loading.specs.Steps.{goes_on}
use Rattle.cue_load_machine.specs.declared.machine.LoadMachine.{LoadMachine}
use Rattle.cue_load_machine.specs.declared.stage.Stage.{Stage}
use Rattle.cue_load_machine.specs.Asks.{patience, sendings}
use Rattle.cue_load_machine.specs.Lives.{AreSendings, IsNew, Sending, Stands, awaited_since, load_machine, post}
use Rattle.cue_load_machine.specs.Steps.{State, bytes_of, copies, is_over, message_given, state_of, wakes}

-- the machine had these turns, the first of its life and those after it
pub record HadTurns (m : LoadMachine) (ts : List Turn) (m_then : LoadMachine) : Type 0 where
  pub new : IsNew (state_of m)
  pub turns : AreTurns load_machine m ts m_then

-- A life is the copy, if there is one, and then one sending after the other: each message leaves by itself, the next
-- only after the replies to the one before or its time, and what is told is what was replied to it.
abbrev pub OneAfterTheOther : Type 0
OneAfterTheOther =
    (m : LoadMachine) (ts : List Turn) (m_then : LoadMachine) → HadTurns m ts m_then
    → Stands (state_of m) (bytes_of m.copy) ts m_then.answers.items m_then.stage

-- ---- the copy

-- nothing left; or the copy did, was written, and the others left after it; or it was not, and nothing else left
abbrev pub IsCopiedFirst : List ℕ → List Posted → Type 0
IsCopiedFirst text ps =
    (ps ≡ []) ⊎ ((more : List Posted) × (ps ≡ post (copies text) false ∷ more)) ⊎ (ps ≡ post (copies text) true ∷ [])

-- a load that may take something away, and has a copy to write, sends nothing before the copy is written
abbrev pub NothingGoesUncopied : Type 0
NothingGoesUncopied =
    (m : LoadMachine) (ts : List Turn) (m_then : LoadMachine) (text : List ℕ) → HadTurns m ts m_then
    → bytes_of m.copy ≡ Some text → goes_on m.manner false ≡ false → IsCopiedFirst text (all_posted ts)

-- ---- how often

-- it is sent for the first time; or again, after the one before, and then it may be sent once less
abbrev pub IsFirst : Sending → Type 0
IsFirst x = x.of.left ≡ sendings x.ask.form

abbrev pub IsAgain : Sending → Sending → Type 0
IsAgain x before = (x.of.place ≡ before.of.place) × (x.of.left + 1 ≡ before.of.left) × (1 ≤ x.of.left)

-- of these sendings, the newest first, each is a first one, or the same again that may be sent again
abbrev pub AllMayBeSent : List Sending → Type 0
AllMayBeSent [] = ⊤
AllMayBeSent (x ∷ []) = IsFirst x
AllMayBeSent (x ∷ y ∷ xs) = (IsFirst x ⊎ IsAgain x y) × AllMayBeSent (y ∷ xs)

-- so a message is sent as often as it may be, and no more: four times, and once with others
abbrev pub SentAsOftenAsMayBe : Type 0
SentAsOftenAsMayBe = (s : State) (xs : List Sending) (at : Stage) → AreSendings s xs at → AllMayBeSent xs

-- ---- time

-- the last message left in one of these turns, and it wakes when the time for its next reply has passed: a second after
-- it left, or after the last reply to it, at most
pub record WaitsInTime (m : LoadMachine) (ts : List Turn) (m_then : LoadMachine) : Type 0 where
  pub before : List Turn
  pub x : Sending
  pub all : ts ≡ before ++ x.left ∷ x.after
  pub lost : Bool
  pub left : x.left.posted ≡ post (message_given m.port x.ask x.of.socket) lost ∷ []
  pub until : ℕ
  pub wakes : wakes m_then ≡ Some until
  pub soon : until ≤ awaited_since (state_of m) x + patience x.ask.form

-- it is over; or something is to be sent, and it wakes at once; or it waits, and wakes in time
abbrev pub OverInTime : Type 0
OverInTime =
    (m : LoadMachine) (ts : List Turn) (m_then : LoadMachine) → HadTurns m ts m_then
    → (is_over m_then ≡ true) ⊎ (wakes m_then ≡ Some 0) ⊎ WaitsInTime m ts m_then
