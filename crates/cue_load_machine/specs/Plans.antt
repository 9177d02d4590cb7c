-- What a load in the place of another show asks: the steps of its plan.
use Rattle.std.specs.Prelude.{◌≡◌, ◌<◌, ◌⊎◌, ℕ, ℤ, pos, Bool, true, false, ◌||◌, if◌then◌else◌, List, [], ◌∷◌, ◌++◌, length}
use Rattle.std.specs.Prelude.{min, slice_get, take}
use Rattle.std.specs.Prelude.{Option, Some, None, Vec, IsTrue, is_some, ⊤}
use Rattle.std.specs.Option.{option_map}
use Rattle.std.specs.Ordering.{int_eq}
use Rattle.std.specs.declared.alloc.Global.{Global}
use Rattle.cue_machine.specs.Living.{AreTurns, Turn, all_posted}
use Rattle.cue_show.specs.Show.{ShowLists, is_show}
use Rattle.cue_show_file.specs.declared.mistake.Subject.{Subject}
use Rattle.cue_loading.specs.declared.manner.Manner.{Manner}
use Rattle.cue_loading.specs.declared.manner.Manner.TheVariants as manner
use Rattle.cue_loading.specs.declared.step.Step.{Step}
use Rattle.cue_loading.specs.Loaded.{Loads}
use Rattle.cue_loading.specs.Steps.{after_step, after_steps, goes_on}
use Rattle.cue_load_machine.specs.declared.asks.Ask.{Ask}
use Rattle.cue_load_machine.specs.declared.machine.LoadMachine.{LoadMachine}
use Rattle.cue_load_machine.specs.declared.planned.Copied.{Copied}
use Rattle.cue_load_machine.specs.declared.planned.Planned.{Planned}
use Rattle.cue_load_machine.specs.declared.stage.LoadEnd.TheVariants as end
use Rattle.cue_load_machine.specs.declared.stage.Stage.{Stage}
use Rattle.cue_load_machine.specs.declared.stage.Stage.TheVariants as stage
use Rattle.cue_load_machine.specs.Laws.{HadTurns, IsCopiedFirst}
use Rattle.cue_load_machine.specs.Addings.{AnyOf}
use Rattle.cue_load_machine.specs.Letters.{IsAskOfStep, IsUnaskableStep, removes, subject_of}
use Rattle.cue_load_machine.specs.Lives.{AreSendings, IsNew, IsSending, Sending, done, load_machine}
use Rattle.cue_load_machine.specs.Stages.{asked_at, place_of}
use Rattle.cue_load_machine.specs.Steps.{State, bytes_of, state_of}

-- nothing of the show is live, as the controller says
abbrev pub rests : ℤ → Bool
rests live = int_eq live (pos 0)

-- what the file does not have is removed, too
abbrev pub is_exact : Manner → Bool
is_exact manner.Adds = false
is_exact manner.Replaces = false
is_exact manner.IsExact = true

-- one of these steps takes something away
abbrev pub removes_some : List Step → Bool
removes_some [] = false
removes_some (s ∷ ss) = removes s || removes_some ss

-- one of those that were asked does
abbrev pub is_open : Planned → Bool
is_open p =
    let all : ℕ = length p.steps.items in removes_some (take (min (asked_at all p.machine.stage) all) p.steps.items)

-- what the step is about whose turn it is, or at which it ended
abbrev pub subject_at : Planned → Option Subject
subject_at p =
    option_map subject_of (slice_get p.steps.items (place_of (length p.steps.items) p.machine.stage))

-- the copy, if it is wanted, or something is taken away
abbrev pub copy_for : Bool → Vec ℕ Global → List Step → Option (Vec ℕ Global)
copy_for wanted text steps = if wanted || removes_some steps then Some text else None

-- each of these asks one of the steps, in order
abbrev pub AreAsksOf : List Step → List Ask → Type 0
AreAsksOf [] [] = ⊤
AreAsksOf (s ∷ ss) (a ∷ asks) = IsAskOfStep s a × AreAsksOf ss asks
AreAsksOf [] (a ∷ asks) = ⊥
AreAsksOf (s ∷ ss) [] = ⊥

-- what asks these steps stands after the others
pub record PushesAsks (old : List Ask) (steps : List Step) (new : List Ask) : Type 0 where
  pub added : List Ask
  pub all : new ≡ old ++ added
  pub asks : AreAsksOf steps added

-- The machine asks these steps, after the copy that they want, and has done nothing yet.
pub record IsMachineOf (port : ℕ) (manner : Manner) (copied : Copied) (steps : List Step) (m : LoadMachine) : Type 0
  where
    pub asks : AreAsksOf steps m.asks.items
    pub copy : bytes_of m.copy ≡ bytes_of (copy_for copied.is_wanted copied.text steps)
    pub sends_to : m.port ≡ port
    pub goes_by : m.manner ≡ manner
    pub new : IsNew (state_of m)

-- The steps are a plan for this store, which the controller takes one by one, and the machine asks them.
pub record IsPlanned (port : ℕ) (manner : Manner) (file stored : ShowLists) (copied : Copied) (p : Planned) : Type 0
  where
    pub loads : Loads (is_exact manner) file stored p.steps.items
    pub machine : IsMachineOf port manner copied p.steps.items p.machine
    pub takes : goes_on manner false ≡ false

-- The steps are such a plan, and one of them cannot be asked.
pub record IsUnaskablePlan (manner : Manner) (file stored : ShowLists) : Type 0 where
  pub steps : List Step
  pub loads : Loads (is_exact manner) file stored steps
  pub unaskable : AnyOf IsUnaskableStep steps

-- ---- what leaves

-- What was sent is the message of a step of the plan. The plan goes through the show before that step, and through the
-- one after it.
pub record IsOfPlan (stored : ShowLists) (steps : List Step) (x : Sending) : Type 0 where
  pub before : List Step
  pub step : Step
  pub after : List Step
  pub all : steps ≡ before ++ step ∷ after
  pub place : length before ≡ x.of.place
  pub asks : IsAskOfStep step x.ask
  pub show_before : IsTrue (is_some (after_steps stored before))
  pub show_after : IsTrue (is_some (after_steps stored (before ++ step ∷ [])))

abbrev pub AllOfPlan : ShowLists → List Step → List Sending → Type 0
AllOfPlan stored steps [] = ⊤
AllOfPlan stored steps (x ∷ xs) = IsOfPlan stored steps x × AllOfPlan stored steps xs

-- whatever is sent is of the plan that was judged against the store as it was read
abbrev pub SentByThePlan : Type 0
SentByThePlan =
    (port : ℕ) (manner : Manner) (file stored : ShowLists) (copied : Copied) (p : Planned) (xs : List Sending)
    (at : Stage) → IsPlanned port manner file stored copied p → AreSendings (state_of p.machine) xs at
    → AllOfPlan stored p.steps.items xs

-- and if the plan takes something away, nothing is sent before the copy of the store is written
abbrev pub NothingTakenUncopied : Type 0
NothingTakenUncopied =
    (port : ℕ) (manner : Manner) (file stored : ShowLists) (copied : Copied) (p : Planned) (ts : List Turn)
    (m_then : LoadMachine) → IsPlanned port manner file stored copied p → HadTurns p.machine ts m_then
    → removes_some p.steps.items ≡ true → IsCopiedFirst copied.text.items (all_posted ts)

-- ---- loaded

-- the message of this place left in one of these sendings, and was replied to, and none of its replies stopped the load
abbrev pub WasDone : State → List Sending → ℕ → Type 0
WasDone s [] place = ⊥
WasDone s (x ∷ xs) place = ((x.of.place ≡ place) × IsSending s x done) ⊎ WasDone s xs place

-- a load of a plan says that it is done only once each of its steps was replied to, and none was refused
abbrev pub EachIsDone : Type 0
EachIsDone =
    (port : ℕ) (manner : Manner) (file stored : ShowLists) (copied : Copied) (p : Planned) (xs : List Sending)
    → IsPlanned port manner file stored copied p → AreSendings (state_of p.machine) xs (stage.Over end.Done)
    → (place : ℕ) → place < length p.machine.asks.items → WasDone (state_of p.machine) xs place

-- and once one was refused nothing leaves any more
abbrev pub ARefusalStops : Type 0
ARefusalStops =
    (m m_then : LoadMachine) (place : ℕ) (code : ℤ) (ts : List Turn) → m.stage ≡ stage.Over (end.Refused place code)
    → AreTurns load_machine m ts m_then → ts ≡ []

-- ---- twice

-- taken once more the step is refused, or the show stays
abbrev pub ChangesNothingMore : ShowLists → Step → Type 0
ChangesNothingMore t x = (after_step t x ≡ None) ⊎ (after_step t x ≡ Some t)

-- A step may be sent again: a controller that has taken it changes nothing when it comes once more.
abbrev pub TwiceIsOnce : Type 0
TwiceIsOnce =
    (s : ShowLists) (x : Step) (t : ShowLists) → IsTrue (is_show s) → after_step s x ≡ Some t → ChangesNothingMore t x
