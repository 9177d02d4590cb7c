-- What a plan asks.
use Rattle.std.proofs.Common.{◌≡◌, ℕ, suc, zero, Bool, true, false, cond, ◌||◌, List, [], ◌∷◌, ◌++◌, length}
use Rattle.std.proofs.Common.{Option}
use Rattle.std.proofs.Common.{Some, None, refl, sym, ap, ◌∙◌, subst, append_assoc, append-nil}
use Rattle.std.specs.Prelude.{Vec, IsSomeAnd, IsTrue, is_some, slice_get}
use Rattle.std.specs.declared.alloc.Global.{Global}
use Rattle.std.proofs.lemmas.Option.{none-some, same_Some}
use Rattle.cue_show.specs.Show.{ShowLists}
use Rattle.cue_desk.specs.declared.asking.Asked.{Asked}
use Rattle.cue_loading.specs.declared.manner.Manner.{Manner}
use Rattle.cue_loading.specs.declared.step.Step.{Step}
use Rattle.cue_loading.specs.Steps.{EachIsTaken, after_steps, goes_on}
use Rattle.cue_load_machine.specs.declared.asks.Ask.{Ask}
use Rattle.cue_load_machine.specs.declared.asks.Refusal.TheVariants as refusal
use Rattle.cue_load_machine.specs.declared.machine.LoadMachine.{LoadMachine}
use Rattle.cue_load_machine.specs.declared.planned.Copied.{Copied}
use Rattle.cue_load_machine.specs.declared.stage.Stage.{Stage}
use Rattle.cue_load_machine.specs.declared.stage.Stage.TheVariants as stage
use Rattle.cue_load_machine.specs.Letters.{IsAskOf, IsAskOfStep, IsAsking, IsOne}
use Rattle.cue_load_machine.specs.Lives.{AreSendings, IsNew, Sending}
use Rattle.cue_load_machine.specs.Plans.{AllOfPlan, AreAsksOf, IsMachineOf, IsOfPlan, PushesAsks}
use Rattle.cue_load_machine.specs.Plans.{NothingTakenUncopied, SentByThePlan, copy_for, removes_some}
use Rattle.cue_load_machine.specs.Steps.{bytes_of, state_of}
use Rattle.cue_load_machine.proofs.LawLemmas.{nothing-goes-uncopied}

pub pushed_none : (old : List Ask) → PushesAsks old [] old
pushed_none old = record { added = []; all = sym (append-nil old); asks = tt }

pub pushed_more : (old mid new : List Ask) (s : Step) (ss : List Step) (a : Ask) → mid ≡ old ++ a ∷ [] → IsAskOfStep s a
    → PushesAsks mid ss new → PushesAsks old (s ∷ ss) new
pushed_more old mid new s ss a e is h = record {
  added = a ∷ h.added;
  all = h.all ∙ (ap (λ (xs : List Ask). xs ++ h.added) e ∙ append_assoc old (a ∷ []) h.added);
  asks = (is, h.asks);
}

-- the step at a place, and what asks it
pub record StepAt (steps : List Step) (place : ℕ) (a : Ask) : Type 0 where
  pub before : List Step
  pub step : Step
  pub after : List Step
  pub all : steps ≡ before ++ step ∷ after
  pub stands : length before ≡ place
  pub asks : IsAskOfStep step a

pub step_at : (steps : List Step) (asks : List Ask) (place : ℕ) (a : Ask) → AreAsksOf steps asks
    → slice_get asks place ≡ Some a → StepAt steps place a
step_at [] [] place a h e = absurd (none-some a e)
step_at [] (b ∷ asks) place a h e = absurd h
step_at (s ∷ ss) [] place a h e = absurd h
step_at (s ∷ ss) (b ∷ asks) zero a h e = record {
  before = [];
  step = s;
  after = ss;
  all = refl;
  stands = refl;
  asks = subst (λ (x : Ask). IsAskOfStep s x) (same_Some b a e) h.0;
}
step_at (s ∷ ss) (b ∷ asks) (suc place) a h e =
    let rest = step_at ss asks place a h.1 e in
    record {
      before = s ∷ rest.before;
      step = rest.step;
      after = rest.after;
      all = ap (λ (xs : List Step). s ∷ xs) rest.all;
      stands = ap suc rest.stands;
      asks = rest.asks;
    }

-- where the whole plan is taken, each beginning of it is
of_plan : EachIsTaken → (stored : ShowLists) (steps : List Step) (x : Sending)
    → IsTrue (is_some (after_steps stored steps))
    → StepAt steps x.of.place x.ask → IsOfPlan stored steps x
of_plan each stored steps x taken at =
    let all : IsTrue (is_some (after_steps stored (at.before ++ at.step ∷ at.after))) =
    subst (λ (xs : List Step). IsTrue (is_some (after_steps stored xs))) at.all taken in
    let split : at.before ++ at.step ∷ at.after ≡ (at.before ++ at.step ∷ []) ++ at.after =
    sym (append_assoc at.before (at.step ∷ []) at.after) in
    record {
      before = at.before;
      step = at.step;
      after = at.after;
      all = at.all;
      place = at.stands;
      asks = at.asks;
      show_before = each stored at.before (at.step ∷ at.after) all;
      show_after = each stored (at.before ++ at.step ∷ []) at.after
          (subst (λ (xs : List Step). IsTrue (is_some (after_steps stored xs))) split all);
    }

all_of_plan : EachIsTaken → (stored : ShowLists) (steps : List Step) (m : LoadMachine) (xs : List Sending) (at : Stage)
    → IsTrue (is_some (after_steps stored steps)) → AreAsksOf steps m.asks.items
    → AreSendings (state_of m) xs at → AllOfPlan stored steps xs
all_of_plan each stored steps m [] at taken asks h = tt
all_of_plan each stored steps m (x ∷ xs) at taken asks h = (
  of_plan each stored steps x taken (step_at steps m.asks.items x.of.place x.ask asks h.1.there),
  all_of_plan each stored steps m xs (stage.Sends x.of) taken asks h.2,
)

is_taken : (P : ShowLists → Type 0) (o : Option ShowLists) → IsSomeAnd o P → IsTrue (is_some o)
is_taken P None h = absurd h
is_taken P (Some s) h = refl

pub sent-by-the-plan : EachIsTaken → SentByThePlan
sent-by-the-plan each port manner file stored copied p xs at h sends =
    all_of_plan each stored p.steps.items p.machine xs at (is_taken _ (after_steps stored p.steps.items) h.loads)
    h.machine.asks sends

copy_is : (copied : Copied) (steps : List Step) → removes_some steps ≡ true
    → bytes_of (copy_for copied.is_wanted copied.text steps) ≡ Some copied.text.items
copy_is copied steps e = by copied.is_wanted
  where
    by : (wanted : Bool)
        → bytes_of (cond (wanted || removes_some steps) (Some copied.text) None) ≡ Some copied.text.items
    by true = refl
    by false = ap (λ (c : Bool). bytes_of (cond c (Some copied.text) None)) e

pub nothing-taken-uncopied : NothingTakenUncopied
nothing-taken-uncopied port manner file stored copied p ts m_then h turns e =
    nothing-goes-uncopied p.machine ts m_then copied.text.items turns
    (h.machine.copy ∙ copy_is copied p.steps.items e)
    (ap (λ (x : Manner). goes_on x false) h.machine.goes_by ∙ h.takes)

-- ---- machines

pub is_machine_of : (port : ℕ) (manner : Manner) (copied : Copied) (steps : List Step) (asks : Vec Ask Global)
    (copy : Option (Vec ℕ Global)) (m : LoadMachine) → PushesAsks [] steps asks.items
    → copy ≡ copy_for copied.is_wanted copied.text steps → m.asks ≡ asks → m.copy ≡ copy → m.port ≡ port
    → m.manner ≡ manner → IsNew (state_of m) → IsMachineOf port manner copied steps m
is_machine_of port manner copied steps asks copy m pushed wanted a c p n new =
    let same : m.asks.items ≡ pushed.added = ap (λ (v : Vec Ask Global). v.items) a ∙ pushed.all in
    record {
      asks = subst (λ (xs : List Ask). AreAsksOf steps xs) (sym same) pushed.asks;
      copy = ap (λ (o : Option (Vec ℕ Global)). bytes_of o) (c ∙ wanted);
      sends_to = p;
      goes_by = n;
      new = new;
    }

pub is_one : (a : Asked) (old new : List Ask) (ask : Ask) → old ≡ [] → new ≡ old ++ ask ∷ []
    → IsAskOf a refusal.GoesOn ask → IsOne a new
is_one a old new ask none pushed is = record {
  ask = ask;
  same = pushed ∙ ap (λ (xs : List Ask). xs ++ ask ∷ []) none;
  is = is;
}

pub is_asking : (port : ℕ) (a : Asked) (asks : Vec Ask Global) (m : LoadMachine) → IsOne a asks.items
    → m.asks ≡ asks → m.port ≡ port → IsNew (state_of m) → IsAsking port a m
is_asking port a asks m one same p new = record {
  asks = subst (λ (xs : List Ask). IsOne a xs) (sym (ap (λ (v : Vec Ask Global). v.items) same)) one;
  sends_to = p;
  new = new;
}
