-- What a load asks that adds what a show file has.
use Rattle.std.specs.Prelude.{◌≡◌, ◌⊎◌, ℕ, List, [], ◌∷◌, ◌++◌, None, ⊤}
use Rattle.cue_loading.specs.declared.manner.Manner.TheVariants as manner
use Rattle.cue_load_machine.specs.declared.asks.Ask.{Ask}
use Rattle.cue_load_machine.specs.declared.machine.LoadMachine.{LoadMachine}
use Rattle.cue_load_machine.specs.Lives.{IsNew}
use Rattle.cue_load_machine.specs.Steps.{state_of}

-- each of these asks for one of the entries alone, in order
abbrev pub AreAlone : {E : Type 0} → (E → Ask → Type 0) → List E → List Ask → Type 0
AreAlone alone [] [] = ⊤
AreAlone alone (e ∷ es) (a ∷ asks) = alone e a × AreAlone alone es asks
AreAlone alone [] (a ∷ asks) = ⊥
AreAlone alone (e ∷ es) [] = ⊥

-- for each group one that asks for all of it, and after it one for each of its entries
abbrev pub AreGroups : {E : Type 0} → (E → Ask → Type 0) → (List E → Ask → Type 0) → List (List E) → List Ask → Type 0
AreGroups alone together [] asks = asks ≡ []
AreGroups alone together (g ∷ gs) asks =
    (all : Ask) × (each : List Ask) × (more : List Ask) × (asks ≡ all ∷ (each ++ more)) × together g all
    × AreAlone alone g each × AreGroups alone together gs more

-- the groups, one after the other
abbrev pub joined : {E : Type 0} → List (List E) → List E
joined [] = []
joined (g ∷ gs) = g ++ joined gs

-- ---- what is put after others

pub record PushesEach {E : Type 0} (alone : E → Ask → Type 0) (old : List Ask) (entries : List E) (new : List Ask)
    : Type 0 where
  pub added : List Ask
  pub all : new ≡ old ++ added
  pub are : AreAlone alone entries added

pub record AddsOne {E : Type 0} (alone : E → Ask → Type 0) (together : List E → Ask → Type 0) (old : List Ask)
    (entries : List E) (new : List Ask) : Type 0 where
  pub first : Ask
  pub each : List Ask
  pub all : new ≡ old ++ first ∷ each
  pub is : together entries first
  pub are : AreAlone alone entries each

pub record AddsGroups {E : Type 0} (alone : E → Ask → Type 0) (together : List E → Ask → Type 0) (old : List Ask)
    (entries : List E) (new : List Ask) : Type 0 where
  pub groups : List (List E)
  pub added : List Ask
  pub all : new ≡ old ++ added
  pub same : entries ≡ joined groups
  pub are : AreGroups alone together groups added

-- The machine asks for these entries, by groups, has no copy to write, and has done nothing yet.
pub record IsAdding {E : Type 0} (alone : E → Ask → Type 0) (together : List E → Ask → Type 0) (port : ℕ)
    (entries : List E) (m : LoadMachine) : Type 0 where
  pub asks : AddsGroups alone together [] entries m.asks.items
  pub copy : m.copy ≡ None
  pub sends_to : m.port ≡ port
  pub manner : m.manner ≡ manner.Adds
  pub new : IsNew (state_of m)

-- ---- what cannot be asked

-- P holds of one of these
abbrev pub AnyOf : {E : Type 0} → (E → Type 0) → List E → Type 0
AnyOf P [] = ⊥
AnyOf P (e ∷ es) = P e ⊎ AnyOf P es

-- a group that cannot be asked together, or of which one cannot be asked alone
abbrev pub IsUnaskableGroup : {E : Type 0} → (E → Type 0) → (List E → Type 0) → List E → Type 0
IsUnaskableGroup alone together group = together group ⊎ AnyOf alone group

-- Some of the entries, which stand together, are such a group.
pub record HasUnaskable {E : Type 0} (alone : E → Type 0) (together : List E → Type 0) (entries : List E) : Type 0 where
  pub before : List E
  pub group : List E
  pub after : List E
  pub all : entries ≡ before ++ (group ++ after)
  pub unaskable : IsUnaskableGroup alone together group
