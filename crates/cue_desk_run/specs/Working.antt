-- What a desk hears, and what its machine makes of that.
use Rattle.std.specs.Prelude.{◌≡◌, ℕ, Bool, true, false, List, [], ◌∷◌, Option}
use Rattle.cue_station.specs.declared.heard.Heard.{Heard}
use Rattle.cue_station.specs.declared.heard.Heard.TheVariants as heard
use Rattle.cue_station.specs.declared.heard.Input.{Input}
use Rattle.cue_station.specs.declared.heard.Send.{Send}
use Rattle.cue_station.specs.declared.station.Station.{Station}
use Rattle.cue_station.specs.declared.station.Step.{Step}
use Rattle.cue_station.specs.Evening.{Plays}
use Rattle.cue_station.specs.Memory.{IsAfter, StepKeeps}
use Rattle.cue_station.specs.Stepping.{IsSame}
use Rattle.cue_view.specs.declared.button.Button.{Button}
use Rattle.cue_view.specs.declared.view.View.{View}

-- all is as it was
abbrev pub Stays : (old new : Station) → (v v_then : View) → Type 0
Stays old new v v_then = (new ≡ old) × (v_then ≡ v)

-- Its machine made a step of this at some moment, and the view of that step is the newest.
pub record Hears (h : Heard) (old new : Station) (v : View) : Type 0 where
  pub at : ℕ
  pub wall : ℕ
  pub send : Option Send
  pub keeps : StepKeeps old (record { at = at; wall = wall; heard = h }) new (record { view = v; send = send })

-- It heard this; or it could not, and all is as it was.
abbrev pub HearsIf : Bool → Heard → (old new : Station) → (v v_then : View) → Type 0
HearsIf true h old new v v_then = Hears h old new v_then
HearsIf false h old new v v_then = IsSame old new × (v_then ≡ v)

-- it is no press
abbrev pub IsUnpressed : Heard → Type 0
IsUnpressed (heard.Pressed view b) = ⊥
IsUnpressed _ = Unit {0}

abbrev pub AreUnpressed : List Input → Type 0
AreUnpressed [] = Unit {0}
AreUnpressed (i ∷ more) = IsUnpressed i.heard × AreUnpressed more

-- It heard one thing after the other, and none of them was a press: its machine made a step of each.
pub record OnlyLooks (old new : Station) : Type 0 where
  pub heard : List Input
  pub steps : List Step
  pub unpressed : AreUnpressed heard
  pub plays : Plays old heard steps new

-- it is no press, or one of a button of the view with this number for which there is a reason
abbrev pub IsFor : (ℕ → Button → Type 0) → Heard → Type 0
IsFor reason (heard.Pressed view b) = reason view b
IsFor reason _ = Unit {0}

abbrev pub AreFor : (ℕ → Button → Type 0) → List Input → Type 0
AreFor reason [] = Unit {0}
AreFor reason (i ∷ more) = IsFor reason i.heard × AreFor reason more

-- It heard one thing after the other, and for each press of them there was a reason: its machine made a step of each.
pub record HearsFor (reason : ℕ → Button → Type 0) (old new : Station) : Type 0 where
  pub heard : List Input
  pub steps : List Step
  pub reasons : AreFor reason heard
  pub plays : Plays old heard steps new

-- It has heard no press so far.
pub record IsUntouched (s : Station) : Type 0 where
  pub first : Station
  pub new : IsAfter [] first
  pub looks : OnlyLooks first s
