-- Consent: what an input says of a device that stands by, and when that is true.
use Rattle.std.specs.Prelude.{◌≡◌, ℕ, pos, false, true, List, [], ◌∷◌, Some, Ok, IsTrue}
use Rattle.std.specs.List.{Contains, list_any}
use Rattle.cue_osc.specs.Argument.{Argument, int}
use Rattle.cue_osc.specs.Content.{Content, message, discarded, bundle}
use Rattle.cue_pattern.specs.declared.piece.Piece.{Piece}
use Rattle.cue_pattern.specs.Reading.{pattern_at}
use Rattle.cue_pattern.specs.Matching.{matches}
use Rattle.cue_show.specs.declared.part.Part.{Part}
use Rattle.cue_core.specs.declared.event.Event.{Event}
use Rattle.cue_core.specs.Events.{is_start_of}
use Rattle.cue_core.specs.Happenings.{onto}
use Rattle.cue_core.specs.History.{parts_by}
use Rattle.cue_operator.specs.declared.method.DeviceVerb.TheVariants.{StandingBy}
use Rattle.cue_operator.specs.declared.method.Method.TheVariants.{OfDevice}
use Rattle.cue_operator.specs.Methods.{address_of}
use Rattle.cue_engine.specs.Given.{Input, datagram, tick, messages_in}
use Rattle.cue_engine.specs.Incidents.{committed, stopped_in_commit}
use Rattle.cue_engine.specs.Runs.{joined_list}
use Rattle.cue_device.specs.declared.hearing.Told.TheVariants.{Prepared}
use Rattle.cue_device.specs.Histories.{tells}
use Rattle.cue_device.specs.Laws.{has_stood_by}
use Rattle.cue_stage.specs.Stage.{Beginning, Happening, meets, Happens, answers_by, life_of}
use Rattle.cue_stage.specs.Laws.{KeepsEachDecision, WasToMove}

-- ---- what an input says

-- A message is read as a standing_by of the device d for the attempt q: its address matches that of the method, and
-- the number is its one argument.
pub record IsReadAsStandingBy (address : List ℕ) (arguments : List Argument) (d q : ℕ) : Type 0 where
  pub pattern : List (List Piece)
  pub read : pattern_at address ≡ Some pattern
  pub matching : IsTrue (matches pattern (address_of (OfDevice d StandingBy)))
  pub number : arguments ≡ int (pos q) ∷ []

-- the message is a standing_by of the device d for q; one that is not understood is none, and a bundle is no message
abbrev pub IsStandingBy : Content → ℕ → ℕ → Type 0
IsStandingBy (message address arguments) d q = IsReadAsStandingBy address arguments d q
IsStandingBy (discarded address) d q = ⊥
IsStandingBy (bundle tag cs) d q = ⊥

-- the message is one of those that the input brings
abbrev pub Brings : ℕ → Input → Content → Type 0
Brings now (datagram from bytes) m = (ms : List Content) × (messages_in now bytes ≡ Ok ms) × Contains ms m
Brings now tick m = ⊥

-- the input says that the device d stands by for the attempt q, whoever sent it
pub record SaysStandingBy (now : ℕ) (input : Input) (d q : ℕ) : Type 0 where
  pub content : Content
  pub brings : Brings now input content
  pub says : IsStandingBy content d q

-- ---- when that is true

-- the device d has answered that it stands by for q
abbrev pub HasStoodBy : Beginning → List Happening → ℕ → ℕ → Type 0
HasStoodBy from past d q = has_stood_by q (answers_by from past d) ≡ true

-- what the input says is true: each device that it says stands by has answered so before
abbrev pub IsTrueOf : Beginning → List Happening → ℕ → Input → Type 0
IsTrueOf from past now input = (d q : ℕ) → SaysStandingBy now input d q → HasStoodBy from past d q

-- what each of these inputs says is true
abbrev pub AreTrueOf : Beginning → List Happening → List (ℕ × Input) → Type 0
AreTrueOf from past inputs = (i : ℕ × Input) → Contains inputs i → IsTrueOf from past i.0 i.1

-- what happens brings no untrue standing_by to the controller
abbrev pub BringsNoUntruth : Beginning → List Happening → Happening → Type 0
BringsNoUntruth from past (meets (committed inputs)) = AreTrueOf from past inputs
BringsNoUntruth from past (meets (stopped_in_commit inputs n one other)) = AreTrueOf from past inputs
BringsNoUntruth from past _ = Unit {0}

-- Only devices answer: no one else says of a device that it stands by, so that whatever says so came after the device
-- itself had answered so. It may come late, and in any number of copies.
abbrev pub OnlyDevicesAnswer : Beginning → List Happening → Type 0
OnlyDevicesAnswer from [] = Unit {0}
OnlyDevicesAnswer from (h ∷ past) = BringsNoUntruth from past h × OnlyDevicesAnswer from past

-- ---- consent

-- the device d is a required one of the attempt q: by the events its cue had such a part when it started
pub record IsRequired (es : List Event) (q d : ℕ) : Type 0 where
  pub part : Part
  pub of_cue : Contains (parts_by (onto es []) q) part
  pub is_it : part.device ≡ d
  pub required : part.optional ≡ false

-- the device d has consented to q: its machine reported that it prepared for q, and it has answered that it stands by
pub record HasConsented (from : Beginning) (past : List Happening) (d q : ℕ) : Type 0 where
  pub prepared : Contains (life_of d past) (tells (Prepared q))
  pub answered : HasStoodBy from past d q

-- the attempt q has started by the events, and each required device of it has consented
pub record IsConsented (from : Beginning) (past : List Happening) (es : List Event) (q : ℕ) : Type 0 where
  pub started : IsTrue (list_any (is_start_of q) es)
  pub each : (d : ℕ) → IsRequired es q d → HasConsented from past d q

-- Only with consent: if only devices answer, a device is ordered to move for an attempt only after each required
-- device of it, by the batches that the store keeps, has prepared for it and has said so. The list of what happened
-- may end with the order itself, with which nothing is reported or answered: so consent came before it.
abbrev pub OnlyWithConsent : Type 0
OnlyWithConsent = (from : Beginning) (past : List Happening) (x y : List ℕ) (d q : ℕ) → Happens from past
    → OnlyDevicesAnswer from past → (keeps : KeepsEachDecision from past x y) → WasToMove from past d q
    → IsConsented from past (joined_list keeps.kept) q
