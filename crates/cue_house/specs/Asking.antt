-- What an input asks for: a go of a cue. And that nothing else gives an attempt.
use Rattle.std.specs.Prelude.{◌≡◌, ℕ, List, [], ◌∷◌, ◌++◌, Some, IsTrue}
use Rattle.std.specs.List.{list_any}
use Rattle.cue_exchange.specs.declared.attempt.Attempt.{Attempt}
use Rattle.cue_exchange.specs.Live.{attempt_of_cue}
use Rattle.cue_exchange.specs.Steps.{can_go_now}
use Rattle.cue_core.specs.declared.event.Event.{Event}
use Rattle.cue_core.specs.declared.event.Event.TheVariants as event
use Rattle.cue_core.specs.Events.{is_go_of}
use Rattle.cue_core.specs.State.{ShowState}
use Rattle.cue_core.specs.Steps.{after_events}
use Rattle.cue_osc.specs.Argument.{Argument}
use Rattle.cue_osc.specs.Content.{Content, message, discarded, bundle}
use Rattle.cue_pattern.specs.declared.piece.Piece.{Piece}
use Rattle.cue_pattern.specs.Reading.{pattern_at}
use Rattle.cue_pattern.specs.Matching.{matches}
use Rattle.cue_operator.specs.declared.method.CueVerb.TheVariants.{Go}
use Rattle.cue_operator.specs.declared.method.Method.TheVariants.{OfCue}
use Rattle.cue_operator.specs.Methods.{address_of}
use Rattle.cue_engine.specs.Given.{Input, given_of}
use Rattle.cue_stage.specs.Consent.{Brings}

-- ---- what an input asks

-- A message is read as a go of the cue: its address matches that of the method, and it has no argument.
pub record IsReadAsGo (address : List ℕ) (arguments : List Argument) (cue : List ℕ) : Type 0 where
  pub pattern : List (List Piece)
  pub read : pattern_at address ≡ Some pattern
  pub matching : IsTrue (matches pattern (address_of (OfCue cue Go)))
  pub none : arguments ≡ []

-- the message is a go of the cue; one that is not understood is none, and a bundle is no message
abbrev pub IsGo : Content → List ℕ → Type 0
IsGo (message address arguments) cue = IsReadAsGo address arguments cue
IsGo (discarded address) cue = ⊥
IsGo (bundle tag cs) cue = ⊥

-- the input asks for a go of the cue, whoever sent it
pub record AsksForGo (now : ℕ) (input : Input) (cue : List ℕ) : Type 0 where
  pub content : Content
  pub brings : Brings now input content
  pub asks : IsGo content cue

-- ---- what gives an attempt

-- q is the live attempt at the cue; it prepares, and each of its devices may go
pub record IsReady (s : ShowState) (q : ℕ) (cue : List ℕ) : Type 0 where
  pub attempt : Attempt
  pub found : attempt_of_cue s.live cue ≡ Some attempt
  pub number : attempt.seq ≡ q
  pub ready : IsTrue (can_go_now attempt)

-- Among these events, from the state s on, is that q is given. It was ready then, at a cue for which this was asked.
pub record IsGivenAsAsked (s : ShowState) (es : List Event) (q : ℕ) (IsAsked : List ℕ → Type 0) : Type 0 where
  pub cue : List ℕ
  pub asked : IsAsked cue
  pub before : List Event
  pub later : List Event
  pub split : es ≡ before ++ event.Go q ∷ later
  pub ready : IsReady (after_events s before) q cue

-- An input gives an attempt only if it is a datagram that asks for a go of its cue; and the attempt is ready then.
abbrev pub GoOnlyByCommand : Type 0
GoOnlyByCommand = (s : ShowState) (now : ℕ) (input : Input) (q : ℕ)
    → IsTrue (list_any (is_go_of q) (given_of s now input).batch)
    → IsGivenAsAsked s (given_of s now input).batch q (AsksForGo now input)
