-- A command that is made has one or two events, and no other has any.
use Rattle.std.proofs.Common.{◌≡◌, ◌≢◌, ◌↔◌, ℕ, ◌≤◌, Bool, true, false, [], ◌∷◌, length, Option, None, Some}
use Rattle.std.proofs.Common.{if◌then◌else◌, refl, arith}
use Rattle.std.specs.Option.{option_map_or}
use Rattle.cue_exchange.specs.declared.attempt.Answer.{Answer}
use Rattle.cue_exchange.specs.declared.attempt.Stage.{Stage}
use Rattle.cue_exchange.specs.declared.attempt.DeviceAnswer.{DeviceAnswer}
use Rattle.cue_exchange.specs.declared.attempt.Attempt.{Attempt}
use Rattle.cue_exchange.specs.declared.situation.Situation.{Situation}
use Rattle.cue_exchange.specs.declared.situation.Situation.TheVariants as situation
use Rattle.cue_exchange.specs.Answers.{situation_of, device_answer}
use Rattle.cue_exchange.specs.declared.attempt.Reason.TheVariants.{Abort, Release}
use Rattle.cue_core.specs.declared.event.Event.{Event}
use Rattle.cue_core.specs.declared.event.Event.TheVariants as event
use Rattle.cue_core.specs.declared.command.Code.{Code}
use Rattle.cue_core.specs.declared.command.Command.{Command}
use Rattle.cue_core.specs.declared.command.Command.TheVariants as command
use Rattle.cue_core.specs.declared.command.AnswerKind.{AnswerKind}
use Rattle.cue_core.specs.declared.command.AnswerKind.TheVariants as answer_kind
use Rattle.cue_core.specs.declared.command.Verdict.TheVariants.{Made, Known, No}
use Rattle.cue_core.specs.State.{ShowState}
use Rattle.cue_core.specs.Judge.{Judgement, judgement_of, made_by, known_already, abort_early, abort_late}
use Rattle.cue_core.specs.Judge.{release_early, on_standing_by, on_complete, on_cancelled, on_abort, on_answer_at}
use Rattle.cue_core.specs.Judge.{on_answer_in, on_answer_to, on_release_at, on_release_in, on_release_of}

pub record HasItsEvents (j : Judgement) : Type 0 where
  pub few : length j.1 ≤ 2
  pub made : (j.0 ≡ Made) ↔ (j.1 ≢ [])

if-has : (b : Bool) (x y : Judgement) → HasItsEvents x → HasItsEvents y → HasItsEvents (if b then x else y)
if-has true x y h k = h
if-has false x y h k = k

or-has : {A : Type 0} (f : A → Judgement) (o : Option A) (d : Judgement) → ((x : A) → HasItsEvents (f x))
    → HasItsEvents d → HasItsEvents (option_map_or f o d)
or-has f None d h k = k
or-has f (Some x) d h k = h x

none-known : HasItsEvents (Known, [])
none-known = record { few = omega arith; made = (λ h. absurd cc, λ h. absurd (h refl)) }

none-refused : {c : Code} → HasItsEvents (No c, [])
none-refused = record { few = omega arith; made = (λ h. absurd cc, λ h. absurd (h refl)) }

one : {e : Event} → HasItsEvents (Made, e ∷ [])
one = record { few = omega arith; made = (λ h k. cc, λ h. refl) }

two : {e f : Event} → HasItsEvents (Made, e ∷ f ∷ [])
two = record { few = omega arith; made = (λ h k. cc, λ h. refl) }

standing_by-has : (q : ℕ) (d : DeviceAnswer) (z : Situation) → HasItsEvents (on_standing_by q d z)
standing_by-has q d situation.AskedToStandBy = one
standing_by-has q d situation.StandsBy = none-known
standing_by-has q d situation.AskedToGo = none-known
standing_by-has q d situation.Done = none-known
standing_by-has q d _ = none-refused

complete-has : (q : ℕ) (d : DeviceAnswer) (z : Situation) → HasItsEvents (on_complete q d z)
complete-has q d situation.AskedToGo = one
complete-has q d situation.Done = none-known
complete-has q d _ = none-refused

cancelled-has : (q : ℕ) (d : DeviceAnswer) (z : Situation) → HasItsEvents (on_cancelled q d z)
cancelled-has q d situation.AskedToLetGo = one
cancelled-has q d situation.LetGo = none-known
cancelled-has q d _ = none-refused

abort_early-has : (q : ℕ) (d : DeviceAnswer) → HasItsEvents (abort_early q d)
abort_early-has q d = if-has d.optional (made_by (event.Excuse q d.device ∷ []))
    (made_by (event.Cancel q Abort ∷ event.Failed q d.device ∷ [])) one two

abort_late-has : (q : ℕ) (d : DeviceAnswer) → HasItsEvents (abort_late q d)
abort_late-has q d = if-has d.optional (made_by (event.LetGo q d.device ∷ [])) (made_by (event.Failed q d.device ∷ []))
    one
    one

abort-has : (q : ℕ) (d : DeviceAnswer) (z : Situation) → HasItsEvents (on_abort q d z)
abort-has q d situation.AskedToStandBy = abort_early-has q d
abort-has q d situation.StandsBy = abort_early-has q d
abort-has q d situation.AskedToGo = one
abort-has q d situation.AskedToLetGo = abort_late-has q d
abort-has q d situation.Done = none-refused
abort-has q d situation.LetGo = none-refused
abort-has q d _ = none-known

release_early-has : (q : ℕ) (d : DeviceAnswer) → HasItsEvents (release_early q d)
release_early-has q d = if-has d.optional (made_by (event.Excuse q d.device ∷ []))
    (made_by (event.Cancel q Release ∷ event.LetGo q d.device ∷ [])) one two

release_at-has : (q : ℕ) (d : DeviceAnswer) (z : Situation) → HasItsEvents (on_release_at q d z)
release_at-has q d situation.AskedToStandBy = release_early-has q d
release_at-has q d situation.StandsBy = release_early-has q d
release_at-has q d situation.AskedToGo = one
release_at-has q d situation.AskedToLetGo = one
release_at-has q d _ = none-known

release_in-has : (q : ℕ) (d : DeviceAnswer) (g : Stage) (x : Answer) → HasItsEvents (on_release_in q d g x)
release_in-has q d g x = or-has (on_release_at q d) (situation_of g x) known_already (release_at-has q d) none-known

answer_at-has : (kind : AnswerKind) (q : ℕ) (d : DeviceAnswer) (z : Situation) → HasItsEvents (on_answer_at kind q d z)
answer_at-has answer_kind.StandingBy q d z = standing_by-has q d z
answer_at-has answer_kind.Complete q d z = complete-has q d z
answer_at-has answer_kind.Cancelled q d z = cancelled-has q d z
answer_at-has answer_kind.Abort q d z = abort-has q d z

answer-has : (kind : AnswerKind) (q : ℕ) (d : DeviceAnswer) (g : Stage) (x : Answer)
    → HasItsEvents (on_answer_in kind q d g x)
answer-has kind q d g x = or-has (on_answer_at kind q d) (situation_of g x) _ (answer_at-has kind q d) none-refused

answer_to-has : (kind : AnswerKind) (d : ℕ) (a : Attempt) → HasItsEvents (on_answer_to kind d a)
answer_to-has kind d a = or-has (λ x. on_answer_in kind a.seq x a.stage x.answer) (device_answer a.answers d) _
    (λ x. answer-has kind a.seq x a.stage x.answer) none-refused

release_of-has : (d : ℕ) (a : Attempt) → HasItsEvents (on_release_of d a)
release_of-has d a = or-has (λ x. on_release_in a.seq x a.stage x.answer) (device_answer a.answers d) _
    (λ x. release_in-has a.seq x a.stage x.answer) none-refused

-- each verdict has its events
pub judgement_of-has : (s : ShowState) (now from : ℕ) (c : Command) → HasItsEvents (judgement_of s now from c)
judgement_of-has s now from command.Status = none-known
judgement_of-has s now from (command.AddDevice d p) = search (if-has, or-has, none-known, none-refused, one, two)
judgement_of-has s now from (command.AddCue c ps) = search (if-has, or-has, none-known, none-refused, one, two)
judgement_of-has s now from (command.Standby c) = search (if-has, or-has, none-known, none-refused, one, two) depth 12
judgement_of-has s now from (command.Go c) = search (if-has, or-has, none-known, none-refused, one, two)
judgement_of-has s now from (command.Cancel c) = search (if-has, or-has, none-known, none-refused, one, two)
judgement_of-has s now from (command.Goto c) = search (if-has, or-has, none-known, none-refused, one, two)
judgement_of-has s now from (command.RemoveCue c) = search (if-has, or-has, none-known, none-refused, one, two)
judgement_of-has s now from (command.Reply k d q) = search (if-has, or-has, none-known, none-refused, answer_to-has)
    depth 12
judgement_of-has s now from (command.Release d) = search (if-has, or-has, none-known, none-refused, release_of-has)
    depth 12
judgement_of-has s now from (command.RemoveDevice d) = search (if-has, or-has, none-known, none-refused, one, two)
judgement_of-has s now from (command.Bad c) = none-refused
