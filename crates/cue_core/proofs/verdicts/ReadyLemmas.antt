-- Only a standing_by makes a Ready: of its own device, in the attempt of its number.
use Rattle.std.proofs.Common.{◌≡◌, ℕ, Bool, true, false, ◌&&◌, ◌||◌, Option, None, Some, if◌then◌else◌}
use Rattle.std.proofs.Common.{nat_eq, refl, sym, ap, ◌∙◌, subst, true≢false}
use Rattle.std.specs.List.{list_any}
use Rattle.std.specs.Option.{option_map_or}
use Rattle.cue_exchange.specs.declared.attempt.Answer.{Answer}
use Rattle.cue_exchange.specs.declared.attempt.Stage.{Stage}
use Rattle.cue_exchange.specs.declared.attempt.DeviceAnswer.{DeviceAnswer}
use Rattle.cue_exchange.specs.declared.attempt.Attempt.{Attempt}
use Rattle.cue_exchange.specs.declared.situation.Situation.{Situation}
use Rattle.cue_exchange.specs.declared.situation.Situation.TheVariants as situation
use Rattle.cue_exchange.specs.Answers.{situation_of, device_answer}
use Rattle.cue_exchange.specs.Live.{attempt_of, has_number}
use Rattle.cue_core.specs.declared.command.AnswerKind.{AnswerKind}
use Rattle.cue_core.specs.declared.command.AnswerKind.TheVariants.{StandingBy, Complete, Cancelled, Abort}
use Rattle.cue_core.specs.declared.command.Command.{Command}
use Rattle.cue_core.specs.declared.command.Command.TheVariants.{Reply}
use Rattle.cue_core.specs.ByAnswer.{ReadyOnlyByAnswer}
use Rattle.cue_core.specs.Events.{is_ready_of}
use Rattle.cue_core.specs.Judge.{Judgement, judgement_of, on_answer_at, on_answer_in, on_answer_to}
use Rattle.cue_core.specs.Judge.{on_release_at, on_release_in, on_release_of}
use Rattle.cue_core.specs.State.{ShowState}
use Rattle.cue_core.proofs.lists.ConditionLemmas.{both, same_number}
use Rattle.cue_core.proofs.live.FindingLemmas.{found_passes}
use Rattle.cue_core.proofs.verdicts.CellLemmas.{device_found}

-- where Ready of the device e in q is among what is made, the command is that standing_by
record Only (q e : ℕ) (c : Command) (j : Judgement) : Type 0 where
  pub only : list_any (is_ready_of q e) j.1 ≡ true → c ≡ Reply StandingBy e q

none : {q e : ℕ} {c : Command} {j : Judgement} → list_any (is_ready_of q e) j.1 ≡ false → Only q e c j
none h = record { only = λ k. absurd (true≢false (sym k ∙ h)) }

if-only : {q e : ℕ} {c : Command} (b : Bool) (x y : Judgement) → Only q e c x → Only q e c y
    → Only q e c (if b then x else y)
if-only true x y h k = h
if-only false x y h k = k

or-only : {A : Type 0} {q e : ℕ} {c : Command} (f : A → Judgement) (o : Option A) (d : Judgement)
    → ((x : A) → o ≡ Some x → Only q e c (f x)) → Only q e c d → Only q e c (option_map_or f o d)
or-only f None d h k = k
or-only f (Some x) d h k = h x refl

-- ---- the tables

-- one event, Ready of the device d in n
own : (q e n d : ℕ) → ((nat_eq n q && nat_eq d e) || false) ≡ true → Reply StandingBy d n ≡ Reply StandingBy e q
own q e n d h = at (nat_eq n q && nat_eq d e) refl h
  where
    at : (b : Bool) → (nat_eq n q && nat_eq d e) ≡ b → (b || false) ≡ true
        → Reply StandingBy d n ≡ Reply StandingBy e q
    at true is k = let w = both (nat_eq n q) (nat_eq d e) is in
        ap (λ (m : ℕ). Reply StandingBy m n) (same_number d e w.1) ∙ ap (Reply StandingBy e) (same_number n q w.0)
    at false is k = absurd (true≢false (sym k))

answer_at-only : (q e : ℕ) (kind : AnswerKind) (n : ℕ) (x : DeviceAnswer) (z : Situation)
    → Only q e (Reply kind x.device n) (on_answer_at kind n x z)
answer_at-only q e StandingBy n x situation.AskedToStandBy = record { only = own q e n x.device }
answer_at-only q e StandingBy n x _ = none refl
answer_at-only q e Complete n x situation.AskedToGo = none refl
answer_at-only q e Complete n x _ = none refl
answer_at-only q e Cancelled n x situation.AskedToLetGo = none refl
answer_at-only q e Cancelled n x _ = none refl
answer_at-only q e Abort n x situation.AskedToStandBy = search (if-only, none)
answer_at-only q e Abort n x situation.StandsBy = search (if-only, none)
answer_at-only q e Abort n x situation.AskedToLetGo = search (if-only, none)
answer_at-only q e Abort n x _ = none refl

cell-only : (q e : ℕ) (kind : AnswerKind) (n : ℕ) (x : DeviceAnswer) (g : Stage) (w : Answer)
    → Only q e (Reply kind x.device n) (on_answer_in kind n x g w)
cell-only q e kind n x g w = or-only (on_answer_at kind n x) (situation_of g w) _
    (λ z is. answer_at-only q e kind n x z) (none refl)

release_at-only : (q e : ℕ) (c : Command) (n : ℕ) (x : DeviceAnswer) (z : Situation)
    → Only q e c (on_release_at n x z)
release_at-only q e c n x situation.AskedToStandBy = search (if-only, none)
release_at-only q e c n x situation.StandsBy = search (if-only, none)
release_at-only q e c n x _ = none refl

release_in-only : (q e : ℕ) (c : Command) (n : ℕ) (x : DeviceAnswer) (g : Stage) (w : Answer)
    → Only q e c (on_release_in n x g w)
release_in-only q e c n x g w = or-only (on_release_at n x) (situation_of g w) _
    (λ z is. release_at-only q e c n x z) (none refl)

-- ---- commands

release-only : (q e : ℕ) (c : Command) (d : ℕ) (a : Attempt) → Only q e c (on_release_of d a)
release-only q e c d a = or-only (λ x. on_release_in a.seq x a.stage x.answer) (device_answer a.answers d) _
    (λ x is. release_in-only q e c a.seq x a.stage x.answer) (none refl)

answer-only : (q e : ℕ) (kind : AnswerKind) (d : ℕ) (a : Attempt)
    → Only q e (Reply kind d a.seq) (on_answer_to kind d a)
answer-only q e kind d a = or-only (λ x. on_answer_in kind a.seq x a.stage x.answer) (device_answer a.answers d) _
    (λ x is. subst (λ (n : ℕ). Only q e (Reply kind n a.seq) (on_answer_in kind a.seq x a.stage x.answer))
    (device_found d a.answers x is) (cell-only q e kind a.seq x a.stage x.answer)) (none refl)

live-only : (q e : ℕ) (s : ShowState) (kind : AnswerKind) (d p : ℕ) (a : Attempt) → attempt_of s.live p ≡ Some a
    → Only q e (Reply kind d p) (on_answer_to kind d a)
live-only q e s kind d p a is = subst (λ (n : ℕ). Only q e (Reply kind d n) (on_answer_to kind d a))
    (same_number a.seq p (found_passes (has_number p) s.live a is)) (answer-only q e kind d a)

judged-only : (q e : ℕ) (s : ShowState) (now from : ℕ) (c : Command) → Only q e c (judgement_of s now from c)
judged-only q e s now from (Reply kind d p) = search (if-only, or-only, none, live-only q e s kind d p) depth 12
judged-only q e s now from _ = search (if-only, or-only, none, release-only) depth 12

pub ready_only_by_answer : ReadyOnlyByAnswer
ready_only_by_answer s now from c q e = (judged-only q e s now from c).only
