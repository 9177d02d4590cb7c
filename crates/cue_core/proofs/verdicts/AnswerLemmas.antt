-- An answer leaves all else as it was.
use Rattle.std.proofs.Common.{◌≡◌, ◌≢◌, ℕ, List, [], ◌∷◌, refl, sym, ◌∙◌, Bool, true, false, not, ◌&&◌, nat_eq, nat_lt}
use Rattle.std.proofs.Common.{Option, None, Some}
use Rattle.std.specs.Prelude.{IsTrue, if◌then◌else◌}
use Rattle.std.specs.List.{list_all}
use Rattle.std.specs.Option.{option_map_or}
use Rattle.cue_show.specs.Show.{has_device}
use Rattle.cue_exchange.specs.declared.attempt.Answer.{Answer}
use Rattle.cue_exchange.specs.declared.attempt.Reason.TheVariants.{Abort}
use Rattle.cue_exchange.specs.declared.attempt.Stage.{Stage}
use Rattle.cue_exchange.specs.declared.attempt.DeviceAnswer.{DeviceAnswer}
use Rattle.cue_exchange.specs.declared.attempt.Attempt.{Attempt}
use Rattle.cue_exchange.specs.declared.situation.Situation.{Situation}
use Rattle.cue_exchange.specs.declared.situation.Situation.TheVariants as situation
use Rattle.cue_exchange.specs.Answers.{situation_of, device_answer}
use Rattle.cue_exchange.specs.Live.{attempt_of, has_number}
use Rattle.cue_core.specs.declared.event.Event.{Event}
use Rattle.cue_core.specs.declared.event.Event.TheVariants as event
use Rattle.cue_core.specs.declared.command.Code.TheVariants as code
use Rattle.cue_core.specs.declared.command.AnswerKind.{AnswerKind}
use Rattle.cue_core.specs.declared.command.AnswerKind.TheVariants as answer_kind
use Rattle.cue_core.specs.State.{ShowState}
use Rattle.cue_core.specs.Steps.{after, after_events}
use Rattle.cue_core.specs.Judge.{made_by, refused_with, on_answer, on_answer_to, on_answer_in, on_answer_at}
use Rattle.cue_core.specs.Judge.{is_from_another}
use Rattle.cue_core.specs.Answers.{Said, LeavesOthers, AnswersLeaveOthers}
use Rattle.cue_core.proofs.lists.ConditionLemmas.{both, join, same_number, same_self}
use Rattle.cue_core.proofs.live.FindingLemmas.{found_passes}
use Rattle.cue_core.proofs.history.NumberLemmas.{attempt_of-after_other}

-- the event is one that an answer to q makes
abbrev of_reply : ℕ → Event → Bool
of_reply q (event.Ready p d) = nat_eq p q
of_reply q (event.Done p d) = nat_eq p q
of_reply q (event.Cancel p r) = nat_eq p q
of_reply q (event.LetGo p d) = nat_eq p q
of_reply q (event.Failed p d) = nat_eq p q
of_reply q (event.Excuse p d) = nat_eq p q
of_reply q _ = false

other_number : (n q p : ℕ) → IsTrue (nat_eq n q) → p ≢ q → nat_eq n p ≡ false
other_number n q p e other = at (nat_eq n p) refl
  where
    at : (b : Bool) → nat_eq n p ≡ b → b ≡ false
    at true k = absurd (other (sym (same_number n p k) ∙ same_number n q e))
    at false k = refl

leaves_one : (s : ShowState) (q : ℕ) (e : Event) → IsTrue (of_reply q e) → LeavesOthers q s (after s e)
leaves_one s q (event.Device d port) h = absurd (cc)
leaves_one s q (event.NoDevice d) h = absurd (cc)
leaves_one s q (event.Cue c parts) h = absurd (cc)
leaves_one s q (event.NoCue c) h = absurd (cc)
leaves_one s q (event.Place c) h = absurd (cc)
leaves_one s q (event.Start n c t) h = absurd (cc)
leaves_one s q (event.Ready n d) h =
    record {
      show = refl;
      last = refl;
      others =
          λ p k. attempt_of-after_other s p (event.Ready n d) (other_number n q p h k);
    }
leaves_one s q (event.Go n) h = absurd (cc)
leaves_one s q (event.Done n d) h =
    record {
      show = refl;
      last = refl;
      others =
          λ p k. attempt_of-after_other s p (event.Done n d) (other_number n q p h k);
    }
leaves_one s q (event.Cancel n r) h =
    record {
      show = refl;
      last = refl;
      others =
          λ p k. attempt_of-after_other s p (event.Cancel n r) (other_number n q p h k);
    }
leaves_one s q (event.LetGo n d) h =
    record {
      show = refl;
      last = refl;
      others =
          λ p k. attempt_of-after_other s p (event.LetGo n d) (other_number n q p h k);
    }
leaves_one s q (event.Failed n d) h =
    record {
      show = refl;
      last = refl;
      others =
          λ p k. attempt_of-after_other s p (event.Failed n d) (other_number n q p h k);
    }
leaves_one s q (event.Excuse n d) h =
    record {
      show = refl;
      last = refl;
      others =
          λ p k. attempt_of-after_other s p (event.Excuse n d) (other_number n q p h k);
    }

leaves_all : (q : ℕ) (es : List Event) (s : ShowState) → IsTrue (list_all (of_reply q) es)
    → LeavesOthers q s (after_events s es)
leaves_all q [] s h = record { show = refl; last = refl; others = λ p k. refl }
leaves_all q (e ∷ es) s h =
    let p = both (of_reply q e) (list_all (of_reply q) es) h in
    let first = leaves_one s q e p.0 in
    let rest = leaves_all q es (after s e) p.1 in
    record {
      show = rest.show ∙ first.show;
      last = rest.last ∙ first.last;
      others = λ n k. rest.others n k
          ∙ first.others n k;
    }

itself : (q : ℕ) → IsTrue (nat_eq q q && true)
itself q = join (nat_eq q q) true (same_self q) refl

itself_twice : (q : ℕ) → IsTrue (nat_eq q q && (nat_eq q q && true))
itself_twice q = join (nat_eq q q) (nat_eq q q && true) (same_self q) (itself q)

early_of : (q : ℕ) (d : DeviceAnswer) (b : Bool)
    → IsTrue (list_all (of_reply q)
    (if b then made_by (event.Excuse q d.device ∷ []) else made_by
    (event.Cancel q Abort ∷ event.Failed q d.device ∷ [])).1)
early_of q d true = itself q
early_of q d false = itself_twice q

late_of : (q : ℕ) (d : DeviceAnswer) (b : Bool)
    → IsTrue (list_all (of_reply q)
    (if b then made_by (event.LetGo q d.device ∷ []) else made_by (event.Failed q d.device ∷ [])).1)
late_of q d true = itself q
late_of q d false = itself q

-- each cell of the table makes events of the attempt alone
cell_at : (kind : AnswerKind) (q : ℕ) (d : DeviceAnswer) (z : Situation)
    → IsTrue (list_all (of_reply q) (on_answer_at kind q d z).1)
cell_at answer_kind.StandingBy q d situation.AskedToStandBy = itself q
cell_at answer_kind.StandingBy q d _ = refl
cell_at answer_kind.Complete q d situation.AskedToGo = itself q
cell_at answer_kind.Complete q d _ = refl
cell_at answer_kind.Cancelled q d situation.AskedToLetGo = itself q
cell_at answer_kind.Cancelled q d _ = refl
cell_at answer_kind.Abort q d situation.AskedToStandBy = early_of q d d.optional
cell_at answer_kind.Abort q d situation.StandsBy = early_of q d d.optional
cell_at answer_kind.Abort q d situation.AskedToGo = itself q
cell_at answer_kind.Abort q d situation.AskedToLetGo = late_of q d d.optional
cell_at answer_kind.Abort q d _ = refl

cell_of : (kind : AnswerKind) (q : ℕ) (d : DeviceAnswer) (stage : Stage) (x : Answer)
    → IsTrue (list_all (of_reply q) (on_answer_in kind q d stage x).1)
cell_of kind q d stage x = at (situation_of stage x)
  where
    at : (o : Option Situation)
        → IsTrue (list_all (of_reply q) (option_map_or (on_answer_at kind q d) o (refused_with code.Stale)).1)
    at None = refl
    at (Some z) = cell_at kind q d z

to_attempt : (kind : AnswerKind) (d q : ℕ) (a : Attempt) → a.seq ≡ q
    → IsTrue (list_all (of_reply q) (on_answer_to kind d a).1)
to_attempt kind d q a e = rw (← e) (at (device_answer a.answers d))
  where
    at : (o : Option DeviceAnswer)
        → IsTrue (list_all (of_reply a.seq)
        (option_map_or (λ x. on_answer_in kind a.seq x a.stage x.answer) o (refused_with code.NotPart)).1)
    at None = refl
    at (Some x) = cell_of kind a.seq x a.stage x.answer

of_attempt : (s : ShowState) (r : Said)
    → IsTrue (list_all (of_reply r.number) (on_answer s r.from r.kind r.device r.number).1)
of_attempt s r = at (has_device s.show r.device) (is_from_another s r.device r.from) (nat_lt s.last_seq r.number)
    (attempt_of s.live r.number) refl
  where
    at : (b p l : Bool) (o : Option Attempt) → attempt_of s.live r.number ≡ o
        → IsTrue (list_all (of_reply r.number)
        (if not b then refused_with code.NoMethod else if p then refused_with code.WrongPort else if l then refused_with
        code.Early
        else option_map_or (on_answer_to r.kind r.device) o (refused_with code.Stale)).1)
    at false p l o e = refl
    at true true l o e = refl
    at true false true o e = refl
    at true false false None e = refl
    at true false false (Some a) e =
        to_attempt r.kind r.device r.number a
        (same_number a.seq r.number (found_passes (has_number r.number) s.live a e))

pub answers-leave-others : AnswersLeaveOthers
answers-leave-others s r h = leaves_all r.number (on_answer s r.from r.kind r.device r.number).1 s (of_attempt s r)
