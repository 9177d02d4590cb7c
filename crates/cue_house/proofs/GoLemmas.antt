-- Only a go gives an attempt: that of its cue, while it is ready.
use Rattle.std.proofs.Common.{◌≡◌, ℕ, Bool, true, false, not, ◌||◌, List, [], ◌∷◌, ◌++◌, Option, None, Some}
use Rattle.std.proofs.Common.{if◌then◌else◌, nat_eq, refl, sym, ap, ◌∙◌, subst, true≢false, append_assoc, inl, inr}
use Rattle.std.specs.List.{list_any}
use Rattle.std.specs.Option.{option_map_or}
use Rattle.cue_show.specs.Show.{has_cue}
use Rattle.cue_exchange.specs.declared.attempt.Attempt.{Attempt}
use Rattle.cue_exchange.specs.declared.attempt.DeviceAnswer.{DeviceAnswer}
use Rattle.cue_exchange.specs.declared.situation.Situation.{Situation}
use Rattle.cue_exchange.specs.declared.situation.Situation.TheVariants as situation
use Rattle.cue_exchange.specs.Answers.{device_answer, is_decided, situation_of}
use Rattle.cue_exchange.specs.Live.{attempt_of_cue}
use Rattle.cue_exchange.specs.Steps.{can_go_now}
use Rattle.cue_core.specs.declared.command.AnswerKind.{AnswerKind}
use Rattle.cue_core.specs.declared.command.AnswerKind.TheVariants.{StandingBy, Complete, Cancelled, Abort}
use Rattle.cue_core.specs.declared.command.Code.TheVariants as code
use Rattle.cue_core.specs.declared.command.Command.{Command}
use Rattle.cue_core.specs.declared.command.Command.TheVariants as command
use Rattle.cue_core.specs.declared.event.Event.{Event}
use Rattle.cue_core.specs.declared.event.Event.TheVariants as event
use Rattle.cue_core.specs.Events.{is_go_of}
use Rattle.cue_core.specs.InTurn.{steps, events_of}
use Rattle.cue_core.specs.Judge.{Judgement, judgement_of, known_already, made_by, refused_with}
use Rattle.cue_core.specs.Judge.{on_answer_at, on_answer_in, on_answer_to, on_go, on_go_of}
use Rattle.cue_core.specs.Judge.{on_release_at, on_release_in, on_release_of}
use Rattle.cue_core.specs.State.{ShowState}
use Rattle.cue_core.specs.Steps.{after_events}
use Rattle.cue_core.proofs.lists.AnyLemmas.{any-append}
use Rattle.cue_core.proofs.lists.ConditionLemmas.{same_number}
use Rattle.cue_core.proofs.rules.ApplyLemmas.{after_events-append}
use Rattle.cue_stage.proofs.ReadyLemmas.{Among}
use Rattle.cue_house.specs.Asking.{IsGivenAsAsked, IsReady}

-- ---- what no other command makes

-- q is not given
record Quiet (q : ℕ) (j : Judgement) : Type 0 where
  pub none : list_any (is_go_of q) j.1 ≡ false

none : {q : ℕ} {j : Judgement} → list_any (is_go_of q) j.1 ≡ false → Quiet q j
none h = record { none = h }

if-quiet : {q : ℕ} (b : Bool) (x y : Judgement) → Quiet q x → Quiet q y → Quiet q (if b then x else y)
if-quiet true x y h k = h
if-quiet false x y h k = k

or-quiet : {A : Type 0} {q : ℕ} (f : A → Judgement) (o : Option A) (d : Judgement) → ((x : A) → Quiet q (f x))
    → Quiet q d → Quiet q (option_map_or f o d)
or-quiet f None d h k = k
or-quiet f (Some x) d h k = h x

answer_at-quiet : (q : ℕ) (kind : AnswerKind) (n : ℕ) (x : DeviceAnswer) (z : Situation)
    → Quiet q (on_answer_at kind n x z)
answer_at-quiet q StandingBy n x situation.AskedToStandBy = none refl
answer_at-quiet q StandingBy n x _ = none refl
answer_at-quiet q Complete n x situation.AskedToGo = none refl
answer_at-quiet q Complete n x _ = none refl
answer_at-quiet q Cancelled n x situation.AskedToLetGo = none refl
answer_at-quiet q Cancelled n x _ = none refl
answer_at-quiet q Abort n x situation.AskedToStandBy = search (if-quiet, none)
answer_at-quiet q Abort n x situation.StandsBy = search (if-quiet, none)
answer_at-quiet q Abort n x situation.AskedToLetGo = search (if-quiet, none)
answer_at-quiet q Abort n x _ = none refl

release_at-quiet : (q n : ℕ) (x : DeviceAnswer) (z : Situation) → Quiet q (on_release_at n x z)
release_at-quiet q n x situation.AskedToStandBy = search (if-quiet, none)
release_at-quiet q n x situation.StandsBy = search (if-quiet, none)
release_at-quiet q n x _ = none refl

answer-quiet : (q : ℕ) (kind : AnswerKind) (d : ℕ) (a : Attempt) → Quiet q (on_answer_to kind d a)
answer-quiet q kind d a = or-quiet (λ x. on_answer_in kind a.seq x a.stage x.answer) (device_answer a.answers d) _
    (λ x. or-quiet (on_answer_at kind a.seq x) (situation_of a.stage x.answer) _
    (λ z. answer_at-quiet q kind a.seq x z) (none refl)) (none refl)

release-quiet : (q d : ℕ) (a : Attempt) → Quiet q (on_release_of d a)
release-quiet q d a = or-quiet (λ x. on_release_in a.seq x a.stage x.answer) (device_answer a.answers d) _
    (λ x. or-quiet (on_release_at a.seq x) (situation_of a.stage x.answer) _
    (λ z. release_at-quiet q a.seq x z) (none refl)) (none refl)

-- ---- what a go makes

-- the command is a go of a cue, its attempt is ready, and this is given
record IsMade (q : ℕ) (s : ShowState) (c : Command) (es : List Event) : Type 0 where
  pub cue : List ℕ
  pub is : c ≡ command.Go cue
  pub made : es ≡ event.Go q ∷ []
  pub ready : IsReady s q cue

own : (n q : ℕ) → (nat_eq n q || false) ≡ true → n ≡ q
own n q h = at (nat_eq n q) refl h
  where
    at : (b : Bool) → nat_eq n q ≡ b → (b || false) ≡ true → n ≡ q
    at true e k = same_number n q e
    at false e k = absurd (true≢false (sym k))

attempt_made : (q : ℕ) (s : ShowState) (c : List ℕ) (a : Attempt) → attempt_of_cue s.live c ≡ Some a
    → list_any (is_go_of q) (on_go_of a).1 ≡ true → IsMade q s (command.Go c) (on_go_of a).1
attempt_made q s c a found h = at (is_decided a.stage) (can_go_now a) refl h
  where
    at : (b g : Bool) → can_go_now a ≡ g
        → list_any (is_go_of q) (if b then known_already else if g then made_by (event.Go a.seq ∷ []) else
        refused_with code.NotReady).1 ≡ true
        → IsMade q s (command.Go c) (if b then known_already else if g then made_by (event.Go a.seq ∷ []) else
        refused_with code.NotReady).1
    at true g r k = absurd (true≢false (sym k))
    at false false r k = absurd (true≢false (sym k))
    at false true r k =
        let same : a.seq ≡ q = own a.seq q k in
        record {
          cue = c;
          is = refl;
          made = ap (λ (n : ℕ). event.Go n ∷ []) same;
          ready = record { attempt = a; found = found; number = same; ready = r };
        }

go_made : (q : ℕ) (s : ShowState) (c : List ℕ) → list_any (is_go_of q) (on_go s c).1 ≡ true
    → IsMade q s (command.Go c) (on_go s c).1
go_made q s c h = by (has_cue s.show c) (attempt_of_cue s.live c) refl h
  where
    by : (b : Bool) (o : Option Attempt) → attempt_of_cue s.live c ≡ o
        → list_any (is_go_of q) (if not b then refused_with code.NoMethod else option_map_or on_go_of o
        (refused_with code.NotLive)).1 ≡ true
        → IsMade q s (command.Go c) (if not b then refused_with code.NoMethod else option_map_or on_go_of o
        (refused_with code.NotLive)).1
    by false o e k = absurd (true≢false (sym k))
    by true None e k = absurd (true≢false (sym k))
    by true (Some a) e k = attempt_made q s c a e k

-- ---- commands

none_made : (q : ℕ) (s : ShowState) (c : Command) (j : Judgement) → Quiet q j → list_any (is_go_of q) j.1 ≡ true
    → IsMade q s c j.1
none_made q s c j quiet h = absurd (true≢false (sym h ∙ quiet.none))

judged-quiet : (q : ℕ) (s : ShowState) (now from : ℕ) (kind : AnswerKind) (d p : ℕ)
    → Quiet q (judgement_of s now from (command.Reply kind d p))
judged-quiet q s now from kind d p = search (if-quiet, or-quiet, none, answer-quiet) depth 12

made_by_go : (q : ℕ) (s : ShowState) (now from : ℕ) (c : Command)
    → list_any (is_go_of q) (judgement_of s now from c).1 ≡ true → IsMade q s c (judgement_of s now from c).1
made_by_go q s now from (command.Go c) h = go_made q s c h
made_by_go q s now from (command.Reply kind d p) h =
    none_made q s (command.Reply kind d p) (judgement_of s now from (command.Reply kind d p))
    (judged-quiet q s now from kind d p) h
made_by_go q s now from c h =
    none_made q s c (judgement_of s now from c) (search (if-quiet, or-quiet, none, release-quiet) depth 12) h

-- ---- one list of events behind another

pub weaker : {P R : List ℕ → Type 0} (s : ShowState) (es : List Event) (q : ℕ) → ((c : List ℕ) → P c → R c)
    → IsGivenAsAsked s es q P → IsGivenAsAsked s es q R
weaker s es q f g = record {
  cue = g.cue;
  asked = f g.cue g.asked;
  before = g.before;
  later = g.later;
  split = g.split;
  ready = g.ready;
}

in_front : {P : List ℕ → Type 0} (s : ShowState) (xs ys : List Event) (q : ℕ) → IsGivenAsAsked s xs q P
    → IsGivenAsAsked s (xs ++ ys) q P
in_front s xs ys q g = record {
  cue = g.cue;
  asked = g.asked;
  before = g.before;
  later = g.later ++ ys;
  split = ap (λ (es : List Event). es ++ ys) g.split ∙ append_assoc g.before (event.Go q ∷ g.later) ys;
  ready = g.ready;
}

behind : {P : List ℕ → Type 0} (s : ShowState) (xs ys : List Event) (q : ℕ)
    → IsGivenAsAsked (after_events s xs) ys q P
    → IsGivenAsAsked s (xs ++ ys) q P
behind s xs ys q g = record {
  cue = g.cue;
  asked = g.asked;
  before = xs ++ g.before;
  later = g.later;
  split = ap (λ (es : List Event). xs ++ es) g.split ∙ sym (append_assoc xs g.before (event.Go q ∷ g.later));
  ready = subst (λ (t : ShowState). IsReady t q g.cue) (sym (after_events-append s xs g.before)) g.ready;
}

-- what is given among the ones or among the others
pub one_or_other : {P Q R : List ℕ → Type 0} (s : ShowState) (xs ys : List Event) (q : ℕ)
    → (list_any (is_go_of q) xs ≡ true → IsGivenAsAsked s xs q P)
    → (list_any (is_go_of q) ys ≡ true → IsGivenAsAsked (after_events s xs) ys q Q) → ((c : List ℕ) → P c → R c)
    → ((c : List ℕ) → Q c → R c) → list_any (is_go_of q) (xs ++ ys) ≡ true → IsGivenAsAsked s (xs ++ ys) q R
one_or_other {R = R} s xs ys q first later f g h =
    by (list_any (is_go_of q) xs) refl (sym (any-append (is_go_of q) xs ys) ∙ h)
  where
    by : (b : Bool) → list_any (is_go_of q) xs ≡ b → (b || list_any (is_go_of q) ys) ≡ true
        → IsGivenAsAsked s (xs ++ ys) q R
    by true is k = in_front s xs ys q (weaker s xs q f (first is))
    by false is k = behind s xs ys q (weaker (after_events s xs) ys q g (later k))

-- ---- commands in turn

one_command : (q : ℕ) (s : ShowState) (c : Command) (es : List Event) → IsMade q s c es
    → IsGivenAsAsked s es q (λ x. c ≡ command.Go x)
one_command q s c es m =
    record { cue = m.cue; asked = m.is; before = []; later = []; split = m.made; ready = m.ready }

pub steps_give : (q : ℕ) (s : ShowState) (now from : ℕ) (asked : List Command)
    → list_any (is_go_of q) (events_of (steps s now from asked)) ≡ true
    → IsGivenAsAsked s (events_of (steps s now from asked)) q (λ x. Among (command.Go x) asked)
steps_give q s now from [] h = absurd (true≢false (sym h))
steps_give q s now from (c ∷ others) h =
    let first : List Event = (judgement_of s now from c).1 in
    one_or_other s first (events_of (steps (after_events s first) now from others)) q
    (λ k. one_command q s c first (made_by_go q s now from c k))
    (λ k. steps_give q (after_events s first) now from others k) (λ x e. inl e) (λ x m. inr m) h
