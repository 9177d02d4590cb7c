-- What no life of a question does.
use Rattle.std.proofs.Common.{◌≡◌, ℕ, ◌<◌, ◌==◌, ◌&&◌, ◌⊎◌, Bool, true, false, cond, List, [], ◌∷◌, Option, Some, None}
use Rattle.std.proofs.Common.{refl, sym, ap, ◌∙◌, subst, inl, inr}
use Rattle.std.specs.Prelude.{nat_le}
use Rattle.std.proofs.lemmas.Bool.{and_parts, eqb-true, leb-false, leb-true}
use Rattle.std.proofs.lemmas.Option.{none-some, same_Some}
use Rattle.cue_machine.specs.declared.address.Address.{Address}
use Rattle.cue_machine.specs.declared.ears.Input.{Input}
use Rattle.cue_machine.specs.declared.ears.Input.TheVariants as input
use Rattle.cue_machine.specs.Hearing.{Heard, heard_as}
use Rattle.cue_machine.specs.Living.{Turn}
use Rattle.cue_desk.specs.declared.replying.Replied.{Replied}
use Rattle.cue_ask_machine.specs.declared.machine.AskMachine.{AskMachine}
use Rattle.cue_ask_machine.specs.declared.question.Question.{Question}
use Rattle.cue_ask_machine.specs.declared.stage.AskEnd.{AskEnd}
use Rattle.cue_ask_machine.specs.declared.stage.AskEnd.TheVariants as end
use Rattle.cue_ask_machine.specs.declared.stage.Stage.{Stage}
use Rattle.cue_ask_machine.specs.declared.stage.Stage.TheVariants as stage
use Rattle.cue_ask_machine.specs.Answers.{answer_in, answer_to, of_said}
use Rattle.cue_ask_machine.specs.Laws.{AllBefore, HadTurns, OnlyItsReplyIsTold, OverWithinASecond, SentOnce}
use Rattle.cue_ask_machine.specs.Laws.{WaitsASecond}
use Rattle.cue_ask_machine.specs.Letters.{IsLetterOf}
use Rattle.cue_ask_machine.specs.Lives.{AllUndecided, IsOf, IsTold, Says, Stands}
use Rattle.cue_ask_machine.specs.Stages.{end_of, second_after, silent_at}
use Rattle.cue_ask_machine.specs.Steps.{answer_at, decided_by, decides, ended_by, home, home_host, is_over, is_theirs}
use Rattle.cue_ask_machine.specs.Steps.{refused_by, wakes, with_stage}
use Rattle.cue_ask_machine.proofs.LifeLemmas.{Goes, at_stage, goes, sent}

goes_of : (q : Question) (m : AskMachine) (ts : List Turn) (m_then : AskMachine) → HadTurns q m ts m_then
    → Goes m ts m_then
goes_of q m ts m_then h = goes m ts m_then h.new h.turns

pub sent-once : SentOnce
sent-once q m ts m_then h = sent m ts m_then (goes_of q m ts m_then h)

-- ---- what decides

-- an answer to the letter of a question is one to the question
answers_to : (q : Question) (m : AskMachine) (bytes : List ℕ) → IsOf q m
    → answer_in m.letter bytes ≡ answer_to q.order q.others.now bytes
answers_to q m bytes of = rw (of.letter.status, of.letter.count, of.letter.shows) refl

datagram_from : (port at : ℕ) (from : Address) → is_theirs port at from ≡ true
    → input.Datagram at from ≡ input.Datagram 0 (home port)
datagram_from port at from e =
    let parts = and_parts (at == 0) ((from.host == home_host) && (from.port == port)) e in
    let address = and_parts (from.host == home_host) (from.port == port) parts.1 in
    let zero : at ≡ 0 = eqb-true at 0 parts.0 in
    let host : from.host ≡ home_host = eqb-true from.host home_host address.0 in
    let same : from.port ≡ port = eqb-true from.port port address.1 in
    ap (λ (n : ℕ). input.Datagram n from) zero
    ∙ (ap (λ (n : ℕ). input.Datagram 0 (record { host = n; port = from.port })) host
    ∙ ap (λ (n : ℕ). input.Datagram 0 (record { host = home_host; port = n })) same)

replied_when : (q : Question) (m : AskMachine) (of : IsOf q m) (since now at : ℕ) (from : Address) (bytes : List ℕ)
    (r : Replied) (b : Bool) → is_theirs m.port at from ≡ b → cond b (answer_in m.letter bytes) None ≡ Some r
    → Says q since (end.Replied r) (heard_as now (input.Datagram at from) bytes)
replied_when q m of since now at from bytes r false e f = absurd (none-some r f)
replied_when q m of since now at from bytes r true e f = (
  datagram_from m.port at from e ∙ ap (λ (n : ℕ). input.Datagram 0 (home n)) of.port,
  sym (answers_to q m bytes of) ∙ f,
)

silent_when : (q : Question) (since : ℕ) (h : Heard) (e : AskEnd) (b : Bool)
    → nat_le (second_after since) h.now ≡ b → cond b (Some end.Silent) None ≡ Some e → Says q since e h
silent_when q since h e true le f =
    subst (λ (x : AskEnd). Says q since x h) (same_Some end.Silent e f) (leb-true (second_after since) h.now le)
silent_when q since h e false le f = absurd (none-some e f)

silent_says : (q : Question) (since : ℕ) (h : Heard) (e : AskEnd) → silent_at since h.now ≡ Some e → Says q since e h
silent_says q since h e f = silent_when q since h e (nat_le (second_after since) h.now) refl f

datagram_says : (q : Question) (m : AskMachine) (of : IsOf q m) (since now at : ℕ) (from : Address) (bytes : List ℕ)
    (e : AskEnd) (o : Option Replied) → answer_at m at from bytes ≡ o → ended_by since now o ≡ Some e
    → Says q since e (heard_as now (input.Datagram at from) bytes)
datagram_says q m of since now at from bytes e None f g =
    silent_says q since (heard_as now (input.Datagram at from) bytes) e g
datagram_says q m of since now at from bytes e (Some r) f g =
    subst (λ (x : AskEnd). Says q since x (heard_as now (input.Datagram at from) bytes))
    (same_Some (end.Replied r) e g)
    (replied_when q m of since now at from bytes r (is_theirs m.port at from) refl f)

refused_says : (q : Question) (since now at : ℕ) (bytes : List ℕ) (e : AskEnd) (b : Bool) → (at == 0) ≡ b
    → cond b (Some end.Nobody) (silent_at since now) ≡ Some e → Says q since e (heard_as now (input.Refused at) bytes)
refused_says q since now at bytes e true z f =
    subst (λ (x : AskEnd). Says q since x (heard_as now (input.Refused at) bytes)) (same_Some end.Nobody e f)
    (ap (λ (n : ℕ). input.Refused n) (eqb-true at 0 z))
refused_says q since now at bytes e false z f = silent_says q since (heard_as now (input.Refused at) bytes) e f

says_by : (q : Question) (m : AskMachine) (of : IsOf q m) (since now : ℕ) (i : Input) (bytes : List ℕ) (e : AskEnd)
    → decided_by m since now i bytes ≡ Some e → Says q since e (heard_as now i bytes)
says_by q m of since now (input.Datagram at from) bytes e f =
    datagram_says q m of since now at from bytes e (answer_at m at from bytes) refl f
says_by q m of since now (input.Refused at) bytes e f = refused_says q since now at bytes e (at == 0) refl f
says_by q m of since now input.Wake bytes e f = silent_says q since (heard_as now input.Wake bytes) e f

told_of : (q : Question) (m : AskMachine) (ts : List Turn) (e : AskEnd) → IsOf q m
    → Stands m ts (stage.Over e) → IsTold q m ts (Some e)
told_of q m ts e of (inl d) = inl (record {
  decided = d;
  says = says_by q m of d.since d.last.heard.now d.last.heard.input d.last.heard.bytes e d.decided;
})
told_of q m ts e of (inr lost) = inr lost

-- at whatever stage it is
pub told_at : (q : Question) (m : AskMachine) (ts : List Turn) (s : Stage) → IsOf q m → Stands m ts s
    → IsTold q m ts (end_of s)
told_at q m ts stage.Names of h = tt
told_at q m ts (stage.Asks again) of h = tt
told_at q m ts (stage.Waits since again) of h = tt
told_at q m ts (stage.Over e) of h = told_of q m ts e of h

pub only-its-reply-is-told : OnlyItsReplyIsTold
only-its-reply-is-told q m ts m_then e h over =
    let g = goes_of q m ts m_then h in
    let at : g.at ≡ stage.Over e = sym (at_stage m ts m_then g) ∙ over in
    told_of q m ts e h.of (subst (Stands m ts) at g.stands)

-- ---- time

early_when : (since now : ℕ) (b : Bool) → nat_le (second_after since) now ≡ b
    → cond {A = Option AskEnd} b (Some end.Silent) None ≡ None → now < second_after since
early_when since now true le f = absurd (none-some end.Silent (sym f))
early_when since now false le f = leb-false (second_after since) now le

early_silent : (since now : ℕ) → silent_at since now ≡ None → now < second_after since
early_silent since now f = early_when since now (nat_le (second_after since) now) refl f

early_datagram : (since now : ℕ) (o : Option Replied) → ended_by since now o ≡ None → now < second_after since
early_datagram since now None f = early_silent since now f
early_datagram since now (Some r) f = absurd (none-some (end.Replied r) (sym f))

early_refused : (since now : ℕ) (b : Bool) → cond b (Some end.Nobody) (silent_at since now) ≡ None
    → now < second_after since
early_refused since now true f = absurd (none-some end.Nobody (sym f))
early_refused since now false f = early_silent since now f

early_by : (m : AskMachine) (since now : ℕ) (i : Input) (bytes : List ℕ) → decided_by m since now i bytes ≡ None
    → now < second_after since
early_by m since now (input.Datagram at from) bytes f = early_datagram since now (answer_at m at from bytes) f
early_by m since now (input.Refused at) bytes f = early_refused since now (at == 0) f
early_by m since now input.Wake bytes f = early_silent since now f

early_all : (m : AskMachine) (since : ℕ) (ts : List Turn) → AllUndecided m since ts
    → AllBefore (second_after since) ts
early_all m since [] h = tt
early_all m since (t ∷ ts) h = (
  early_by m since t.heard.now t.heard.input t.heard.bytes h.0,
  early_all m since ts h.1,
)

over_by : (m : AskMachine) (ts : List Turn) (m_then : AskMachine) (s : Stage) → m_then ≡ with_stage m s → Stands m ts s
    → (is_over m_then ≡ true) ⊎ (wakes m_then ≡ Some 0) ⊎ WaitsASecond m ts m_then
over_by m ts m_then stage.Names same h = inr (inl (ap wakes same))
over_by m ts m_then (stage.Asks again) same h = inr (inl (ap wakes same))
over_by m ts m_then (stage.Waits since again) same h = inr (inr (record {
  since = since;
  waiting = h;
  early = early_all m since h.after h.undecided;
  wakes = ap wakes same;
}))
over_by m ts m_then (stage.Over e) same h = inl (ap is_over same)

pub over-within-a-second : OverWithinASecond
over-within-a-second q m ts m_then h =
    let g = goes_of q m ts m_then h in over_by m ts m_then g.at g.same g.stands
