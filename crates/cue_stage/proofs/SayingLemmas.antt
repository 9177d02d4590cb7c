-- A Ready among the kept batches came of an input that says that the device stands by.
use Rattle.std.proofs.Common.{◌≡◌, ◌⊎◌, inl, inr, ℕ, Bool, true, false, ◌||◌, List, [], ◌∷◌, ◌++◌, Result, Ok}
use Rattle.std.proofs.Common.{Err, map, filter, if◌then◌else◌, refl, sym, ap, ◌∙◌, true≢false, arith, subst}
use Rattle.std.specs.List.{Contains, list_any}
use Rattle.cue_exchange.specs.declared.attempt.Attempt.{Attempt}
use Rattle.cue_exchange.specs.declared.attempt.Reason.{Reason}
use Rattle.cue_exchange.specs.declared.attempt.Reason.TheVariants.{Deadline, Power}
use Rattle.cue_exchange.specs.Live.{is_due}
use Rattle.cue_core.specs.declared.event.Event.{Event}
use Rattle.cue_core.specs.declared.event.Event.TheVariants as event
use Rattle.cue_core.specs.declared.command.Code.{Code}
use Rattle.cue_core.specs.declared.command.Command.{Command}
use Rattle.cue_core.specs.declared.command.Command.TheVariants as command
use Rattle.cue_core.specs.declared.command.AnswerKind.TheVariants as answer_kind
use Rattle.cue_core.specs.declared.refusal.Refusal.{Refusal}
use Rattle.cue_core.specs.declared.refusal.Refusal.TheVariants as refusal
use Rattle.cue_core.specs.Events.{is_ready_of}
use Rattle.cue_core.specs.State.{ShowState}
use Rattle.cue_core.specs.Steps.{after_events}
use Rattle.cue_core.specs.Happenings.{is_undecided}
use Rattle.cue_core.proofs.lists.AnyLemmas.{any-append}
use Rattle.cue_osc.specs.Content.{Content, message, discarded, bundle}
use Rattle.cue_operator.specs.Commands.{commands_of}
use Rattle.cue_engine.specs.Given.{Input, datagram, tick, Given, given_of, given_by, given_heard, given_refused}
use Rattle.cue_engine.specs.Given.{are_too_many, messages_in}
use Rattle.cue_engine.specs.Groups.{batches_given}
use Rattle.cue_engine.specs.Heard.{Heard, carried_out, hear, heard_events, hear_all, all_events}
use Rattle.cue_engine.specs.Headline.{AreKept}
use Rattle.cue_engine.proofs.IncidentLemmas.{events_of, folded_batches}
use Rattle.cue_engine.proofs.AskedLemmas.{further}
use Rattle.cue_engine.proofs.KeptLemmas.{joined_kept}
use Rattle.cue_engine.specs.Incidents.{Incident, formed, stopped_in_form, committed, handed_out, handed_some, stopped}
use Rattle.cue_engine.specs.Incidents.{stopped_in_commit, recovered, stopped_in_recovery, refused}
use Rattle.cue_engine.specs.Runs.{joined_list}
use Rattle.cue_engine.proofs.GivenLemmas.{given_by_test, in_full}
use Rattle.cue_stage.specs.Consent.{IsStandingBy, SaysStandingBy}
use Rattle.cue_stage.proofs.ReadyLemmas.{Among, ready_among}
use Rattle.cue_stage.proofs.AskingLemmas.{read_among}

-- ---- one message

carried : (q e : ℕ) (s : ShowState) (now from : ℕ) (address : List ℕ) (r : Result (List Command) Code)
    → list_any (is_ready_of q e) (heard_events (carried_out s now from address r)) ≡ true
    → (asked : List Command) × (r ≡ Ok asked) × Among (command.Reply answer_kind.StandingBy e q) asked
carried q e s now from address (Err c) h = absurd (true≢false (sym h))
carried q e s now from address (Ok asked) h = (asked, refl, ready_among q e s now from asked h)

heard_says : (q e : ℕ) (s : ShowState) (now from : ℕ) (m : Content)
    → list_any (is_ready_of q e) (heard_events (hear s now from m)) ≡ true → IsStandingBy m e q
unfolding hear
heard_says q e s now from (message address xs) h = let c =
    carried q e s now from address (commands_of s.show address xs) h in read_among s.show address xs c.0 e q c.1 c.2
heard_says q e s now from (discarded address) h = absurd (true≢false (sym h))
heard_says q e s now from (bundle tag cs) h = absurd (true≢false (sym h))

-- ---- one input

record IsSaid (ms : List Content) (q e : ℕ) : Type 0 where
  pub content : Content
  pub there : Contains ms content
  pub says : IsStandingBy content e q

said_later : (q e : ℕ) (m : Content) (ms : List Content) → IsSaid ms q e → IsSaid (m ∷ ms) q e
said_later q e m ms said =
    record { content = said.content; there = further m said.content ms said.there; says = said.says }

all_say : (q e : ℕ) (s : ShowState) (now from : ℕ) (ms : List Content)
    → list_any (is_ready_of q e) (all_events (hear_all s now from ms)) ≡ true → IsSaid ms q e
all_say q e s now from [] h = absurd (true≢false (sym h))
all_say q e s now from (m ∷ ms) h =
    by (list_any (is_ready_of q e) first) refl (λ k. all_say q e (after_events s first) now from ms k)
    (sym (any-append (is_ready_of q e) first rest) ∙ h)
  where
    first : List Event
    first = heard_events (hear s now from m)

    rest : List Event
    rest = all_events (hear_all (after_events s first) now from ms)

    by : (b : Bool) → list_any (is_ready_of q e) first ≡ b → (list_any (is_ready_of q e) rest ≡ true → IsSaid ms q e)
        → (b || list_any (is_ready_of q e) rest) ≡ true → IsSaid (m ∷ ms) q e
    by true is f k = record { content = m; there = (0, omega arith, refl); says = heard_says q e s now from m is }
    by false is f k = said_later q e m ms (f k)

full_or_none : (q e : ℕ) (s : ShowState) (from : ℕ) (hs : List Heard)
    → list_any (is_ready_of q e) (given_heard s from hs).batch ≡ true
    → list_any (is_ready_of q e) (all_events hs) ≡ true
full_or_none q e s from hs h =
    by (are_too_many hs) (ap (λ (g : Given). list_any (is_ready_of q e) g.batch)
    (sym (given_by_test s from hs (are_too_many hs) refl)) ∙ h)
  where
    by : (b : Bool) → list_any (is_ready_of q e)
        (if b then given_refused from refusal.TooMany else in_full s from hs).batch ≡ true
        → list_any (is_ready_of q e) (all_events hs) ≡ true
    by true k = absurd (true≢false (sym k))
    by false k = k

none_cancelled : (q e : ℕ) (r : Reason) (all : List Attempt)
    → list_any (is_ready_of q e) (map (λ (a : Attempt). event.Cancel a.seq r) all) ≡ true → ⊥
none_cancelled q e r [] h = true≢false (sym h)
none_cancelled q e r (a ∷ all) h = none_cancelled q e r all h

by_messages : (q e : ℕ) (s : ShowState) (now from : ℕ) (bytes : List ℕ) (r : Result (List Content) Refusal)
    → messages_in now bytes ≡ r → list_any (is_ready_of q e) (given_by s now from r).batch ≡ true
    → SaysStandingBy now (datagram from bytes) e q
by_messages q e s now from bytes (Err why) is h = absurd (true≢false (sym h))
by_messages q e s now from bytes (Ok ms) is h =
    let said : IsSaid ms q e = all_say q e s now from ms (full_or_none q e s from (hear_all s now from ms) h) in
    record { content = said.content; brings = (ms, is, said.there); says = said.says }

input_says : (q e : ℕ) (s : ShowState) (now : ℕ) (i : Input)
    → list_any (is_ready_of q e) (given_of s now i).batch ≡ true
    → SaysStandingBy now i e q
unfolding given_of
input_says q e s now (datagram from bytes) h = by_messages q e s now from bytes (messages_in now bytes) refl h
input_says q e s now tick h = absurd (none_cancelled q e Deadline (filter (is_due now) s.live) h)

-- ---- inputs that are taken together

-- one of the inputs says so
pub record IsSaidByOne (inputs : List (ℕ × Input)) (q e : ℕ) : Type 0 where
  pub input : ℕ × Input
  pub there : Contains inputs input
  pub says : SaysStandingBy input.0 input.1 e q

said_by_later : (q e : ℕ) (i : ℕ × Input) (is : List (ℕ × Input)) → IsSaidByOne is q e → IsSaidByOne (i ∷ is) q e
said_by_later q e i is said =
    record { input = said.input; there = further i said.input is said.there; says = said.says }

inputs_say : (q e : ℕ) (s : ShowState) (inputs : List (ℕ × Input))
    → list_any (is_ready_of q e) (joined_list (batches_given s inputs)) ≡ true → IsSaidByOne inputs q e
inputs_say q e s [] h = absurd (true≢false (sym h))
inputs_say q e s (i ∷ is) h =
    by (list_any (is_ready_of q e) first) refl (λ k. inputs_say q e (after_events s first) is k)
    (sym (any-append (is_ready_of q e) first rest) ∙ h)
  where
    first : List Event
    first = (given_of s i.0 i.1).batch

    rest : List Event
    rest = joined_list (batches_given (after_events s first) is)

    by : (b : Bool) → list_any (is_ready_of q e) first ≡ b
        → (list_any (is_ready_of q e) rest ≡ true → IsSaidByOne is q e) → (b || list_any (is_ready_of q e) rest) ≡ true
        → IsSaidByOne (i ∷ is) q e
    by true is_so f k = record { input = i; there = (0, omega arith, refl); says = input_says q e s i.0 i.1 is_so }
    by false is_so f k = said_by_later q e i is (f k)

-- ---- one incident

-- the incident brings an input that says so
abbrev pub SaysAt : ℕ → ℕ → Incident → Type 0
SaysAt q e (committed inputs) = IsSaidByOne inputs q e
SaysAt q e (stopped_in_commit inputs n one other) = IsSaidByOne inputs q e
SaysAt q e _ = ⊥

incident_says : (q e : ℕ) (s : ShowState) (i : Incident) → list_any (is_ready_of q e) (events_of s i) ≡ true
    → SaysAt q e i
incident_says q e s formed h = true≢false (sym h)
incident_says q e s (stopped_in_form one other) h = true≢false (sym h)
incident_says q e s (committed inputs) h = inputs_say q e s inputs h
incident_says q e s handed_out h = true≢false (sym h)
incident_says q e s (handed_some n) h = true≢false (sym h)
incident_says q e s (stopped n one other) h = true≢false (sym h)
incident_says q e s (stopped_in_commit inputs n one other) h = inputs_say q e s inputs h
incident_says q e s (recovered t) h = none_cancelled q e Power (filter is_undecided s.live) h
incident_says q e s (stopped_in_recovery one other) h = none_cancelled q e Power (filter is_undecided s.live) h
incident_says q e s (refused one other) h = true≢false (sym h)

-- one of the incidents does
abbrev pub SaidIn : ℕ → ℕ → List Incident → Type 0
SaidIn q e [] = ⊥
SaidIn q e (i ∷ is) = SaysAt q e i ⊎ SaidIn q e is

pub kept_says : (q e : ℕ) (s : ShowState) (is : List Incident) (kept : List (List Event)) → AreKept s is kept
    → list_any (is_ready_of q e) (joined_list kept) ≡ true → SaidIn q e is
kept_says q e s [] kept are h =
    absurd (true≢false (sym (ap (λ (bs : List (List Event)). list_any (is_ready_of q e) (joined_list bs)) (sym are)
    ∙ h)))
kept_says q e s (i ∷ is) kept (inr cut) h = inr (kept_says q e s is kept cut.1 h)
kept_says q e s (i ∷ is) kept (inl whole) h =
    by (list_any (is_ready_of q e) batch) refl (λ k. kept_says q e (after_events s batch) is whole.0 later k)
    (sym (any-append (is_ready_of q e) batch (joined_list whole.0)) ∙ (ap (list_any (is_ready_of q e)) same ∙ h))
  where
    batch : List Event
    batch = events_of s i

    same : batch ++ joined_list whole.0 ≡ joined_list kept
    same = joined_kept s i kept whole.0 whole.1.0

    later : AreKept (after_events s batch) is whole.0
    later = let P : ShowState → Type 0 = λ t. AreKept t is whole.0 in subst P (folded_batches s i) whole.1.1

    by : (b : Bool) → list_any (is_ready_of q e) batch ≡ b
        → (list_any (is_ready_of q e) (joined_list whole.0) ≡ true → SaidIn q e is)
        → (b || list_any (is_ready_of q e) (joined_list whole.0)) ≡ true → SaidIn q e (i ∷ is)
    by true is_so f k = inl (incident_says q e s i is_so)
    by false is_so f k = inr (f k)
