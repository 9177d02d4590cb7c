-- An input that gives an attempt is a datagram that asks for a go of its cue.
use Rattle.std.proofs.Common.{◌≡◌, ℕ, Bool, true, false, List, [], ◌∷◌, Result, Ok, Err, map, filter}
use Rattle.std.proofs.Common.{if◌then◌else◌, refl, sym, ap, ◌∙◌, subst, true≢false, arith}
use Rattle.std.specs.List.{Contains, list_any}
use Rattle.cue_exchange.specs.declared.attempt.Attempt.{Attempt}
use Rattle.cue_exchange.specs.declared.attempt.Reason.{Reason}
use Rattle.cue_exchange.specs.declared.attempt.Reason.TheVariants.{Deadline}
use Rattle.cue_exchange.specs.Live.{is_due}
use Rattle.cue_core.specs.declared.command.Code.{Code}
use Rattle.cue_core.specs.declared.command.Command.{Command}
use Rattle.cue_core.specs.declared.command.Command.TheVariants as command
use Rattle.cue_core.specs.declared.event.Event.{Event}
use Rattle.cue_core.specs.declared.event.Event.TheVariants as event
use Rattle.cue_core.specs.declared.refusal.Refusal.{Refusal}
use Rattle.cue_core.specs.declared.refusal.Refusal.TheVariants as refusal
use Rattle.cue_core.specs.Events.{is_go_of}
use Rattle.cue_core.specs.State.{ShowState}
use Rattle.cue_core.specs.Steps.{after_events}
use Rattle.cue_osc.specs.Content.{Content, message, discarded, bundle}
use Rattle.cue_operator.specs.Commands.{commands_of}
use Rattle.cue_engine.specs.Given.{datagram, tick, Given, given_of, given_by, given_heard, given_refused}
use Rattle.cue_engine.specs.Given.{are_too_many, messages_in}
use Rattle.cue_engine.specs.Heard.{Heard, carried_out, hear, heard_events, hear_all, all_events}
use Rattle.cue_engine.proofs.AskedLemmas.{further}
use Rattle.cue_engine.proofs.GivenLemmas.{given_by_test, in_full}
use Rattle.cue_stage.proofs.ReadyLemmas.{Among}
use Rattle.cue_house.specs.Asking.{AsksForGo, GoOnlyByCommand, IsGivenAsAsked, IsGo}
use Rattle.cue_house.proofs.GoLemmas.{one_or_other, steps_give, weaker}
use Rattle.cue_house.proofs.ReadGoLemmas.{read_among}

-- ---- one message

abbrev IsAmong : Result (List Command) Code → List ℕ → Type 0
IsAmong r cue = (asked : List Command) × (r ≡ Ok asked) × Among (command.Go cue) asked

carried : (q : ℕ) (s : ShowState) (now from : ℕ) (address : List ℕ) (r : Result (List Command) Code)
    → list_any (is_go_of q) (heard_events (carried_out s now from address r)) ≡ true
    → IsGivenAsAsked s (heard_events (carried_out s now from address r)) q (IsAmong r)
carried q s now from address (Err c) h = absurd (true≢false (sym h))
carried q s now from address (Ok asked) h =
    weaker s (heard_events (carried_out s now from address (Ok asked))) q (λ cue m. (asked, refl, m))
    (steps_give q s now from asked h)

heard_gives : (q : ℕ) (s : ShowState) (now from : ℕ) (m : Content)
    → list_any (is_go_of q) (heard_events (hear s now from m)) ≡ true
    → IsGivenAsAsked s (heard_events (hear s now from m)) q (IsGo m)
unfolding hear
heard_gives q s now from (message address xs) h =
    weaker s (heard_events (carried_out s now from address (commands_of s.show address xs))) q
    (λ cue k. read_among s.show address xs k.0 cue k.1 k.2)
    (carried q s now from address (commands_of s.show address xs) h)
heard_gives q s now from (discarded address) h = absurd (true≢false (sym h))
heard_gives q s now from (bundle tag cs) h = absurd (true≢false (sym h))

-- ---- one input

-- one of the messages is a go of the cue
record IsSaid (ms : List Content) (cue : List ℕ) : Type 0 where
  pub content : Content
  pub there : Contains ms content
  pub says : IsGo content cue

all_give : (q : ℕ) (s : ShowState) (now from : ℕ) (ms : List Content)
    → list_any (is_go_of q) (all_events (hear_all s now from ms)) ≡ true
    → IsGivenAsAsked s (all_events (hear_all s now from ms)) q (IsSaid ms)
all_give q s now from [] h = absurd (true≢false (sym h))
all_give q s now from (m ∷ ms) h =
    let first : List Event = heard_events (hear s now from m) in
    one_or_other s first (all_events (hear_all (after_events s first) now from ms)) q
    (λ k. heard_gives q s now from m k) (λ k. all_give q (after_events s first) now from ms k)
    (λ cue says. record { content = m; there = (0, omega arith, refl); says = says })
    (λ cue said. record { content = said.content; there = further m said.content ms said.there; says = said.says }) h

full_or_none : {P : List ℕ → Type 0} (q : ℕ) (s : ShowState) (from : ℕ) (hs : List Heard)
    → (list_any (is_go_of q) (all_events hs) ≡ true → IsGivenAsAsked s (all_events hs) q P)
    → list_any (is_go_of q) (given_heard s from hs).batch ≡ true → IsGivenAsAsked s (given_heard s from hs).batch q P
full_or_none {P = P} q s from hs f h =
    by (are_too_many hs) (ap (λ (g : Given). g.batch) (given_by_test s from hs (are_too_many hs) refl))
  where
    by : (b : Bool)
        → (given_heard s from hs).batch ≡ (if b then given_refused from refusal.TooMany else in_full s from hs).batch
        → IsGivenAsAsked s (given_heard s from hs).batch q P
    by true e = absurd (true≢false (sym (ap (list_any (is_go_of q)) (sym e) ∙ h)))
    by false e = subst (λ (es : List Event). IsGivenAsAsked s es q P) (sym e)
        (f (ap (list_any (is_go_of q)) (sym e) ∙ h))

pub none_cancelled : (q : ℕ) (r : Reason) (all : List Attempt)
    → list_any (is_go_of q) (map (λ (a : Attempt). event.Cancel a.seq r) all) ≡ true → ⊥
none_cancelled q r [] h = true≢false (sym h)
none_cancelled q r (a ∷ all) h = none_cancelled q r all h

by_messages : (q : ℕ) (s : ShowState) (now from : ℕ) (bytes : List ℕ) (r : Result (List Content) Refusal)
    → messages_in now bytes ≡ r → list_any (is_go_of q) (given_by s now from r).batch ≡ true
    → IsGivenAsAsked s (given_by s now from r).batch q (AsksForGo now (datagram from bytes))
by_messages q s now from bytes (Err why) is h = absurd (true≢false (sym h))
by_messages q s now from bytes (Ok ms) is h =
    weaker s (given_heard s from (hear_all s now from ms)).batch q
    (λ cue said. record { content = said.content; brings = (ms, is, said.there); asks = said.says })
    (full_or_none q s from (hear_all s now from ms) (λ k. all_give q s now from ms k) h)

pub go_only_by_command : GoOnlyByCommand
unfolding given_of
go_only_by_command s now (datagram from bytes) q h = by_messages q s now from bytes (messages_in now bytes) refl h
go_only_by_command s now tick q h = absurd (none_cancelled q Deadline (filter (is_due now) s.live) h)
