-- How a load goes on, and how it begins.
use Rattle.std.proofs.Common.{◌≡◌, ℕ, Bool, true, false, cond, List, [], ◌∷◌, ◌++◌}
use Rattle.std.proofs.Common.{Option, Some, None, refl, ap, ◌∙◌, inl}
use Rattle.std.specs.Prelude.{slice_get}
use Rattle.cue_machine.specs.Living.{Turn, all_posted}
use Rattle.cue_machine.specs.Posting.{Posted}
use Rattle.cue_desk.specs.declared.replying.Replied.{Replied}
use Rattle.cue_load_machine.specs.declared.asks.Ask.{Ask}
use Rattle.cue_load_machine.specs.declared.asks.Form.{Form}
use Rattle.cue_load_machine.specs.declared.asks.Form.TheVariants as form
use Rattle.cue_load_machine.specs.declared.stage.Stage.{Stage}
use Rattle.cue_load_machine.specs.declared.stage.Stage.TheVariants as stage
use Rattle.cue_load_machine.specs.declared.stage.Try.{Try}
use Rattle.cue_load_machine.specs.declared.stage.Waits.{Waits}
use Rattle.cue_load_machine.specs.Lives.{AreSendings, AreSome, HasSent, NoneRefused, Sending}
use Rattle.cue_load_machine.specs.Lives.{answers_after, post, put}
use Rattle.cue_load_machine.specs.Lives.{told, turns_of, waits, waits_in}
use Rattle.cue_load_machine.specs.Stages.{again, first_slot, next_place, next_socket, sent}
use Rattle.cue_load_machine.specs.Steps.{State, answered, begins_with, given_up}
use Rattle.cue_load_machine.specs.Steps.{message_given, sent_at, try_given}
use Rattle.cue_load_machine.specs.Steps.{with_stage}
use Rattle.cue_load_machine.proofs.TurnLemmas.{StateTurn, message_lost, one_posted}
use Rattle.cue_load_machine.proofs.TurnLemmas.{state_losses}

-- ---- how it goes on

abbrev pub at_state : State → List (Option Replied) → Stage → State
at_state s answers at =
    record { port = s.port; manner = s.manner; copy = s.copy; asks = s.asks; answers = answers; at = at }

-- the last sending goes on
pub record Open (s : State) (ts : List Turn) (answers : List (Option Replied)) (w : Waits) : Type 0 where
  pub before : List Sending
  pub x : Sending
  pub all : ts ≡ turns_of before ++ x.left ∷ x.after
  pub there : slice_get s.asks x.of.place ≡ Some x.ask
  pub lost : Bool
  pub left : x.left.posted ≡ post (message_given s.port x.ask x.of.socket) lost ∷ []
  pub nothing : all_posted x.after ≡ []
  pub some : AreSome x.ask (told s x)
  pub none : NoneRefused x.of.socket x.after
  pub are : AreSendings s before (stage.Sends x.of)
  pub is : w ≡ waits_in s x
  pub kept : answers ≡ put (answers_after s before) (first_slot x.ask.form x.of.place) (told s x)

abbrev pub Going : State → List Turn → List (Option Replied) → Stage → Type 0
Going s ts answers stage.Copies = ⊥
Going s ts answers (stage.Sends of) =
    (a : Ask) × (slice_get s.asks of.place ≡ Some a) × HasSent s ts answers (stage.Sends of)
Going s ts answers (stage.Waits w) = Open s ts answers w
Going s ts answers (stage.Over e) = HasSent s ts answers (stage.Over e)

-- after these turns it is the same load, at a stage, and goes on so
pub record Goes (s : State) (ts : List Turn) (s_then : State) : Type 0 where
  pub answers : List (Option Replied)
  pub at : Stage
  pub same : s_then ≡ at_state s answers at
  pub going : Going s ts answers at

pub has_sent : (s : State) (ts : List Turn) (answers : List (Option Replied)) (at : Stage) → Going s ts answers at
    → HasSent s ts answers at
has_sent s ts answers stage.Copies h = absurd h
has_sent s ts answers (stage.Sends of) h = h.2
has_sent s ts answers (stage.Waits w) h = record {
  sendings = h.x ∷ h.before;
  all = h.all;
  are = (
    waits,
    record {
      there = h.there;
      lost = h.lost;
      left = h.left;
      nothing = h.nothing;
      ends = h.some;
      hears = h.none;
    },
    h.are,
    ap (λ (v : Waits). stage.Waits v) h.is,
  );
  told = h.kept;
}
has_sent s ts answers (stage.Over e) h = h

-- ---- what begins next

pub begins_going : (s : State) (ts : List Turn) (answers : List (Option Replied)) (o : Option Ask) (place socket : ℕ)
    → slice_get s.asks place ≡ o → HasSent s ts answers (begins_with o place socket)
    → Going s ts answers (begins_with o place socket)
begins_going s ts answers None place socket e h = h
begins_going s ts answers (Some a) place socket e h = (a, e, h)

pub answered_going : (s : State) (ts : List Turn) (answers : List (Option Replied)) (a : Ask) (of : Try)
    → HasSent s ts answers (answered s.asks a of) → Going s ts answers (answered s.asks a of)
answered_going s ts answers a of h = begins_going s ts answers (slice_get s.asks _) _ of.socket refl h

given_up_going : (s : State) (ts : List Turn) (answers : List (Option Replied)) (f : Form) (of : Try)
    → HasSent s ts answers (given_up s.asks f of) → Going s ts answers (given_up s.asks f of)
given_up_going s ts answers form.Alone of h = h
given_up_going s ts answers (form.Together count) of h =
    begins_going s ts answers (slice_get s.asks (next_place of.place 0)) (next_place of.place 0) (next_socket of.socket)
    refl h

pub silent_when : (s : State) (ts : List Turn) (answers : List (Option Replied)) (a : Ask) (of : Try)
    → slice_get s.asks of.place ≡ Some a → (b : Bool)
    → HasSent s ts answers (cond b (stage.Sends (again of)) (given_up s.asks a.form of))
    → Going s ts answers (cond b (stage.Sends (again of)) (given_up s.asks a.form of))
silent_when s ts answers a of there true h = (a, there, h)
silent_when s ts answers a of there false h = given_up_going s ts answers a.form of h

-- ---- a message leaves

pub from_sends : (s : State) (ts : List Turn) (answers : List (Option Replied)) (of : Try) (a : Ask)
    → slice_get s.asks of.place ≡ Some a → HasSent s ts answers (stage.Sends of) → (t : Turn) (s_then : State)
    → StateTurn (at_state s answers (stage.Sends of)) t s_then → Goes s (ts ++ t ∷ []) s_then
from_sends s ts answers of a there h t s_then turn =
    let state : State = at_state s answers (stage.Sends of) in
    let one = one_posted t.posted (message_given s.port a of.socket)
    (turn.gave ∙ ap (λ (o : Option Ask). try_given s.port o of) there) in
    let w : Waits = sent a.form of t.heard.now in
    record {
      answers = answers;
      at = stage.Waits w;
      same = turn.after
          ∙ (ap (λ (o : Option Ask). state_losses t.posted (with_stage state (sent_at o of t.heard.now))) there
          ∙ (ap (λ (ps : List Posted). state_losses ps (with_stage state (stage.Waits w))) one.1
          ∙ message_lost (with_stage state (stage.Waits w)) s.port a of.socket one.0));
      going = record {
        before = h.sendings;
        x = record { of = of; ask = a; left = t; after = [] };
        all = ap (λ (xs : List Turn). xs ++ t ∷ []) h.all;
        there = there;
        lost = one.0;
        left = one.1;
        nothing = refl;
        some = (tt, inl refl);
        none = tt;
        are = h.are;
        is = refl;
        kept = h.told;
      };
    }
