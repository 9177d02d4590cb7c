-- What is posted in a turn, and what a loss changes.
use Rattle.std.proofs.Common.{◌≡◌, ℕ, Bool, true, false, cond, List, [], ◌∷◌, ◌++◌, length, map}
use Rattle.std.proofs.Common.{refl, sym, ap, ◌∙◌, arith, append_assoc, append-nil}
use Rattle.std.specs.Prelude.{get_or}
use Rattle.cue_machine.specs.declared.post.Output.{Output}
use Rattle.cue_machine.specs.Living.{IsTurn, Turn, after_loss_of, after_losses, all_posted}
use Rattle.cue_machine.specs.Posting.{Given, Posted, given_of}
use Rattle.cue_load_machine.specs.declared.asks.Ask.{Ask}
use Rattle.cue_load_machine.specs.declared.machine.LoadMachine.{LoadMachine}
use Rattle.cue_load_machine.specs.Lives.{load_machine, post}
use Rattle.cue_load_machine.specs.Stages as stages
use Rattle.cue_load_machine.specs.Steps.{State, after_loss, gives, message_given, state_of, state_then, with_stage}

pub none_posted : (ps : List Posted) → map given_of ps ≡ [] → ps ≡ []
none_posted [] e = refl
none_posted (p ∷ ps) e = absurd (omega (arith, ap length e))

pub one_posted : (ps : List Posted) (g : Given) → map given_of ps ≡ g ∷ [] → (lost : Bool) × (ps ≡ post g lost ∷ [])
one_posted [] g e = absurd (omega (arith, ap length e))
one_posted (p ∷ []) g e =
    let first : p.given ≡ g = ap (λ (gs : List Given). get_or gs 0 g) e in
    (p.lost, ap (λ (x : Given). post x p.lost ∷ []) first)
one_posted (p ∷ q ∷ ps) g e = absurd (omega (arith, ap length e))

pub posted_last : (ts : List Turn) (t : Turn) → all_posted (ts ++ t ∷ []) ≡ all_posted ts ++ t.posted
posted_last [] t = append-nil t.posted
posted_last (s ∷ ts) t =
    ap (λ (ps : List Posted). s.posted ++ ps) (posted_last ts t) ∙ sym (append_assoc s.posted (all_posted ts) t.posted)

pub nothing_more : (ts : List Turn) (t : Turn) → all_posted ts ≡ [] → t.posted ≡ [] → all_posted (ts ++ t ∷ []) ≡ []
nothing_more ts t e f =
    posted_last ts t ∙ (ap (λ (ps : List Posted). ps ++ t.posted) e ∙ f)

-- a load once it was told of what was lost of these
abbrev pub state_losses : List Posted → State → State
state_losses [] s = s
state_losses (p ∷ ps) s =
    state_losses ps (cond p.lost (with_stage s (stages.lost s.manner s.at p.given.output)) s)

lost_either : (m : LoadMachine) (o : Output) (b : Bool)
    → state_of (cond b (after_loss m o) m)
    ≡ cond b (with_stage (state_of m) (stages.lost m.manner m.stage o)) (state_of m)
lost_either m o true = refl
lost_either m o false = refl

losses : (ps : List Posted) (m : LoadMachine)
    → state_of (after_losses after_loss ps m) ≡ state_losses ps (state_of m)
losses [] m = refl
losses (p ∷ ps) m =
    losses ps (after_loss_of after_loss p m)
    ∙ ap (λ (s : State). state_losses ps s) (lost_either m p.given.output p.lost)

-- A turn, as one of what is known of a load.
pub record StateTurn (s : State) (t : Turn) (s_then : State) : Type 0 where
  pub goes_on : stages.is_over s.at ≡ false
  pub gave : map given_of t.posted ≡ gives s
  pub after : s_then ≡ state_losses t.posted (state_then s t.heard)

pub state_turn : (m : LoadMachine) (t : Turn) (m_then : LoadMachine) → IsTurn load_machine m t m_then
    → StateTurn (state_of m) t (state_of m_then)
state_turn m t m_then h = record {
  goes_on = h.goes_on;
  gave = h.stepped.gave;
  after = ap (λ (x : LoadMachine). state_of x) h.after
      ∙ (losses t.posted h.mid ∙ ap (λ (s : State). state_losses t.posted s) h.stepped.left);
}

-- that a message was lost changes nothing
pub message_lost : (s : State) (port : ℕ) (a : Ask) (socket : ℕ) (lost : Bool)
    → state_losses (post (message_given port a socket) lost ∷ []) s ≡ s
message_lost s port a socket true = refl
message_lost s port a socket false = refl
