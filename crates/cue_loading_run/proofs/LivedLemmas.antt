-- The parts of a life are one life.
use Rattle.std.proofs.Common.{◌≡◌, ℕ, List, [], ◌∷◌, ◌++◌, Option, true, refl, subst, inl, inr}
use Rattle.std.specs.Prelude.{OnOk, Result, Ok, Err}
use Rattle.cue_machine.specs.declared.living.Ended.{Ended}
use Rattle.cue_machine.specs.declared.living.Why.{Why}
use Rattle.cue_machine.specs.declared.living.Why.TheVariants as why
use Rattle.cue_machine.specs.Hearing.{Told}
use Rattle.cue_machine.specs.Living.{AreTurns, EndedBy, Lived, Turn}
use Rattle.cue_machine.specs.Posting.{Posted}
use Rattle.cue_load_machine.specs.declared.machine.LoadMachine.{LoadMachine}
use Rattle.cue_load_machine.specs.Lives.{load_machine}
use Rattle.cue_load_machine.specs.Steps.{is_over}
use Rattle.cue_loading_run.specs.Lived.{WasCarriedOut}

-- some turns
abbrev pub Had : LoadMachine → LoadMachine → Type 0
Had m m_then = (ts : List Turn) × AreTurns load_machine m ts m_then

pub had_none : (m : LoadMachine) → Had m m
had_none m = ([], refl)

turns-append : (m mid m_then : LoadMachine) (ts us : List Turn) → AreTurns load_machine m ts mid
    → AreTurns load_machine mid us m_then → AreTurns load_machine m (ts ++ us) m_then
turns-append m mid m_then [] us same are = subst (λ x. AreTurns load_machine x us m_then) same are
turns-append m mid m_then (t ∷ ts) us (n, turn, more) are =
    (n, turn, turns-append n mid m_then ts us more are)

pub had_more : {n : ℕ} {ended : Ended} {a b : Option (List Told)} {c d : Option (List Posted)}
    → (m mid m_then : LoadMachine) → Had m mid → Lived load_machine n ended mid m_then a b c d → Had m m_then
had_more m mid m_then had lived =
    (had.0 ++ lived.lived.taken, turns-append m mid m_then had.0 lived.lived.taken had.1 lived.lived.turn_by_turn)

over_by : {n turns : ℕ} {a b : Option (List Told)} (w : Why) (m : LoadMachine) → w ≡ why.Over
    → EndedBy load_machine n turns w m a b → is_over m ≡ true
over_by why.Over m e (inl h) = absurd (no_turns h.0)
  where
    no_turns : why.Over ≡ why.Turns → ⊥
    no_turns same = cc
over_by why.Over m e (inr h) = h.0
over_by why.Turns m e h = cc
over_by why.End m e h = cc
over_by why.Ears m e h = cc
over_by why.Memory m e h = cc

pub carried_out : {n : ℕ} {ended : Ended} {a b : Option (List Told)} {c d : Option (List Posted)}
    → (m mid m_then : LoadMachine) → Had m mid → Lived load_machine n ended mid m_then a b c d → ended.why ≡ why.Over
    → WasCarriedOut m m_then
carried_out {ended = ended} m mid m_then had lived e =
    let whole = had_more m mid m_then had lived in
    record { turns = whole.0; are = whole.1; over = over_by ended.why m_then e lived.why }

pub on_ok : {A E P Q : Type 0} → (P → Q) → (r : Result A E) → OnOk r P → OnOk r Q
on_ok f (Ok x) h = f h
on_ok f (Err e) h = h
