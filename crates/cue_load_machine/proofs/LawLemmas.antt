-- What no life of a load does.
use Rattle.std.proofs.Common.{◌≡◌, ℕ, ◌⊎◌, Bool, true, false, cond, List, [], ◌∷◌, ◌++◌, Option, Some, None}
use Rattle.std.proofs.Common.{refl, sym, ap, ◌∙◌, subst, append_assoc, append-nil, inl, inr}
use Rattle.std.specs.Prelude.{slice_get}
use Rattle.std.proofs.lemmas.Bool.{true≢false}
use Rattle.cue_machine.specs.Living.{AreTurns, Turn, all_posted}
use Rattle.cue_machine.specs.Posting.{Posted}
use Rattle.cue_desk.specs.declared.replying.Replied.{Replied}
use Rattle.cue_loading.specs.Steps.{goes_on}
use Rattle.cue_load_machine.specs.declared.machine.LoadMachine.{LoadMachine}
use Rattle.cue_load_machine.specs.declared.stage.LoadEnd.TheVariants as end
use Rattle.cue_load_machine.specs.declared.stage.Stage.{Stage}
use Rattle.cue_load_machine.specs.declared.stage.Stage.TheVariants as stage
use Rattle.cue_load_machine.specs.Lives.{HasCopied, HasSent, Stands}
use Rattle.cue_load_machine.specs.Lives.{load_machine, post}
use Rattle.cue_load_machine.specs.Laws.{IsCopiedFirst, NothingGoesUncopied, OneAfterTheOther}
use Rattle.cue_load_machine.specs.Stages as stages
use Rattle.cue_load_machine.specs.Steps.{State, begins, bytes_of, copies, copy_given, first_stage, gives_at, state_of}
use Rattle.cue_load_machine.specs.Steps.{state_then, then_at, with_stage}
use Rattle.cue_load_machine.proofs.TurnLemmas.{StateTurn, one_posted, state_losses, state_turn}
use Rattle.cue_load_machine.proofs.GoingLemmas.{Goes, at_state, begins_going, has_sent}
use Rattle.cue_load_machine.proofs.LifeLemmas.{goes_next}

-- ---- all turns

goes_all : (s : State) (before ts : List Turn) (m m_then : LoadMachine) → Goes s before (state_of m)
    → AreTurns load_machine m ts m_then → Goes s (before ++ ts) (state_of m_then)
goes_all s before [] m m_then g h =
    subst (λ (xs : List Turn). Goes s xs (state_of m_then)) (sym (append-nil before))
    (subst (λ (x : LoadMachine). Goes s before (state_of x)) (sym h) g)
goes_all s before (t ∷ ts) m m_then g h =
    subst (λ (xs : List Turn). Goes s xs (state_of m_then)) (append_assoc before (t ∷ []) ts)
    (goes_all s (before ++ t ∷ []) ts h.0 m_then
    (goes_next s before (state_of m) g t (state_of h.0) (state_turn m t h.0 h.1)) h.2)

-- nothing was sent yet
begun : (s x : State) → x ≡ at_state s s.answers (begins s.asks 0 0) → Goes s [] x
begun s x e = record {
  answers = s.answers;
  at = begins s.asks 0 0;
  same = e;
  going = begins_going s [] s.answers (slice_get s.asks 0) 0 0 refl
      (record { sendings = []; all = refl; are = refl; told = refl });
}

sent_of : (s : State) (ts : List Turn) (m : LoadMachine) → Goes s ts (state_of m)
    → HasSent s ts m.answers.items m.stage
sent_of s ts m g =
    let answers : m.answers.items ≡ g.answers = ap (λ (x : State). x.answers) g.same in
    let at : m.stage ≡ g.at = ap (λ (x : State). x.at) g.same in
    subst (λ (x : Stage). HasSent s ts m.answers.items x) (sym at)
    (subst (λ (xs : List (Option Replied)). HasSent s ts xs g.at) (sym answers) (has_sent s ts g.answers g.at g.going))

-- ---- the copy

-- what was posted in the first turn, and what that leaves
first_posted : (s : State) (text : List ℕ) (t : Turn) (s_then : State) → s.copy ≡ Some text → s.at ≡ stage.Copies
    → StateTurn s t s_then → (lost : Bool) × (t.posted ≡ post (copies text) lost ∷ [])
first_posted s text t s_then c e turn =
    one_posted t.posted (copies text)
    (turn.gave ∙ (ap (λ (x : Stage). gives_at s x) e ∙ ap (λ (o : Option (List ℕ)). copy_given o) c))

first_after : (s : State) (text : List ℕ) (t : Turn) (s_then : State) (lost : Bool) → s.at ≡ stage.Copies
    → StateTurn s t s_then → t.posted ≡ post (copies text) lost ∷ []
    → s_then ≡ state_losses (post (copies text) lost ∷ []) (with_stage s (begins s.asks 0 0))
first_after s text t s_then lost e turn p =
    turn.after
    ∙ (ap (λ (ps : List Posted). state_losses ps (state_then s t.heard)) p
    ∙ ap (λ (x : Stage). state_losses (post (copies text) lost ∷ []) (then_at s t.heard x)) e)

-- it is over
no_more : (m : LoadMachine) (ts : List Turn) (m_then : LoadMachine) → stages.is_over m.stage ≡ true
    → AreTurns load_machine m ts m_then → (ts ≡ []) × (m_then ≡ m)
no_more m [] m_then e h = (refl, h)
no_more m (t ∷ ts) m_then e h = absurd (true≢false (sym e ∙ h.1.goes_on))

lost_copy : (s : State) (text : List ℕ) (t : Turn) (ts : List Turn) (mid m_then : LoadMachine)
    → t.posted ≡ post (copies text) true ∷ [] → (b : Bool) → goes_on s.manner false ≡ b
    → state_of mid ≡ with_stage s (cond b (begins s.asks 0 0) (stage.Over end.NotKept))
    → AreTurns load_machine mid ts m_then → HasCopied s text (t ∷ ts) m_then.answers.items m_then.stage
lost_copy s text t ts mid m_then p true e f h = record {
  first = t;
  rest = ts;
  all = refl;
  lost = true;
  posted = p;
  goes = inr (inr e, sent_of s ts m_then (goes_all s [] ts mid m_then (begun s (state_of mid) f) h));
}
lost_copy s text t ts mid m_then p false e f h =
    let at : mid.stage ≡ stage.Over end.NotKept = ap (λ (x : State). x.at) f in
    let none = no_more mid ts m_then (ap (λ (x : Stage). stages.is_over x) at) h in
    record {
      first = t;
      rest = ts;
      all = refl;
      lost = true;
      posted = p;
      goes = inl (none.0, ap (λ (x : LoadMachine). x.stage) none.1 ∙ at, refl);
    }

copied : (s : State) (text : List ℕ) (t : Turn) (ts : List Turn) (mid m_then : LoadMachine) (lost : Bool)
    → t.posted ≡ post (copies text) lost ∷ []
    → state_of mid ≡ state_losses (post (copies text) lost ∷ []) (with_stage s (begins s.asks 0 0))
    → AreTurns load_machine mid ts m_then → HasCopied s text (t ∷ ts) m_then.answers.items m_then.stage
copied s text t ts mid m_then true p f h = lost_copy s text t ts mid m_then p (goes_on s.manner false) refl f h
copied s text t ts mid m_then false p f h = record {
  first = t;
  rest = ts;
  all = refl;
  lost = false;
  posted = p;
  goes = inr (inl refl, sent_of s ts m_then (goes_all s [] ts mid m_then (begun s (state_of mid) f) h));
}

-- ---- a life

stands_with : (m : LoadMachine) (ts : List Turn) (m_then : LoadMachine) (o : Option (List ℕ)) → bytes_of m.copy ≡ o
    → m.stage ≡ first_stage m.asks.items o → AreTurns load_machine m ts m_then
    → Stands (state_of m) o ts m_then.answers.items m_then.stage
stands_with m ts m_then None c e h =
    let s : State = state_of m in
    sent_of s ts m_then
    (goes_all s [] ts m m_then (begun s s (ap (λ (x : Stage). at_state s s.answers x) e)) h)
stands_with m [] m_then (Some text) c e h = inl refl
stands_with m (t ∷ ts) m_then (Some text) c e h =
    let s : State = state_of m in
    let turn : StateTurn s t (state_of h.0) = state_turn m t h.0 h.1 in
    let one = first_posted s text t (state_of h.0) c e turn in
    inr (copied s text t ts h.0 m_then one.0 one.1 (first_after s text t (state_of h.0) one.0 e turn one.1) h.2)

pub stands : OneAfterTheOther
stands m ts m_then h = stands_with m ts m_then (bytes_of m.copy) refl h.new h.turns

-- ---- nothing goes uncopied

copied_first : (s : State) (text : List ℕ) (ts : List Turn) (answers : List (Option Replied)) (at : Stage)
    → goes_on s.manner false ≡ false → HasCopied s text ts answers at → IsCopiedFirst text (all_posted ts)
copied_first s text ts answers at takes h = by h.goes
  where
    posted : all_posted ts ≡ h.first.posted ++ all_posted h.rest
    posted = ap (λ (xs : List Turn). all_posted xs) h.all

    after : (lost : Bool) → h.lost ≡ lost → all_posted ts ≡ post (copies text) lost ∷ all_posted h.rest
    after lost e =
        posted
        ∙ (ap (λ (ps : List Posted). ps ++ all_posted h.rest) h.posted
        ∙ ap (λ (b : Bool). post (copies text) b ∷ all_posted h.rest) e)

    by :
        ((h.rest ≡ []) × (at ≡ stage.Over end.NotKept) × (h.lost ≡ true))
        ⊎ (((h.lost ≡ false) ⊎ (goes_on s.manner false ≡ true)) × HasSent s h.rest answers at)
        → IsCopiedFirst text (all_posted ts)
    by (inl over) =
        inr (inr (after true over.2
        ∙ ap (λ (xs : List Turn). post (copies text) true ∷ all_posted xs) over.0))
    by (inr (inl kept, sent)) = inr (inl (all_posted h.rest, after false kept))
    by (inr (inr adds, sent)) = absurd (true≢false (sym adds ∙ takes))

uncopied_with : (s : State) (text : List ℕ) (ts : List Turn) (answers : List (Option Replied)) (at : Stage)
    → goes_on s.manner false ≡ false → Stands s (Some text) ts answers at → IsCopiedFirst text (all_posted ts)
uncopied_with s text ts answers at takes (inl none) = inl (ap (λ (xs : List Turn). all_posted xs) none)
uncopied_with s text ts answers at takes (inr h) = copied_first s text ts answers at takes h

pub nothing-goes-uncopied : NothingGoesUncopied
nothing-goes-uncopied m ts m_then text h c takes =
    uncopied_with (state_of m) text ts m_then.answers.items m_then.stage takes
    (subst (λ (o : Option (List ℕ)). Stands (state_of m) o ts m_then.answers.items m_then.stage) c
    (stands m ts m_then h))
