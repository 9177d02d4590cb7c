-- What a machine's life comes to: what it was fed, what was posted, and why it ended.
use Rattle.std.specs.Prelude.{◌≡◌, ◌≤◌, ◌⊎◌, ℕ, true, false, if◌then◌else◌, List, [], ◌∷◌, ◌++◌, length, map, Option}
use Rattle.cue_machine.specs.declared.living.Ended.{Ended}
use Rattle.cue_machine.specs.declared.living.Why.{Why}
use Rattle.cue_machine.specs.declared.living.Why.TheVariants as reason
use Rattle.cue_machine.specs.declared.machine.Machine.{Ghosts}
use Rattle.cue_machine.specs.declared.post.Output.{Output}
use Rattle.cue_machine.specs.Growing.{Grew}
use Rattle.cue_machine.specs.Hearing.{Answer, Heard, Told, comes, ends, fails}
use Rattle.cue_machine.specs.Posting.{Posted, given_of}

-- the state of a machine once it was told of this, if it was lost
abbrev pub after_loss_of : {M : Type 0} → (M → Output → M) → Posted → M → M
after_loss_of after_loss p m = if p.lost then after_loss m p.given.output else m

-- and of each of these that was lost
abbrev pub after_losses : {M : Type 0} → (M → Output → M) → List Posted → M → M
after_losses after_loss [] m = m
after_losses after_loss (p ∷ ps) m =
    after_losses after_loss ps (after_loss_of after_loss p m)

-- what was heard, when it was to be heard at the latest, and what was posted for it
pub record Turn : Type 0 where
  pub until : Option ℕ
  pub heard : Heard
  pub posted : List Posted

-- A turn of a machine that is not over: the ears were asked with when it wants to be woken, it was fed what came, what
-- it gave was posted, each once and in order, and of what was lost it was told.
pub record IsTurn {M : Type 0} (machine : Ghosts M) (m : M) (turn : Turn) (m_then : M) : Type 0 where
  pub goes_on : machine.is_over m ≡ false
  pub asked : turn.until ≡ machine.wakes m
  pub mid : M
  pub stepped : machine.steps m turn.heard (map given_of turn.posted) mid
  pub after : m_then ≡ after_losses machine.after_loss turn.posted mid

-- one turn after the other
abbrev pub AreTurns : {M : Type 0} → Ghosts M → M → List Turn → M → Type 0
AreTurns machine m [] m_then = m_then ≡ m
AreTurns {M} machine m (t ∷ ts) m_then = (mid : M) × IsTurn machine m t mid × AreTurns machine mid ts m_then

abbrev pub told_of : Turn → Told
told_of turn = record { until = turn.until; answer = comes turn.heard }

-- all that was posted, turn by turn
abbrev pub all_posted : List Turn → List Posted
all_posted [] = []
all_posted (t ∷ ts) = t.posted ++ all_posted ts

-- what ears tell that are asked with when the machine wants to be woken
abbrev pub asked : {M : Type 0} → Ghosts M → M → Answer → List Told
asked machine m answer = record { until = machine.wakes m; answer = answer } ∷ []

-- So far it had so many turns: it was fed all that was told, and all that it gave was posted.
pub record HasLived {M : Type 0} (machine : Ghosts M) (m m_then : M) (told told_then : Option (List Told))
    (left left_then : Option (List Posted)) (turns : ℕ) : Type 0 where
  pub taken : List Turn
  pub number : length taken ≡ turns
  pub turn_by_turn : AreTurns machine m taken m_then
  pub heard : Grew told (map told_of taken) told_then
  pub posted : Grew left (all_posted taken) left_then

-- Why there was no turn more, in this state: it was over, nothing came any more, the ears failed, or there was no memory
-- for what came. It never stops for its turns.
abbrev pub StoppedBy : {M : Type 0} → Ghosts M → Why → M → (told told_then : Option (List Told)) → Type 0
StoppedBy machine reason.Turns m told told_then = ⊥
StoppedBy machine reason.Over m told told_then = (machine.is_over m ≡ true) × (told_then ≡ told)
StoppedBy machine reason.End m told told_then = (machine.is_over m ≡ false) × Grew told (asked machine m ends) told_then
StoppedBy machine reason.Ears m told told_then = (machine.is_over m ≡ false) × Grew told (asked machine m fails) told_then
StoppedBy machine reason.Memory m told told_then =
    (machine.is_over m ≡ false) × ((h : Heard) × Grew told (asked machine m (comes h)) told_then)

-- why a life ended: it had its turns, or it was stopped
abbrev pub EndedBy : {M : Type 0} → Ghosts M → (wanted turns : ℕ) → Why → M → (told told_then : Option (List Told))
    → Type 0
EndedBy machine wanted turns why m told told_then =
    ((why ≡ reason.Turns) × (turns ≡ wanted) × (told_then ≡ told)) ⊎ StoppedBy machine why m told told_then

-- A whole life, of so many turns at most.
pub record Lived {M : Type 0} (machine : Ghosts M) (wanted : ℕ) (ended : Ended) (m m_then : M)
    (told told_then : Option (List Told)) (left left_then : Option (List Posted)) : Type 0 where
  -- what the ears had told after the last turn
  pub mid : Option (List Told)
  pub lived : HasLived machine m m_then told mid left left_then ended.turns
  pub why : EndedBy machine wanted ended.turns ended.why m_then mid told_then
  pub at_most : ended.turns ≤ wanted
