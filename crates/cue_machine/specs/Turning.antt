-- The parts of a turn.
use Rattle.std.specs.Prelude.{◌≡◌, List, ◌∷◌, [], map, Option}
use Rattle.cue_machine.specs.declared.living.Why.{Why}
use Rattle.cue_machine.specs.declared.machine.Machine.{Ghosts}
use Rattle.cue_machine.specs.declared.post.Output.{Output}
use Rattle.cue_machine.specs.Growing.{Grew}
use Rattle.cue_machine.specs.Hearing.{Heard, Told}
use Rattle.cue_machine.specs.Living.{IsTurn, StoppedBy, Turn, after_loss_of, after_losses, told_of}
use Rattle.cue_machine.specs.Posting.{Given, Posted, given_of}

-- this was posted, and the machine was told of it if it was lost
pub record PostsOne {M : Type 0} (after_loss : M → Output → M) (given : Given) (m m_then : M)
    (left left_then : Option (List Posted)) : Type 0 where
  pub posted : Posted
  pub same : posted.given ≡ given
  pub grew : Grew left (posted ∷ []) left_then
  pub after : m_then ≡ after_loss_of after_loss posted m

-- all of these were posted, each once and in order, and of what was lost the machine was told
pub record Posts {M : Type 0} (after_loss : M → Output → M) (given : List Given) (m m_then : M)
    (left left_then : Option (List Posted)) : Type 0 where
  pub posted : List Posted
  pub all : map given_of posted ≡ given
  pub grew : Grew left posted left_then
  pub after : m_then ≡ after_losses after_loss posted m

-- what was heard was taken, and what that gave was posted
pub record Takes {M : Type 0} (machine : Ghosts M) (heard : Heard) (m m_then : M)
    (left left_then : Option (List Posted)) : Type 0 where
  pub mid : M
  pub posted : List Posted
  pub stepped : machine.steps m heard (map given_of posted) mid
  pub grew : Grew left posted left_then
  pub after : m_then ≡ after_losses machine.after_loss posted mid

-- a turn was had
pub record Turned {M : Type 0} (machine : Ghosts M) (m m_then : M) (told told_then : Option (List Told))
    (left left_then : Option (List Posted)) : Type 0 where
  pub turn : Turn
  pub is : IsTurn machine m turn m_then
  pub heard : Grew told (told_of turn ∷ []) told_then
  pub posted : Grew left turn.posted left_then

-- none was had, and nothing was done
pub record Stopped {M : Type 0} (machine : Ghosts M) (why : Why) (m m_then : M) (told told_then : Option (List Told))
    (left left_then : Option (List Posted)) : Type 0 where
  pub because : StoppedBy machine why m told told_then
  pub same : m_then ≡ m
  pub nothing : left_then ≡ left
