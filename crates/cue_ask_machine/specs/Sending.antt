-- What leaves of the letter of a desk.
use Rattle.std.specs.Prelude.{◌≡◌, ◌⊎◌, ℕ, Bool, true, false, List, [], ◌∷◌, Option}
use Rattle.cue_machine.specs.Growing.{Grew}
use Rattle.cue_machine.specs.Posting.{Given, Posted}
use Rattle.cue_ask_machine.specs.Lives.{IsNaming, post}
use Rattle.cue_ask_machine.specs.Steps.{sends}

-- the message left, at once or the second time; or it was lost both times
abbrev pub IsLetterSent : Bool → Given → List Posted → Type 0
IsLetterSent false asked ps = (ps ≡ post asked false ∷ []) ⊎ (ps ≡ post asked true ∷ post asked false ∷ [])
IsLetterSent true asked ps = ps ≡ post asked true ∷ post asked true ∷ []

-- it was said who asks, if that is to be said
pub record Names (port : ℕ) (name : Option (List ℕ)) (left left_then : Option (List Posted)) : Type 0 where
  pub said : List Posted
  pub names : IsNaming port name said
  pub grew : Grew left said left_then

pub record Asks (is_lost : Bool) (given : Given) (left left_then : Option (List Posted)) : Type 0 where
  pub asked : List Posted
  pub asks : IsLetterSent is_lost given asked
  pub grew : Grew left asked left_then

-- What a letter lets out: who asks, if that is to be said, and after it the message, which leaves once at most. Nothing
-- else does.
pub record Leaves (port : ℕ) (name : Option (List ℕ)) (message : List ℕ) (is_lost : Bool)
    (left left_then : Option (List Posted)) : Type 0 where
  pub mid : Option (List Posted)
  pub first : Names port name left mid
  pub then_asks : Asks is_lost (sends port message) mid left_then
