-- What was replied to a load.
use Rattle.std.specs.Prelude.{◌≡◌, ℕ, ◌==◌, Bool, true, false, ◌&&◌, List, [], ◌∷◌, ◌++◌, length, Option, Some, None}
use Rattle.std.specs.Prelude.{⊤}
use Rattle.cue_desk.specs.declared.answered.Answered.{Answered}
use Rattle.cue_desk.specs.declared.replying.Replied.{Replied}
use Rattle.cue_desk.specs.declared.replying.Replied.TheVariants as replied
use Rattle.cue_desk.specs.declared.replying.Status.{Status}
use Rattle.cue_desk.specs.Answered.{Tells}

-- something was replied to each
abbrev pub all_told : List (Option Replied) → Bool
all_told [] = true
all_told (Some r ∷ told) = all_told told
all_told (None ∷ told) = false

-- to each of so many
abbrev pub has_all : ℕ → List (Option Replied) → Bool
has_all count told = all_told told && (length told == count)

-- each of these is what the reply at its place says, and each has a reply
abbrev pub AreAnswers : List (Option Replied) → List Answered → Type 0
AreAnswers [] [] = ⊤
AreAnswers (Some r ∷ told) (a ∷ answers) = Tells r a × AreAnswers told answers
AreAnswers (Some r ∷ told) [] = ⊥
AreAnswers (None ∷ told) answers = ⊥
AreAnswers [] (a ∷ answers) = ⊥

-- these stand after the others
pub record PushesAnswers (old : List Answered) (told : List (Option Replied)) (new : List Answered) : Type 0 where
  pub added : List Answered
  pub all : new ≡ old ++ added
  pub are : AreAnswers told added

-- the status, if that was replied
abbrev pub status_of : Option Replied → Option Status
status_of None = None
status_of (Some (replied.Reply made known refused code)) = None
status_of (Some (replied.Status status)) = Some status

abbrev pub status_in : List (Option Replied) → Option Status
status_in [] = None
status_in (told ∷ more) = status_of told
