-- What a message asks for, by how patterns are written and what they denote.
use Rattle.std.specs.Prelude.{◌≡◌, ◌≢◌, ◌↔◌, ◌⊎◌, ℕ, List, [], ◌∷◌, map, Ok, Err}
use Rattle.cue_show.specs.Show.{ShowLists}
use Rattle.cue_pattern.specs.declared.piece.Piece.{Piece}
use Rattle.cue_pattern.specs.Grammar.{IsPattern}
use Rattle.cue_pattern.specs.Meaning.{Denotes}
use Rattle.cue_osc.specs.Argument.{Argument}
use Rattle.cue_core.specs.declared.command.Code.TheVariants as code
use Rattle.cue_core.specs.declared.command.Command.{Command}
use Rattle.cue_operator.specs.declared.method.Method.{Method}
use Rattle.cue_operator.specs.Methods.{address_of, methods}
use Rattle.cue_operator.specs.Arguments.{command_by}
use Rattle.cue_operator.specs.Commands.{commands_of}

-- of these methods, in their order, exactly those whose address the pattern denotes
abbrev pub AreDenoted : List (List Piece) → List Method → List Method → Type 0
AreDenoted pattern [] found = found ≡ []
AreDenoted pattern (m ∷ ms) found =
    (Denotes pattern (address_of m) × (others : List Method) × (found ≡ m ∷ others) × AreDenoted pattern ms others)
    ⊎ ((Denotes pattern (address_of m) → ⊥) × AreDenoted pattern ms found)

-- The address of a message is a pattern, and these are the methods of the show that it denotes, in their order.
pub record IsAddressOf (show : ShowLists) (address : List ℕ) (found : List Method) : Type 0 where
  pub pattern : List (List Piece)
  pub spelled : IsPattern address pattern
  pub denoted : AreDenoted pattern (methods show) found

-- A message asks for commands exactly if its address denotes methods, and then for the command of each.
abbrev pub CommandsAreDenoted : Type 0
CommandsAreDenoted =
    (show : ShowLists) (address : List ℕ) (xs : List Argument) (asked : List Command)
    → (commands_of show address xs ≡ Ok asked)
    ↔ ((found : List Method) × IsAddressOf show address found × (found ≢ []) × (asked ≡ map (command_by xs) found))

-- It is refused as of a bad pattern exactly if its address is no pattern.
abbrev pub BadPatternIsNone : Type 0
BadPatternIsNone =
    (show : ShowLists) (address : List ℕ) (xs : List Argument)
    → (commands_of show address xs ≡ Err code.BadPattern)
    ↔ ((pattern : List (List Piece)) → IsPattern address pattern → ⊥)

-- It is refused as of no method exactly if its address denotes none.
abbrev pub NoMethodIsDenoted : Type 0
NoMethodIsDenoted =
    (show : ShowLists) (address : List ℕ) (xs : List Argument)
    → (commands_of show address xs ≡ Err code.NoMethod) ↔ IsAddressOf show address []
