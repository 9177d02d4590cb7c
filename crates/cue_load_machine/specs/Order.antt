-- What the replies to a show file say of the order of the stack.
use Rattle.std.specs.Prelude.{pos, negsuc, ◌==◌, Bool, true, false, ◌||◌, List, [], ◌∷◌}
use Rattle.cue_core.specs.Codes.{code_number}
use Rattle.cue_core.specs.declared.command.Code.TheVariants.{Duplicate}
use Rattle.cue_desk.specs.declared.answered.Answered.{Answered}
use Rattle.cue_desk.specs.declared.answered.Answered.TheVariants as answered

-- it is there, and differs: it was refused by the code that says so
abbrev pub differs : Answered → Bool
differs answered.Made = false
differs answered.Known = false
differs (answered.Refused (pos n)) = n == code_number Duplicate
differs (answered.Refused (negsuc n)) = false

-- it was there already: it is known, or differs
abbrev pub was_there : Answered → Bool
was_there answered.Made = false
was_there answered.Known = true
was_there (answered.Refused code) = differs (answered.Refused code)

-- one of them was there already
abbrev pub some_was_there : List Answered → Bool
some_was_there [] = false
some_was_there (a ∷ more) = was_there a || some_was_there more

-- one that is new stands before one that was there already
abbrev pub comes_late : List Answered → Bool
comes_late [] = false
comes_late (answered.Made ∷ more) = some_was_there more
comes_late (answered.Known ∷ more) = comes_late more
comes_late ((answered.Refused code) ∷ more) = comes_late more
