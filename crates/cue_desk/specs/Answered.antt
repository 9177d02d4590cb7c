-- What a reply of the controller says of the command that was asked.
use Rattle.std.specs.Prelude.{◌≡◌, ◌⊎◌, ◌==◌, ◌&&◌, if◌then◌else◌, pos, negsuc, ◌<ℤ◌, ◌≤ℤ◌, ℕ, ℤ, Bool, Option, Some, None}
use Rattle.std.specs.Ordering.{int_eq}
use Rattle.cue_core.specs.Codes.{code_number}
use Rattle.cue_core.specs.declared.command.Code.TheVariants.{NoMethod}
use Rattle.cue_desk.specs.declared.answered.Answered.{Answered}
use Rattle.cue_desk.specs.declared.answered.Answered.TheVariants as answered
use Rattle.cue_desk.specs.declared.ending.Ending.{Ending}
use Rattle.cue_desk.specs.declared.ending.Ending.TheVariants as ending
use Rattle.cue_desk.specs.declared.replying.Replied.{Replied}
use Rattle.cue_desk.specs.declared.replying.Replied.TheVariants as replied

-- refused if one was refused, with its code; else made if one was made; else it was so already
abbrev pub Tells : Replied → Answered → Type 0
Tells (replied.Reply made known refused code) (answered.Refused told) = (pos 0 <ℤ refused) × (told ≡ code)
Tells (replied.Reply made known refused code) answered.Made = (refused ≤ℤ pos 0) × (pos 0 <ℤ made)
Tells (replied.Reply made known refused code) answered.Known = (refused ≤ℤ pos 0) × (made ≤ℤ pos 0)
Tells (replied.Status status) (answered.Refused told) = ⊥
Tells (replied.Status status) answered.Made = ⊥
Tells (replied.Status status) answered.Known = Unit {0}

-- the three numbers of a reply are these
abbrev pub counts : (made known refused : ℤ) → (m k r : ℕ) → Bool
counts made known refused m k r = int_eq made (pos m) && (int_eq known (pos k) && int_eq refused (pos r))

-- exactly one command was made, was known or was refused
abbrev pub IsOfOne : Replied → Type 0
IsOfOne (replied.Reply made known refused code) =
    ((made ≡ pos 1) × (known ≡ pos 0) × (refused ≡ pos 0))
    ⊎ ((made ≡ pos 0) × (known ≡ pos 1) × (refused ≡ pos 0))
    ⊎ ((made ≡ pos 0) × (known ≡ pos 0) × (refused ≡ pos 1))
IsOfOne (replied.Status status) = ⊥

-- how a command ends of which this became; none if it is done
abbrev pub ending_of : Answered → Option Ending
ending_of answered.Made = None
ending_of answered.Known = None
ending_of (answered.Refused code) = Some ending.Refused

-- the code by which a removal was refused; none by the code of what is not there
abbrev pub refusal_of_removal : Answered → Option ℤ
refusal_of_removal answered.Made = None
refusal_of_removal answered.Known = None
refusal_of_removal (answered.Refused (pos n)) = if n == code_number NoMethod then None else Some (pos n)
refusal_of_removal (answered.Refused (negsuc n)) = Some (negsuc n)
