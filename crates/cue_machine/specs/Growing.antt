-- What is shown of what came, and of what went out.
use Rattle.std.specs.Prelude.{◌≡◌, List, ◌++◌, Option, None, Some}

-- what is shown grew by this; None: nothing is shown, for good
abbrev pub Grew : {X : Type 0} → Option (List X) → List X → Option (List X) → Type 0
Grew old more None = Unit {0}
Grew None more (Some new) = ⊥
Grew (Some old) more (Some new) = new ≡ old ++ more
