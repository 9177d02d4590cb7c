-- What a machine gives, and what became of it.
use Rattle.std.specs.Prelude.{ℕ, Bool, List}
use Rattle.cue_machine.specs.declared.post.Output.{Output}

-- an output with its bytes
pub record Given : Type 0 where
  pub output : Output
  pub bytes : List ℕ

-- one that was posted, and whether it was lost
pub record Posted : Type 0 where
  pub given : Given
  pub lost : Bool

abbrev pub given_as : Output → List ℕ → Given
given_as output bytes = record { output = output; bytes = bytes }

abbrev pub posted_as : Output → List ℕ → Bool → Posted
posted_as output bytes lost = record { given = given_as output bytes; lost = lost }

abbrev pub given_of : Posted → Given
given_of p = p.given
