-- The outcomes as they are sent and stored.
use Rattle.std.specs.Prelude.{ℕ, [], ◌∷◌, Option, find, nat_eq}
use Rattle.cue_exchange.specs.declared.attempt.Outcome.{Outcome}
use Rattle.cue_exchange.specs.declared.attempt.Outcome.TheVariants.{Complete, Cancelled, Failed}

-- the number of an outcome
abbrev pub outcome_number : Outcome → ℕ
outcome_number Complete = 1
outcome_number Cancelled = 2
outcome_number Failed = 3

-- the outcome with the number
abbrev pub outcome_numbered : ℕ → Option Outcome
outcome_numbered n = find (λ o. nat_eq (outcome_number o) n) (Complete ∷ Cancelled ∷ Failed ∷ [])
