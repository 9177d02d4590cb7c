-- Inputs that are taken together: what each gives is judged on the state after those before it.
use Rattle.std.specs.Prelude.{◌≡◌, ℕ, List, [], ◌∷◌, ◌++◌, map, Option, Some, None}
use Rattle.cue_core.specs.declared.event.Event.{Event}
use Rattle.cue_core.specs.State.{ShowState}
use Rattle.cue_core.specs.Steps.{after_events}
use Rattle.cue_outbox.specs.Sending.{Send}
use Rattle.cue_outbox.specs.Views.{outs_view}
use Rattle.cue_engine.specs.declared.offers.Offered.{Offered}
use Rattle.cue_engine.specs.Given.{Input, given_of}
use Rattle.cue_engine.specs.Accounts.{Accounted, accounts_view}
use Rattle.cue_keeper.specs.Groups.{with_events}
use Rattle.cue_keeper.specs.Stands.{folded_all}
use Rattle.cue_engine.specs.Runs.{Happening, took, run}

-- the batch of each input, in order; one that changes nothing has an empty batch
abbrev pub batches_given : ShowState → List (ℕ × Input) → List (List Event)
batches_given s [] = []
batches_given s (i ∷ is) = (given_of s i.0 i.1).batch ∷ batches_given (after_events s (given_of s i.0 i.1).batch) is

-- all that is sent for them, in order
abbrev pub sends_given : ShowState → List (ℕ × Input) → List (ℕ × Send)
sends_given s [] = []
sends_given s (i ∷ is) = (given_of s i.0 i.1).sends ++ sends_given (after_events s (given_of s i.0 i.1).batch) is

-- inputs as a run takes them
abbrev pub all_took : List (ℕ × Input) → List Happening
all_took inputs = map (λ i. took i.0 i.1) inputs

-- Taken together or one after the other, they come to the same: state, batches and datagrams.
abbrev pub GroupIsARun : Type 0
GroupIsARun = (s : ShowState) (inputs : List (ℕ × Input))
    → ((run s (all_took inputs)).state ≡ folded_all s (batches_given s inputs))
    × ((run s (all_took inputs)).batches ≡ with_events (batches_given s inputs))
    × ((run s (all_took inputs)).sends ≡ sends_given s inputs)

-- ---- what was offered and is not committed yet

-- the batch of each input
abbrev pub offered_batches : Option Offered → List (List Event)
offered_batches None = []
offered_batches (Some offered) = offered.group

-- the datagrams that are sent for them
abbrev pub offered_sends : Option Offered → List (ℕ × List ℕ)
offered_sends None = []
offered_sends (Some offered) = outs_view offered.sends.items

-- the account of each input
abbrev pub offered_accounts : Option Offered → List Accounted
offered_accounts None = []
offered_accounts (Some offered) = accounts_view offered.accounts.items

-- the last of some batches; empty if there is none
abbrev pub last_of : List (List Event) → List Event
last_of [] = []
last_of (batch ∷ []) = batch
last_of (batch ∷ next ∷ batches) = last_of (next ∷ batches)
