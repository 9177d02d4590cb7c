-- Since when each attempt is seen: what is kept says what the evening says.
use Rattle.std.proofs.Common.{◌≡◌, refl, ap, ◌∙◌, ℕ, true, false, cond, List, [], ◌∷◌, map, find, unwrap_or}
use Rattle.std.proofs.Common.{Option, None, Some, is_some, nat_eq, option_map, option_and_then}
use Rattle.std.specs.Option.{option_map_or}
use Rattle.cue_show.proofs.TestLemmas.{same_number}
use Rattle.cue_exchange.proofs.LookUpLemmas.{find-passes}
use Rattle.cue_exchange.specs.Answers.{is_decided}
use Rattle.cue_exchange.specs.Live.{attempt_of, has_number}
use Rattle.cue_exchange.specs.declared.attempt.Attempt.{Attempt}
use Rattle.cue_station.specs.declared.memory.Reading.{Reading}
use Rattle.cue_station.specs.declared.memory.Seen.{Seen}
use Rattle.cue_station.specs.Reading.{has_live}
use Rattle.cue_station.specs.Seeing.{seen_after, seen_now}
use Rattle.cue_station.specs.Showing.{given_in, has_given, since_in}

find-seen : (old : List Seen) (at q : ℕ) (live : List Attempt)
    → find (λ s. nat_eq s.seq q) (map (seen_now old at) live) ≡ option_map (seen_now old at) (attempt_of live q)
find-seen old at q [] = refl
find-seen old at q (a ∷ live) =
    elim (nat_eq a.seq q) as (λ b. cond b (Some (seen_now old at a))
    (find (λ s. nat_eq s.seq q) (map (seen_now old at) live))
    ≡ option_map (seen_now old at) (cond b (Some a) (find (has_number q) live)))
    [ true ↦ refl | false ↦ find-seen old at q live ]

number_of : (live : List Attempt) (q : ℕ) (a : Attempt) → attempt_of live q ≡ Some a → a.seq ≡ q
number_of live q a e = same_number a.seq q (find-passes (has_number q) live a e)

-- what is known first, else now
or_now : (s : Option ℕ) (at : ℕ) → Some (unwrap_or s at) ≡ cond (is_some s) s (Some at)
or_now None at = refl
or_now (Some x) at = refl

since_by : (old : List Seen) (at q : ℕ) (before : Option ℕ) → since_in old q ≡ before → (o : Option Attempt)
    → ((a : Attempt) → o ≡ Some a → a.seq ≡ q)
    → option_map (λ (s : Seen). s.since) (option_map (seen_now old at) o)
    ≡ cond (is_some o) (cond (is_some before) before (Some at)) None
since_by old at q before e None n = refl
since_by old at q before e (Some a) n =
    ap (λ k. Some (unwrap_or (since_in old k) at)) (n a refl)
    ∙ ap (λ s. Some (unwrap_or s at)) e ∙ or_now before at

given_by : (old : List Seen) (at q : ℕ) (before : Option ℕ) → given_in old q ≡ before → (o : Option Attempt)
    → ((a : Attempt) → o ≡ Some a → a.seq ≡ q)
    → option_and_then (λ (s : Seen). s.given) (option_map (seen_now old at) o)
    ≡ cond (option_map_or (λ a. is_decided a.stage) o false) (cond (is_some before) before (Some at)) None
given_by old at q before e None n = refl
given_by old at q before e (Some a) n =
    elim (is_decided a.stage) as (λ b. cond b (Some (unwrap_or (given_in old a.seq) at)) None
    ≡ cond b (cond (is_some before) before (Some at)) None) [
      | true ↦ ap (λ k. Some (unwrap_or (given_in old k) at)) (n a refl)
          ∙ ap (λ s. Some (unwrap_or s at)) e ∙ or_now before at
      | false ↦ refl
    ]

pub since-seen : (old : List Seen) (at q : ℕ) (before : Option ℕ) → since_in old q ≡ before → (r : Option Reading)
    → since_in (seen_after old at r) q ≡ cond (has_live q r) (cond (is_some before) before (Some at)) None
since-seen old at q before e None = refl
since-seen old at q before e (Some r) =
    ap (option_map (λ (s : Seen). s.since)) (find-seen old at q r.copy.state.live)
    ∙ since_by old at q before e (attempt_of r.copy.state.live q) (number_of r.copy.state.live q)

pub given-seen : (old : List Seen) (at q : ℕ) (before : Option ℕ) → given_in old q ≡ before → (r : Option Reading)
    → given_in (seen_after old at r) q ≡ cond (has_given q r) (cond (is_some before) before (Some at)) None
given-seen old at q before e None = refl
given-seen old at q before e (Some r) =
    ap (option_and_then (λ (s : Seen). s.given)) (find-seen old at q r.copy.state.live)
    ∙ given_by old at q before e (attempt_of r.copy.state.live q) (number_of r.copy.state.live q)
