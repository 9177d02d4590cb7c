-- Only a standing_by makes a Ready, of commands in turn too.
use Rattle.std.proofs.Common.{◌≡◌, ◌⊎◌, inl, inr, ℕ, Bool, true, false, ◌||◌, List, [], ◌∷◌, refl, sym, ◌∙◌, true≢false}
use Rattle.std.specs.List.{list_any}
use Rattle.cue_core.specs.declared.event.Event.{Event}
use Rattle.cue_core.specs.declared.command.Command.{Command}
use Rattle.cue_core.specs.declared.command.Command.TheVariants.{Reply}
use Rattle.cue_core.specs.declared.command.AnswerKind.TheVariants.{StandingBy}
use Rattle.cue_core.specs.Events.{is_ready_of}
use Rattle.cue_core.specs.State.{ShowState}
use Rattle.cue_core.specs.InTurn.{steps, events_of}
use Rattle.cue_core.specs.Steps.{after_events}
use Rattle.cue_core.specs.Judge.{judgement_of}
use Rattle.cue_core.proofs.lists.AnyLemmas.{any-append}
use Rattle.cue_core.proofs.verdicts.ReadyLemmas.{ready_only_by_answer}

-- the command is one of them
abbrev pub Among : Command → List Command → Type 0
Among c [] = ⊥
Among c (x ∷ xs) = (x ≡ c) ⊎ Among c xs

pub ready_among : (q e : ℕ) (s : ShowState) (now from : ℕ) (asked : List Command)
    → list_any (is_ready_of q e) (events_of (steps s now from asked)) ≡ true → Among (Reply StandingBy e q) asked
ready_among q e s now from [] h = absurd (true≢false (sym h))
ready_among q e s now from (c ∷ others) h =
    by (list_any (is_ready_of q e) first) refl (λ k. ready_among q e (after_events s first) now from others k)
    (sym (any-append (is_ready_of q e) first rest) ∙ h)
  where
    first : List Event
    first = (judgement_of s now from c).1

    rest : List Event
    rest = events_of (steps (after_events s first) now from others)

    by : (b : Bool) → list_any (is_ready_of q e) first ≡ b
        → (list_any (is_ready_of q e) rest ≡ true → Among (Reply StandingBy e q) others)
        → (b || list_any (is_ready_of q e) rest) ≡ true → Among (Reply StandingBy e q) (c ∷ others)
    by true is f k = inl (ready_only_by_answer s now from c q e is)
    by false is f k = inr (f k)
