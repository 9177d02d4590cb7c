-- What a step gives, and what is told.
use Rattle.std.proofs.Common.{◌≡◌, ℕ, ◌≤◌, List, [], ◌∷◌, ◌++◌, length, Option, sym, ap, ◌∙◌, arith, append-nil}
use Rattle.std.specs.Prelude.{slice_get}
use Rattle.std.proofs.lemmas.Option.{slice_get_past}
use Rattle.cue_machine.specs.Posting.{Given}
use Rattle.cue_desk.specs.declared.replying.Replied.{Replied}
use Rattle.cue_load_machine.specs.declared.asks.Ask.{Ask}
use Rattle.cue_load_machine.specs.declared.stage.Try.{Try}
use Rattle.cue_load_machine.specs.Steps.{told_of, try_given}

-- nothing, past the last message
pub nothing_given : (out : List Given) (port : ℕ) (asks : List Ask) (of : Try) → length asks ≤ of.place
    → out ≡ out ++ try_given port (slice_get asks of.place) of
nothing_given out port asks of past =
    sym (append-nil out) ∙ ap (λ (q : Option Ask). out ++ try_given port q of) (sym (slice_get_past asks of.place past))

-- of no answers
pub nothing_told : (told : List (Option Replied)) (asks : List Ask) (answers : List (Option Replied))
    → length answers ≡ 0 → told ≡ told ++ told_of asks answers
nothing_told told [] answers e = sym (append-nil told)
nothing_told told (a ∷ asks) [] e = sym (append-nil told)
nothing_told told (a ∷ asks) (r ∷ answers) e = absurd (omega (arith, e))
