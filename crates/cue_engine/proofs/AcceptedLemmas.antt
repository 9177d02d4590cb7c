-- What was heard can be accepted.
use Rattle.std.proofs.Common.{ℕ, List, Result, Ok, Err, sym, subst, IsTrue}
use Rattle.std.specs.Prelude.{IfOk}
use Rattle.cue_core.specs.declared.event.Event.{Event}
use Rattle.cue_core.specs.State.{ShowState, is_state}
use Rattle.cue_core.specs.Steps.{are_acceptable}
use Rattle.cue_engine.specs.declared.heard.Heard.{Heard}
use Rattle.cue_engine.specs.Given.{Input, given_of}
use Rattle.cue_engine.specs.Hearing.{Gives}
use Rattle.cue_engine.proofs.HistoryLemmas.{input-ok}

pub accepted : {E : Type 0} (s : ShowState) (now : ℕ) (i : Input) (r : Result Heard E) → IsTrue (is_state s)
    → IfOk r (Gives (given_of s now i)) → IfOk r (λ (h : Heard). IsTrue (are_acceptable s h.batch.items))
accepted s now i (Ok h) rules g = let P : List Event → Type 0 = λ es. IsTrue (are_acceptable s es) in
    subst P (sym g.batch) (input-ok s now i rules)
accepted s now i (Err e) rules g = g
