use Rattle.std.proofs.Common.{ℕ, Bool, List, take}
use Rattle.cue_pattern.specs.Matching.{after_texts}
use Rattle.cue_pattern.specs.Lanes.{Stands, Reaches}
use Rattle.cue_pattern.proofs.lane_steps.step_texts.Given as goal

-- the texts so far
abbrev pub invariant-loop-text : goal.invariant-loop-text
invariant-loop-text l =
    (j : ℕ) (name : List ℕ) (rest : List ℕ → Bool) → Stands l.lanes j name → Reaches rest name j l.behind
    → Reaches (after_texts (take l.text-index l.texts) rest) name j l.reached
