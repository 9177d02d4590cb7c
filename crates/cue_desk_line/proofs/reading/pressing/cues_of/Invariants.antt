use Rattle.std.proofs.Common.{◌≡◌, ◌++◌, drop, map}
use Rattle.cue_desk_line.proofs.reading.pressing.cues_of.Given as goal

-- the cues so far, and the words that are left, are all
abbrev pub invariant-loop-word : goal.invariant-loop-word
invariant-loop-word l = l.cues.items ++ map (λ w. w.now) (drop l.word-index l.words) ≡ map (λ w. w.now) l.words
