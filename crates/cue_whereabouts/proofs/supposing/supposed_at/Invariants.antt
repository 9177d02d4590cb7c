use Rattle.std.proofs.Common.{◌≡◌}
use Rattle.std.specs.List.{fold}
use Rattle.cue_whereabouts.specs.Supposing.{before, supposed_at, supposed_by}
use Rattle.std.specs.Option.{option_or}
use Rattle.cue_whereabouts.proofs.supposing.supposed_at.Given as goal

-- the cues that are left make of this what all of them make
abbrev pub invariant-loop-cue : goal.invariant-loop-cue
invariant-loop-cue l =
    fold (λ last e. option_or (supposed_by l.device e) last) l.supposed (before l.place l.cue-iterator)
    ≡ supposed_at l.place l.device l.show.cues
