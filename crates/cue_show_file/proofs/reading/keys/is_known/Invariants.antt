use Rattle.std.proofs.Common.{◌≡◌, drop, map}
use Rattle.cue_show_file.specs.Said.{is_among}
use Rattle.cue_show_file.proofs.reading.keys.is_known.Given as goal

-- it is one of all where it is one of those that are left
abbrev pub invariant-loop-name : goal.invariant-loop-name
invariant-loop-name l = is_among (map (λ k. k.now) l.known) l.key ≡ is_among
    (map (λ k. k.now) (drop l.name-index l.known)) l.key
