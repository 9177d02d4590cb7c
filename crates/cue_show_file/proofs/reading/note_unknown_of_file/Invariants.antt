use Rattle.std.proofs.Common.{◌≡◌, ◌&&◌, map}
use Rattle.std.specs.Map.{keys_of}
use Rattle.cue_show_file.specs.Reading.{is_clean}
use Rattle.cue_show_file.proofs.ReadingLemmas.{are_known}
use Rattle.cue_show_file.proofs.reading.note_unknown_of_file.Given as goal

-- what was found, and the keys that are left, speak of all keys
abbrev pub invariant-loop-key : goal.invariant-loop-key
invariant-loop-key l =
    (is_clean l.fn.findings && are_known (map (λ k. k.now) l.known) (keys_of l.table.entries))
    ≡ (is_clean l.findings && are_known (map (λ k. k.now) l.known) l.key-iterator)
