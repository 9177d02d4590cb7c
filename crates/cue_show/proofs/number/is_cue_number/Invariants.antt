use Rattle.std.proofs.Common.{◌≡◌, false, drop}
use Rattle.cue_show.proofs.RunsLemmas.{runs_from}
use Rattle.cue_show.proofs.number.is_cue_number.Given as goal

abbrev pub invariant-loop-byte : goal.invariant-loop-byte
invariant-loop-byte l = runs_from l.after_digit (drop l.byte-index l.text) ≡ runs_from false l.text
