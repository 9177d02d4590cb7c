use Rattle.std.proofs.Common.{◌≡◌, ◌+◌, drop}
use Rattle.cue_osc.specs.Reading.{text_len}
use Rattle.cue_relay.proofs.fields.text_len.Given as goal

abbrev pub invariant-loop-i : goal.invariant-loop-i
invariant-loop-i l = l.i + text_len (drop l.i l.bytes) ≡ text_len l.bytes
