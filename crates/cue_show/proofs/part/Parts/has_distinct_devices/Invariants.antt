use Rattle.std.proofs.Common.{take}
use Rattle.cue_show.specs.Devices.{devices_in}
use Rattle.cue_show.proofs.SeenLemmas.{IsSeen}
use Rattle.cue_show.proofs.part.Parts.has_distinct_devices.Given as goal

abbrev pub invariant-loop-part : goal.invariant-loop-part
invariant-loop-part l = IsSeen l.seen (devices_in (take l.part-index l.part-items))
