use Rattle.std.proofs.Common.{◌≡◌, drop}
use Rattle.cue_osc.specs.Writing.{room_left}
use Rattle.cue_osc.proofs.RoomLemmas.{args_len}
use Rattle.cue_osc.proofs.writing.length.room_after_args.Given as goal

abbrev pub invariant-loop-arg : goal.invariant-loop-arg
invariant-loop-arg l = room_left l.left (args_len (drop l.arg-index l.args)) ≡ room_left l.room (args_len l.args)
