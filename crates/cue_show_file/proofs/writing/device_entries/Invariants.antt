use Rattle.std.proofs.Common.{◌≡◌, ◌++◌, map}
use Rattle.cue_show_file.specs.Written.{bare_device}
use Rattle.cue_show_file.proofs.writing.device_entries.Given as goal

-- what was put there, and what is left, are all
abbrev pub invariant-loop-number : goal.invariant-loop-number
invariant-loop-number l = l.entries.items ++ map bare_device l.number-iterator ≡ map bare_device l.show.devices
