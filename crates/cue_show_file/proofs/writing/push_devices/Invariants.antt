use Rattle.std.proofs.Common.{◌≡◌, ◌++◌, drop, string_bytes}
use Rattle.std.specs.List.{flat_map}
use Rattle.cue_show_file.specs.Written.{device_text}
use Rattle.cue_show_file.proofs.writing.push_devices.Given as goal

-- what was written, and those that are left, are all
abbrev pub invariant-loop-entry : goal.invariant-loop-entry
invariant-loop-entry l =
    string_bytes l.text ++ flat_map device_text (drop l.entry-index l.entries)
    ≡ string_bytes l.fn.text ++ flat_map device_text l.entries
