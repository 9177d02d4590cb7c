use Rattle.std.proofs.Common.{◌≡◌, ◌++◌, drop}
use Rattle.std.specs.List.{flat_map}
use Rattle.cue_relay.specs.Status.{seen_text}
use Rattle.cue_relay.proofs.status.writing.put_devices.Given as goal

-- what was written, and those that are left, are all
abbrev pub invariant-loop-seen : goal.invariant-loop-seen
invariant-loop-seen l =
    l.out.items ++ flat_map seen_text (drop l.seen-index l.devices)
    ≡ l.fn.out.items ++ flat_map seen_text l.devices
