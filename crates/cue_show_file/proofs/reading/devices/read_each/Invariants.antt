use Rattle.std.proofs.Common.{◌≡◌, IsTrue, drop}
use Rattle.toml.specs.View.{items_view}
use Rattle.cue_show_file.specs.Reading.{devices_of, if_clean, is_clean, no_places_in, then_more}
use Rattle.cue_show_file.specs.Said.{device_said, each_said}
use Rattle.cue_show_file.proofs.reading.devices.read_each.Given as goal

-- What was read, and then what the values say that are left, is all: where nothing is wrong so far, and always where no
-- value has an address.
abbrev pub invariant-loop-index : goal.invariant-loop-index
invariant-loop-index l =
    (IsTrue (is_clean l.findings)
    → then_more (devices_of l.devices.items) (each_said device_said (items_view (drop l.index l.values)))
    ≡ if_clean l.fn.findings (each_said device_said (items_view l.values)))
    × (IsTrue (no_places_in (items_view l.values))
    → (if_clean l.findings (then_more (devices_of l.devices.items)
    (each_said device_said (items_view (drop l.index l.values))))
    ≡ if_clean l.fn.findings (each_said device_said (items_view l.values)))
    × IsTrue (no_places_in (items_view (drop l.index l.values))))
