-- The route of a device of a show file.
use Rattle.std.specs.Prelude.{Option, option_map}
use Rattle.cue_relay.specs.declared.route.Route.{Route}
use Rattle.cue_show_file.specs.declared.file.DeviceEntry.{DeviceEntry}

-- from its local port to its address, if it has one
abbrev pub route_of : DeviceEntry → Option Route
route_of e = option_map (λ address. record { device = e.number; port = e.port; address = address }) e.address
