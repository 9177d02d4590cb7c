-- Which devices a plan relays.
use Rattle.std.specs.Prelude.{◌≡◌, Bool, true, not, ◌&&◌, List, [], ◌∷◌, None, Some}
use Rattle.std.specs.List.{Contains}
use Rattle.cue_relay.specs.declared.route.Address.{Address}
use Rattle.cue_relay.specs.declared.route.Route.{Route}
use Rattle.cue_show_file.specs.declared.file.DeviceEntry.{DeviceEntry}
use Rattle.cue_show_file.specs.declared.file.ShowFile.{ShowFile}
use Rattle.cue_relay_words.specs.Planning.{has_port, lack_in, routes_in}

-- Each device of the file that is on the stage's network has a route: from its port to its own address.
abbrev pub EachIsRelayed : Type 0
EachIsRelayed =
    (file : ShowFile) (device : DeviceEntry) (address : Address) → Contains file.devices.items device
    → device.address ≡ Some address
    → Contains (routes_in file) (record { device = device.number; port = device.port; address = address })

-- the route is that of a device of the file
pub record IsOf (file : ShowFile) (route : Route) : Type 0 where
  pub device : DeviceEntry
  pub is_device : Contains file.devices.items device
  pub number : device.number ≡ route.device
  pub port : device.port ≡ route.port
  pub address : device.address ≡ Some route.address

-- Nothing else is relayed: each route is that of a device of the file.
abbrev pub NothingElse : Type 0
NothingElse = (file : ShowFile) (route : Route) → Contains (routes_in file) route → IsOf file route

-- no two of the routes have the same port
abbrev pub are_apart : List Route → Bool
are_apart [] = true
are_apart (r ∷ later) = not (has_port r.port later) && are_apart later

-- If a file lacks nothing, each port has one route: what comes there is of one device.
abbrev pub EachHasItsPort : Type 0
EachHasItsPort = (file : ShowFile) → lack_in file ≡ None → are_apart (routes_in file) ≡ true
