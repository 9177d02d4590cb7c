-- What a relay stands between, by a show file.
use Rattle.std.specs.Prelude.{◌≡◌, ℕ, Bool, if◌then◌else◌, nat_eq, List, [], ◌∷◌, Option, None, Some}
use Rattle.std.specs.List.{filter_map, list_any}
use Rattle.cue_desk.specs.Ports.{port_of}
use Rattle.cue_relay.specs.declared.route.Address.{Address}
use Rattle.cue_relay.specs.declared.route.Route.{Route}
use Rattle.cue_show_file.specs.Routes.{route_of}
use Rattle.cue_show_file.specs.declared.file.ShowFile.{ShowFile}
use Rattle.cue_relay_words.specs.declared.planning.Lack.{Lack}
use Rattle.cue_relay_words.specs.declared.planning.Lack.TheVariants as lack
use Rattle.cue_relay_words.specs.declared.planning.Plan.{Plan}
use Rattle.cue_relay_words.specs.declared.planning.PlanFault.{PlanFault}
use Rattle.cue_relay_words.specs.declared.planning.PlanFault.TheVariants as fault

-- ---- what a file has

-- a route for each device with an address
abbrev pub routes_in : ShowFile → List Route
routes_in file = filter_map route_of file.devices.items

-- one of these routes has the port
abbrev pub has_port : ℕ → List Route → Bool
has_port port routes = list_any (λ r. nat_eq r.port port) routes

-- the first port that two of the routes have
abbrev pub shared_port : List Route → Option ℕ
shared_port [] = None
shared_port (r ∷ later) = if has_port r.port later then Some r.port else shared_port later

-- ---- what it lacks

-- two devices have one port; or nobody knows where this machine is on the stage's network
abbrev pub lack_by : (shared listen : Option ℕ) → Option Lack
lack_by (Some port) listen = Some (lack.SharedPort port)
lack_by None None = Some lack.Listen
lack_by None (Some stage) = None

-- what there is to relay lacks this; nothing, if it can be relayed
abbrev pub lack_of : List Route → (listen : Option ℕ) → Option Lack
lack_of [] listen = Some lack.Device
lack_of (r ∷ routes) listen = lack_by (shared_port (r ∷ routes)) listen

abbrev pub lack_in : ShowFile → Option Lack
lack_in file = lack_of (routes_in file) file.listen

-- the routes lack nothing, and this machine is here on the stage's network
pub record IsStage (routes : List Route) (listen : Option ℕ) (stage : ℕ) : Type 0 where
  pub lacks : lack_of routes listen ≡ None
  pub stage_is : listen ≡ Some stage

-- ---- the plan

-- the controller of this machine: at the port that was said, or else that of the file, or else the usual one
abbrev pub controller_of : (said file : Option ℕ) → Address
controller_of said file = record { host = 2130706433; port = port_of said file }

-- The file lacks nothing, and this is what it says.
pub record IsPlanned (said : Option ℕ) (file : ShowFile) (plan : Plan) : Type 0 where
  pub lacks : lack_in file ≡ None
  pub controller : plan.controller ≡ controller_of said file.port
  pub stage : file.listen ≡ Some plan.stage
  pub routes : plan.routes.items ≡ routes_in file

-- the file lacks this; or there is no memory
abbrev pub IsFault : ShowFile → PlanFault → Type 0
IsFault file fault.Memory = Unit {0}
IsFault file (fault.Lacks what) = lack_in file ≡ Some what
