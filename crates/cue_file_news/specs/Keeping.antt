-- What a desk keeps of the show file of its start, whatever file is shown later.
use Rattle.std.specs.Prelude.{◌≢◌, ◌↔◌, ◌⊎◌, ℕ, Bool, true, false, List, Option, IsTrue}
use Rattle.std.specs.List.{filter_map}
use Rattle.cue_desk.specs.Ports.{port_of}
use Rattle.cue_relay.specs.declared.route.Route.{Route}
use Rattle.cue_show_file.specs.Routes.{route_of}
use Rattle.cue_show_file.specs.declared.file.ShowFile.{ShowFile}
use Rattle.cue_file_news.specs.declared.keeping.Kept.{Kept}
use Rattle.cue_file_news.specs.declared.keeping.Later.{Later}
use Rattle.cue_file_news.specs.declared.keeping.Later.TheVariants as later

-- the port of the controller, where this machine is on the stage's network, and the routes of the devices there
pub record Keeping : Type 0 where
  pub port : ℕ
  pub listen : Option ℕ
  pub routes : List Route

abbrev pub kept_in : Kept → Keeping
kept_in k = record { port = k.port; listen = k.listen; routes = k.routes.items }

-- of a file: the port that was said, else that of the file; the network is the file's
abbrev pub kept_of : Option ℕ → ShowFile → Keeping
kept_of said file =
    record { port = port_of said file.port; listen = file.listen; routes = filter_map route_of file.devices.items }

-- it is told that the port counts only from the next start
abbrev pub tells_port : Later → Bool
tells_port later.Nothing = false
tells_port later.Port = true
tells_port later.Relay = false
tells_port later.Both = true

-- it is told that the relay counts only from the next start
abbrev pub tells_relay : Later → Bool
tells_relay later.Nothing = false
tells_relay later.Port = false
tells_relay later.Relay = true
tells_relay later.Both = true

-- this machine is elsewhere on the stage's network, or there are other routes
abbrev pub IsOtherRelay : Keeping → Keeping → Type 0
IsOtherRelay kept fresh = (kept.listen ≢ fresh.listen) ⊎ (kept.routes ≢ fresh.routes)

-- Exactly that is told to count from the next start in which a new file differs from what is kept.
pub record IsLater (kept fresh : Keeping) (l : Later) : Type 0 where
  pub port : IsTrue (tells_port l) ↔ (kept.port ≢ fresh.port)
  pub relay : IsTrue (tells_relay l) ↔ IsOtherRelay kept fresh
