-- The number of a view, and why a press was not sent, are put into it last.
use Rattle.std.proofs.Common.{ℕ, Bool, List, Option, None, Some}
use Rattle.cue_station.specs.declared.lighting.Footing.{Footing}
use Rattle.cue_station.specs.declared.memory.Notes.{Notes}
use Rattle.cue_station.specs.declared.memory.Reading.{Reading}
use Rattle.cue_station.specs.declared.memory.Relayed.{Relayed}
use Rattle.cue_station.specs.declared.memory.Seen.{Seen}
use Rattle.cue_view.specs.declared.view.Told.{Told}
use Rattle.cue_view.specs.declared.view.Unsent.{Unsent}
use Rattle.cue_view.specs.declared.view.View.{View}
use Rattle.cue_station.specs.Drawing.{ShowsReading}
use Rattle.cue_station.specs.Showing.{given_in, since_in}
use Rattle.cue_station.specs.Viewing.{IsView}

abbrev with_number : ℕ → Option Unsent → View → View
with_number number unsent v = record v { number = number; unsent = unsent }

shows_numbered : (stands : Bool) (since given : ℕ → Option ℕ) (now wall : ℕ) (v : View) (number : ℕ)
    (unsent : Option Unsent) (r : Option Reading) → ShowsReading stands since given now wall v r
    → ShowsReading stands since given now wall (with_number number unsent v) r
shows_numbered stands since given now wall v number unsent None k =
    record { next = k.next; place = k.place; stack = k.stack; last = k.last; past = k.past; live = k.live }
shows_numbered stands since given now wall v number unsent (Some r) k =
    record { next = k.next; place = k.place; stack = k.stack; last = k.last; past = k.past; live = k.live }

pub numbered : (n : Notes) (r : Option Reading) (relay : Option Relayed) (seen : List Seen) (kept : List Told)
    (f : Footing) (v : View) (number : ℕ) (unsent : Option Unsent) → IsView n r relay seen kept f v
    → IsView n r relay seen kept f (with_number number unsent v)
numbered n r relay seen kept f v number unsent k =
    record {
      at = k.at;
      read = k.read;
      served = k.served;
      stamped = k.stamped;
      chosen = k.chosen;
      awaits = k.awaits;
      differs = k.differs;
      back = k.back;
      said = k.said;
      before = k.before;
      copy = shows_numbered f.stands (since_in seen) (given_in seen) f.at f.wall v number unsent r k.copy;
      lit = k.lit;
      failed = k.failed;
      network = k.network;
      alarms = k.alarms;
    }
