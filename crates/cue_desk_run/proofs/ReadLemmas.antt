-- What is kept of the files of a store.
use Rattle.std.proofs.Common.{◌≡◌, ℕ, Option}
use Rattle.cue_desk.specs.declared.stamps.Stamps.{Stamps}
use Rattle.cue_station.specs.declared.heard.Heard.{Heard}
use Rattle.cue_station.specs.declared.heard.Heard.TheVariants as heard
use Rattle.cue_desk_run.specs.Readings.{IsReadAgain, seen_by}

-- of what could not be read nothing is kept
pub read_again : (h : Heard) (wall : ℕ) (stamps : Option Stamps) (seen : Option (ℕ × Stamps))
    → seen ≡ seen_by h wall stamps → IsReadAgain h seen
read_again (heard.Copied c) wall stamps seen e = tt
read_again (heard.Same at) wall stamps seen e = tt
read_again (heard.Unread why) wall stamps seen e = e
read_again (heard.Replied n r) wall stamps seen e = tt
read_again (heard.Nobody n) wall stamps seen e = tt
read_again (heard.Pressed view b) wall stamps seen e = tt
read_again (heard.Relay status) wall stamps seen e = tt
read_again (heard.Kept kept) wall stamps seen e = tt
read_again heard.Tick wall stamps seen e = tt
