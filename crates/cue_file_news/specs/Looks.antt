-- When a show file is read again.
use Rattle.std.specs.Prelude.{◌≡◌, Bool, false, Option, None, Some}
use Rattle.cue_desk.specs.Readings.{IsSettled}
use Rattle.cue_desk.specs.declared.stamps.Stamp.{Stamp}
use Rattle.cue_file_news.specs.declared.looking.Look.{Look}
use Rattle.cue_file_news.specs.declared.looking.Look.TheVariants as look
use Rattle.cue_file_news.specs.declared.looking.Reading.{Reading}

-- the reading is what the file holds: it had this stamp then, and had rested, so that each change since would show
abbrev pub Holds : Option Reading → Stamp → Type 0
Holds None stamp = ⊥
Holds (Some r) stamp = (r.stamp ≡ stamp) × IsSettled stamp r.begun

-- A file with this stamp is to be read: the look before found it so, too, and what was read last need not be what it
-- holds.
pub record IsToRead (last : Option Look) (read : Option Reading) (stamp : Stamp) : Type 0 where
  pub agrees : last ≡ Some (look.There stamp)
  pub unread : Holds read stamp → ⊥

-- A look that found this asks to read the file with this stamp: only while nothing is live.
pub record IsAskedBy (last : Option Look) (read : Option Reading) (found : Look) (live : Bool) (stamp : Stamp)
    : Type 0 where
  pub there : found ≡ look.There stamp
  pub idle : live ≡ false
  pub to_read : IsToRead last read stamp
