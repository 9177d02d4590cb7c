-- What became of the last press, and why one was not sent, as JSON (RFC 8259).
use Rattle.std.specs.Prelude.{ℕ, List, codes, Option, None, Some}
use Rattle.serde_json.specs.Data.{Data, null, number, unsigned, string, object, member, no_members}
use Rattle.cue_view.specs.declared.view.Became.{Became}
use Rattle.cue_view.specs.declared.view.Became.TheVariants as became
use Rattle.cue_view.specs.declared.view.Said.{Said}
use Rattle.cue_view.specs.declared.view.Unsent.{Unsent}
use Rattle.cue_view.specs.declared.view.Unsent.TheVariants as unsent
use Rattle.cue_board.specs.Presses.{became_words, unsent_words}
use Rattle.cue_request.specs.Presses.{press_of}

-- whether it is open, said by the controller alone, done, or not
abbrev pub kind_of : Became → List ℕ
kind_of became.Open = codes "open"
kind_of became.Made = codes "made"
kind_of became.Known = codes "made"
kind_of became.Carried = codes "made"
kind_of became.Unshown = codes "said"
kind_of became.Over = codes "over"
kind_of _ = codes "refused"

-- a press that was sent: by which ask, what it was, and what became of it
abbrev pub press_data : ℕ → Said → Data
press_data port s =
    object (member (codes "ask") (number (unsigned s.ask))
    (member (codes "kind") (string (kind_of s.became))
    (member (codes "press") (string (press_of s.button))
    (member (codes "words") (string (became_words port s.became)) no_members))))

abbrev pub said_data : ℕ → Option Said → Data
said_data port None = null
said_data port (Some s) = press_data port s

-- whether the press was refused, or was one press with the GO before it
abbrev pub unsent_kind : Unsent → List ℕ
unsent_kind unsent.Again = codes "again"
unsent_kind _ = codes "refused"

abbrev pub unsent_data : Option Unsent → Data
unsent_data None = null
unsent_data (Some u) =
    object (member (codes "kind") (string (unsent_kind u))
    (member (codes "words") (string (unsent_words u)) no_members))
