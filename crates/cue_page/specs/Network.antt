-- When each device of a relay was heard, as JSON (RFC 8259).
use Rattle.std.specs.Prelude.{ℕ, List, codes, Option, None, Some}
use Rattle.serde_json.specs.Data.{Data, null, boolean, number, unsigned, string, object, member, no_members}
use Rattle.serde_json.specs.Find.{of_integer}
use Rattle.cue_relay.specs.declared.claims.Claims.{Claims}
use Rattle.cue_relay.specs.declared.claims.Position.{Position}
use Rattle.cue_relay.specs.declared.claims.Reason.{Reason}
use Rattle.cue_relay.specs.declared.motion.Motion.{Motion}
use Rattle.cue_relay.specs.declared.motion.Motion.TheVariants as motion
use Rattle.cue_view.specs.declared.view.Contacted.{Contacted}
use Rattle.cue_board.specs.Claims.{plain}
use Rattle.cue_board.specs.Network.{contact_words}

-- the attempt in which it moves, as far as the relay knows; null if it knows of none
abbrev pub moving_data : Motion → Data
moving_data (motion.Moving seq) = number (unsigned seq)
moving_data _ = null

-- the attempt up to which its motions are over; null if the relay does not know
abbrev pub over_data : Motion → Data
over_data (motion.Over seq) = number (unsigned seq)
over_data _ = null

-- who made it, as it says; null if it does not
abbrev pub identity_data : Option (List ℕ) → Data
identity_data None = null
identity_data (Some words) = string (plain words)

-- where it is, and where it goes, as it says; null if it does not
abbrev pub position_data : Option Position → Data
position_data None = null
position_data (Some p) =
    object (member (codes "at") (number (of_integer p.at))
    (member (codes "goal") (number (of_integer p.goal))
    (member (codes "unit") (string (plain p.unit)) no_members)))

-- why it aborted which attempt, as it says; null if it does not
abbrev pub reason_data : Option Reason → Data
reason_data None = null
reason_data (Some r) =
    object (member (codes "attempt") (number (unsigned r.seq))
    (member (codes "words") (string (plain r.words)) no_members))

-- what it told of itself
unfoldable pub claims_data : Claims → Data
claims_data c =
    object (member (codes "identity") (identity_data c.identity)
    (member (codes "position") (position_data c.position)
    (member (codes "reason") (reason_data c.reason) no_members)))

-- what it told of itself, its number, when it was heard, in words, what is known of its motions, and whether it is silent
abbrev pub contact_data : Contacted → Data
contact_data c =
    object (member (codes "claims") (claims_data c.claims)
    (member (codes "device") (number (unsigned c.device))
    (member (codes "heard") (string (contact_words c))
    (member (codes "moving") (moving_data c.motion)
    (member (codes "over") (over_data c.motion)
    (member (codes "silent") (boolean c.silent) no_members))))))
