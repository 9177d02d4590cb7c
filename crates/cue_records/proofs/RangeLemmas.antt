-- What the rules of a state say of its lists.
use Rattle.std.proofs.Common.{◌≤◌, List, length, IsTrue}
use Rattle.std.proofs.lemmas.Bool.{leb-true}
use Rattle.cue_exchange.specs.declared.attempt.Attempt.{Attempt}
use Rattle.cue_exchange.specs.declared.limits.TheConstants.{MAX_LIVE}
use Rattle.cue_exchange.specs.Live.{are_live}
use Rattle.cue_exchange.proofs.LiveLemmas.{room_of}

-- few attempts are live
pub live_short : (live : List Attempt) → IsTrue (are_live live) → length live ≤ MAX_LIVE
live_short live h = leb-true (length live) MAX_LIVE (room_of live h)
