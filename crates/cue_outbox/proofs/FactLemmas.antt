-- What the rules of a state say of the numbers that are sent.
use Rattle.std.proofs.Common.{ℕ, ◌≤◌, List, length, nat_le, IsTrue, Option, None, Some, arith}
use Rattle.std.proofs.lemmas.Bool.{and_parts, leb-true}
use Rattle.cue_exchange.specs.declared.attempt.Attempt.{Attempt}
use Rattle.cue_exchange.specs.declared.limits.TheConstants.{MAX_NUMBER, MAX_LIVE}
use Rattle.cue_exchange.specs.Live.{is_number, are_live}
use Rattle.cue_exchange.proofs.LiveLemmas.{room_of}
use Rattle.cue_core.specs.declared.event.Ended.{Ended}
use Rattle.cue_core.specs.State.{ShowState, is_state, is_ended}
use Rattle.cue_core.proofs.rules.RuleLemmas.{rules_of}
use Rattle.cue_outbox.specs.Sending.{ended_number}

number_fits : (q : ℕ) → IsTrue (is_number q) → q ≤ MAX_NUMBER
number_fits q h = leb-true q MAX_NUMBER (and_parts (nat_le 1 q) (nat_le q MAX_NUMBER) h).1

-- the last number that was drawn is one
pub last_fits : (s : ShowState) → IsTrue (is_state s) → s.last_seq ≤ MAX_NUMBER
last_fits s h = leb-true s.last_seq MAX_NUMBER (rules_of s h).last

-- few attempts are live
pub live_fits : (live : List Attempt) → IsTrue (are_live live) → length live ≤ MAX_LIVE
live_fits live h = leb-true (length live) MAX_LIVE (room_of live h)

ended_is_number : (live : List Attempt) (last : ℕ) (e : Option Ended) → IsTrue (is_ended live last e)
    → ended_number e ≤ MAX_NUMBER
ended_is_number live last None h = omega arith
ended_is_number live last (Some e) h = number_fits e.seq (and_parts (is_number e.seq) _ h).0

-- the attempt that ended last has a number
pub ended_fits : (s : ShowState) → IsTrue (is_state s) → ended_number s.ended ≤ MAX_NUMBER
ended_fits s h = ended_is_number s.live s.last_seq s.ended (rules_of s h).ended
