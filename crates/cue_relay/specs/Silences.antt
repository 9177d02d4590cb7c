-- Who is silent and who may still move, over all that a device was sent and has answered.
use Rattle.std.specs.Prelude.{◌≡◌, ◌≢◌, ℕ, Bool, true, false, not, List, [], ◌∷◌, ◌++◌, Some, None}
use Rattle.std.specs.List.{list_all}
use Rattle.cue_relay.specs.declared.hearing.Contact.{Contact}
use Rattle.cue_relay.specs.declared.hearing.Pending.{Pending}
use Rattle.cue_relay.specs.declared.messages.Message.{Message}
use Rattle.cue_relay.specs.declared.messages.Message.TheVariants as says
use Rattle.cue_relay.specs.declared.status.Ordered.TheVariants.{Go}
use Rattle.cue_device.specs.declared.words.Answer.{Answer}
use Rattle.cue_relay.specs.declared.motion.Motion.TheVariants.{Unknown, Moving}
use Rattle.cue_device.specs.Hearing.{answered_for}
use Rattle.cue_relay.specs.Hearing.{after_message, after_time, is_going}
use Rattle.cue_relay.specs.Motions.{ends_motion, is_go, is_over}

-- what a relay sees of a device: something that went on, to it or from it, or that it is this time
pub data Sight : Type 0 where
  went : Message → (now : ℕ) → Sight
  passed : (now : ℕ) → Sight

abbrev pub after_sight : Contact → Sight → Contact
after_sight c (went m now) = after_message c m now
after_sight c (passed now) = after_time c now

-- a device that was never heard, and that was sent nothing
abbrev pub never : Contact
never = record { heard = None; pending = None; motion = Unknown; silent = false }

-- what is known of a device after all that was seen of it, the last first
abbrev pub known_after : List Sight → Contact
known_after [] = never
known_after (s ∷ before) = after_sight (known_after before) s

-- neither an order nor an answer: a reply of the controller, or time
abbrev pub is_quiet : Sight → Bool
is_quiet (went (says.Order order seq) now) = false
is_quiet (went says.Reply now) = true
is_quiet (went (says.Answer a) now) = false
is_quiet (passed now) = true

-- who is silent has not answered an order, and that is not a go
abbrev pub SilentIsAsked : Type 0
SilentIsAsked =
    (seen : List Sight) → (known_after seen).silent ≡ true
    → (p : Pending) × ((known_after seen).pending ≡ Some p) × (p.order ≢ Go)

-- who has answered all that it was ordered never falls silent, whatever replies the controller sends and however much
-- time passes
abbrev pub AtRestIsNotSilent : Type 0
AtRestIsNotSilent =
    (before more : List Sight) → (known_after before).pending ≡ None → list_all is_quiet more ≡ true
    → (known_after (more ++ before)).silent ≡ false

-- it tells nothing of the end of a motion in the attempt m: no other GO came, and no answer that may show its end
abbrev pub leaves_motion : ℕ → Sight → Bool
leaves_motion m (went (says.Order order seq) now) = not (is_go order)
leaves_motion m (went says.Reply now) = true
leaves_motion m (went (says.Answer a) now) = not (ends_motion true m a)
leaves_motion m (passed now) = true

-- who was sent a GO of a motion that is not known to be over may still move until an answer shows that it is, whatever
-- else the device is sent or answers, and however much time passes
abbrev pub MovesUntilItAnswers : Type 0
MovesUntilItAnswers =
    (before more : List Sight) (m now : ℕ) → is_over (known_after before).motion m ≡ false
    → list_all (leaves_motion m) more ≡ true
    → (known_after (more ++ went (says.Order Go m) now ∷ before)).motion ≡ Moving m

-- and no longer
abbrev pub IsOverOnceItAnswered : Type 0
IsOverOnceItAnswered =
    (before : List Sight) (m now : ℕ) (a : Answer) → (known_after before).motion ≡ Moving m
    → ends_motion (is_going (known_after before).pending (answered_for a)) m a ≡ true
    → is_over (known_after (went (says.Answer a) now ∷ before)).motion m ≡ true
