-- The live attempts as JSON (RFC 8259).
use Rattle.std.specs.Prelude.{ℕ, List, [], ◌-◌, map, codes, Option, None, Some}
use Rattle.serde_json.specs.Data.{Data, null, boolean, number, unsigned, string, array, object, member, no_members}
use Rattle.serde_json.specs.View.{items_of}
use Rattle.cue_exchange.specs.declared.attempt.DeviceAnswer.{DeviceAnswer}
use Rattle.cue_view.specs.Sight.{is_in_sight}
use Rattle.cue_view.specs.declared.view.LiveAttempt.{LiveAttempt}
use Rattle.cue_view.specs.declared.view.View.{View}
use Rattle.cue_words.specs.Answered.{answer_words, reason_words}
use Rattle.cue_board.specs.Progress.{progress_of, word_of}
use Rattle.cue_board.specs.declared.progress.Progress.{Progress}
use Rattle.cue_board.specs.declared.progress.Progress.TheVariants as progress

-- a device: what the state says that it has answered, its number, and whether it is optional
abbrev pub device_data : DeviceAnswer → Data
device_data a =
    object (member (codes "answer") (string (answer_words a.answer))
    (member (codes "device") (number (unsigned a.device))
    (member (codes "optional") (boolean a.optional) no_members)))

-- why it was given up; empty if it was not
abbrev pub why : Progress → List ℕ
why (progress.GivenUp reason) = reason_words reason
why _ = []

-- for how long it is seen to be given
abbrev pub given_data : ℕ → Option ℕ → Data
given_data at None = null
given_data at (Some given) = number (unsigned (at - given))

-- an attempt: its number and cue, how far it has come, what is left of its ten seconds, and each of its devices
abbrev pub attempt_data : View → LiveAttempt → Data
attempt_data v a =
    object (member (codes "attempt") (number (unsigned a.seq))
    (member (codes "cue") (string a.cue)
    (member (codes "devices") (array (items_of (map device_data a.devices)))
    (member (codes "given") (given_data v.at a.given)
    (member (codes "left") (number (unsigned a.left))
    (member (codes "ready") (boolean a.ready)
    (member (codes "reason") (string (why (progress_of (is_in_sight v) a)))
    (member (codes "stage") (string (word_of (progress_of (is_in_sight v) a))) no_members))))))))
