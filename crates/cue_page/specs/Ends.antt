-- How attempts ended, as JSON (RFC 8259).
use Rattle.std.specs.Prelude.{ℕ, List, [], map, codes, Option, None, Some}
use Rattle.serde_json.specs.Data.{Data, null, number, unsigned, string, array, object, member, no_members}
use Rattle.serde_json.specs.View.{items_of}
use Rattle.cue_exchange.specs.declared.attempt.Reason.{Reason}
use Rattle.cue_view.specs.declared.view.Told.{Told}
use Rattle.cue_words.specs.Answered.{outcome_words, reason_words}

abbrev pub number_data : ℕ → Data
number_data n = number (unsigned n)

-- its cue; null if nobody knows it any more
abbrev pub cue_data : Option (List ℕ) → Data
cue_data None = null
cue_data (Some c) = string c

-- why it was given up; empty if it was not
abbrev pub why : Option Reason → List ℕ
why None = []
why (Some reason) = reason_words reason

-- its number and cue, how it ended and why, and which devices failed and were excused
abbrev pub told_data : Told → Data
told_data t =
    object (member (codes "attempt") (number (unsigned t.seq))
    (member (codes "cue") (cue_data t.cue)
    (member (codes "excused") (array (items_of (map number_data t.excused)))
    (member (codes "failed") (array (items_of (map number_data t.failed)))
    (member (codes "outcome") (string (outcome_words t.outcome))
    (member (codes "reason") (string (why t.reason)) no_members))))))

abbrev pub told_or_null : Option Told → Data
told_or_null None = null
told_or_null (Some t) = told_data t
