-- What the cells of the table say of an attempt.
use Rattle.std.specs.Prelude.{◌≡◌, ℕ, List, [], ⊤, IfNone, string_bytes}
use Rattle.cue_report.specs.Names.{name_of}
use Rattle.cue_report.specs.Telling.{after_words, ending_words}
use Rattle.cue_report.specs.declared.attempt.Attempt.{Attempt}
use Rattle.cue_report.specs.declared.columns.Column.{Column}
use Rattle.cue_report.specs.declared.columns.Column.TheVariants as column
use Rattle.cue_report.specs.declared.names.Names.{Names}

-- A cell says this of an attempt: its name as the file has it, how it ended, how long after its standby, and why it was
-- given up; of a time that the log does not have, and of who asked then, nothing. What else it says is not stated.
abbrev pub Says : Names → Attempt → Column → List ℕ → Type 0
Says names a column.Cue text = ⊤
Says names a column.Name text = text ≡ name_of names a.cue
Says names a column.Begun text = IfNone a.begun (text ≡ [])
Says names a column.BegunBy text = IfNone a.begun (text ≡ [])
Says names a column.Given text = IfNone a.given (text ≡ [])
Says names a column.GivenBy text = IfNone a.given (text ≡ [])
Says names a column.GivenUp text = IfNone a.given_up (text ≡ [])
Says names a column.GivenUpBy text = IfNone a.given_up (text ≡ [])
Says names a column.Ended text = IfNone a.ended (text ≡ [])
Says names a column.How text = text ≡ ending_words a.ended
Says names a column.After text = text ≡ after_words a.after
Says names a column.Why text = text ≡ string_bytes a.why
Says names a column.End text = ⊤
Says names a column.Devices text = ⊤
