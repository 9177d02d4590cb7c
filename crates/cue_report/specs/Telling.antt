-- What the report says, in words.
use Rattle.std.specs.Prelude.{◌≡◌, ◌==◌, ◌++◌, ℕ, Bool, true, false, if◌then◌else◌, List, [], codes, decimal, length, Option, Some, None}
use Rattle.std.specs.Prelude.{⊤, IsTrue, nat_eq}
use Rattle.cue_exchange.specs.Outcomes.{outcome_number}
use Rattle.cue_exchange.specs.declared.attempt.Outcome.{Outcome}
use Rattle.cue_log_lines.specs.declared.line.Count.{Count}
use Rattle.cue_log_lines.specs.declared.line.Span.{Span}
use Rattle.cue_words.specs.Answered.{outcome_words}
use Rattle.cue_report.specs.Following.{span}
use Rattle.cue_report.specs.declared.attempt.Ended.{Ended}
use Rattle.cue_report.specs.declared.attempt.Who.{Who}
use Rattle.cue_report.specs.declared.attempt.Who.TheVariants as who
use Rattle.cue_report.specs.declared.course.Course.{Course}
use Rattle.cue_report.specs.declared.evening.counting.Totals.{Totals}
use Rattle.cue_report.specs.declared.course.Fate.{Fate}
use Rattle.cue_report.specs.declared.course.Fate.TheVariants as fate

-- how it ended, by the line of its end; if the log has none, that and nothing else
abbrev pub ending_words : Option Ended → List ℕ
ending_words None = codes "no end in this log"
ending_words (Some ended) = outcome_words ended.outcome

-- it ended so; of no outcome, the log does not have its end
abbrev pub ends_so : Option Outcome → Option Ended → Bool
ends_so None None = true
ends_so None (Some ended) = false
ends_so (Some outcome) None = false
ends_so (Some outcome) (Some ended) = nat_eq (outcome_number ended.outcome) (outcome_number outcome)

-- there is no text
abbrev pub is_none : List ℕ → Bool
is_none text = length text == 0

-- two pieces with a comma between them, or the one that is there
abbrev pub joined : List ℕ → List ℕ → List ℕ
joined text piece =
    if is_none text then piece else if is_none piece then text else text ++ (codes ", " ++ piece)

-- how often refusals were counted, and in which time
abbrev pub counted_words : List ℕ → Count → List ℕ
counted_words said count =
    said ++ (codes ", " ++ (decimal count.times ++ (codes " " ++ ((if count.times == 1 then codes "time" else codes "times") ++ (codes " more in " ++ (decimal count.span.seconds ++ (codes "." ++ (decimal count.span.tenths ++ codes " s"))))))))

-- what became of a device: it is excused if the cue was given without it
abbrev pub fate_words : Fate → Bool → List ℕ
fate_words fate.Well was_given = []
fate_words fate.AbortedEarly true = codes "excused: it aborted while it prepared"
fate_words fate.AbortedEarly false = codes "it aborted while it prepared"
fate_words fate.ReleasedEarly true = codes "excused: it was released while it prepared"
fate_words fate.ReleasedEarly false = codes "it was released while it prepared"
fate_words fate.Aborted was_given = codes "failed: it aborted after the go"
fate_words fate.Released was_given = codes "failed: it was released after the go"
fate_words fate.Failed was_given = codes "failed after the go"

-- what a device has not answered: GO if it was sent one, else its standby
abbrev pub unanswered_words : Option ℕ → Option ℕ → Option ℕ → List ℕ
unanswered_words (Some sent) (Some last) ready = []
unanswered_words (Some sent) None ready = codes "no answer to GO"
unanswered_words None last (Some ready) = []
unanswered_words None last None = codes "not ready"

-- what is missing, if nothing befell it
abbrev pub missing_after : Fate → List ℕ → List ℕ
missing_after fate.Well words = words
missing_after fate.AbortedEarly words = []
missing_after fate.ReleasedEarly words = []
missing_after fate.Aborted words = []
missing_after fate.Released words = []
missing_after fate.Failed words = []

-- what is missing of a device that nothing befell
abbrev pub missing_words : Course → List ℕ
missing_words c = missing_after c.fate (unanswered_words c.sent c.done c.ready)

-- what is said of a device beside its times: nothing, if it did all that it was ordered
abbrev pub remark_words : Course → Bool → List ℕ
remark_words c was_given =
    let said = fate_words c.fate was_given ++ missing_words c in
    if c.is_unsent then joined said (codes "an order to it was not sent") else said

-- how long something took, by the whole seconds of its two lines
abbrev pub took_words : List ℕ → Option ℕ → List ℕ
took_words what None = []
took_words what (Some seconds) =
    if seconds == 0 then what ++ codes " in less than 1 s" else what ++ (codes " in " ++ (decimal seconds ++ codes " s"))

-- what a device did in an attempt
abbrev pub course_words : Course → Bool → List ℕ
course_words c was_given =
    joined
    (joined (took_words (codes "prepared") (span c.asked c.ready)) (took_words (codes "moved") (span c.sent c.done)))
    (remark_words c was_given)

-- how many more there were than are kept
abbrev pub more_words : ℕ → List ℕ
more_words more = codes "and " ++ (decimal more ++ codes " more")

-- so many lines of a kind, if there is one
unfoldable pub some_words : ℕ → List ℕ → List ℕ
some_words count kind = if count == 0 then [] else codes ", " ++ (decimal count ++ (codes " " ++ kind))

-- so many attempts without an end, if there is one
unfoldable pub unended_words : ℕ → List ℕ
unended_words count = if count == 0 then [] else codes ", " ++ (decimal count ++ codes " without an end in this log")

-- how many attempts there were, and how many of them ended how
unfoldable pub totals_words : Totals → List ℕ
totals_words t =
    (decimal t.all ++ (codes " " ++ ((if t.all == 1 then codes "attempt" else codes "attempts") ++ (codes ": " ++ (decimal t.complete ++ (codes " complete, " ++ (decimal t.cancelled ++ (codes " cancelled, " ++ (decimal t.failed ++ codes " failed")))))))))
    ++ unended_words t.unended

-- how long something took that the log says to a tenth of a second
abbrev pub after_words : Option Span → List ℕ
after_words None = []
after_words (Some span) = decimal span.seconds ++ (codes "." ++ decimal span.tenths)

-- who asked: of a port its number, and nothing, if the log does not say
abbrev pub IsAsker : Who → List ℕ → Type 0
IsAsker (who.Device device) text = ⊤
IsAsker (who.Named name) text = ⊤
IsAsker (who.Port port) text = text ≡ codes "port " ++ decimal port
IsAsker who.Unseen text = text ≡ []

-- a text begins so; and if what it speaks of has no name, that is all
abbrev pub IsNamed : List ℕ → List ℕ → List ℕ → Type 0
IsNamed front name text = (rest : List ℕ) × (text ≡ front ++ rest) × (IsTrue (is_none name) → rest ≡ [])

-- something stands after a text, which stays as it was
abbrev pub Grows : List ℕ → List ℕ → Type 0
Grows text new = (more : List ℕ) × (new ≡ text ++ more)
