-- The bytes of each line of the log, without its date.
use Rattle.std.specs.Prelude.{ℕ, Bool, true, false, ◌==◌, if◌then◌else◌, List, [], ◌∷◌, ◌++◌, codes, decimal, pos}
use Rattle.std.specs.Prelude.{Option, Some, None}
use Rattle.cue_exchange.specs.declared.attempt.Outcome.{Outcome}
use Rattle.cue_words.specs.Answered.{outcome_words, reason_words}
use Rattle.cue_words.specs.CodeWords.{number_words}
use Rattle.cue_log_lines.specs.declared.line.Asked.{Asked}
use Rattle.cue_log_lines.specs.declared.line.Count.{Count}
use Rattle.cue_log_lines.specs.declared.line.Ended.{Ended}
use Rattle.cue_log_lines.specs.declared.line.Line.{Line}
use Rattle.cue_log_lines.specs.declared.line.Line.TheVariants as line
use Rattle.cue_log_lines.specs.declared.line.OrderKind.{OrderKind}
use Rattle.cue_log_lines.specs.declared.line.OrderKind.TheVariants as order
use Rattle.cue_log_lines.specs.declared.line.Ordered.{Ordered}
use Rattle.cue_log_lines.specs.declared.line.Refused.{Refused}
use Rattle.cue_log_lines.specs.declared.line.Refused.TheVariants as refused
use Rattle.cue_log_lines.specs.declared.line.Span.{Span}
use Rattle.cue_log_lines.specs.declared.line.Try.{Try}
use Rattle.cue_log_lines.specs.declared.line.Why.{Why}
use Rattle.cue_log_lines.specs.declared.line.Why.TheVariants as why

-- a time, as `5.1 s`
unfoldable pub span_text : Span → List ℕ
span_text span = decimal span.seconds ++ (codes "." ++ (decimal span.tenths ++ codes " s"))

-- a cue, if there is one
abbrev pub cue_text : Option (List ℕ) → List ℕ
cue_text None = []
cue_text (Some cue) = codes " cue " ++ cue

-- an attempt, as `attempt 7 cue 12`
unfoldable pub try_text : Try → List ℕ
try_text t = codes "attempt " ++ (decimal t.number ++ cue_text t.cue)

-- the word for an order
abbrev pub order_words : OrderKind → List ℕ
order_words order.Standby = codes "STANDBY "
order_words order.Go = codes "GO "
order_words order.Cancel = codes "CANCEL "

-- what is added if it did not leave this machine
abbrev pub unsent_order : Bool → List ℕ
unsent_order true = []
unsent_order false = codes ", it was not sent"

-- where an order goes
abbrev pub to_text : Ordered → List ℕ
to_text o =
    codes " device " ++ (decimal o.device ++ (codes " at " ++ (decimal o.port ++ unsent_order o.is_sent)))

-- an order
unfoldable pub order_text : Ordered → List ℕ
order_text o = order_words o.kind ++ (try_text o.attempt ++ to_text o)

-- why a preparation was given up
abbrev pub why_text : Why → List ℕ
why_text (why.Aborted d) = codes "device " ++ (decimal d ++ codes " aborted")
why_text (why.Released d) = codes "device " ++ (decimal d ++ codes " was released")
why_text (why.Said reason) = reason_words reason

-- how long it was after the standby
unfoldable pub after_text : Span → List ℕ
after_text span = codes ", " ++ (span_text span ++ codes " after standby")

-- how an attempt ended, and when
unfoldable pub ending_text : Ended → List ℕ
ending_text e = outcome_words e.outcome ++ (e.failures ++ after_text e.span)

-- an attempt that has ended
unfoldable pub end_text : Ended → List ℕ
end_text e = codes "END " ++ (try_text e.attempt ++ (codes ": " ++ ending_text e))

-- others to which it did not apply
abbrev pub others_text : ℕ → List ℕ
others_text n = if n == 1 then codes " other did not apply" else codes " others did not apply"

-- what was made nothing of
abbrev pub refused_text : Refused → List ℕ
refused_text refused.Nothing = codes " refused 0"
refused_text (refused.Some n code) =
    codes " refused " ++ (decimal n ++ (codes ", code " ++ (decimal code ++ (codes ", " ++ number_words (pos code)))))
refused_text (refused.Aside n) = codes ", " ++ (decimal n ++ others_text n)

-- what is added, after a colon; nothing if it is empty
abbrev pub more_text : List ℕ → List ℕ
more_text [] = []
more_text (b ∷ bs) = codes ": " ++ b ∷ bs

-- what is added if the reply did not leave this machine
abbrev pub unsent_reply : Bool → List ℕ
unsent_reply true = []
unsent_reply false = codes ", the reply was not sent"

-- how many commands became what
unfoldable pub counts_text : Asked → List ℕ
counts_text a =
    codes ": made " ++ (decimal a.made ++ (codes " known " ++ (decimal a.known ++ refused_text a.refused)))

-- a reply, without who asked and whether it left
abbrev pub body_text : Asked → List ℕ
body_text a = a.address ++ (counts_text a ++ more_text a.more)

-- a reply
unfoldable pub asked_text : Asked → List ℕ
asked_text a = decimal a.port ++ (codes " asked " ++ (body_text a ++ unsent_reply a.is_sent))

-- one time or more
abbrev pub times_text : ℕ → List ℕ
times_text n = if n == 1 then codes " time more in " else codes " times more in "

-- for how many a line stands
unfoldable pub count_text : Count → List ℕ
count_text c = codes ", " ++ (decimal c.times ++ (times_text c.times ++ span_text c.span))

-- for how many it stands, if for more than itself
abbrev pub counted_text : Option Count → List ℕ
counted_text None = []
counted_text (Some c) = count_text c

-- where it listens
unfoldable pub home_text : ℕ → List ℕ
home_text port = codes " at 127.0.0.1:" ++ decimal port

-- the one device that is required
unfoldable pub alone_text : ℕ → List ℕ
alone_text device = codes ": device " ++ (decimal device ++ codes " alone is required")

-- the bytes of a line
unfoldable pub write : Line → List ℕ
write (line.Ready dir port) = codes "cuectl: ready, " ++ (dir ++ home_text port)
write line.Stopped = codes "cuectl: stopped"
write (line.Own said) = codes "cuectl: " ++ said
write (line.Recovered list) = codes "recovered: " ++ list
write (line.HeldUp span) = codes "held up for " ++ (span_text span ++ codes ": what came in that time waited")
write (line.Replied a count) = asked_text a ++ counted_text count
write (line.Kinds count) = codes "refused: of several kinds" ++ count_text count
write (line.Ordered o) = order_text o
write (line.Alone t device) = codes "STANDBY " ++ (try_text t ++ alone_text device)
write (line.GivenUp t reason) = codes "CANCEL " ++ (try_text t ++ (codes ": " ++ why_text reason))
write (line.Ended e) = end_text e
