-- Reading a line of the log: what it could say is found first, and taken only if that is written by the same bytes.
use Rattle.std.specs.Prelude.{ℕ, Bool, true, false, ◌==◌, if◌then◌else◌, List, [], ◌∷◌, codes, Option, Some, None, nat_eq, find, length}
use Rattle.std.specs.Char.{is_ascii_digit}
use Rattle.std.specs.List.{starts_with}
use Rattle.std.specs.Cmp.Lexicographic.{pointwise}
use Rattle.cue_exchange.specs.declared.attempt.Outcome.{Outcome}
use Rattle.cue_exchange.specs.declared.attempt.Outcome.TheVariants as outcome
use Rattle.cue_exchange.specs.declared.attempt.Reason.{Reason}
use Rattle.cue_exchange.specs.declared.attempt.Reason.TheVariants as reason
use Rattle.cue_words.specs.Answered.{outcome_words, reason_words}
use Rattle.cue_log_lines.specs.declared.line.Asked.{Asked}
use Rattle.cue_log_lines.specs.declared.line.Count.{Count}
use Rattle.cue_log_lines.specs.declared.line.Ended.{Ended}
use Rattle.cue_log_lines.specs.declared.line.Line.{Line}
use Rattle.cue_log_lines.specs.declared.line.Line.TheVariants as line
use Rattle.cue_log_lines.specs.declared.line.OrderKind.{OrderKind}
use Rattle.cue_log_lines.specs.declared.line.OrderKind.TheVariants as order
use Rattle.cue_log_lines.specs.declared.line.Refused.{Refused}
use Rattle.cue_log_lines.specs.declared.line.Refused.TheVariants as refused
use Rattle.cue_log_lines.specs.declared.line.Span.{Span}
use Rattle.cue_log_lines.specs.declared.line.Try.{Try}
use Rattle.cue_log_lines.specs.declared.line.Why.{Why}
use Rattle.cue_log_lines.specs.declared.line.Why.TheVariants as why
use Rattle.cue_log_lines.specs.Lines.{write}
use Rattle.cue_log_lines.specs.Pieces.{◌>>=◌, if_found, after, before, below, cue_at, cut_last, device_at, number_at}

-- ---- pieces of more than one word

-- a time, and what follows it
unfoldable pub span_at : List ℕ → Option (Span × List ℕ)
span_at text =
    after (codes ".") (number_at text).1
    >>= λ rest. Some (record { seconds = (number_at text).0; tenths = (number_at rest).0 }, (number_at rest).1)

-- an attempt with this number, and its cue if one follows
abbrev pub try_with : ℕ → List ℕ → Option (Try × List ℕ)
try_with number text =
    if_found (after (codes " cue ") text)
    (λ rest. cue_at rest >>= λ cue. Some (record { number = number; cue = Some cue.0 }, cue.1))
    (Some (record { number = number; cue = None }, text))

-- an attempt, and what follows it
unfoldable pub try_at : List ℕ → Option (Try × List ℕ)
try_at text =
    after (codes "attempt ") text >>= λ rest. below 4294967296 (number_at rest).0 >>= λ n. try_with n (number_at rest).1

-- ---- attempts

-- an order of an attempt, after the word `device`
unfoldable pub order_at : OrderKind → Try → List ℕ → Option Line
order_at kind t text =
    device_at text >>= λ device. after (codes " at ") device.1 >>= λ rest. below 65536 (number_at rest).0
    >>= λ port. Some (line.Ordered (record {
      kind = kind;
      attempt = t;
      device = device.0;
      port = port;
      is_sent = nat_eq (length (number_at rest).1) 0;
    }))

-- an attempt that hangs on one device
unfoldable pub alone_at : Try → List ℕ → Option Line
alone_at t text =
    after (codes ": device ") text >>= λ rest. device_at rest >>= λ device. Some (line.Alone t device.0)

-- a STANDBY
unfoldable pub standby_at : List ℕ → Option Line
standby_at text =
    try_at text >>= λ t. if_found (after (codes " device ") t.1) (order_at order.Standby t.0) (alone_at t.0 t.1)

-- a GO
unfoldable pub go_at : List ℕ → Option Line
go_at text = try_at text >>= λ t. after (codes " device ") t.1 >>= order_at order.Go t.0

-- each reason for which a preparation is given up
abbrev pub reasons : List Reason
reasons = reason.Operator ∷ reason.Deadline ∷ reason.Abort ∷ reason.Power ∷ reason.Release ∷ []

-- the reason in these words
abbrev pub reason_at : List ℕ → Option Why
reason_at text = find (λ r. pointwise nat_eq text (reason_words r)) reasons >>= λ r. Some (why.Said r)

-- a device that gave it up, by what follows its number
abbrev pub device_why : ℕ → List ℕ → Why
device_why device text = if_found (after (codes " aborted") text) (λ rest. why.Aborted device) (why.Released device)

-- why a preparation was given up
unfoldable pub why_at : List ℕ → Option Why
why_at text =
    if_found (after (codes "device ") text) (λ rest. device_at rest >>= λ d. Some (device_why d.0 d.1)) (reason_at text)

-- an attempt that is given up
unfoldable pub given_up_at : Try → List ℕ → Option Line
given_up_at t text = after (codes ": ") text >>= λ rest. why_at rest >>= λ w. Some (line.GivenUp t w)

-- a CANCEL
unfoldable pub cancel_at : List ℕ → Option Line
cancel_at text =
    try_at text >>= λ t. if_found (after (codes " device ") t.1) (order_at order.Cancel t.0) (given_up_at t.0 t.1)

-- how an attempt can end
abbrev pub outcomes : List Outcome
outcomes = outcome.Complete ∷ outcome.Cancelled ∷ outcome.Failed ∷ []

-- how an attempt ended, and what follows that
unfoldable pub outcome_at : List ℕ → Option (Outcome × List ℕ)
outcome_at text =
    find (λ o. starts_with nat_eq text (outcome_words o)) outcomes
    >>= λ o. after (outcome_words o) text >>= λ rest. Some (o, rest)

-- how it ended, by what stands before the last comma and after it
unfoldable pub ending_of : Try → List ℕ × List ℕ → Option Line
ending_of t cut =
    outcome_at cut.0 >>= λ o. after (codes " ") cut.1 >>= λ rest. span_at rest
    >>= λ span. Some (line.Ended (record { attempt = t; outcome = o.0; failures = o.1; span = span.0 }))

-- an END
unfoldable pub end_at : List ℕ → Option Line
end_at text = try_at text >>= λ t. after (codes ": ") t.1 >>= λ rest. cut_last 44 rest >>= ending_of t.0

-- ---- replies

-- what follows the words for one time or for more
abbrev pub after_times : List ℕ → Option (List ℕ)
after_times text = if_found (after (codes " times more in ") text) Some (after (codes " time more in ") text)

-- for how many a line stands, after a comma
unfoldable pub count_in : List ℕ → Option Count
count_in text =
    after (codes " ") text >>= λ rest. after_times (number_at rest).1 >>= λ time. span_at time >>= λ span. if pointwise nat_eq span.1 (codes " s")
    then Some (record { times = (number_at rest).0; span = span.0 }) else None

-- a line, and for how many it stands if it says so at its end
unfoldable pub count_at : List ℕ → Option (List ℕ × Count)
count_at text = cut_last 44 text >>= λ cut. count_in cut.1 >>= λ c. Some (cut.0, c)

-- commands that were refused, with the code of the first
unfoldable pub refusals_at : List ℕ → Option Refused
refusals_at text =
    below 65536 (number_at text).0 >>= λ n. if n == 0 then Some refused.Nothing
    else after (codes ", code ") (number_at text).1 >>= λ rest. below 65536 (number_at rest).0
    >>= λ code. Some (refused.Some n code)

-- others to which it did not apply
unfoldable pub aside_at : List ℕ → Option Refused
aside_at text =
    after (codes ", ") text >>= λ rest. below 65536 (number_at rest).0 >>= λ n. Some (refused.Aside n)

-- what was made nothing of
unfoldable pub refused_at : List ℕ → Option Refused
refused_at text = if_found (after (codes " refused ") text) refusals_at (aside_at text)

-- how many commands were made, how many were known, and what was made nothing of
unfoldable pub counts_at : List ℕ → Option (ℕ × ℕ × Refused)
counts_at text =
    below 65536 (number_at text).0 >>= λ made. after (codes " known ") (number_at text).1
    >>= λ rest. below 65536 (number_at rest).0 >>= λ known. refused_at (number_at rest).1
    >>= λ refused. Some (made, known, refused)

-- the pieces of a reply that something is added to, by what stands before the last colon and after it
unfoldable pub longer_at : List ℕ → List ℕ → Option (List ℕ × List ℕ × List ℕ)
longer_at front tail =
    cut_last 58 front >>= λ cut. after (codes " ") tail >>= λ more. after (codes " made ") cut.1
    >>= λ counts. Some (cut.0, counts, more)

-- the address, the counts, and what is added: what stands round the last colons
unfoldable pub body_at : List ℕ → Option (List ℕ × List ℕ × List ℕ)
body_at text =
    cut_last 58 text >>= λ last.
    if_found (after (codes " made ") last.1) (λ counts. Some (last.0, counts, [])) (longer_at last.0 last.1)

-- a reply without the words that it was not sent, and whether it has none
unfoldable pub sent_at : List ℕ → List ℕ × Bool
sent_at text = if_found (before (codes ", the reply was not sent") text) (λ body. (body, false)) (text, true)

-- a reply of this port, after the word `asked`
unfoldable pub asked_of : ℕ → List ℕ → Option Asked
asked_of port text =
    body_at (sent_at text).0 >>= λ body. counts_at body.1 >>= λ counts. Some (record {
      port = port;
      address = body.0;
      made = counts.0;
      known = counts.1;
      refused = counts.2;
      more = body.2;
      is_sent = (sent_at text).1;
    })

-- a reply
unfoldable pub asked_at : List ℕ → Option Asked
asked_at text =
    below 65536 (number_at text).0 >>= λ port. after (codes " asked ") (number_at text).1 >>= asked_of port

-- a reply, and for how many it stands
unfoldable pub replied_at : List ℕ → Option Line
replied_at text =
    if_found (count_at text) (λ counted. asked_at counted.0 >>= λ a. Some (line.Replied a (Some counted.1)))
    (asked_at text >>= λ a. Some (line.Replied a None))

-- ---- other lines

-- a start, after the word `ready`
unfoldable pub ready_at : List ℕ → Option Line
ready_at text =
    cut_last 58 text >>= λ cut. before (codes " at 127.0.0.1") cut.0 >>= λ dir. below 65536 (number_at cut.1).0
    >>= λ port. Some (line.Ready dir port)

-- what `cuectl` says of itself
unfoldable pub own_at : List ℕ → Option Line
own_at text =
    if_found (after (codes "ready, ") text) ready_at
    (if pointwise nat_eq text (codes "stopped") then Some line.Stopped else Some (line.Own text))

-- a time in which nothing was taken
abbrev pub held_at : List ℕ → Option Line
held_at text = span_at text >>= λ span. Some (line.HeldUp span.0)

-- refusals of several kinds
abbrev pub kinds_at : List ℕ → Option Line
kinds_at text = count_at text >>= λ counted. Some (line.Kinds counted.1)

-- a line that is neither a reply nor of an attempt
unfoldable pub said_at : List ℕ → Option Line
said_at text =
    if_found (after (codes "cuectl: ") text) own_at
    (if_found (after (codes "recovered: ") text) (λ list. Some (line.Recovered list))
    (if_found (after (codes "held up for ") text) held_at
    (if_found (after (codes "refused: of several kinds") text) kinds_at None)))

-- a line that is no reply
unfoldable pub other_at : List ℕ → Option Line
other_at text =
    if_found (after (codes "STANDBY ") text) standby_at
    (if_found (after (codes "GO ") text) go_at
    (if_found (after (codes "CANCEL ") text) cancel_at
    (if_found (after (codes "END ") text) end_at (said_at text))))

-- the text begins with a digit
abbrev pub begins_with_digit : List ℕ → Bool
begins_with_digit [] = false
begins_with_digit (b ∷ bs) = is_ascii_digit b

-- what a text could say
unfoldable pub guess : List ℕ → Option Line
guess text = if begins_with_digit text then replied_at text else other_at text

-- what a line of the log says; none if no line is written so
unfoldable pub read : List ℕ → Option Line
read text = guess text >>= λ l. if pointwise nat_eq (write l) text then Some l else None
