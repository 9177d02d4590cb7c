-- The bytes of an answer.
use Rattle.std.specs.Prelude.{ℕ, List, ◌++◌, length, codes}
use Rattle.std.specs.Fmt.{decimal}
use Rattle.cue_request.specs.declared.answering.Kind.{Kind}
use Rattle.cue_request.specs.declared.answering.Kind.TheVariants as kind
use Rattle.cue_request.specs.declared.answering.Outcome.{Outcome}
use Rattle.cue_request.specs.declared.answering.Outcome.TheVariants as outcome
use Rattle.cue_request.specs.declared.request.Refusal.{Refusal}
use Rattle.cue_request.specs.declared.request.Refusal.TheVariants as refusal

-- the status and its reason, as RFC 9110 has them; 423 is of RFC 4918, 429 of RFC 6585
abbrev pub status_of : Outcome → List ℕ
status_of outcome.Done = codes "200 OK"
status_of (outcome.Refused refusal.Unreadable) = codes "400 Bad Request"
status_of (outcome.Refused refusal.Foreign) = codes "403 Forbidden"
status_of (outcome.Refused refusal.Unknown) = codes "404 Not Found"
status_of (outcome.Refused refusal.Method) = codes "405 Method Not Allowed"
status_of (outcome.Refused refusal.Late) = codes "408 Request Timeout"
status_of (outcome.Refused refusal.LongBody) = codes "413 Content Too Large"
status_of (outcome.Refused refusal.OnlyShows) = codes "403 Forbidden"
status_of (outcome.Refused refusal.NoWord) = codes "423 Locked"
status_of (outcome.Refused refusal.WrongWord) = codes "423 Locked"
status_of (outcome.Refused refusal.Closed) = codes "429 Too Many Requests"
status_of (outcome.Refused refusal.LongHead) = codes "431 Request Header Fields Too Large"
status_of outcome.Unavailable = codes "503 Service Unavailable"

-- why a request is refused
abbrev pub refusal_words : Refusal → List ℕ
refusal_words refusal.Unreadable = codes "this is no request that the page reads"
refusal_words refusal.Foreign = codes "only the page itself may ask, on this machine"
refusal_words refusal.Unknown = codes "there is nothing here"
refusal_words refusal.Method = codes "this cannot be asked so"
refusal_words refusal.Late = codes "the request did not come whole within a second"
refusal_words refusal.LongBody = codes "the body is longer than 256 bytes"
refusal_words refusal.LongHead = codes "the head is longer than 8192 bytes"
refusal_words refusal.OnlyShows = codes "this page only shows"
refusal_words refusal.NoWord = codes "the show is locked: a move of the place and a release need its word"
refusal_words refusal.WrongWord = codes "the show is locked: this is not its word"
refusal_words refusal.Closed =
    codes "the show is locked: five wrong words came within a minute; for ten seconds no word is taken"

-- the type of a body
abbrev pub type_of : Kind → List ℕ
type_of kind.Page = codes "text/html; charset=utf-8"
type_of kind.Json = codes "application/json"
type_of kind.Text = codes "text/plain; charset=utf-8"

-- what each answer says of itself: its connection ends with it, nothing keeps a copy, it is what its type says, and no
-- other page shows it in a frame
abbrev pub guard_fields : List ℕ
guard_fields =
    codes "\r\nConnection: close\r\nCache-Control: no-store\r\nX-Content-Type-Options: nosniff\r\nX-Frame-Options: DENY"

-- a status, a type, what the body may do in a browser, and the body
abbrev pub answer_of : List ℕ → List ℕ → List ℕ → List ℕ → List ℕ
answer_of status type policy body =
    codes "HTTP/1.1 " ++ (status ++ (codes "\r\nContent-Type: " ++ (type
    ++ (codes "\r\nContent-Length: " ++ (decimal (length body) ++ (guard_fields
    ++ (codes "\r\nContent-Security-Policy: " ++ (policy ++ (codes "\r\n\r\n" ++ body)))))))))
