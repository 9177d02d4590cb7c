-- What the report may tell of an attempt: what a line says of it, and nothing else.
use Rattle.std.specs.Prelude.{◌≡◌, ◌⊎◌, ℕ, List, [], ◌∷◌, codes, Option, Some, None, IfSome}
use Rattle.cue_exchange.specs.declared.attempt.Outcome.{Outcome}
use Rattle.cue_log_lines.specs.declared.line.Line.{Line}
use Rattle.cue_log_lines.specs.declared.line.Line.TheVariants as line
use Rattle.cue_log_lines.specs.declared.line.OrderKind.{OrderKind}
use Rattle.cue_log_lines.specs.declared.line.OrderKind.TheVariants as order
use Rattle.cue_log_lines.specs.declared.line.Try.{Try}
use Rattle.cue_log_lines.specs.declared.listed.Found.{Found}
use Rattle.cue_report.specs.Picture.{Heard, heard, nothing}
use Rattle.cue_report.specs.Seen.{Seen}
use Rattle.cue_report.specs.Telling.{ending_words}
use Rattle.cue_report.specs.declared.attempt.Ended.{Ended}
use Rattle.cue_report.specs.declared.attempt.Moment.{Moment}

-- it stands among the others
abbrev pub In : {A : Type 0} → A → List A → Type 0
In x [] = ⊥
In x (y ∷ ys) = (x ≡ y) ⊎ In x ys

-- the attempt that a start found has this number
abbrev pub FoundWith : ℕ → Option (Try × Found) → Type 0
FoundWith number None = ⊥
FoundWith number (Some f) = f.0.number ≡ number

-- a line names an attempt with this number
abbrev pub Names : ℕ → Option (Try × Found) → Line → Type 0
Names number found (line.Ready dir port) = ⊥
Names number found line.Stopped = ⊥
Names number found (line.Own said) = ⊥
Names number found (line.Recovered text) = FoundWith number found
Names number found (line.HeldUp span) = ⊥
Names number found (line.Replied asked count) = ⊥
Names number found (line.Kinds count) = ⊥
Names number found (line.Ordered o) = o.attempt.number ≡ number
Names number found (line.Alone t device) = t.number ≡ number
Names number found (line.GivenUp t why) = t.number ≡ number
Names number found (line.Ended e) = e.attempt.number ≡ number

-- a line is of an order of this kind to a device of the attempt
abbrev pub Orders : OrderKind → ℕ → Line → Type 0
Orders kind number (line.Ready dir port) = ⊥
Orders kind number line.Stopped = ⊥
Orders kind number (line.Own said) = ⊥
Orders kind number (line.Recovered text) = ⊥
Orders kind number (line.HeldUp span) = ⊥
Orders kind number (line.Replied asked count) = ⊥
Orders kind number (line.Kinds count) = ⊥
Orders kind number (line.Ordered o) = (o.attempt.number ≡ number) × (o.kind ≡ kind)
Orders kind number (line.Alone t device) = ⊥
Orders kind number (line.GivenUp t why) = ⊥
Orders kind number (line.Ended e) = ⊥

-- a line says that the attempt is given up, or was lost with the power
abbrev pub GivesUp : ℕ → Option (Try × Found) → Line → Type 0
GivesUp number found (line.Ready dir port) = ⊥
GivesUp number found line.Stopped = ⊥
GivesUp number found (line.Own said) = ⊥
GivesUp number found (line.Recovered text) = FoundWith number found
GivesUp number found (line.HeldUp span) = ⊥
GivesUp number found (line.Replied asked count) = ⊥
GivesUp number found (line.Kinds count) = ⊥
GivesUp number found (line.Ordered o) = ⊥
GivesUp number found (line.Alone t device) = ⊥
GivesUp number found (line.GivenUp t why) = t.number ≡ number
GivesUp number found (line.Ended e) = ⊥

-- a line says that the attempt ended so
abbrev pub Ends : ℕ → Outcome → Line → Type 0
Ends number outcome (line.Ready dir port) = ⊥
Ends number outcome line.Stopped = ⊥
Ends number outcome (line.Own said) = ⊥
Ends number outcome (line.Recovered text) = ⊥
Ends number outcome (line.HeldUp span) = ⊥
Ends number outcome (line.Replied asked count) = ⊥
Ends number outcome (line.Kinds count) = ⊥
Ends number outcome (line.Ordered o) = ⊥
Ends number outcome (line.Alone t device) = ⊥
Ends number outcome (line.GivenUp t why) = ⊥
Ends number outcome (line.Ended e) = (e.attempt.number ≡ number) × (e.outcome ≡ outcome)

-- some of the lines names an attempt with this number
abbrev pub IsNamed : List Heard → ℕ → Type 0
IsNamed ls number = (l : Heard) × In l ls × Names number l.found l.line

-- some of the lines, at that second and by who asked for it, is of such an order
abbrev pub IsOrdered : List Heard → OrderKind → ℕ → Moment → Type 0
IsOrdered ls kind number m = (l : Heard) × In l ls × Orders kind number l.line × (m.at ≡ l.at) × (m.by ≡ l.by)

-- some of the lines, at that second, says that the attempt is given up
abbrev pub IsGivenUp : List Heard → ℕ → Moment → Type 0
IsGivenUp ls number m = (l : Heard) × In l ls × GivesUp number l.found l.line × (m.at ≡ l.at)

-- some of the lines, at that second, says that the attempt ended so
abbrev pub IsEnded : List Heard → ℕ → Ended → Type 0
IsEnded ls number e = (l : Heard) × In l ls × Ends number e.outcome l.line × (e.at ≡ l.at)

-- what is told of an attempt is said by the lines: that there is one with its number; when and by whom it was stood by
-- and given; when it was given up; when and how it ended
abbrev pub IsSaid : List Heard → Seen → Type 0
IsSaid ls a =
    IsNamed ls a.number
    × IfSome a.begun (λ m. IsOrdered ls order.Standby a.number m)
    × IfSome a.given (λ m. IsOrdered ls order.Go a.number m)
    × IfSome a.given_up (λ m. IsGivenUp ls a.number m)
    × IfSome a.ended (λ e. IsEnded ls a.number e)

-- each of the attempts is told so
abbrev pub AreSaid : List Heard → List Seen → Type 0
AreSaid ls [] = Unit {0}
AreSaid ls (a ∷ rest) = IsSaid ls a × AreSaid ls rest

-- whatever lines are heard: only what they say is told, of attempts that they name
abbrev pub OnlySaidIsTold : Type 0
OnlySaidIsTold = (ls : List Heard) → AreSaid ls (heard ls nothing).attempts

-- no line says that the attempt ended
abbrev pub HasNoEnd : List Heard → ℕ → Type 0
HasNoEnd ls number = (l : Heard) → In l ls → (outcome : Outcome) → Ends number outcome l.line → ⊥

-- whatever lines are heard: an attempt whose end none of them says is told as `no end in this log`, never as complete
abbrev pub LostEndsAreToldAsLost : Type 0
LostEndsAreToldAsLost =
    (ls : List Heard) (a : Seen) → In a (heard ls nothing).attempts → HasNoEnd ls a.number
    → ending_words a.ended ≡ codes "no end in this log"
