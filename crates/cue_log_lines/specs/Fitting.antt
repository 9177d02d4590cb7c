-- Which lines are read as what was written.
use Rattle.std.specs.Prelude.{◌≡◌, ℕ, ◌^◌, ◌<◌, ◌≤◌, Bool, true, false, not, ◌==◌, List, ◌∷◌, codes, Option, Some, None, IsTrue, nat_eq}
use Rattle.std.specs.Cmp.Lexicographic.{pointwise}
use Rattle.std.specs.List.{list_all}
use Rattle.cue_show.specs.DeviceNumber.{is_device}
use Rattle.cue_show.specs.Number.{is_cue_number}
use Rattle.cue_log_lines.specs.declared.line.Asked.{Asked}
use Rattle.cue_log_lines.specs.declared.line.Count.{Count}
use Rattle.cue_log_lines.specs.declared.line.Ended.{Ended}
use Rattle.cue_log_lines.specs.declared.line.Line.{Line}
use Rattle.cue_log_lines.specs.declared.line.Line.TheVariants as line
use Rattle.cue_log_lines.specs.declared.line.Ordered.{Ordered}
use Rattle.cue_log_lines.specs.declared.line.Refused.{Refused}
use Rattle.cue_log_lines.specs.declared.line.Refused.TheVariants as refused
use Rattle.cue_log_lines.specs.declared.line.Span.{Span}
use Rattle.cue_log_lines.specs.declared.line.Try.{Try}
use Rattle.cue_log_lines.specs.declared.line.Why.{Why}
use Rattle.cue_log_lines.specs.declared.line.Why.TheVariants as why
use Rattle.cue_log_lines.specs.Lines.{asked_text, body_text}
use Rattle.cue_log_lines.specs.Pieces.{after, before}
use Rattle.cue_log_lines.specs.Reading.{count_at}

-- none of the bytes is this one
abbrev pub is_free : ℕ → List ℕ → Bool
is_free b text = list_all (λ x. not (x == b)) text

-- numbers of 64 bits
pub record FitsSpan (span : Span) : Type 0 where
  pub seconds : span.seconds < 2 ^ 64
  pub tenths : span.tenths < 2 ^ 64

-- a number of 64 bits, and a time
pub record FitsCount (c : Count) : Type 0 where
  pub times : c.times < 2 ^ 64
  pub span : FitsSpan c.span

-- a cue number, if there is one
abbrev pub FitsCue : Option (List ℕ) → Type 0
FitsCue None = Unit {0}
FitsCue (Some cue) = IsTrue (is_cue_number cue)

-- a number of 32 bits, and a cue number
pub record FitsTry (t : Try) : Type 0 where
  pub number : t.number < 4294967296
  pub cue : FitsCue t.cue

-- an attempt, a device and a port
pub record FitsOrder (o : Ordered) : Type 0 where
  pub attempt : FitsTry o.attempt
  pub device : IsTrue (is_device o.device)
  pub port : o.port < 65536

-- a device, if it names one
abbrev pub FitsWhy : Why → Type 0
FitsWhy (why.Aborted d) = IsTrue (is_device d)
FitsWhy (why.Released d) = IsTrue (is_device d)
FitsWhy (why.Said reason) = Unit {0}

-- numbers of 16 bits; what refuses nothing says so
abbrev pub FitsRefused : Refused → Type 0
FitsRefused refused.Nothing = Unit {0}
FitsRefused (refused.Some n code) = (1 ≤ n) × (n < 65536) × (code < 65536)
FitsRefused (refused.Aside n) = n < 65536

-- numbers of 16 bits; and what is added has no colon, and is not what a reply itself says
pub record FitsAsked (a : Asked) : Type 0 where
  pub port : a.port < 65536
  pub made : a.made < 65536
  pub known : a.known < 65536
  pub refused : FitsRefused a.refused
  pub plain : is_free 58 a.more ≡ true
  pub other : after (codes " made ") (32 ∷ a.more) ≡ None
  pub sent : a.is_sent ≡ true → before (codes ", the reply was not sent") (body_text a) ≡ None

-- if it stands for more than itself, so often; else it does not end as if it did
abbrev pub FitsCounted : Asked → Option Count → Type 0
FitsCounted a None = count_at (asked_text a) ≡ None
FitsCounted a (Some c) = FitsCount c

-- what `cuectl` says of itself beside that it is ready and that it was stopped
pub record FitsOwn (said : List ℕ) : Type 0 where
  pub begun : after (codes "ready, ") said ≡ None
  pub ended : pointwise nat_eq said (codes "stopped") ≡ false

-- the line is read as what was written
abbrev pub Fits : Line → Type 0
Fits (line.Ready dir port) = port < 65536
Fits line.Stopped = Unit {0}
Fits (line.Own said) = FitsOwn said
Fits (line.Recovered list) = Unit {0}
Fits (line.HeldUp span) = FitsSpan span
Fits (line.Replied a count) = FitsAsked a × FitsCounted a count
Fits (line.Kinds count) = FitsCount count
Fits (line.Ordered o) = FitsOrder o
Fits (line.Alone t device) = FitsTry t × IsTrue (is_device device)
Fits (line.GivenUp t reason) = FitsTry t × FitsWhy reason
Fits (line.Ended e) = FitsTry e.attempt × FitsSpan e.span
