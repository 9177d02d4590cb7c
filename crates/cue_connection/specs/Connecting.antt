-- A connection, step by step.
use Rattle.std.specs.Prelude.{◌≡◌, ◌⊎◌, ℕ, ◌-◌, Bool, true, false, not, ◌&&◌, nat_le, nat_lt, nat_eq}
use Rattle.std.specs.Prelude.{List, [], ◌++◌, take, drop, length, Option, None, Some, if◌then◌else◌, string_bytes}
use Rattle.cue_request.specs.declared.identity.PageIdentity.{PageIdentity}
use Rattle.cue_request.specs.declared.request.Refusal.TheVariants as refusal
use Rattle.cue_connection.specs.Asking.{AsksNow}
use Rattle.cue_connection.specs.Scanning.{after_all, unread}
use Rattle.cue_connection.specs.Stages.{is_asking, is_here_at}
use Rattle.cue_connection.specs.declared.asking.Asking.{Asking}
use Rattle.cue_connection.specs.declared.asking.Asking.TheVariants as asking
use Rattle.cue_connection.specs.declared.connection.Answer.{Answer}
use Rattle.cue_connection.specs.declared.connection.Answer.TheVariants as answer
use Rattle.cue_connection.specs.declared.connection.Connection.{Connection}
use Rattle.cue_connection.specs.declared.connection.TheConstants.{MAX_INPUT}
use Rattle.cue_connection.specs.declared.scanning.Scan.{Scan}
use Rattle.cue_connection.specs.declared.stage.Stage.{Stage}
use Rattle.cue_connection.specs.declared.stage.Stage.TheVariants as stage

-- it is still there
abbrev pub is_here : Connection → Bool
is_here c = is_here_at c.stage

-- ---- what comes

-- One that has just come: its request is awaited, and nothing of it was heard.
pub record IsFresh (c : Connection) : Type 0 where
  pub asks : is_asking c.stage ≡ true
  pub unheard : c.input.items ≡ []
  pub unread : c.scan ≡ unread

-- What came of a request so far, and how far its head has come in that.
pub record Came : Type 0 where
  pub bytes : List ℕ
  pub scan : Scan

abbrev pub came_in : Connection → Came
came_in c = record { bytes = c.input.items; scan = c.scan }

abbrev pub came_none : Came
came_none = record { bytes = []; scan = unread }

-- the part of a piece that is kept, if so much was kept before
abbrev pub kept_of : ℕ → List ℕ → List ℕ
kept_of before piece = take (MAX_INPUT - before) piece

-- what came, with a piece more
abbrev pub with_piece : Came → List ℕ → Came
with_piece c piece =
    let kept : List ℕ = kept_of (length c.bytes) piece in
    record { bytes = c.bytes ++ kept; scan = after_all c.scan (length c.bytes) kept }

-- A piece is taken while the request is awaited, unless there is no memory for it: then the connection is gone. After
-- that nothing is kept of what comes.
pub record TakesPiece (piece : List ℕ) (c c_then : Connection) : Type 0 where
  pub came : came_in c_then ≡ with_piece (came_in c) piece
  pub stage : c_then.stage ≡ c.stage
  pub until : c_then.until ≡ c.until

pub record IsLost (c c_then : Connection) : Type 0 where
  pub asked : is_asking c.stage ≡ true
  pub gone : c_then.stage ≡ stage.Gone
  pub input : c_then.input.items ≡ c.input.items

abbrev pub TakesIf : Bool → (piece : List ℕ) → (c c_then : Connection) → Type 0
TakesIf true piece c c_then = TakesPiece piece c c_then ⊎ IsLost c c_then
TakesIf false piece c c_then = c_then ≡ c

abbrev pub Takes : (piece : List ℕ) → (c c_then : Connection) → Type 0
Takes piece c c_then = TakesIf (is_asking c.stage) piece c c_then

-- more of it is read now
abbrev pub reads_at : Stage → Connection → Bool
reads_at stage.Asking c = not c.has_ended && nat_lt (length c.input.items) MAX_INPUT
reads_at stage.Leaving c = true
reads_at _ c = false

abbrev pub reads : Connection → Bool
reads c = reads_at c.stage c

-- ---- what is asked

-- its time is over, or nothing more comes
abbrev pub is_over : ℕ → Connection → Bool
is_over now c = if c.has_ended then true else nat_le c.until now

-- why a request is refused that has not come whole
abbrev pub incomplete_of : Connection → Asking
incomplete_of c = asking.Refused (if c.has_ended then refusal.Unreadable else refusal.Late)

-- a request that does not come whole any more: one that said nothing is closed, any other is refused
abbrev pub NeverWhole : (is_empty : Bool) → Connection → Option Asking → Connection → Type 0
NeverWhole true c asks c_then = (asks ≡ None) × (c_then ≡ record c { stage = stage.Gone })
NeverWhole false c asks c_then = (asks ≡ Some (incomplete_of c)) × (c_then ≡ record c { stage = stage.Asked })

-- a request that has not come whole waits until its time is over
abbrev pub NotWhole : (is_over : Bool) → Connection → Option Asking → Connection → Type 0
NotWhole false c asks c_then = (asks ≡ None) × (c_then ≡ c)
NotWhole true c asks c_then = NeverWhole (nat_eq (length c.input.items) 0) c asks c_then

abbrev pub IsIncomplete : ℕ → Connection → Option Asking → Connection → Type 0
IsIncomplete now c asks c_then = NotWhole (is_over now c) c asks c_then

-- what came since it was asked last is read; if nothing came, nothing is
abbrev pub ReadsIf : Bool → PageIdentity → Connection → Option Asking → Type 0
ReadsIf true identity c reads = AsksNow identity c.scan c.input.items reads
ReadsIf false identity c reads = reads ≡ None

-- it asks what was read; if that is nothing yet, its time decides
abbrev pub AsksOr : Option Asking → ℕ → Connection → Option Asking → Connection → Type 0
AsksOr (Some a) now c asks c_then = (asks ≡ Some a) × (c_then ≡ record c { stage = stage.Asked })
AsksOr None now c asks c_then = IsIncomplete now c asks c_then

abbrev pub is_read : Connection → Connection
is_read c = record c { has_grown = false }

-- A connection whose request is awaited is asked at a moment.
pub record AsksAwaited (identity : PageIdentity) (now : ℕ) (c : Connection) (asks : Option Asking)
    (c_then : Connection) : Type 0 where
  pub reads : Option Asking
  pub new : ReadsIf c.has_grown identity c reads
  pub says : AsksOr reads now (is_read c) asks c_then

-- one that asks no more says nothing
abbrev pub AsksIf : Bool → PageIdentity → ℕ → Connection → Option Asking → Connection → Type 0
AsksIf true identity now c asks c_then = AsksAwaited identity now c asks c_then
AsksIf false identity now c asks c_then = (asks ≡ None) × (c_then ≡ c)

abbrev pub AsksAt : PageIdentity → ℕ → Connection → Option Asking → Connection → Type 0
AsksAt identity now c asks c_then = AsksIf (is_asking c.stage) identity now c asks c_then

-- ---- what is written

-- the bytes of an answer, of which these are those of the page
abbrev pub bytes_of : Answer → List ℕ → List ℕ
bytes_of answer.Page page = page
bytes_of (answer.Text text) page = string_bytes text

-- what of the answer is still to be written
abbrev pub rest_at : Stage → Connection → List ℕ → List ℕ
rest_at stage.Hearing c page = drop c.written (bytes_of c.output page)
rest_at _ c page = []

abbrev pub rest_of : Connection → List ℕ → List ℕ
rest_of c page = rest_at c.stage c page
