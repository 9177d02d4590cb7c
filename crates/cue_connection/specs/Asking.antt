-- What a connection asks: by its own bytes, and whatever the pieces in which they came.
use Rattle.std.specs.Prelude.{◌≡◌, ◌⊎◌, ℕ, ◌≤◌, Bool, true, false, nat_le, nat_lt, List, ◌++◌, take, drop, length, ⊤}
use Rattle.std.specs.Prelude.{Option, None, Some, if◌then◌else◌}
use Rattle.std.specs.Option.{IsSomeAnd}
use Rattle.cue_request.specs.declared.identity.PageIdentity.{PageIdentity}
use Rattle.cue_request.specs.declared.lock.Said.{Said}
use Rattle.cue_request.specs.declared.request.Asked.{Asked}
use Rattle.cue_request.specs.declared.request.Asked.TheVariants as asked
use Rattle.cue_request.specs.declared.request.Refusal.{Refusal}
use Rattle.cue_request.specs.declared.request.Refusal.TheVariants as refusal
use Rattle.cue_request.specs.declared.request.TheConstants.{MAX_HEAD}
use Rattle.cue_request.specs.Locks.{said_at}
use Rattle.cue_request.specs.Presses.{body_of}
use Rattle.cue_request.specs.Requests.{IsCommand, OnCommand}
use Rattle.cue_connection.specs.Marking.{curtain_of}
use Rattle.cue_connection.specs.declared.asking.Asking.{Asking}
use Rattle.cue_connection.specs.declared.asking.Asking.TheVariants as asking
use Rattle.cue_connection.specs.declared.asking.Pressed.{Pressed}
use Rattle.cue_connection.specs.declared.asking.Wish.{Wish}
use Rattle.cue_connection.specs.declared.marking.CurtainMove.{CurtainMove}
use Rattle.cue_connection.specs.declared.scanning.Scan.{Scan}
use Rattle.cue_connection.specs.declared.scanning.Scan.TheVariants as scan

-- ---- what is asked came

-- What came from a connection is a command of our own page, whose body names this view and this button, and which says
-- this of the word of the lock.
pub record IsPressIn (identity : PageIdentity) (bytes : List ℕ) (p : Pressed) : Type 0 where
  pub body : List ℕ
  pub word : Option (List ℕ)
  pub command : IsCommand identity bytes body word
  pub names : body ≡ body_of p.view p.button
  pub says : p.said ≡ said_at identity.purpose word

-- What came from a connection is a command of our own page, whose body says this of the curtain.
pub record IsMarkIn (identity : PageIdentity) (bytes : List ℕ) (c : CurtainMove) : Type 0 where
  pub body : List ℕ
  pub word : Option (List ℕ)
  pub command : IsCommand identity bytes body word
  pub says : curtain_of body ≡ Some c

-- if it asks for a press or a mark, what came is one
abbrev pub AsksIn : PageIdentity → List ℕ → Asking → Type 0
AsksIn identity bytes (asking.Press (Some p)) = IsPressIn identity bytes p
AsksIn identity bytes (asking.Mark c) = IsMarkIn identity bytes c
AsksIn identity bytes _ = ⊤

-- ---- what a head asks

-- These bytes are a command with this body, and it says this of the word of the lock.
pub record IsCommandThat (identity : PageIdentity) (bytes body : List ℕ) (said : Said) : Type 0 where
  pub word : Option (List ℕ)
  pub command : IsCommand identity bytes body word
  pub says : said ≡ said_at identity.purpose word

-- A head wishes this: if it wishes a command, then it is one with any body after it that is as long as it says.
abbrev pub AsksBy : PageIdentity → List ℕ → Wish → Type 0
AsksBy identity head wish =
    OnCommand wish.asked (λ size. (rest : List ℕ) → size ≤ length rest
    → IsCommandThat identity (head ++ rest) (take size rest) wish.said)

-- ---- what is asked with the body

-- a press that this body names, which says this of the word of the lock
pub record IsPressOf (body : List ℕ) (said : Said) (p : Pressed) : Type 0 where
  pub names : body ≡ body_of p.view p.button
  pub says : p.said ≡ said

-- a body asks that the curtain moves, if it says so, or that a button is pressed
abbrev pub BodyAsks : List ℕ → Said → Asking → Type 0
BodyAsks body said (asking.Mark c) = curtain_of body ≡ Some c
BodyAsks body said (asking.Press (Some p)) = IsPressOf body said p × (curtain_of body ≡ None)
BodyAsks body said (asking.Press None) = curtain_of body ≡ None
BodyAsks body said _ = ⊥

-- once the body has come whole
abbrev pub BodyAsksIf : Bool → List ℕ → Said → Option Asking → Type 0
BodyAsksIf true body said asks = IsSomeAnd asks (BodyAsks body said)
BodyAsksIf false body said asks = asks ≡ None

abbrev pub AsksFor : Asked → Said → List ℕ → Option Asking → Type 0
AsksFor asked.Page said rest asks = asks ≡ Some asking.Page
AsksFor asked.Board said rest asks = asks ≡ Some asking.View
AsksFor asked.ShowFile said rest asks = asks ≡ Some asking.ShowFile
AsksFor (asked.Command size) said rest asks = BodyAsksIf (nat_le size (length rest)) (take size rest) said asks

-- a head that wishes this asks so, with what follows it
abbrev pub AsksWith : Wish → List ℕ → Option Asking → Type 0
AsksWith wish rest asks = AsksFor wish.asked wish.said rest asks

-- A head that has ended asks what it wishes, as soon as its body is whole; or it is refused.
abbrev pub AsksAfter : PageIdentity → (head rest : List ℕ) → Option Asking → Type 0
AsksAfter identity head rest asks =
    ((wish : Wish) × AsksBy identity head wish × AsksWith wish rest asks)
    ⊎ ((why : Refusal) × (asks ≡ Some (asking.Refused why)))

-- a head that has ended is read, unless it is too long
abbrev pub AsksEnded : (is_short : Bool) → PageIdentity → (head rest : List ℕ) → Option Asking → Type 0
AsksEnded true identity head rest asks = AsksAfter identity head rest asks
AsksEnded false identity head rest asks = asks ≡ Some (asking.Refused refusal.LongHead)

-- What is asked by all that came, whatever the pieces: a head that has ended is read; what can be none is refused, and
-- so is one that is too long.
abbrev pub AsksNow : PageIdentity → Scan → List ℕ → Option Asking → Type 0
AsksNow identity (scan.Open p left) bytes asks =
    asks ≡ (if nat_lt MAX_HEAD (length bytes) then Some (asking.Refused refusal.LongHead) else None)
AsksNow identity (scan.Ended n) bytes asks =
    AsksEnded (nat_le n MAX_HEAD) identity (take n bytes) (drop n bytes) asks
AsksNow identity scan.NoHead bytes asks = asks ≡ Some (asking.Refused refusal.Unreadable)
