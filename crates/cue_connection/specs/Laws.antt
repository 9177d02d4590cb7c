-- The laws of a connection: what holds of all pieces of bytes, and of all moments.
use Rattle.std.specs.Prelude.{◌≡◌, ◌≢◌, ℕ, ◌+◌, ◌≤◌, Bool, ◌||◌, true, false, List, [], ◌∷◌, ◌++◌, length, ⊤, Option}
use Rattle.std.specs.Prelude.{None, Some}
use Rattle.std.specs.List.{flat_map}
use Rattle.cue_request.specs.declared.identity.PageIdentity.{PageIdentity}
use Rattle.cue_connection.specs.Connecting.{AsksAt, Came, Takes, came_none, with_piece}
use Rattle.cue_connection.specs.Scanning.{after_all, end_of, first_end, is_line_feed, is_of_word, is_return, unread}
use Rattle.cue_connection.specs.Stages.{AsksOnce, is_asking}
use Rattle.cue_connection.specs.declared.asking.Asking.{Asking}
use Rattle.cue_connection.specs.declared.connection.Connection.{Connection}
use Rattle.cue_connection.specs.declared.connection.TheConstants.{MAX_INPUT}
use Rattle.cue_connection.specs.declared.scanning.Scan.TheVariants as scan

-- ---- the pieces

-- what came, after these pieces
abbrev pub with_pieces : Came → List (List ℕ) → Came
with_pieces c [] = c
with_pieces c (piece ∷ more) = with_pieces (with_piece c piece) more

-- these pieces in one
abbrev pub joined : List (List ℕ) → List ℕ
joined pieces = flat_map (λ piece. piece) pieces

-- a request that comes in any pieces is the same as in one
abbrev pub AnyPieces : Type 0
AnyPieces = (pieces : List (List ℕ)) → with_pieces came_none pieces ≡ with_piece came_none (joined pieces)

-- ---- the end of a head

-- an end of a line before the head
abbrev pub is_blank : ℕ → Bool
is_blank b = is_return b || is_line_feed b

abbrev pub AreBlank : List ℕ → Type 0
AreBlank [] = ⊤
AreBlank (b ∷ bs) = (is_blank b ≡ true) × AreBlank bs

abbrev pub AreOfWord : List ℕ → Type 0
AreOfWord [] = ⊤
AreOfWord (b ∷ bs) = (is_of_word b ≡ true) × AreOfWord bs

-- ends of lines, a first word, a space, and the rest of what came
abbrev pub with_word : (blank : List ℕ) → (first : ℕ) → (word rest : List ℕ) → List ℕ
with_word blank first word rest = blank ++ (first ∷ word) ++ 32 ∷ rest

-- a head ends where the first empty line ends that follows its first word, and has not ended if there is none; unless
-- it is no head at all
abbrev pub EndsAtEmptyLine : Type 0
EndsAtEmptyLine =
    (blank : List ℕ) (first : ℕ) (word rest : List ℕ) → AreBlank blank → AreOfWord (first ∷ word)
    → after_all unread 0 (with_word blank first word rest) ≢ scan.NoHead
    → end_of (after_all unread 0 (with_word blank first word rest))
    ≡ first_end (length (blank ++ (first ∷ word)) + 1) rest

-- ---- turn by turn

-- what happens at a connection
pub data Turn : Type 0 where
  -- a piece came
  came : (piece : List ℕ) → Turn
  -- it was asked at this moment, and said this
  was_asked : (now : ℕ) (asks : Option Asking) → Turn
  -- anything else: an end, an answer, bytes that were written, time that passed
  other : Turn

abbrev pub Turns : PageIdentity → Turn → (c c_then : Connection) → Type 0
Turns identity (came piece) c c_then = Takes piece c c_then
Turns identity (was_asked now asks) c c_then = AsksAt identity now c asks c_then
Turns identity other c c_then = AsksOnce c.stage c_then.stage × (c_then.input ≡ c.input)

-- one after the other
abbrev pub AllTurns : PageIdentity → List Turn → (c c_then : Connection) → Type 0
AllTurns identity [] c c_then = c_then ≡ c
AllTurns identity (t ∷ ts) c c_then = (mid : Connection) × Turns identity t c mid × AllTurns identity ts mid c_then

-- how many requests it made
abbrev pub requests : List Turn → ℕ
requests [] = 0
requests (came piece ∷ ts) = requests ts
requests (was_asked now None ∷ ts) = requests ts
requests (was_asked now (Some a) ∷ ts) = requests ts + 1
requests (other ∷ ts) = requests ts

-- whatever happens: it asks once at most
abbrev pub OneRequest : Type 0
OneRequest =
    (identity : PageIdentity) (ts : List Turn) (c c_then : Connection) → AllTurns identity ts c c_then
    → requests ts ≤ 1

-- once its request is not awaited any more, it asks nothing, and nothing is kept of what comes
abbrev pub NothingAfter : Type 0
NothingAfter =
    (identity : PageIdentity) (ts : List Turn) (c c_then : Connection) → is_asking c.stage ≡ false
    → AllTurns identity ts c c_then → (requests ts ≡ 0) × (c_then.input ≡ c.input)

-- no more is kept of it than so much
abbrev pub KeepsLittle : Type 0
KeepsLittle =
    (identity : PageIdentity) (ts : List Turn) (c c_then : Connection) → length c.input.items ≤ MAX_INPUT
    → AllTurns identity ts c c_then → length c_then.input.items ≤ MAX_INPUT
