-- The lock of a show.
use Rattle.std.specs.Prelude.{ℕ, ◌-◌, ◌<◌, ◌≤◌, nat_lt, Bool, true, false, List, length, Option, None, Some, option_map}
use Rattle.std.specs.Prelude.{if◌then◌else◌, IsTrue}
use Rattle.std.specs.Char.{is_ascii_graphic}
use Rattle.std.specs.List.{list_all}
use Rattle.cue_show.specs.Number.{same_text}
use Rattle.cue_view.specs.declared.button.Button.{Button}
use Rattle.cue_view.specs.declared.button.Button.TheVariants as button
use Rattle.cue_request.specs.declared.identity.Purpose.{Purpose}
use Rattle.cue_request.specs.declared.identity.Purpose.TheVariants as purpose
use Rattle.cue_request.specs.declared.lock.Guard.{Guard}
use Rattle.cue_request.specs.declared.lock.Said.{Said}
use Rattle.cue_request.specs.declared.lock.Said.TheVariants as said
use Rattle.cue_request.specs.declared.lock.TheConstants.{CLOSED, COUNTED}
use Rattle.cue_request.specs.declared.request.Refusal.{Refusal}
use Rattle.cue_request.specs.declared.request.Refusal.TheVariants as refusal

-- ---- the word

-- What can be the word of a lock: letters, digits and signs of ASCII, one at least and 64 at most.
pub record IsWord (text : List ℕ) : Type 0 where
  pub some : 0 < length text
  pub short : length text ≤ 64
  pub graphic : IsTrue (list_all is_ascii_graphic text)

-- the word of its lock, if a page has one: none has that only shows
abbrev pub lock_of : Purpose → Option (List ℕ)
lock_of (purpose.Plays lock) = option_map (λ v. v.now) lock
lock_of (purpose.Shows name) = None

-- a press needs the word exactly if it moves the place or releases a device
abbrev pub needs_word : Button → Bool
needs_word (button.MoveTo cue) = true
needs_word (button.Release attempt device) = true
needs_word (button.Standby cue) = false
needs_word (button.Go cue attempt) = false
needs_word (button.Cancel cue attempt) = false
needs_word (button.Choose attempt) = false
needs_word (button.Seen attempt) = false

-- what a press says of the word of the lock
abbrev pub said_of : List ℕ → Option (List ℕ) → Said
said_of lock None = said.Nothing
said_of lock (Some word) = if same_text word lock then said.Right else said.Wrong

-- the same at a page for this purpose
abbrev pub said_at : Purpose → Option (List ℕ) → Said
said_at (purpose.Plays (Some lock)) word = said_of lock.now word
said_at (purpose.Plays None) word = said.NoLock
said_at (purpose.Shows name) word = said.NoLock

-- ---- wrong words

-- a moment that is known, and less than so long ago
abbrev pub is_within : ℕ → Option ℕ → ℕ → Bool
is_within long None now = false
is_within long (Some moment) now = nat_lt (now - moment) long

-- no wrong word has come
abbrev pub untouched : Guard
untouched = record { first = None; second = None; third = None; fourth = None; closed = None }

-- a wrong word that comes now is the fifth within a minute
abbrev pub is_fifth : Guard → ℕ → Bool
is_fifth g now = is_within COUNTED g.first now

-- no word is taken now: five wrong ones came less than ten seconds ago
abbrev pub is_closed : Guard → ℕ → Bool
is_closed g now = is_within CLOSED g.closed now

-- one more wrong word is counted
abbrev pub counted : Guard → ℕ → Guard
counted g now = record g { first = g.second; second = g.third; third = g.fourth; fourth = Some now }

-- after a wrong word: the fifth within a minute closes the lock, and the count begins anew
abbrev pub after_wrong : Guard → ℕ → Guard
after_wrong g now = if is_fifth g now then record untouched { closed = Some now } else counted g now

-- ---- what becomes of a press

-- a wrong word is refused, the fifth in other words
abbrev pub wrong_verdict : Guard → ℕ → Refusal
wrong_verdict g now = if is_fifth g now then refusal.Closed else refusal.WrongWord

-- while the lock is closed each word is refused, and the right one, too
abbrev pub open_verdict : Guard → ℕ → Said → Option Refusal
open_verdict g now said.NoLock = None
open_verdict g now said.Nothing = Some refusal.NoWord
open_verdict g now said.Wrong = Some (wrong_verdict g now)
open_verdict g now said.Right = None

-- why a press that needs the word is refused; none if it is taken
abbrev pub verdict : Guard → ℕ → Said → Option Refusal
verdict g now said.NoLock = None
verdict g now said.Nothing = if is_closed g now then Some refusal.Closed else open_verdict g now said.Nothing
verdict g now said.Wrong = if is_closed g now then Some refusal.Closed else open_verdict g now said.Wrong
verdict g now said.Right = if is_closed g now then Some refusal.Closed else open_verdict g now said.Right

-- after such a press; while the lock is closed no word is counted
abbrev pub after : Guard → ℕ → Said → Guard
after g now said.Wrong = if is_closed g now then g else after_wrong g now
after g now _ = g

-- why the press of a button is refused; none if it is taken
abbrev pub verdict_on : Button → Guard → ℕ → Said → Option Refusal
verdict_on b g now s = if needs_word b then verdict g now s else None

-- after the press of a button: one that needs no word changes nothing
abbrev pub after_press : Button → Guard → ℕ → Said → Guard
after_press b g now s = if needs_word b then after g now s else g
