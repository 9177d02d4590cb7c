-- What comes to the socket of an ask, and what the machine hears of it.
use Rattle.std.specs.Prelude.{◌≡◌, ℕ, List, Option, Some, None}
use Rattle.std.specs.declared.io.ErrorKind.{ErrorKind}
use Rattle.std.specs.declared.io.ErrorKind.TheVariants as kind
use Rattle.cue_ask_machine.specs.declared.letters.Letter.{Letter}
use Rattle.cue_ask_machine.specs.Answers.{answer_in}
use Rattle.cue_station.specs.declared.heard.Heard.{Heard}
use Rattle.cue_station.specs.declared.heard.Heard.TheVariants as heard
use Rattle.cue_desk_run.specs.declared.ask.Came.{Came}
use Rattle.cue_desk_run.specs.declared.ask.Came.TheVariants as came

-- nobody listens at the controller's port; a call that was interrupted says nothing; else nothing is there
abbrev pub unheard : ErrorKind → Came
unheard kind.ConnectionRefused = came.Nobody
unheard kind.Interrupted = came.Noise
unheard _ = came.Nothing

-- a reply, or that nobody listens, is heard of the ask to whose socket it came
abbrev pub heard_of : ℕ → Came → Option Heard
heard_of n (came.Replied r) = Some (heard.Replied n r)
heard_of n came.Nobody = Some (heard.Nobody n)
heard_of n came.Noise = None
heard_of n came.Nothing = None

-- what a datagram is read as that came to the socket of a letter: only its answer is a reply to it
abbrev pub IsRead : Letter → List ℕ → Came → Type 0
IsRead l datagram (came.Replied r) = answer_in l datagram ≡ Some r
IsRead l datagram came.Nobody = ⊥
IsRead l datagram came.Noise = Unit {0}
IsRead l datagram came.Nothing = ⊥

-- it is no reply
abbrev pub IsUnreplied : Came → Type 0
IsUnreplied (came.Replied r) = ⊥
IsUnreplied _ = Unit {0}

-- what comes to the socket of a letter: a reply is the answer that some datagram has to it
abbrev pub IsCome : Letter → Came → Type 0
IsCome l (came.Replied r) = (datagram : List ℕ) × (answer_in l datagram ≡ Some r)
IsCome l _ = Unit {0}

-- what is heard of a letter: an answer to it, or that nobody listens, under its own number; and nothing else
abbrev pub IsHeardOf : Letter → Heard → Type 0
IsHeardOf l (heard.Replied n r) = (n ≡ l.number) × ((datagram : List ℕ) × (answer_in l datagram ≡ Some r))
IsHeardOf l (heard.Nobody n) = n ≡ l.number
IsHeardOf l _ = ⊥
