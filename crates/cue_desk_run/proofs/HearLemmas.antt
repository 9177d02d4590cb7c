-- What comes to the socket of an ask, and what is heard of it.
use Rattle.std.proofs.Common.{◌≡◌, refl, ◌∙◌, sym, subst, ℕ, List, Option, IfSome}
use Rattle.cue_ask_machine.specs.declared.letters.Letter.{Letter}
use Rattle.cue_station.specs.declared.heard.Heard.{Heard}
use Rattle.cue_station.specs.declared.heard.Heard.TheVariants as heard
use Rattle.cue_desk_run.specs.declared.ask.Came.{Came}
use Rattle.cue_desk_run.specs.declared.ask.Came.TheVariants as came
use Rattle.cue_desk_run.specs.Hearing.{IsCome, IsHeardOf, IsRead, IsUnreplied, heard_of}
use Rattle.cue_desk_run.specs.Working.{IsUnpressed}

-- a datagram came
pub come_read : (l : Letter) (datagram : List ℕ) (c : Came) → IsRead l datagram c → IsCome l c
come_read l datagram (came.Replied r) e = (datagram, e)
come_read l datagram came.Nobody e = tt
come_read l datagram came.Noise e = tt
come_read l datagram came.Nothing e = tt

-- none came
pub come_none : (l : Letter) (c : Came) → IsUnreplied c → IsCome l c
come_none l (came.Replied r) e = absurd e
come_none l came.Nobody e = tt
come_none l came.Noise e = tt
come_none l came.Nothing e = tt

heard-come : (l : Letter) (c : Came) → IsCome l c → IfSome (heard_of l.number c) (IsHeardOf l)
heard-come l (came.Replied r) e = (refl, e)
heard-come l came.Nobody e = refl
heard-come l came.Noise e = tt
heard-come l came.Nothing e = tt

-- what came is heard of the letter
pub heard_come : (l : Letter) (c : Came) (found : Option Heard) → found ≡ heard_of l.number c → IsCome l c
    → IfSome found (IsHeardOf l)
heard_come l c found e come = subst (λ o. IfSome o (IsHeardOf l)) (sym e) (heard-come l c come)

-- what is heard of a letter is no press
pub unpressed_of : (l : Letter) (h : Heard) → IsHeardOf l h → IsUnpressed h
unpressed_of l (heard.Copied c) e = tt
unpressed_of l (heard.Same at) e = tt
unpressed_of l (heard.Unread why) e = tt
unpressed_of l (heard.Replied n r) e = tt
unpressed_of l (heard.Nobody n) e = tt
unpressed_of l (heard.Pressed view b) e = absurd e
unpressed_of l (heard.Relay status) e = tt
unpressed_of l (heard.Kept kept) e = tt
unpressed_of l heard.Tick e = tt
