-- What the controller says to who asked at an address.
use Rattle.std.specs.Prelude.{ℕ, List, [], ◌∷◌, Option, None, Some, Result, Ok, Err, if◌then◌else◌, codes}
use Rattle.cue_osc.specs.declared.fault.Fault.{Fault}
use Rattle.cue_osc.specs.Argument.{Argument, int, text}
use Rattle.cue_osc.specs.Content.{Content, message, discarded, bundle}
use Rattle.cue_show.specs.Number.{same_text}
use Rattle.cue_show_file.specs.Said.{cue_number_of}
use Rattle.cue_desk.specs.declared.replying.Replied.{Replied}
use Rattle.cue_desk.specs.declared.replying.Replied.TheVariants as replied

-- the reply: the address that was asked, then how many were made, known and refused, and the code
abbrev pub reply_in : List ℕ → List Argument → Option Replied
reply_in asked (text address ∷ int made ∷ int known ∷ int refused ∷ int code ∷ []) =
    if same_text address asked then Some (replied.Reply made known refused code) else None
reply_in asked _ = None

-- the status: the last number, the place, how many are live, which one ended last, and how
abbrev pub status_in : List Argument → Option Replied
status_in (int last ∷ text place ∷ int live ∷ int ended ∷ int outcome ∷ []) =
    Some (replied.Status (record {
      last = last;
      place = cue_number_of place;
      live = live;
      ended = ended;
      outcome = outcome;
    }))
status_in _ = None

-- what a message says, by its address
abbrev pub replied_by : List ℕ → List ℕ → List Argument → Option Replied
replied_by asked address args =
    if same_text address (codes "/reply") then reply_in asked args
    else (if same_text address (codes "/status") then status_in args else None)

-- what a datagram says, if it is such a message and nothing else
abbrev pub replied_in : List ℕ → Result Content Fault → Option Replied
replied_in asked (Ok (message address args)) = replied_by asked address args
replied_in asked (Ok (discarded address)) = None
replied_in asked (Ok (bundle time contents)) = None
replied_in asked (Err fault) = None
