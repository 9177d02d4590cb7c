-- What came in a turn of the relay, and which datagrams were sent.
use Rattle.std.specs.Prelude.{ℕ, ◌++◌, List, [], ◌∷◌, map}
use Rattle.cue_machine.specs.declared.ears.Input.{Input}
use Rattle.cue_machine.specs.declared.ears.Input.TheVariants as input
use Rattle.cue_machine.specs.declared.post.Output.{Output}
use Rattle.cue_machine.specs.declared.post.Output.TheVariants as output
use Rattle.cue_machine.specs.Living.{Turn, all_posted}
use Rattle.cue_machine.specs.Posting.{Given, Posted, given_of}
use Rattle.cue_relay.specs.Relayed.{Answer, Sending, ticks}
use Rattle.cue_relay_machine.specs.Places.{opening_at, relay_address}
use Rattle.cue_relay_machine.specs.Steps.{came}

-- what came, as the relay has it: a datagram, or nothing at a time
abbrev pub answer_as : ℕ → Input → List ℕ → Answer
answer_as now (input.Datagram at from) bytes = came now at from bytes
answer_as now (input.Refused at) bytes = ticks now
answer_as now input.Wake bytes = ticks now

abbrev pub answer_of : Turn → Answer
answer_of t = answer_as t.heard.now t.heard.input t.heard.bytes

-- what was posted, if it is a datagram: by which socket, to whom, and its bytes
abbrev pub sending_as : Output → List ℕ → List Sending
sending_as (output.Send by to) bytes =
    record { way = record { out = opening_at by; to = relay_address to }; bytes = bytes } ∷ []
sending_as output.Print bytes = []
sending_as output.Say bytes = []
sending_as output.Replace bytes = []

-- the datagrams of these outputs
abbrev pub sendings : List Given → List Sending
sendings [] = []
sendings (g ∷ gs) = sending_as g.output g.bytes ++ sendings gs

-- what was posted at what came; at a wake nothing came
abbrev pub at_once : Input → List Posted → List Posted
at_once (input.Datagram at from) ps = ps
at_once (input.Refused at) ps = ps
at_once input.Wake ps = []

-- what was posted at a wake
abbrev pub at_wake : Input → List Posted → List Posted
at_wake (input.Datagram at from) ps = []
at_wake (input.Refused at) ps = []
at_wake input.Wake ps = ps

-- all that was posted at what came in these turns
abbrev pub all_at_once : List Turn → List Posted
all_at_once [] = []
all_at_once (t ∷ ts) = at_once t.heard.input t.posted ++ all_at_once ts

-- the datagrams that were handed on in these turns, as they came
abbrev pub handed_in : List Turn → List Sending
handed_in ts = sendings (map given_of (all_at_once ts))

-- all datagrams that were sent in these turns
abbrev pub sent_in : List Turn → List Sending
sent_in ts = sendings (map given_of (all_posted ts))

-- the datagram that was handed on in this turn, as it came, and those that were sent at this wake
abbrev pub handed_at : Turn → List Sending
handed_at t = sendings (map given_of (at_once t.heard.input t.posted))

abbrev pub copies_at : Turn → List Sending
copies_at t = sendings (map given_of (at_wake t.heard.input t.posted))
