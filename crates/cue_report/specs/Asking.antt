-- Who asked.
use Rattle.std.specs.Prelude.{◌≡◌, ℕ, ◌+◌, ◌-◌, ◌==◌, ◌&&◌, nat_eq, nat_le, Bool, true, false, if◌then◌else◌, List, [], ◌∷◌, ◌++◌, codes}
use Rattle.std.specs.Prelude.{Option, Some, None, drop, find, position, slice_get, take}
use Rattle.std.specs.Option.{option_map}
use Rattle.cue_log_lines.specs.Pieces.{◌>>=◌, after}
use Rattle.cue_log_lines.specs.declared.line.Line.{Line}
use Rattle.cue_log_lines.specs.declared.line.Line.TheVariants as line
use Rattle.cue_log_lines.specs.declared.line.OrderKind.{OrderKind}
use Rattle.cue_log_lines.specs.declared.line.OrderKind.TheVariants as order
use Rattle.cue_operator.specs.LookUp.{device_named}
use Rattle.cue_operator.specs.Methods.{cue_verb_text, cue_verbs, device_verb_text, device_verbs}
use Rattle.cue_operator.specs.declared.method.CueVerb.{CueVerb}
use Rattle.cue_operator.specs.declared.method.CueVerb.TheVariants as verb
use Rattle.cue_operator.specs.declared.method.DeviceVerb.{DeviceVerb}
use Rattle.cue_show.specs.Number.{is_cue_number, same_text}
use Rattle.cue_asker.specs.Naming.{is_name}
use Rattle.cue_asker.specs.declared.naming.AskerName.{AskerName}
use Rattle.cue_report.specs.declared.attempt.Who.{Who}
use Rattle.cue_report.specs.declared.attempt.Who.TheVariants as who
use Rattle.cue_report.specs.declared.evening.asking.Made.{Made}

-- ---- what an address names

-- what stands before a slash, and what stands after it
abbrev pub parts_at : List ℕ → Option ℕ → Option (List ℕ × List ℕ)
parts_at text None = None
parts_at text (Some slash) = Some (take slash text, drop (slash + 1) text)

-- the two parts of an address after this front: what stands before the next slash, and after it
abbrev pub parts_after : List ℕ → List ℕ → Option (List ℕ × List ℕ)
parts_after front address = after front address >>= λ text. parts_at text (position (λ b. b == 47) text)

-- the cue that a text is the number of
abbrev pub cue_in : List ℕ → Option (List ℕ)
cue_in text = if is_cue_number text then Some text else None

-- what an address asks of a cue; of no cue, if what stands in its place is no cue number
abbrev pub verb_at : List ℕ → Option (CueVerb × Option (List ℕ))
verb_at address =
    parts_after (codes "/cue/") address >>= λ parts. find (λ v. same_text parts.1 (cue_verb_text v)) cue_verbs
    >>= λ v. Some (v, cue_in parts.0)

-- what a device says at an address, or what is asked of it
abbrev pub word_at : List ℕ → Option (DeviceVerb × ℕ)
word_at address =
    parts_after (codes "/device/") address >>= λ parts. find (λ w. same_text parts.1 (device_verb_text w)) device_verbs
    >>= λ w. device_named parts.0 >>= λ d. Some (w, d)

-- the device that an address names
abbrev pub device_at : List ℕ → Option ℕ
device_at address = option_map (λ w. w.1) (word_at address)

-- what a reply says that a device has answered, or that is asked of it, if it made something
abbrev pub answer_in : Line → Option (DeviceVerb × ℕ)
answer_in (line.Replied reply count) = if reply.made == 0 then None else word_at reply.address
answer_in _ = None

-- an address gives its asker a name: it is `/as/` and a name
abbrev pub names_asker : Option (List ℕ) → Bool
names_asker None = false
names_asker (Some name) = is_name name

abbrev pub gives_name : List ℕ → Bool
gives_name address = names_asker (after (codes "/as/") address)

-- ---- who asked from a port

-- the name that a port has at a second: the last one that was sent from it, for ten seconds
abbrev pub name_within : Option (ℕ × AskerName) → ℕ → Option AskerName
name_within None at = None
name_within (Some named) at = if nat_le (at - named.0) 10 then Some named.1 else None

-- who asks: the device that the address names and whose port it is, else the name of the port, else the device that
-- listens there, else nothing but the port is known
abbrev pub asker_at : Option ℕ → Option AskerName → Option ℕ → ℕ → Who
asker_at (Some device) name listens port = who.Device device
asker_at None (Some name) listens port = who.Named name
asker_at None None (Some device) port = who.Device device
asker_at None None None port = who.Port port

-- the device, if the port that is known of it is this one
abbrev pub device_if : ℕ → ℕ → Option ℕ → Option ℕ
device_if device port None = None
device_if device port (Some there) = if there == port then Some device else None

-- the device that an address names, if it has this port
abbrev pub with_port : List ℕ → Option ℕ → ℕ → Option ℕ
with_port ports None port = None
with_port ports (Some device) port = device_if device port (slice_get ports device)

-- a command was of this cue, or of several
abbrev pub is_of : Option (List ℕ) → Option (List ℕ) → Bool
is_of None cue = true
is_of (Some made) None = false
is_of (Some made) (Some cue) = same_text made cue

-- the verb that an order was asked for by; CANCEL is sent by the controller itself
abbrev pub verb_of : OrderKind → Option CueVerb
verb_of order.Standby = Some verb.Standby
verb_of order.Go = Some verb.Go
verb_of order.Cancel = None

-- the same, with the cue
abbrev pub verb_with : Option CueVerb → Option (List ℕ) → Option (CueVerb × Option (List ℕ))
verb_with None cue = None
verb_with (Some v) cue = Some (v, cue)

-- what was asked for, of which cue, that a line says the controller has begun: an order, or that an attempt is given up
abbrev pub asked_for : Line → Option (CueVerb × Option (List ℕ))
asked_for (line.Ready dir port) = None
asked_for line.Stopped = None
asked_for (line.Own said) = None
asked_for (line.Recovered text) = None
asked_for (line.HeldUp span) = None
asked_for (line.Replied asked count) = None
asked_for (line.Kinds count) = None
asked_for (line.Ordered o) = verb_with (verb_of o.kind) o.attempt.cue
asked_for (line.Alone t device) = None
asked_for (line.GivenUp t why) = Some (verb.Cancel, t.cue)
asked_for (line.Ended e) = None

-- ---- who asked for what was made

-- it stands at the end of a list
abbrev pub IsLast : {A : Type 0} → A → List A → Type 0
IsLast {A} x xs = (before : List A) × (xs ≡ before ++ x ∷ [])

-- a command is the one that is meant: it was made at this second, of this cue or of several
abbrev pub is_meant : CueVerb → Option (List ℕ) → ℕ → Made → Bool
is_meant v cue at made =
    same_text (cue_verb_text made.verb) (cue_verb_text v) && (nat_eq made.at at && is_of made.cue cue)

-- who asked for this of a cue at a second: the last one of these who did, else the one before
abbrev pub asker_in : CueVerb → Option (List ℕ) → ℕ → Who → List Made → Who
asker_in v cue at by [] = by
asker_in v cue at by (m ∷ ms) = asker_in v cue at (if is_meant v cue at m then m.by else by) ms

-- who asked for what a line says; nobody who is seen, if it is not known
abbrev pub asker_if : List Made → ℕ → Option (CueVerb × Option (List ℕ)) → Who
asker_if made at None = who.Unseen
asker_if made at (Some asked) = asker_in asked.0 asked.1 at who.Unseen made

abbrev pub asker_of : List Made → ℕ → Line → Who
asker_of made at l = asker_if made at (asked_for l)
